-- The answers of the keeper's typed calls.
use Rattle.std.specs.Prelude.{◌≡◌, ℕ, Bool, true, false, ◌⊎◌, if◌then◌else◌, List, Option, Some, None, Result, Ok, Err, ⊤}
use Rattle.std.specs.Borrow.{Fml, MutBor, follows_so}
use Rattle.std.specs.Option.{is_some, option_and_then, option_map}
use mathlib.Core.Option.{none}
use Rattle.mc_pages.specs.declared.moves.Reassign.{Reassign}
use Rattle.mc_pages.specs.Answer.{answer_of}
use Rattle.mc_watch.specs.declared.decider.Decision.{Decision}
use Rattle.mc_serial_spec.specs.Holds.{is_full}
use Rattle.mc_serial_spec.specs.Items.{item_in_chunk, linked_chunk}
use Rattle.mc_serial_spec.specs.Lines.{last_hold}
use Rattle.mc_serial_spec.specs.Machine.{Machine}
use Rattle.mc_serial_spec.specs.Supply.{supply}
use Rattle.mc_keeper.specs.declared.keeper.store.Stored.{Stored}
use Rattle.mc_keeper.specs.declared.keeper.store.Stored.TheVariants.{Yes, TooLarge, NoRoom}
use Rattle.mc_keeper.specs.declared.keeper.refs.HoldError.{HoldError}
use Rattle.mc_keeper.specs.declared.keeper.refs.HoldError.TheVariants.{TooManyRefs, NoMemory}
use Rattle.mc_keeper.specs.declared.keeper.automove.Acted.{Acted}
use Rattle.mc_keeper.specs.contracts.keeper.Keeper.{the_row}

-- whether an item is stored where its class is this one, or none as it is too large
abbrev pub stored_answer : Machine → Option ℕ → Stored
stored_answer m None = TooLarge
stored_answer m (Some class) = if is_some (supply m class) then Yes else NoRoom

-- the words of the key's item
abbrev pub item_words_of_key : Machine → ℕ → Option (List ℕ)
item_words_of_key m key = option_map (λ item. item.words) (option_and_then (item_in_chunk m.items) (linked_chunk m.items key))

-- whether the key has an item that the worker holds then, or that the worker can hold no more
abbrev pub hold_answer : Machine → ℕ → ℕ → Result Bool HoldError
hold_answer m worker key = if is_full m.holds worker then Err TooManyRefs else Ok (is_some (linked_chunk m.items key))

-- a hold may also end for lack of memory, but only where there is an item to hold
abbrev pub MayHold : Result Bool HoldError → Result Bool HoldError → Type 0
MayHold (Err refusal) result = result ≡ Err refusal
MayHold (Ok false) result = result ≡ Ok false
MayHold (Ok true) result = (result ≡ Ok true) ⊎ (result ≡ Err (NoMemory tt))

-- the words of the item that the worker's last hold of the key is of
abbrev pub words_of_last_hold : Machine → ℕ → ℕ → Option (List ℕ)
words_of_last_hold m worker key = option_map (λ item. item.words) (option_and_then (item_in_chunk m.items) (last_hold m worker key))

-- the answer without the source: a page begins to move, or why none does
abbrev pub reassign_answer : Result ℕ Reassign → Result (Unit {0}) Reassign
reassign_answer (Err refusal) = Err refusal
reassign_answer (Ok source) = Ok tt

-- what became of the decision, if there was one
abbrev pub acted_answer : Machine → Option Decision → Option Acted
acted_answer m None = None
acted_answer m (Some d) = Some (record { decision = d; answer = reassign_answer (answer_of m.slabs (Some d.src) d.dst) })

-- once what the keeper lent is given back, the keeper is this machine
abbrev pub EndsAs : MutBor Machine → Machine → Fml
EndsAs keeper m = follows_so the_row the_row keeper.ghost_name none (λ _ _. ⊤) (λ n. n ≡ m)
