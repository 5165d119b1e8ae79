use Rattle.std.proofs.Common.{◌≡◌, ℕ, ◌++◌, Bool, List, [], Contains, Option, Some, None, Result, Ok, Err, refl, ap, sym, ◌∙◌, subst, arith}
use Rattle.std.specs.Prelude.{OnOk, if◌then◌else◌}
use Rattle.std.specs.Option.{is_some}
use Rattle.std.proofs.lemmas.List.Elements.{Contains-push}
use Rattle.std.proofs.lemmas.Result.{err_from_is_err_and}
use Rattle.mc_classes.specs.Classes.{class_of}
use Rattle.mc_pages.specs.declared.ids.ChunkId.{ChunkId}
use Rattle.mc_serial_spec.specs.Item.{item_bytes, counting_words}
use Rattle.mc_serial_spec.specs.Lines.{set_outcome_of, set_outcome}
use Rattle.mc_serial_spec.specs.Machine.{Machine}
use Rattle.mc_serial_spec.specs.Supply.{asks_for_page, machine_after_supply, supply}
use Rattle.mc_serial_spec.specs.Texts.{key_line}
use Rattle.mc_serial_parts.proofs.NewWordsCount.{length-words_from}
use Rattle.mc_keeper.specs.declared.keeper.store.Stored.TheVariants.{Yes, NoRoom}
use Rattle.mc_keeper.specs.Calls.{stored_answer}
use Rattle.mc_keeper.specs.Replies.{stored_name}
use Rattle.mc_keeper.specs.Stages.{set_stages, store_stages}
use Rattle.mc_keeper.proofs.StageSteps.{first_stage, on_err}
use Rattle.mc_keeper.proofs.keeper.Keeper.serve_set.Goals as goal

-- the reply to a set is the word for its answer
stored_reply : (m : Machine) (class key : ℕ) (words : List ℕ) (asks : Bool) (found : Option ChunkId)
    → (set_outcome m class key words asks found).reply ≡ key_line (stored_name (if is_some found then Yes else NoRoom)) key
stored_reply m class key words asks None = refl
stored_reply m class key words asks (Some chunk) = refl

set_reply : (m : Machine) (class : Option ℕ) (key : ℕ) (words : List ℕ) → (set_outcome_of m class key words).reply ≡ key_line (stored_name (stored_answer m class)) key
set_reply m None key words = refl
set_reply m (Some class) key words = stored_reply (machine_after_supply m class) class key words (asks_for_page m class) (supply m class)

-- all is done but the reply
set_done : (m : Machine) (class : Option ℕ) (key : ℕ) (words : List ℕ) → Contains (set_stages m class key words) (set_outcome_of m class key words).machine
set_done m None key words = first_stage m m [] refl
set_done m (Some class) key words = Contains-push (store_stages m class key words) (set_outcome_of m (Some class) key words).machine

-- what holds whatever the result
on_ok : {A E : Type 0} (P : Type 0) (result : Result A E) → P → OnOk result P
on_ok P (Ok value) holds = holds
on_ok P (Err error) holds = tt

pub set_words-requires : goal.set_words-requires
set_words-requires c = rw (length-words_from c.args.base c.args.words) (omega arith)

pub returns-in_err-stored-clause-refused : goal.returns-in_err-stored-clause-refused
returns-in_err-stored-clause-refused c =
    let p = err_from_is_err_and c.from_residual.result c.from_residual.ensures.1 in
    rw p.1 (rw (length-words_from c.args.base c.args.words) at c.in_err-stored.ensures.refused)

pub returns-clause-reply : goal.returns-clause-reply
returns-clause-reply c =
    let m = c.args.self.now in
    let words : List ℕ = counting_words c.args.base c.args.words in
    let class : Option ℕ = class_of m.table (item_bytes c.args.words) in
    let answer : c.in_ok-stored.stored ≡ stored_answer m class = rw (length-words_from c.args.base c.args.words) at c.in_ok-stored.ensures.answer in
    let same : key_line c.name_of_stored.result.now c.args.key ≡ (set_outcome_of m class c.args.key words).reply
    = ap (λ (name : List ℕ). key_line name c.args.key) (c.name_of_stored.ensures.name ∙ ap stored_name answer) ∙ sym (set_reply m class c.args.key words) in
    subst (λ (reply : List ℕ). OnOk c.push_key_line.result (c.push_key_line.new.text.items ≡ c.args.text.now.items ++ reply)) same c.push_key_line.ensures.line

pub returns-clause-after : goal.returns-clause-after
returns-clause-after c = on_ok _ c.push_key_line.result (rw (length-words_from c.args.base c.args.words) at c.in_ok-stored.ensures.after)

pub returns-clause-refused : goal.returns-clause-refused
returns-clause-refused c =
    let m = c.args.self.now in
    let words : List ℕ = counting_words c.args.base c.args.words in
    let class : Option ℕ = class_of m.table (item_bytes c.args.words) in
    let after : c.set_words.new.self ≡ (set_outcome_of m class c.args.key words).machine = rw (length-words_from c.args.base c.args.words) at c.in_ok-stored.ensures.after in
    on_err _ c.push_key_line.result (subst (Contains (set_stages m class c.args.key words)) (sym after) (set_done m class c.args.key words))
