use Rattle.std.proofs.Common.{ℕ, List, [], ◌∷◌, Result, Ok, Err, IfOk, OnErr, subst, sym}
use Rattle.std.specs.Prelude.{Contains}
use Rattle.std.proofs.lemmas.List.Elements.{Contains-append_left, Contains-append_right}
use Rattle.mc_core.specs.past.Past.{StoredItem}
use Rattle.mc_words.specs.hand.Arenas.{view}
use Rattle.mc_words.specs.hand.View.{View}
use Rattle.mc_words.specs.item.Items.{item_with}
use Rattle.mc_items.specs.Keeping.{StoresWithStamp, StoresNothing}
use Rattle.example_calls.proofs.trimmed.join_behind_a_trim.Goals as goal

-- what a hand had said before a set it has said behind it
said_still : {E : Type 0} (words : ℕ → List ℕ) (result : Result ℕ E) (before now : View) (saying : StoredItem) → IfOk result (λ stamp. StoresWithStamp (words stamp) stamp before now)
    → OnErr result (StoresNothing before now) → Contains before.row.knows.stored saying → Contains now.row.knows.stored saying
said_still words (Ok stamp) before now saying says nothing there =
    subst (λ (said : List StoredItem). Contains said saying) (sym says) (Contains-append_left before.row.knows.stored (record { stamp = stamp; words = words stamp } ∷ []) saying there)
said_still words (Err error) before now saying says nothing there = subst (λ (said : List StoredItem). Contains said saying) (sym nothing) there

pub returns-clause-first : goal.returns-clause-first
returns-clause-first g c saying there =
    let words = λ (stamp : ℕ). item_with c.args.key stamp c.args.words.now in
    let set = said_still words c.set.result (view c.args.hand) (view c.set.new.hand) saying c.set.ensures.stores_words c.set.ensures.stores_nothing there in
    let first = subst (λ (said : List StoredItem). Contains said saying) (sym c.trim.ensures.stores_nothing) set in
    subst (λ (v : View). Contains v.row.knows.stored saying) (sym c.join_hands.ensures.view)
    (Contains-append_left (view c.trim.new.hand).row.knows.stored (view c.set-2.new.hand).row.knows.stored saying first)

pub returns-clause-second : goal.returns-clause-second
returns-clause-second g c saying there =
    let words = λ (stamp : ℕ). item_with c.args.key stamp c.args.words.now in
    let second = said_still words c.set-2.result (view c.args.other) (view c.set-2.new.hand) saying c.set-2.ensures.stores_words c.set-2.ensures.stores_nothing there in
    subst (λ (v : View). Contains v.row.knows.stored saying) (sym c.join_hands.ensures.view)
    (Contains-append_right (view c.trim.new.hand).row.knows.stored (view c.set-2.new.hand).row.knows.stored saying second)
