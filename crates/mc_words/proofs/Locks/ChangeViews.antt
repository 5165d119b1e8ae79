-- What a hand's view is after a silent change of pages and lists.
use Rattle.std.proofs.Common.{◌≡◌, ℕ, ◌+◌, List, [], ◌∷◌, ◌++◌, Some, None, refl, sym, ap, ◌∙◌, get_or-set_same, is_some, if◌then◌else◌}
use Rattle.std.proofs.lemmas.Bool.{and_parts}
use Rattle.mc_pages.specs.SlabState.{SlabState}
use Rattle.mc_core.specs.declared.look.Look.{Look}
use Rattle.mc_core.specs.declared.look.Look.TheVariants.{Changed}
use Rattle.mc_core.specs.declared.event.Change.{Change}
use Rattle.mc_core.specs.declared.event.Step.TheVariants as core
use Rattle.mc_core.specs.model.State.{State, has_slabs, is_held_by, number_at, looks_at, with_look, with_slabs}
use Rattle.mc_core.specs.run.Silent.{after_change, slabs_after}
use Rattle.mc_core.specs.past.Past.{Moment, Own, slabs_word, knowledge_at, moment_changed, moment_stepped}
use Rattle.mc_core.specs.model.Views.{held_slabs}
use Rattle.mc_core.specs.law.Laws.{MayChange, MayStep}
use Rattle.mc_core.proofs.Law.LawKept.{lawful_changes}
use Rattle.mc_core.proofs.Known.Learns.{are_learned}
use Rattle.mc_core.proofs.Seen.SeenHolder.{held_is}
use Rattle.mc_words.specs.hand.View.{View}
use Rattle.mc_words.specs.rule.Happens.{Happens}
use Rattle.mc_words.specs.hand.Views.{slabs_changed}
use Rattle.mc_words.proofs.Hands.Knows.{knows_after, said_none, mine_same}
use Rattle.mc_words.proofs.Locks.LockViews.{rows, view_from, holdings_were, looks_were, knew, stripes_were}
use Rattle.mc_words.proofs.Pages.Owners.{slabs_here}

-- the change is of pages and lists
abbrev pub IsOfSlabs : Change → Type 0
IsOfSlabs change = (s : State) (hand : ℕ) → after_change s hand change ≡ with_look (with_slabs s (slabs_after s.slabs change)) hand (Changed change)

some_same : (a b : ℕ) → Some a ≡ Some b → a ≡ b
some_same a b e = cc

pub changed_slabs : (view now : View) (slabs : SlabState) (change : Change) (number : ℕ) → IsOfSlabs change → view.slabs ≡ Some slabs → view.row.ids.number ≡ Some number → Happens view (change ∷ []) core.MissSlabs now → now ≡ slabs_changed slabs change (number + 1) view
changed_slabs view now slabs change number of mine numbered h =
    let m : Moment = h.was.moment in
    let id : ℕ = h.was.hand in
    let held = slabs_here view h.was slabs mine in
    let parts = and_parts _ _ (and_parts _ _ h.allowed).1 in
    let may : MayChange m id change = record { lawful = h.was.lawful; there = h.was.there; allowed = (and_parts _ _ parts.0).0 } in
    let changed : Moment = moment_changed m id change in
    let plain : State = with_look (with_slabs m.state (slabs_after m.state.slabs change)) id (Changed change) in
    let is : changed.state ≡ plain = of m.state id in
    let after : Moment = moment_stepped changed id core.MissSlabs in
    let then_may : MayStep changed id core.MissSlabs = record { lawful = lawful_changes m id change may; there = ap (λ (s : State). is_some (number_at s id)) is ∙ h.was.there; allowed = refl } in
    let lock : changed.state.slabs_lock ≡ number + 1 =
    ap (λ (s : State). s.slabs_lock) is ∙ (let (n, is_n, word) = held_is m.state.slabs_lock (number_at m.state id) held.0 in word ∙ ap (λ (k : ℕ). k + 1) (some_same n number (sym is_n ∙ (ap (λ (v : View). v.row.ids.number) (sym h.was.is) ∙ numbered)))) in
    let first : knowledge_at changed.past id ≡ view.row.knows =
    are_learned.changes m id change may
    ∙ (ap (λ (mine : List Own). record (knowledge_at m.past id) { mine = mine }) (mine_same m.state changed.state (ap (λ (s : State). s.stripes) is) id (knowledge_at m.past id).mine) ∙ knew view now h.was) in
    let knows : knowledge_at after.past id ≡ record view.row.knows { seen_words = view.row.knows.seen_words ++ slabs_word (number + 1) ∷ [] } =
    knows_after changed id core.MissSlabs refl then_may refl
    ∙ (said_none ((knowledge_at changed.past id).seen_words ++ slabs_word changed.state.slabs_lock ∷ []) (knowledge_at changed.past id) (knowledge_at changed.past id).hold (knowledge_at changed.past id).seen
    ∙ (λ k. let knows = first k in record knows { seen_words = knows.seen_words ++ slabs_word (lock k) ∷ [] })) in
    h.is
    ∙ view_from view h.was _ after (ap (λ (s : State). Rattle.mc_core.specs.model.State.ids_at s id) is) view.row.holdings (ap (λ (s : State). Rattle.mc_core.specs.model.State.holdings_at s id) is ∙ holdings_were view now h.was)
    (view.row.looks ++ Changed change ∷ [])
    (ap (λ (s : State). looks_at s id) is ∙ (get_or-set_same m.state.looks id (looks_at m.state id ++ Changed change ∷ []) [] (rows view now h.was) ∙ ap (λ (looks : List Look). looks ++ Changed change ∷ []) (looks_were view now h.was)))
    (record view.row.knows { seen_words = view.row.knows.seen_words ++ slabs_word (number + 1) ∷ [] }) knows
    (Some (slabs_after slabs change)) (ap (λ (s : State). held_slabs s id) is ∙ (λ k. if held.0 k then Some (slabs_after (held.1 k) change) else None))
    view.stripes (ap (λ (s : State). Rattle.mc_words.specs.hand.View.held_stripes view.setup s id) is ∙ stripes_were view now h.was)
