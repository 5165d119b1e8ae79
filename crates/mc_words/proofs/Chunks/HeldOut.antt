-- A chunk that a hand holds is handed out, so that it may be touched.
use Rattle.std.proofs.Common.{◌≡◌, ◌||◌, true, List, [], ◌∷◌, Some, sym, ap, ◌∙◌, inl, inr, arith}
use Rattle.std.proofs.lemmas.Bool.{cases_Bool, or_right}
use Rattle.mc_pages.specs.declared.ids.ChunkId.{ChunkId}
use Rattle.mc_pages.specs.Accounted.{truth}
use Rattle.mc_pages.specs.ClassState.{is_chunk, times_in}
use Rattle.mc_pages.specs.SlabState.{SlabState, class_of_chunk}
use Rattle.mc_pages.proofs.Chunks.{times-cons}
use Rattle.mc_core.specs.declared.holding.Holding.{Holding}
use Rattle.mc_core.specs.model.Holdings.{holding_of}
use Rattle.mc_core.specs.past.Past.{Moment}
use Rattle.mc_core.specs.run.Silent.{is_among, is_handed_out}
use Rattle.mc_core.proofs.Steps.Base.{placed_at}
use Rattle.mc_core.proofs.Seen.SeenQuiet.{held_handed_out, held_near}
use Rattle.mc_words.specs.hand.View.{View}
use Rattle.mc_words.specs.rule.Happens.{LawfulView}
use Rattle.mc_words.proofs.Pages.Owners.{holdings_here, slabs_here}

-- what is counted stands there
among_if : (chunks : List ChunkId) (chunk : ChunkId) → times_in chunk chunks ≡ 1 → is_among chunks chunk ≡ true
among_if [] chunk once = absurd (omega arith)
among_if (c ∷ chunks) chunk once = elim (cases_Bool (is_chunk c chunk)) [
  | inl is ↦ ap (λ b. b || is_among chunks chunk) is
  | inr isnt ↦ or_right (is_chunk c chunk) (is_among chunks chunk) (among_if chunks chunk (let sum = times-cons chunk c chunks in let none = ap truth isnt in omega arith))
]

pub held_is_out : (view : View) → LawfulView view → (slabs : SlabState) → view.slabs ≡ Some slabs → (chunk : ChunkId) (holding : Holding) → holding_of chunk view.row.holdings ≡ Some holding → is_handed_out slabs chunk ≡ true
held_is_out view was slabs mine chunk holding found =
    let m : Moment = was.moment in
    let here = ap (holding_of chunk) (holdings_here view was) ∙ found in
    let in_range = held_near m was.lawful was.hand chunk holding here in
    let out = held_handed_out m was.lawful was.hand chunk holding here in
    ap (λ (x : SlabState). is_handed_out x chunk) (sym (slabs_here view was slabs mine).1)
    ∙ among_if (class_of_chunk m.state.slabs chunk).order chunk (placed_at m was.lawful chunk holding.issue in_range out).1
