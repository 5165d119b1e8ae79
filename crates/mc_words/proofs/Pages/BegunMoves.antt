-- A move that begins, or is refused, from what the call in the arena says.
use Rattle.std.proofs.Common.{◌≡◌, ◌+◌, ℕ, [], ◌∷◌, Option, Result, Ok, Err, IfOk, OnOk, OnErr, refl, ap}
use Rattle.mc_pages.specs.declared.moves.Reassign.{Reassign}
use Rattle.mc_pages.specs.Answer.{MayAnswer, answer_of}
use Rattle.mc_pages.specs.Moves.{after_begin}
use Rattle.mc_pages.specs.SlabState.{SlabState}
use Rattle.mc_core.specs.declared.event.Change.TheVariants as change
use Rattle.mc_core.specs.declared.event.Step.TheVariants as step
use Rattle.mc_words.specs.hand.View.{View}
use Rattle.mc_words.specs.rule.Happens.{Happens}
use Rattle.mc_words.specs.hand.Views.{slabs_changed}
use Rattle.mc_words.specs.page.Moves.{BeginsMove, Reassigns}

module _ (number : ℕ) (src : Option ℕ) (dst : ℕ) (view now : View) (slabs left : SlabState) where
  -- the move of this answer
  begins : (answer : Result ℕ Reassign) → answer_of slabs src dst ≡ answer → MayAnswer answer (Ok tt) → IfOk answer (λ source. left ≡ after_begin slabs src source dst) → Happens view (change.BeginMove src dst ∷ []) step.MissSlabs now
      → now ≡ slabs_changed slabs (change.BeginMove src dst) (number + 1) view → BeginsMove number src dst view slabs now left
  begins (Ok source) is may began happens changed = record { source = source; answer = is; changes = (happens, changed); left_is = began }
  begins (Err refusal) is may began happens changed = absurd (cc)

  -- what was done, by the call's answer
  pub reassigns_from : (result : Result (Unit {0}) Reassign) → MayAnswer (answer_of slabs src dst) result → OnOk result (IfOk (answer_of slabs src dst) (λ source. left ≡ after_begin slabs src source dst))
      → OnOk result (Happens view (change.BeginMove src dst ∷ []) step.MissSlabs now) → OnOk result (now ≡ slabs_changed slabs (change.BeginMove src dst) (number + 1) view) → OnErr result ((left ≡ slabs) × (now ≡ view)) → Reassigns number src dst result view slabs now left
  reassigns_from (Ok done) may began happens changed same = begins (answer_of slabs src dst) refl may began happens changed
  reassigns_from (Err refusal) may began happens changed same = (may, same.1, same.0)

  -- what the hand holds stays
  pub reassigns_holdings : (result : Result (Unit {0}) Reassign) → Reassigns number src dst result view slabs now left → now.row.holdings ≡ view.row.holdings
  reassigns_holdings (Ok done) begun = ap (λ (v : View). v.row.holdings) begun.changes.1
  reassigns_holdings (Err refusal) refused = ap (λ (v : View). v.row.holdings) refused.1

  -- no page is cut, or begun to be
  pub reassigns_uncut : (result : Result (Unit {0}) Reassign) → Reassigns number src dst result view slabs now left → left.uncut ≡ slabs.uncut
  reassigns_uncut (Ok done) begun = ap (λ (s : SlabState). s.uncut) begun.left_is
  reassigns_uncut (Err refusal) refused = ap (λ (s : SlabState). s.uncut) refused.2
