use Rattle.std.proofs.Common.{arith, sym, ap, ◌∙◌, subst}
use Rattle.mc_pages.specs.declared.ids.Moving.{Moving}
use Rattle.mc_pages.specs.ClassState.{counter_after}
use Rattle.mc_pages.specs.SlabState.{SlabState}
use Rattle.mc_pages.specs.Moves.{is_held_up, after_passed, CanPass}
use Rattle.mc_pages.specs.InOrder.{IsStoredInOrder, slabs_of}
use Rattle.mc_pages.proofs.KeptMoves.{IsInOrder-after_passed}
use Rattle.mc_pages.proofs.RoomyMoves.{held_up_le, position_below, passed_is, AreKept-passed}
use Rattle.mc_pages.proofs.Roomy.{same_state}
use Rattle.mc_pages.proofs.slabs.Slabs.passed.Goals as goal
use Rattle.mc_pages.proofs.slabs.Slabs.passed.Goals.{After-self, in-Some, in_default}

-- the move goes on in what was opened
can_pass : (c : After-self) → (move : Moving) × CanPass (slabs_of c.self.inside) c.args.found move
can_pass c = subst (λ (s : SlabState). (move : Moving) × CanPass s c.args.found move) (sym (same_state c.self.view_is)) c.requires

pub overflow_add-moving : goal.overflow_add-moving
overflow_add-moving c =
    let can = can_pass (goal.at.overflow_add-moving c).After-self in
    omega (arith, (position_below c.self.inside c.args.found can.0 c.in-Some.moving c.self.invariant can.1 c.in-Some.is).0)

pub overflow_add-moving-in-Some : goal.overflow_add-moving-in-Some
overflow_add-moving-in-Some c =
    let can = can_pass (goal.at.overflow_add-moving-in-Some c).After-self in
    omega (arith, (position_below c.self.inside c.args.found can.0 c.in-Some.moving c.self.invariant can.1 c.in-Some.is).1, c.held_up.ensures, held_up_le (is_held_up c.args.found))

pub invariant_of-self : goal.invariant_of-self
invariant_of-self c =
    let can = can_pass (goal.at.invariant_of-self c).After-self in
    let rescues = c.saturating_add-self-inside.ensures ∙ ap (counter_after c.self.inside.rescues) c.rescued.ensures in
    let nomem = c.saturating_add-self-inside-2.ensures ∙ ap (counter_after c.self.inside.evictions_nomem) c.evicted.ensures in
    elim c.match-self.branch [
      | in-Some w ↦
          subst IsStoredInOrder (sym w.self-inside-is)
          (AreKept-passed c.self.inside c.args.found w.in-Some.moving w.held_up.result _ _ w.in-Some.is w.held_up.ensures rescues nomem c.self.invariant
          (IsInOrder-after_passed (slabs_of c.self.inside) c.self.inside.granted c.args.found can.0 c.self.invariant.order can.1))
      | in_default w ↦ absurd (w.in_default.not-Some can.0 can.1.runs)
    ]

pub returns-clause-passed : goal.returns-clause-passed
returns-clause-passed c =
    let can = can_pass (goal.at.returns-clause-passed c).After-self in
    let rescues = c.saturating_add-self-inside.ensures ∙ ap (counter_after c.self.inside.rescues) c.rescued.ensures in
    let nomem = c.saturating_add-self-inside-2.ensures ∙ ap (counter_after c.self.inside.evictions_nomem) c.evicted.ensures in
    let seen = λ (s : SlabState). after_passed s c.args.found in
    elim c.match-self.branch [
      | in-Some w ↦
          ap slabs_of w.self-inside-is ∙ (passed_is c.self.inside c.args.found w.in-Some.moving w.held_up.result _ _ w.in-Some.is w.held_up.ensures rescues nomem
          ∙ ap seen (same_state c.self.view_is))
      | in_default w ↦ absurd (w.in_default.not-Some can.0 can.1.runs)
    ]

pub returns-clause-accounted : goal.returns-clause-accounted
returns-clause-accounted c = (invariant_of-self c).order.accounted
