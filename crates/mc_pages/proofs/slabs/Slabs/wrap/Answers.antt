use Rattle.std.proofs.Common.{sym, subst}
use Rattle.mc_pages.specs.declared.ids.Moving.{Moving}
use Rattle.mc_pages.specs.SlabState.{SlabState}
use Rattle.mc_pages.specs.Moves.{CanWrap}
use Rattle.mc_pages.specs.InOrder.{slabs_of}
use Rattle.mc_pages.proofs.KeptMoves.{IsInOrder-after_wrap}
use Rattle.mc_pages.proofs.RoomyMoves.{AreKept-wrapped}
use Rattle.mc_pages.proofs.Roomy.{same_state}
use Rattle.mc_pages.proofs.slabs.Slabs.wrap.Goals as goal

pub invariant_of-self : goal.invariant_of-self
invariant_of-self c =
    let can = subst (λ (s : SlabState). (move : Moving) × CanWrap s move) (sym (same_state c.self.view_is)) c.requires in
    AreKept-wrapped c.self.inside c.in-Some.moving _ c.in-Some.is c.saturating_add-self-inside.ensures c.self.invariant
    (IsInOrder-after_wrap (slabs_of c.self.inside) c.self.inside.granted can.0 c.self.invariant.order can.1)

pub returns-in-Some-clause-accounted : goal.returns-in-Some-clause-accounted
returns-in-Some-clause-accounted c = (invariant_of-self c).order.accounted
