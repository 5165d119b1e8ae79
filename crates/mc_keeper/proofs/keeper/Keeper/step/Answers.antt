use Rattle.std.proofs.Common.{◌≡◌, ◌<◌, ap, sym, arith, refl, Some}
use Rattle.std.proofs.lemmas.Bool.Decides.{nat_tests}
use Rattle.mc_pages.specs.SlabState.{class_at}
use Rattle.mc_pages.specs.Moves.{CanPass, after_passed}
use Rattle.mc_serial_spec.specs.Machine.{Machine}
use Rattle.mc_serial_spec.proofs.KeptMoverPass.{kept_moved, can_pass, move_here, position_cut}
use Rattle.mc_keeper.proofs.Watched.{watched-same}
use Rattle.mc_keeper.proofs.Counted.{counted_owned}
use Rattle.mc_keeper.proofs.keeper.Keeper.step.Goals as goal

pub is_at_end-requires : goal.is_at_end-requires
is_at_end-requires c = (move_here _ _ c.in-Some.moving c.self.invariant.kept c.self.view_is (sym c.in-Some.ensures.moving)).src

pub look-requires-clause-class : goal.look-requires-clause-class
look-requires-clause-class c = (move_here _ _ c.in-Some.moving c.self.invariant.kept c.self.view_is (sym c.in-Some.ensures.moving)).src

pub look-requires-clause-cut : goal.look-requires-clause-cut
look-requires-clause-cut c =
    let within : c.in-Some.moving.at < (class_at c.args.self.now.slabs c.in-Some.moving.src).per_page = grind (arith, nat_tests, c.is_at_end.ensures.at_end, c.if-is_at_end.false) in
    position_cut c.args.self.now.slabs c.in-Some.moving
    (move_here _ _ c.in-Some.moving c.self.invariant.kept c.self.view_is (sym c.in-Some.ensures.moving))
    (rw (← c.self.view_is) c.self.invariant.kept.whole) within

pub passed-requires : goal.passed-requires
passed-requires c =
    let within : c.in-Some.moving.at < (class_at c.args.self.now.slabs c.in-Some.moving.src).per_page = grind (arith, nat_tests, c.is_at_end.ensures.at_end, c.if-is_at_end.false) in
    let runs : c.args.self.now.slabs.moving ≡ Some c.in-Some.moving = rw (← c.self.view_is) (sym c.in-Some.ensures.moving) in
    let can : CanPass c.look.new.self.slabs c.in_ok-found.found c.in-Some.moving
    = can_pass c.args.self.now c.look.new.self c.in_ok-found.found c.in-Some.moving c.in_ok-found.ensures.looked runs within c.in_ok-found.ensures.clears in
    (c.in-Some.moving, rw (ap (λ (m : Machine). m.slabs) c.self-2.view_is) can)

pub invariant_of-self : goal.invariant_of-self
invariant_of-self c = record {
  kept = rw c.passed.ensures.passed (kept_moved _ _ _ _ _ _ _ c.self-2.invariant.kept (rw c.passed.ensures.passed at c.passed.ensures.accounted));
  watched = rw c.passed.ensures.passed (watched-same c.self-2.inside.slabs.state (after_passed c.self-2.inside.slabs.state c.in_ok-found.found) _ refl c.self-2.invariant.watched);
  counted = rw c.passed.ensures.passed (counted_owned _ _ _ _ _ _ c.self-2.invariant.counted refl);
  indexed = c.self-2.invariant.indexed;
  bulk = c.self-2.invariant.bulk;
}
