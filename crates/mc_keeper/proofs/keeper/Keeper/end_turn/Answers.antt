use Rattle.std.proofs.Common.{◌≡◌, refl, sym, arith, Some}
use Rattle.std.proofs.lemmas.Bool.Decides.{nat_tests}
use Rattle.mc_pages.specs.SlabState.{class_at}
use Rattle.mc_pages.specs.Accounted.{IsMove, IsAccounted}
use Rattle.mc_pages.proofs.Kept.{all_cleared_at_end}
use Rattle.mc_pages.specs.Moves.{after_wrap}
use Rattle.mc_serial_spec.proofs.KeptMoverPass.{kept_moved, move_here}
use Rattle.mc_keeper.proofs.Counted.{counted_owned}
use Rattle.mc_keeper.proofs.Watched.{watched-same}
use Rattle.mc_keeper.proofs.keeper.Keeper.end_turn.Goals as goal

pub is_at_end-requires : goal.is_at_end-requires
is_at_end-requires c = (move_here _ _ c.in-Some.moving c.self.invariant.kept c.self.view_is (sym c.in-Some.ensures.moving)).src

pub finish-requires : goal.finish-requires
finish-requires c =
    let is : IsMove c.args.self.now.slabs c.in-Some.moving = move_here _ _ c.in-Some.moving c.self.invariant.kept c.self.view_is (sym c.in-Some.ensures.moving) in
    let accounted : IsAccounted c.args.self.now.slabs = rw (← c.self.view_is) c.self.invariant.kept.accounted in
    let runs : c.args.self.now.slabs.moving ≡ Some c.in-Some.moving = rw (← c.self.view_is) (sym c.in-Some.ensures.moving) in
    let at_end : c.in-Some.moving.at ≡ (class_at c.args.self.now.slabs c.in-Some.moving.src).per_page
    = grind (arith, nat_tests, c.is_at_end.ensures.at_end, c.if-not-is_at_end.false, is.within) in
    all_cleared_at_end c.args.self.now.slabs c.in-Some.moving accounted runs at_end (omega (arith, c.if-moving-gt0.false))

pub invariant_of-self : goal.invariant_of-self
invariant_of-self c = record {
  kept = rw c.wrap.ensures.wrapped (kept_moved _ _ _ _ _ _ _ c.self.invariant.kept (rw c.wrap.ensures.wrapped at c.wrap.ensures.accounted));
  watched = rw c.wrap.ensures.wrapped (watched-same c.self.inside.slabs.state (after_wrap c.self.inside.slabs.state) _ refl c.self.invariant.watched);
  counted = rw c.wrap.ensures.wrapped (counted_owned _ _ _ _ _ _ c.self.invariant.counted refl);
  indexed = c.self.invariant.indexed;
  bulk = c.self.invariant.bulk;
}
