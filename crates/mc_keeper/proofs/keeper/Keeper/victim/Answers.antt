use Rattle.std.proofs.Common.{◌≡◌, ℕ, Some, sym, ap, ◌∙◌, arith, take}
use Rattle.std.specs.Prelude.{slice_get, find}
use Rattle.mc_pages.specs.SlabState.{class_at}
use Rattle.mc_serial_spec.specs.Machine.{Machine, has_unheld_linked_item}
use Rattle.mc_pages.specs.Eviction.{eviction_tries}
use Rattle.mc_pages.proofs.FirstFound.{find_here}
use Rattle.mc_keeper.proofs.keeper.Keeper.victim.Goals as goal

pub returns-then-is_linked_unheld : goal.returns-then-is_linked_unheld
returns-then-is_linked_unheld c =
    let m : Machine = c.args.self.now in
    let at : slice_get (class_at m.slabs c.args.class).order c.loop-place.place ≡ Some c.in_ok-chunk.chunk
    = rw (← c.self.view_is) (sym c.in_ok-chunk.ensures.chunk) in
    record {
      victim = sym (find_here (has_unheld_linked_item m) (class_at m.slabs c.args.class).order c.loop-place.place eviction_tries c.in_ok-chunk.chunk at c.loop-place.invariant
          (sym c.is_linked_unheld.ensures.unheld ∙ c.if-is_linked_unheld.true) c.loop-place-test.true);
    }

pub returns : goal.returns
returns c =
    let m : Machine = c.args.self.now in
    let all : eviction_tries ≡ c.loop-place.place = omega (arith, c.loop-place-test.false, c.loop-place.auto.place-end) in
    record {
      victim = sym (ap (λ (n : ℕ). find (has_unheld_linked_item m) (take n (class_at m.slabs c.args.class).order)) all ∙ c.loop-place.invariant);
    }
