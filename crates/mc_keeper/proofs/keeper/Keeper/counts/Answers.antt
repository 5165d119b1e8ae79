use Rattle.std.proofs.Common.{◌≡◌, ◌<◌, ap, sym, ◌∙◌, arith, length}
use Rattle.mc_pages.specs.ClassState.{ClassState}
use Rattle.mc_serial_spec.specs.Machine.{Machine}
use Rattle.mc_pages.proofs.ClassCounts.{counts_more}
use Rattle.mc_keeper.proofs.keeper.Keeper.counts.Goals as goal

pub loop-place-preserved : goal.loop-place-preserved
loop-place-preserved c =
    let slabs = ap (λ (m : Machine). m.slabs) c.self.view_is in
    let classes : length c.args.self.now.slabs.classes ≡ length c.self.inside.table.sizes
    = sym (ap (λ (m : Machine). length m.slabs.classes) c.self.view_is) ∙ c.self.invariant.kept.classes in
    let inside : c.loop-place.place < length c.args.self.now.slabs.classes = omega (arith, classes, c.count-place-end.ensures.count, c.loop-place-test.true) in (
      c.in_ok-push.ensures.items ∙ rw (c.numbers-numbers.ensures.numbers, slabs)
          (counts_more (λ (class : ClassState). class.evictions) c.args.self.now.slabs c.loop-place.place c.loop-place.evictions.items c.loop-place.invariant.0 inside),
      c.in_ok-push-2.ensures.items ∙ rw (c.numbers-numbers.ensures.numbers, slabs)
          (counts_more (λ (class : ClassState). length class.pages) c.args.self.now.slabs c.loop-place.place c.loop-place.pages.items c.loop-place.invariant.1 inside),
      c.in_ok-push-3.ensures.items ∙ rw (c.numbers-numbers.ensures.numbers, slabs)
          (counts_more (λ (class : ClassState). length class.free) c.args.self.now.slabs c.loop-place.place c.loop-place.free.items c.loop-place.invariant.2 inside),
    )
