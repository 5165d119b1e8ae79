use Rattle.std.proofs.Common.{◌≡◌, ap, sym, ◌∙◌, arith, length}
use Rattle.std.specs.List.{range_with_len}
use Rattle.mc_serial_spec.specs.Machine.{Machine}
use Rattle.mc_serial_spec.proofs.Stocks.{classes-sweeps, sweeps_more}
use Rattle.mc_keeper.proofs.keeper.Keeper.sweep.Goals as goal

pub sweep_class-requires : goal.sweep_class-requires
sweep_class-requires c =
    let classes : length c.args.self.now.slabs.classes ≡ length c.self.inside.table.sizes
    = sym (ap (λ (m : Machine). length m.slabs.classes) c.self.view_is) ∙ c.self.invariant.kept.classes in
    rw c.loop-place.invariant (
      omega arith,
      omega (arith, classes-sweeps c.args.self.now (range_with_len 1 c.loop-place.place), classes, c.count-place-end.ensures.count, c.loop-place-test.true),
    )

pub loop-place-preserved : goal.loop-place-preserved
loop-place-preserved c = c.sweep_class.ensures.swept ∙ sweeps_more c.args.self.now c.loop-place.self c.loop-place.place c.loop-place.invariant
