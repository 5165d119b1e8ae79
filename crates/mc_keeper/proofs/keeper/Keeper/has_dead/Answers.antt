use Rattle.std.proofs.Common.{length, ap, ◌∙◌}
use Rattle.std.specs.Prelude.{nat_lt}
use Rattle.mc_pages.specs.SlabState.{HasClass}
use Rattle.mc_serial_spec.specs.Machine.{Machine, dead_chunks}
use Rattle.mc_keeper.proofs.KeeperMachine.{machine_of}
use Rattle.mc_keeper.proofs.DeadOrders.{dead_in_order}
use Rattle.mc_keeper.proofs.keeper.Keeper.has_dead.Goals as goal

pub returns : goal.returns
returns c =
    let valid : HasClass c.self.inside.slabs.state c.args.class = rw (ap (λ (m : Machine). m.slabs) c.self.view_is) c.requires in
    record {
      some = ap (nat_lt 0) (c.of.ensures.count ∙ c.self.invariant.counted.dead c.args.class valid.0 valid.1
          ∙ dead_in_order (machine_of c.self.inside) c.args.class c.self.invariant.kept valid
          ∙ ap (λ (m : Machine). length (dead_chunks m c.args.class)) c.self.view_is);
    }
