use Rattle.std.proofs.Common.{◌∙◌}
use Rattle.mc_serial_spec.proofs.KeptMoverClear.{contains_counted}
use Rattle.mc_keeper.proofs.KeeperMachine.{machine_of}
use Rattle.mc_keeper.proofs.ReclaimsEach.{first_from}
use Rattle.mc_keeper.proofs.keeper.Keeper.reclaim_each.Goals as goal

pub reclaim-requires-clause-dead : goal.reclaim-requires-clause-dead
reclaim-requires-clause-dead c =
    (first_from (machine_of c.self.inside) _ c.args.class c.loop-place.place c.args.chunks.now (record { page = 0; index = 0 })
    c.self.invariant.kept c.self.view_is c.loop-place.invariant.class c.loop-place.invariant.rest c.loop-place-test.true).dead

pub reclaim-requires-clause-class : goal.reclaim-requires-clause-class
reclaim-requires-clause-class c =
    let here = first_from (machine_of c.self.inside) _ c.args.class c.loop-place.place c.args.chunks.now (record { page = 0; index = 0 })
    c.self.invariant.kept c.self.view_is c.loop-place.invariant.class c.loop-place.invariant.rest c.loop-place-test.true in
    rw here.own c.loop-place.invariant.class

pub reclaim-requires-clause-listed : goal.reclaim-requires-clause-listed
reclaim-requires-clause-listed c =
    let here = first_from (machine_of c.self.inside) _ c.args.class c.loop-place.place c.args.chunks.now (record { page = 0; index = 0 })
    c.self.invariant.kept c.self.view_is c.loop-place.invariant.class c.loop-place.invariant.rest c.loop-place-test.true in
    rw here.own (contains_counted _ _ here.some)

pub loop-place-preserved : goal.loop-place-preserved
loop-place-preserved c =
    let here = first_from (machine_of c.self.inside) _ c.args.class c.loop-place.place c.args.chunks.now (record { page = 0; index = 0 })
    c.self.invariant.kept c.self.view_is c.loop-place.invariant.class c.loop-place.invariant.rest c.loop-place-test.true in
    rw c.reclaim.ensures.reclaimed (record { class = here.valid; rest = here.rest; same = here.same ∙ c.loop-place.invariant.same })
