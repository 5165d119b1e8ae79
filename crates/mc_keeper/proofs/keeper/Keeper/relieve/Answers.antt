use Rattle.std.proofs.Common.{sym}
use Rattle.mc_pages.specs.SlabState.{class_at}
use Rattle.mc_serial_spec.specs.Machine.{has_unheld_linked_item}
use Rattle.mc_pages.specs.Eviction.{eviction_tries}
use Rattle.mc_pages.proofs.FirstFound.{found_holds}
use Rattle.mc_keeper.proofs.keeper.Keeper.relieve.Goals as goal

pub evict-requires-clause-unheld : goal.evict-requires-clause-unheld
evict-requires-clause-unheld c =
    (found_holds (has_unheld_linked_item c.args.self.now) (class_at c.args.self.now.slabs c.args.class).order eviction_tries c.in-Some.chunk (sym c.in-Some.ensures.victim)).0

pub evict-requires-clause-listed : goal.evict-requires-clause-listed
evict-requires-clause-listed c =
    (found_holds (has_unheld_linked_item c.args.self.now) (class_at c.args.self.now.slabs c.args.class).order eviction_tries c.in-Some.chunk (sym c.in-Some.ensures.victim)).1
