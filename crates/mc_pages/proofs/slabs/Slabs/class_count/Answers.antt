use Rattle.std.proofs.Common.{length, ap, arith}
use Rattle.mc_pages.specs.SlabState.{SlabState}
use Rattle.mc_pages.proofs.States.{length-states}
use Rattle.mc_pages.proofs.Roomy.{same_state}
use Rattle.mc_pages.proofs.slabs.Slabs.class_count.Goals as goal

pub returns-clause-count : goal.returns-clause-count
returns-clause-count c = omega (arith, c.len.ensures, length-states c.self.inside.rows c.self.inside.classes.items, ap (λ (s : SlabState). length s.classes) (same_state c.self.view_is))
