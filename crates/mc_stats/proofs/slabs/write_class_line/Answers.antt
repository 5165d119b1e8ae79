use Rattle.std.proofs.Common.{refl}
use Rattle.mc_watch.proofs.Writes.{appends_then}
use Rattle.mc_stats.proofs.slabs.write_class_line.Goals as goal

pub returns-clause-bytes : goal.returns-clause-bytes
returns-clause-bytes g c = appends_then _ _ _ _ _ _ _ c.in_ok-write_label.ensures.bytes c.write_number.ensures.bytes refl
