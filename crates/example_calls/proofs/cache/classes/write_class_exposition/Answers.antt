use Rattle.std.proofs.Common.{refl}
use Rattle.mc_watch.proofs.Writes.{appends_then}
use Rattle.example_calls.proofs.cache.classes.write_class_exposition.Goals as goal

pub returns-clause-bytes : goal.returns-clause-bytes
returns-clause-bytes g c = appends_then _ _ _ _ _ _ _ c.in_ok-write_class_metrics.ensures.bytes c.write_all.ensures.bytes refl
