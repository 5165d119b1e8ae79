use Rattle.std.proofs.Common.{refl}
use Rattle.std.proofs.KnownBytes.{Appends-trans}
use Rattle.mc_watch.proofs.Writes.{appends_then}
use Rattle.example_calls.proofs.cache.classes.write_class_texts.Goals as goal

pub returns-clause-bytes : goal.returns-clause-bytes
returns-clause-bytes g c = appends_then _ _ _ _ _ _ _ (Appends-trans _ _ _ _ _ c.in_ok-write_usage.ensures.bytes c.in_ok-write_items.ensures.bytes) c.write_slabs.ensures.bytes refl
