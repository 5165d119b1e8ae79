use Rattle.std.proofs.Common.{take}
use Rattle.mc_cache.specs.Belonging.{BelongsTo}
use Rattle.mc_large.proofs.Gets.{AreGot}
use Rattle.mc_large.proofs.parts.add_parts.Given as goal

abbrev pub invariant-loop-number : goal.invariant-loop-number
invariant-loop-number g l = BelongsTo l.cache l.worker × AreGot l.cache l.key (take l.number l.versions) l.fn.into.items l.into.items l.fn.worker l.worker
