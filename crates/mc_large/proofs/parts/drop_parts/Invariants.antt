use Rattle.std.proofs.Common.{take}
use Rattle.mc_cache.specs.Belonging.{BelongsTo}
use Rattle.mc_large.specs.Parts.{DropsParts}
use Rattle.mc_large.proofs.parts.drop_parts.Given as goal

abbrev pub invariant-loop-number : goal.invariant-loop-number
invariant-loop-number g l = BelongsTo l.cache l.worker × DropsParts l.cache l.key 0 (take l.number l.versions) l.fn.worker l.worker
