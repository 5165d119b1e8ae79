use Rattle.std.proofs.Common.{ℕ}
use Rattle.mc_cache.specs.Belonging.{BelongsTo}
use Rattle.mc_large.specs.Parts.{MissesPieceTimes}
use Rattle.mc_large.proofs.parts.store_part.Given as goal

abbrev pub invariant-loop : goal.invariant-loop
invariant-loop g l = BelongsTo l.cache l.worker × ((times : ℕ) × MissesPieceTimes times l.cache l.part l.piece l.fn.worker l.worker)
