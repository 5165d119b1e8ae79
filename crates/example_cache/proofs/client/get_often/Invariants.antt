use Rattle.mc_cache.specs.Belonging.{BelongsTo}
use Rattle.example_cache.proofs.client.get_often.Given as goal

abbrev pub invariant-loop : goal.invariant-loop
invariant-loop g l = BelongsTo l.cache l.client.worker
