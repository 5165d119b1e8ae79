use Rattle.std.proofs.Common.{arith}
use Rattle.mc_cache.proofs.Accepts.{few_places}
use Rattle.mc_cache.proofs.bytes.hint_place_count.Goals as goal

pub overflow_mul-result : goal.overflow_mul-result
overflow_mul-result c = omega (arith, few_places c.args.config.now c.requires.accepted)

pub returns-clause-within_limit : goal.returns-clause-within_limit
returns-clause-within_limit c = omega (arith, few_places c.args.config.now c.requires.accepted)
