use Rattle.std.proofs.Common.{◌≡◌, None, subst, sym}
use Rattle.mc_cache.specs.declared.opening.CacheConfig.{CacheConfig}
use Rattle.mc_cache.specs.Opening.{cache_refusal}
use Rattle.mc_cache.proofs.Sized.{least_passes}
use Rattle.mc_cache.proofs.sizing.least_size.Goals as goal

pub returns-clause-accepted : goal.returns-clause-accepted
returns-clause-accepted c = subst (λ (config : CacheConfig). cache_refusal config ≡ None) (sym c.sized.ensures.config) (least_passes c.args.usual_item c.args.workers c.requires.some c.requires.workers)
