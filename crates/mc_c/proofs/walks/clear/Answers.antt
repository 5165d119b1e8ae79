use Rattle.std.proofs.Common.{refl, subst}
use Rattle.mc_cache.specs.declared.cache.Cache.{Cache}
use Rattle.mc_cache.specs.Walking.{StopsClearingWithin}
use Rattle.mc_c.proofs.Stopped.{stopped_as}
use Rattle.mc_c.proofs.walks.clear.Goals as goal

pub returns-in-Err : goal.returns-in-Err
returns-in-Err c =
    stopped_as c.in-Err.error c.stop.result c.args.tries c.args.count.now c.stop.new.count c.args.client.now _
    (subst (λ (cache : Cache). StopsClearingWithin cache c.args.tries c.in-Err.error c.args.client.now.worker c.clear_within.new.self) c.deref.ensures c.in-Err.ensures.stops) c.stop.ensures refl refl
