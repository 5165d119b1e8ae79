use Rattle.std.proofs.Common.{refl, subst}
use Rattle.mc_cache.specs.declared.cache.Cache.{Cache}
use Rattle.mc_cache.specs.Resting.{ActsAgain}
use Rattle.mc_cache.specs.Shards.{IsKey}
use Rattle.mc_cache.specs.WorkingWithin.{TouchesWithin}
use Rattle.mc_c.proofs.calls.touch.Goals as goal

pub returns : goal.returns
returns c = record {
  done = c.touch_within.result;
  coded = c.code_of.ensures;
  key_length = c.touch_within.ensures.key;
  same = c.touch_within.ensures.same;
  acts = subst (λ (cache : Cache). IsKey c.args.key.now → ActsAgain cache c.args.key.now (λ hash. TouchesWithin c.args.tries hash c.args.key.now c.touch_within.result) c.args.client.now.worker c.touch_within.new.self) c.deref.ensures c.touch_within.ensures.acts;
  cache = refl;
  spare = refl;
}
