use Rattle.std.proofs.Common.{refl, subst}
use Rattle.mc_cache.specs.declared.cache.Cache.{Cache}
use Rattle.mc_cache.specs.Resting.{ActsAgain}
use Rattle.mc_cache.specs.Shards.{IsKey}
use Rattle.mc_cache.specs.WorkingWithin.{DeletesWithin}
use Rattle.mc_c.proofs.calls.delete.Goals as goal

pub returns : goal.returns
returns c = record {
  done = c.delete_within.result;
  coded = c.code_of.ensures;
  key_length = c.delete_within.ensures.key;
  same = c.delete_within.ensures.same;
  acts = subst (λ (cache : Cache). IsKey c.args.key.now → ActsAgain cache c.args.key.now (λ hash. DeletesWithin c.args.tries hash c.args.key.now c.delete_within.result) c.args.client.now.worker c.delete_within.new.self) c.deref.ensures c.delete_within.ensures.acts;
  cache = refl;
  spare = refl;
}
