use Rattle.std.proofs.Common.{refl, subst}
use Rattle.mc_cache.specs.declared.cache.Cache.{Cache}
use Rattle.mc_cache.specs.Deleting.{DeletesVersionWithin}
use Rattle.mc_cache.specs.Resting.{ActsAgain}
use Rattle.mc_cache.specs.Shards.{IsKey}
use Rattle.mc_c.proofs.calls.delete_version.Goals as goal

pub returns : goal.returns
returns c = record {
  done = c.delete_version_within.result;
  coded = c.code_of_deletion.ensures;
  key_length = c.delete_version_within.ensures.key;
  same = c.delete_version_within.ensures.same;
  acts = subst (λ (cache : Cache). IsKey c.args.key.now → ActsAgain cache c.args.key.now (λ hash. DeletesVersionWithin c.args.tries hash c.args.key.now c.args.version c.delete_version_within.result) c.args.client.now.worker c.delete_version_within.new.self) c.deref.ensures c.delete_version_within.ensures.acts;
  cache = refl;
  spare = refl;
}
