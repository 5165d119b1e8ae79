use Rattle.std.proofs.Common.{◌≡◌, Err, length, refl, subst}
use Rattle.mc_cache.specs.declared.cache.Cache.{Cache}
use Rattle.mc_cache.specs.Conditional.{SetsValueIfWithin}
use Rattle.mc_cache.specs.Resting.{ActsAgain}
use Rattle.mc_cache.specs.Shards.{IsKey}
use Rattle.mc_cache.specs.Sizes.{LacksClassIn}
use Rattle.mc_cache.specs.declared.working_within.SetWithinError.TheVariants as set_error
use Rattle.mc_items.specs.declared.setting.SetError.TheVariants as item_error
use Rattle.mc_c.proofs.calls.set_if.Goals as goal

pub returns : goal.returns
returns c = record {
  done = c.set_if_within.result;
  coded = c.code_of_outcome.ensures;
  key_length = c.set_if_within.ensures.key;
  too_large = subst (λ (cache : Cache). c.set_if_within.result ≡ Err (set_error.Item item_error.TooLarge) → LacksClassIn cache (length c.args.key.now) (length c.args.value.now)) c.deref.ensures c.set_if_within.ensures.too_large;
  acts = subst (λ (cache : Cache). IsKey c.args.key.now → ActsAgain cache c.args.key.now (λ hash. SetsValueIfWithin c.args.tries hash c.args.key.now c.args.value.now c.args.when c.set_if_within.result) c.args.client.now.worker c.set_if_within.new.self) c.deref.ensures c.set_if_within.ensures.acts;
  same = c.set_if_within.ensures.same;
  cache = refl;
  spare = refl;
}
