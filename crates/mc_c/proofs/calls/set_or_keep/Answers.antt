use Rattle.std.proofs.Common.{◌≡◌, ◌↔◌, Err, length, refl, subst}
use Rattle.mc_cache.specs.declared.cache.Cache.{Cache}
use Rattle.mc_cache.specs.Resting.{ActsAgain}
use Rattle.mc_cache.specs.Shards.{IsKey}
use Rattle.mc_cache.specs.Sizes.{LacksClassIn}
use Rattle.mc_cache.specs.WorkingWithin.{SetsWithin}
use Rattle.mc_cache.specs.declared.working_within.SetWithinError.TheVariants as set_error
use Rattle.mc_items.specs.declared.setting.SetError.TheVariants as item_error
use Rattle.mc_c.proofs.calls.set_or_keep.Goals as goal

pub returns : goal.returns
returns c = record {
  done = c.set_or_keep_within.result;
  coded = c.code_of_set.ensures;
  key_length = c.set_or_keep_within.ensures.key;
  too_large = subst (λ (cache : Cache). (c.set_or_keep_within.result ≡ Err (set_error.Item item_error.TooLarge)) ↔ IsKey c.args.key.now × LacksClassIn cache (length c.args.key.now) (length c.args.value.now)) c.deref.ensures c.set_or_keep_within.ensures.too_large;
  acts = subst (λ (cache : Cache). IsKey c.args.key.now → ActsAgain cache c.args.key.now (λ hash. SetsWithin c.args.tries hash c.args.key.now c.args.value.now c.set_or_keep_within.result) c.args.client.now.worker c.set_or_keep_within.new.self) c.deref.ensures c.set_or_keep_within.ensures.acts;
  same = c.set_or_keep_within.ensures.same;
  cache = refl;
  spare = refl;
}
