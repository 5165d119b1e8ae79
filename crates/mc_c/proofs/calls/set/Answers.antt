use Rattle.std.proofs.Common.{◌≡◌, Err, length, refl, subst}
use Rattle.mc_cache.specs.declared.cache.Cache.{Cache}
use Rattle.mc_cache.specs.Shards.{IsKey}
use Rattle.mc_cache.specs.Sizes.{LacksClassIn}
use Rattle.mc_cache.specs.WorkingWithin.{SetsOrDeletesWithin}
use Rattle.mc_cache.specs.declared.working_within.SetWithinError.TheVariants as set_error
use Rattle.mc_items.specs.declared.setting.SetError.TheVariants as item_error
use Rattle.mc_c.proofs.calls.set.Goals as goal

pub returns : goal.returns
returns c = record {
  done = c.set_within.result;
  coded = c.code_of_set.ensures;
  key_length = c.set_within.ensures.key;
  too_large = subst (λ (cache : Cache). c.set_within.result ≡ Err (set_error.Item item_error.TooLarge) → LacksClassIn cache (length c.args.key.now) (length c.args.value.now)) c.deref.ensures c.set_within.ensures.too_large;
  acts = subst (λ (cache : Cache). IsKey c.args.key.now → SetsOrDeletesWithin cache c.args.tries c.args.key.now c.args.value.now c.set_within.result c.args.client.now.worker c.set_within.new.self) c.deref.ensures c.set_within.ensures.acts;
  same = c.set_within.ensures.same;
  cache = refl;
  spare = refl;
}
