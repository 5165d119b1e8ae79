use Rattle.std.proofs.Common.{◌≡◌, ◌∙◌, Err, Result, ap, inr, sym, true}
use Rattle.mc_items.specs.declared.setting.SetError as items
use Rattle.mc_items.specs.declared.setting.SetError.TheVariants.{NoMemory}
use Rattle.mc_cache.specs.declared.working.SetError.{SetError}
use Rattle.mc_cache.specs.declared.working.SetError.TheVariants as set_error
use Rattle.mc_cache.specs.Belonging.{ActsOnKey, DeletesNoneOf, hash_in}
use Rattle.mc_cache.specs.Shards.{DeletesThere, IsKey, LooksInVain}
use Rattle.mc_cache.proofs.Acts.{deleted_any, is_key}
use Rattle.mc_expiry.proofs.expiry.Expiry.set_until.Goals as goal

-- the refusal that is returned for want of memory is that one
same_refusal : (error : items.SetError) → ◌≡◌ {A = Result (Unit {0}) SetError} (Err (set_error.Item (NoMemory tt))) (Err (set_error.Item error)) → error ≡ NoMemory tt
same_refusal error is = cc

pub returns-in-Err-NoMemory-clause-refused : goal.returns-in-Err-NoMemory-clause-refused
returns-in-Err-NoMemory-clause-refused g c = λ error is.
    let cache = c.args.cache.now in
    let key = c.args.key.now in
    let before = c.args.worker.now in
    let now = c.delete.new.self in
    let own : IsKey key = is_key key (λ no. let wrong = sym (c.in-Err-NoMemory.is ∙ ap Err c.in-Err-NoMemory.field-0-is) ∙ c.delete.ensures.key.1 no in absurd (cc)) in
    inr (
      same_refusal error is,
      deleted_any (ActsOnKey cache key (DeletesThere (hash_in cache key) key true) before now) (DeletesNoneOf cache key before now) (ActsOnKey cache key (LooksInVain (hash_in cache key)) before now) (IsKey key) c.delete.result
          own c.delete.ensures.deletes c.delete.ensures.none c.delete.ensures.refused,
    )

pub returns-in-Ok-clause-refused : goal.returns-in-Ok-clause-refused
returns-in-Ok-clause-refused g c = λ error is.
    let cache = c.args.cache.now in
    let key = c.args.key.now in
    let before = c.args.worker.now in
    let now = c.delete.new.self in
    let own : IsKey key = is_key key (λ no. let wrong = sym c.in-Ok.is ∙ c.delete.ensures.key.1 no in absurd (cc)) in
    inr (
      same_refusal error is,
      deleted_any (ActsOnKey cache key (DeletesThere (hash_in cache key) key true) before now) (DeletesNoneOf cache key before now) (ActsOnKey cache key (LooksInVain (hash_in cache key)) before now) (IsKey key) c.delete.result
          own c.delete.ensures.deletes c.delete.ensures.none c.delete.ensures.refused,
    )
