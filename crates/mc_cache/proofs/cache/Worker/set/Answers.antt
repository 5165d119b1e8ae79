use Rattle.std.proofs.Common.{true}
use Rattle.mc_cache.specs.Belonging.{ActsOnKey, DeletesNoneOf, hash_in}
use Rattle.mc_cache.specs.Shards.{DeletesThere, IsKey, LooksInVain}
use Rattle.mc_cache.proofs.Acts.{deleted_any, is_key}
use Rattle.mc_cache.proofs.cache.Worker.set.Goals as goal

pub returns-then-is_err-clause-refused : goal.returns-then-is_err-clause-refused
returns-then-is_err-clause-refused g c = λ error is.
    let cache = c.args.cache.now in
    let key = c.args.key.now in
    let between = c.set_or_keep-stored.new.self in
    let now = c.delete-deleted.new.self in
    let own : IsKey key = is_key key (λ no. let wrong = c.set_or_keep-stored.ensures.key.1 no in absurd (cc)) in
    record {
      between = between;
      refuses = c.set_or_keep-stored.ensures.refused error is;
      deletes = deleted_any (ActsOnKey cache key (DeletesThere (hash_in cache key) key true) between now) (DeletesNoneOf cache key between now) (ActsOnKey cache key (LooksInVain (hash_in cache key)) between now) (IsKey key) c.delete-deleted.result
          own c.delete-deleted.ensures.deletes c.delete-deleted.ensures.none c.delete-deleted.ensures.refused;
      calls = c.delete-deleted.ensures.calls own;
      untouched = c.delete-deleted.ensures.untouched own;
    }
