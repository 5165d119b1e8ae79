-- What follows of two calls that stored nothing, and of parts of a shard whose keys were listed.
use Rattle.std.proofs.Common.{◌∙◌, ◌+◌, ◌++◌, [], ℕ, zero, suc, List, Ok, Err, OnErr, Result, add-one, ap, append-nil, append_assoc, arith, sym, subst}
use Rattle.mc_cache.specs.declared.cache.Cache.{Cache}
use Rattle.mc_cache.specs.declared.cache.Worker.{Worker}
use Rattle.mc_cache.specs.Belonging.{BelongsTo}
use Rattle.mc_cache.specs.Listing.{ListsPart}
use Rattle.mc_shard.specs.Listing.{PutsSome}
use Rattle.example_calls.specs.Walked.{ListsFirstParts, StoresNoValue}

-- a worker that stored nothing in a call, and nothing in the next one
pub stores_none_still : (cache : Cache) (before between now : Worker) → BelongsTo cache before → BelongsTo cache between → StoresNoValue before between → StoresNoValue between now → StoresNoValue before now
stores_none_still cache before between now own still first next shard hand after in_range = next shard hand after (omega (arith, in_range, own.count, still.count)) ∙ first shard hand hand in_range

-- the keys of one part more
pub one_more_part : (cache : Cache) (shard part : ℕ) (old keys new : List (List ℕ)) (before between now : Worker) → ListsFirstParts cache shard part old keys before between → ListsPart cache shard part keys new between now
    → ListsFirstParts cache shard (part + 1) old new before now
one_more_part cache shard part old keys new before between now first last = subst (λ (n : ℕ). ListsFirstParts cache shard n old new before now) (sym (add-one part)) (keys, between, first, last)

-- keys were put behind those that are there, and then some more
put_more : (old middle new : List (List ℕ)) → PutsSome old middle → PutsSome middle new → PutsSome old new
put_more old middle new first next = record {
  keys = first.keys ++ next.keys;
  put = next.put ∙ (ap (λ (l : List (List ℕ)). l ++ next.keys) first.put ∙ append_assoc old first.keys next.keys);
}

-- the parts so far put some keys
parts_put : (cache : Cache) (shard part : ℕ) (old new : List (List ℕ)) (before now : Worker) → ListsFirstParts cache shard part old new before now → PutsSome old new
parts_put cache shard zero old new before now (same, _) = record { keys = []; put = same ∙ sym (append-nil old) }
parts_put cache shard (suc part) old new before now (keys, between, first, last) =
    put_more old keys new (parts_put cache shard part old keys before between first) (record { keys = last.does.keys; put = last.does.put })

-- and so did the next part, where it was refused
pub parts_put_more : {T E : Type 0} (r : Result T E) (cache : Cache) (shard part : ℕ) (old middle new : List (List ℕ)) (before between : Worker) → ListsFirstParts cache shard part old middle before between → PutsSome middle new → OnErr r (PutsSome old new)
parts_put_more (Ok x) cache shard part old middle new before between first next = tt
parts_put_more (Err e) cache shard part old middle new before between first next = put_more old middle new (parts_put cache shard part old middle before between first) next
