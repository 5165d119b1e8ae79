-- Keys that were listed, and their entries one behind another.
use Rattle.std.proofs.Common.{◌≡◌, ◌⊎◌, inl, inr, Ok, Err, true, ◌<◌, ◌+◌, ◌++◌, ◌∙◌, ℕ, List, [], ◌∷◌, Vec, Global, ap, append-nil, append_assoc, get_or, length, refl, sym, take}
use Rattle.std.proofs.lemmas.List.{map_more}
use Rattle.mc_items.specs.declared.within.error.WithinError.TheVariants.{NoMemory}
use Rattle.mc_shard.specs.Listing.{bytes_of_keys}
use Rattle.mc_cache.specs.Listing.{ActsOnPartAgain, ListsPartAgain}
use Rattle.mc_cache.specs.Shards.{StoresNoMore, TouchesNothing}
use Rattle.mc_c.specs.declared.client.WorkerClient.{WorkerClient}
use Rattle.mc_c.specs.Calls.{WritesValue, cache_of}
use Rattle.mc_c.specs.Listing.{IsPart, ListsPartAs, entries_of, entry_of}

entries_append : (xs ys : List (List ℕ)) → entries_of (xs ++ ys) ≡ entries_of xs ++ entries_of ys
entries_append [] ys = refl
entries_append (x ∷ xs) ys = ap (λ (l : List ℕ). entry_of x ++ l) (entries_append xs ys) ∙ sym (append_assoc (entry_of x) (entries_of xs) (entries_of ys))

-- the entry of one key more
entries_more : (keys : List (Vec ℕ Global)) (place : ℕ) (key : Vec ℕ Global) → place < length keys → entries_of (bytes_of_keys (take (place + 1) keys)) ≡ entries_of (bytes_of_keys (take place keys)) ++ entry_of (get_or keys place key).items
entries_more keys place key in_range =
    ap entries_of (map_more (λ (k : Vec ℕ Global). k.items) keys place key in_range)
    ∙ (entries_append (bytes_of_keys (take place keys)) ((get_or keys place key).items ∷ []) ∙ ap (λ (l : List ℕ). entries_of (bytes_of_keys (take place keys)) ++ l) (append-nil (entry_of (get_or keys place key).items)))

-- behind those of the keys before it
pub one_more_entry : (keys : List (Vec ℕ Global)) (place : ℕ) (key : Vec ℕ Global) (old middle new : List ℕ) → place < length keys → key ≡ get_or keys place key → middle ≡ old ++ entries_of (bytes_of_keys (take place keys)) → new ≡ middle ++ entry_of key.items
    → new ≡ old ++ entries_of (bytes_of_keys (take (place + 1) keys))
one_more_entry keys place key old middle new in_range at was is =
    is
    ∙ (ap (λ (l : List ℕ). l ++ entry_of key.items) was
    ∙ (append_assoc old (entries_of (bytes_of_keys (take place keys))) (entry_of key.items)
    ∙ ap (λ (l : List ℕ). old ++ l) (ap (λ (k : Vec ℕ Global). entries_of (bytes_of_keys (take place keys)) ++ entry_of k.items) at ∙ sym (entries_more keys place key in_range))))

-- the keys of a part were listed, and their entries written, or there was no memory for them
pub lists_written : (code tries shard stripe : ℕ) (before : List ℕ) (len : ℕ) (now : List ℕ) (new_len : ℕ) (client after : WorkerClient) (keys : List (List ℕ)) → IsPart (cache_of client) shard stripe → ListsPartAgain (cache_of client) shard stripe [] keys client.worker after.worker
    → ActsOnPartAgain (cache_of client) shard StoresNoMore client.worker after.worker → ActsOnPartAgain (cache_of client) shard TouchesNothing client.worker after.worker → cache_of after ≡ cache_of client → after.spare.items ≡ client.spare.items
    → WritesValue (Ok true) (entries_of keys) code before len now new_len ⊎ ((code ≡ 6) × (now ≡ before) × (new_len ≡ len)) → ListsPartAs code tries shard stripe before len now new_len client after
lists_written code tries shard stripe before len now new_len client after keys is_part lists stores_nothing untouched cache spare (inl writes) =
    record { is_part = is_part; done = Ok keys; lists = lists; stores_nothing = stores_nothing; untouched = untouched; writes = writes; cache = cache; spare = spare }
lists_written code tries shard stripe before len now new_len client after keys is_part lists stores_nothing untouched cache spare (inr none) =
    record { is_part = is_part; done = Err (NoMemory tt); lists = stores_nothing; stores_nothing = stores_nothing; untouched = untouched; writes = none; cache = cache; spare = spare }
