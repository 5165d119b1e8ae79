-- What a worker set last of a large value it gets whole, or another worker's root.
use Rattle.std.proofs.Common.{lit<, ◌<◌, ◌≡◌, ◌∙◌, ◌⊎◌, ⊎_elim, ◌++◌, ◌∷◌, [], ℕ, zero, suc, List, length, ap, inl, inr, refl, subst, sym, drop, Result, Ok, Err, Contains}
use Rattle.std.specs.List.{concat, slice_get}
use Rattle.std.proofs.lemmas.List.{drop_at, take_at}
use Rattle.std.proofs.lemmas.List.Elements.{Contains-push}
use Rattle.mc_packing.specs.Packing.{AreBytes, bytes_of_word, packed_item}
use Rattle.mc_packing.proofs.Bytes.{bytes_append, bytes_drop, bytes_in_bytes, bytes_take}
use Rattle.mc_core.specs.past.Past.{StoredItem}
use Rattle.mc_items.specs.declared.setting.SetError as items
use Rattle.mc_items.specs.declared.comparing.CompareError.{CompareError}
use Rattle.mc_items.specs.declared.comparing.Expected.{Expected}
use Rattle.mc_shard.specs.declared.conditions.Outcome.{Outcome}
use Rattle.mc_shard.specs.declared.conditions.Outcome.TheVariants.{Stored}
use Rattle.mc_shard.specs.declared.conditions.When.{When}
use Rattle.mc_shard.specs.declared.conditions.When.TheVariants.{Absent, Present, Version}
use Rattle.mc_words.specs.declared.arena.Arena.{Arena}
use Rattle.mc_words.specs.declared.hand.Hand.{Hand}
use Rattle.mc_words.specs.hand.Arenas.{setup_of, view}
use Rattle.mc_words.specs.hand.Observers.{hand_number}
use Rattle.mc_words.specs.item.Items.{item_with}
use Rattle.mc_shard.specs.Conditions.{DoesBehindLook, SetsIf, TriesStore, expected_by}
use Rattle.mc_shard.specs.Hands.{WereStored, items_stored_by}
use Rattle.mc_words.specs.hand.View.{Setup}
use Rattle.mc_items.specs.ItemRefs.{item_stamp, item_words}
use Rattle.mc_items.specs.declared.refs.Ref.{Ref}
use Rattle.std.specs.Option.{option_map}
use Rattle.std.proofs.Common.{IfSome, None, Option, Some}
use Rattle.mc_cache.specs.declared.cache.Cache.{Cache}
use Rattle.mc_cache.specs.declared.cache.Worker.{Worker}
use Rattle.mc_cache.specs.declared.working.SetError.{SetError}
use Rattle.mc_cache.specs.Belonging.{ActsOnKey, BelongsTo, hash_in, shard_in}
use Rattle.mc_cache.specs.Conditional.{SetsValueIf, StoresBehindLook}
use Rattle.mc_cache.specs.Newest.{HasSetLast, ReadsValueOfOther}
use Rattle.mc_cache.specs.Shards.{ReadsValue, StoresNoMore, StoresValue}
use Rattle.mc_cache.specs.Versions.{ReadsVersion}
use Rattle.mc_cache.proofs.Conditions.{adds_find_none, replaces_find_one, versions_are_replaced}
use Rattle.mc_cache.proofs.Lasts.{last_is_found, sets_are_last}
use Rattle.mc_update.specs.Updates.{EndsWithoutMemory}
use Rattle.mc_update.proofs.Acts.{acts_so}
use Rattle.mc_large.specs.Getting.{GetsRoot}
use Rattle.mc_large.specs.Keys.{part_key, root_key}
use Rattle.mc_large.specs.Own.{FindsRootOfOther, GotPartsWereStored, HasSetLarge, HasStoredPiece, HasStoredPieces, LargeGetsKeepLast, LargeLastIsFound, LargeSetsAreLast}
use Rattle.mc_large.specs.Parts.{GetsParts, MissesPieceTimes, OnlyGetsParts, SetsPiece, StoresParts}
use Rattle.mc_large.specs.Roots.{IsLargeRoot, bytes_of_versions, small_root}
use Rattle.mc_large.specs.Setting.{StoresRoot}
use Rattle.mc_large.proofs.Gets.{gets_only}
use Rattle.mc_large.proofs.Kept.{GrowsStored, after_there, grows_none, grows_on, grows_one, last_stays, piece_found, piece_stays}
use Rattle.mc_large.proofs.Words.{roots_are_unique}

-- a store behind a look
grows_store : (expected : Expected) (number hash : ℕ) (key value : List ℕ) (stored : Result ℕ CompareError) (before now : Hand) → TriesStore expected number hash key value stored before now → GrowsStored before now
grows_store expected number hash key value (Ok stamp) before now tries = grows_one (item_with hash stamp (packed_item key value)) stamp before now tries.stores_words
grows_store expected number hash key value (Err error) before now tries = grows_none before now tries.1.stores_nothing

grows_behind : (choice : Result Expected Outcome) (number hash : ℕ) (key value : List ℕ) (result : Result Outcome items.SetError) (before now : Hand) → DoesBehindLook choice number hash key value result before now → GrowsStored before now
grows_behind (Ok expected) number hash key value result before now (stored, is, tries) = grows_store expected number hash key value stored before now tries
grows_behind (Err outcome) number hash key value result before now (is, same) = grows_none before now (ap (λ (h : Hand). items_stored_by h) same)

-- a set on a condition
grows_set : (hash : ℕ) (key value : List ℕ) (when : When) (result : Result Outcome SetError) (arena : Arena) (hand after : Hand) → SetsValueIf hash key value when result arena hand after → GrowsStored hand after
grows_set hash key value when result arena hand after sets = grows_if sets.sets
  where
    grows_if : SetsIf (setup_of arena) hash key value when sets.returned hand after → GrowsStored hand after
    grows_if (inl behind) =
        grows_on hand behind.between after (grows_none hand behind.between behind.looks.stores_nothing)
        (grows_behind (expected_by when behind.seen) (hand_number hand) hash key value sets.returned behind.between after behind.does)
    grows_if (inr full) = grows_none hand after full.2.stores_nothing

-- the hand that stored by a set on a condition has stored this
stored_behind : (expected : Expected) (hash stamp : ℕ) (key value : List ℕ) (hand after : Hand) → StoresBehindLook expected hash stamp key value hand after
    → Contains (items_stored_by after) (record { stamp = stamp; words = item_with hash stamp (packed_item key value) })
stored_behind expected hash stamp key value hand after (between, stores) =
    let saying : StoredItem = record { stamp = stamp; words = item_with hash stamp (packed_item key value) } in
    subst (λ (l : List StoredItem). Contains l saying) (sym stores.stores_words) (Contains-push (items_stored_by between) saying)

stored_if : (hash stamp : ℕ) (key value : List ℕ) (when : When) (arena : Arena) (hand after : Hand) → SetsValueIf hash key value when (Ok (Stored stamp)) arena hand after
    → Contains (items_stored_by after) (record { stamp = stamp; words = item_with hash stamp (packed_item key value) })
stored_if hash stamp key value Absent arena hand after sets =
    ⊎_elim (λ none. stored_behind _ hash stamp key value hand after none.1) (λ other. stored_behind _ hash stamp key value hand after other.2) (adds_find_none arena hash key value stamp hand after sets)
stored_if hash stamp key value Present arena hand after sets = stored_behind _ hash stamp key value hand after (replaces_find_one arena hash key value stamp hand after sets).1
stored_if hash stamp key value (Version version) arena hand after sets = stored_behind _ hash stamp key value hand after (versions_are_replaced arena hash key value version stamp hand after sets).1

module _ (cache : Cache) (part piece : List ℕ) (version : ℕ) where
  -- a piece that was stored stays so behind sets of other pieces
  stays_missed : (times : ℕ) (other sent : List ℕ) (before now : Worker) → MissesPieceTimes times cache other sent before now → HasStoredPiece cache part piece version before → HasStoredPiece cache part piece version now
  stays_missed zero other sent before now same had = subst (λ (w : Worker). HasStoredPiece cache part piece version w) (sym same) had
  stays_missed (suc times) other sent before now (between, rest, last) had =
      piece_stays cache part piece other version (SetsValueIf (hash_in cache other) other sent last.when (Ok last.outcome)) between now (λ arena hand after sets. grows_set (hash_in cache other) other sent last.when (Ok last.outcome) arena hand after sets)
      (stays_missed times other sent before between rest had) last.sets

  stays_set : (other sent : List ℕ) (result : Result Outcome SetError) (before now : Worker) → SetsPiece cache other sent result before now → HasStoredPiece cache part piece version before → HasStoredPiece cache part piece version now
  stays_set other sent result before now sets had =
      piece_stays cache part piece other version (SetsValueIf (hash_in cache other) other sent sets.when result) sets.between now (λ arena hand after s. grows_set (hash_in cache other) other sent sets.when result arena hand after s)
      (stays_missed sets.times other sent before sets.between sets.vain had) sets.sets

  stays_stored : (key : List ℕ) (number : ℕ) (pieces : List (List ℕ)) (versions : List ℕ) (before now : Worker) → StoresParts cache key number pieces versions before now → HasStoredPiece cache part piece version before → HasStoredPiece cache part piece version now
  stays_stored key number [] [] before now same had = subst (λ (w : Worker). HasStoredPiece cache part piece version w) (sym same) had
  stays_stored key number [] (v ∷ versions) before now stores had = absurd stores
  stays_stored key number (p ∷ pieces) [] before now stores had = absurd stores
  stays_stored key number (p ∷ pieces) (v ∷ versions) before now (between, first, rest) had = stays_stored key (suc number) pieces versions between now rest (stays_set (part_key key number) p (Ok (Stored v)) before between first had)

  stays_root : (place root : List ℕ) (before now : Worker) → StoresRoot cache place root before now → HasStoredPiece cache part piece version before → HasStoredPiece cache part piece version now
  stays_root place root before now stores had =
      piece_stays cache part piece place version (StoresValue (hash_in cache place) place root) before now
      (λ arena hand after value. grows_one (item_with (hash_in cache place) value.1.0 (packed_item place root)) value.1.0 hand after value.1.1) had stores

  stays_got : (other : List ℕ) (before now : Worker) → EndsWithoutMemory cache other before now → HasStoredPiece cache part piece version before → HasStoredPiece cache part piece version now
  stays_got other before now gets had = piece_stays cache part piece other version StoresNoMore before now (λ arena hand after none. grows_none hand after none) had gets.stores_nothing

  -- a piece that is stored is
  had_set : (before now : Worker) → SetsPiece cache part piece (Ok (Stored version)) before now → HasStoredPiece cache part piece version now
  had_set before now sets = record {
    hand = sets.sets.after;
    is_hand = ap (λ (hands : List Hand). slice_get hands (shard_in cache part)) sets.sets.others ∙ after_there sets.between.hands.items (shard_in cache part) sets.sets.hand sets.sets.after sets.sets.is_hand;
    among = stored_if (hash_in cache part) version part piece sets.when sets.sets.arena sets.sets.hand sets.sets.after sets.sets.does;
  }

module _ (cache : Cache) (key : List ℕ) where
  -- each of the pieces that were stored is
  had_stored : (number : ℕ) (pieces : List (List ℕ)) (versions : List ℕ) (before now : Worker) → StoresParts cache key number pieces versions before now → HasStoredPieces cache key number pieces versions now
  had_stored number [] [] before now same = tt
  had_stored number [] (v ∷ versions) before now stores = stores
  had_stored number (p ∷ pieces) [] before now stores = stores
  had_stored number (p ∷ pieces) (v ∷ versions) before now (between, first, rest) =
      (stays_stored cache (part_key key number) p v key (suc number) pieces versions between now rest (had_set cache (part_key key number) p v before between first), had_stored (suc number) pieces versions between now rest)

  all_stay_root : (place root : List ℕ) (before now : Worker) → StoresRoot cache place root before now → (number : ℕ) (pieces : List (List ℕ)) (versions : List ℕ) → HasStoredPieces cache key number pieces versions before → HasStoredPieces cache key number pieces versions now
  all_stay_root place root before now stores number [] [] had = tt
  all_stay_root place root before now stores number [] (v ∷ versions) had = had
  all_stay_root place root before now stores number (p ∷ pieces) [] had = had
  all_stay_root place root before now stores number (p ∷ pieces) (v ∷ versions) had =
      (stays_root cache (part_key key number) p v place root before now stores had.0, all_stay_root place root before now stores (suc number) pieces versions had.1)

  all_stay_got : (other : List ℕ) (before now : Worker) → EndsWithoutMemory cache other before now → (number : ℕ) (pieces : List (List ℕ)) (versions : List ℕ) → HasStoredPieces cache key number pieces versions before → HasStoredPieces cache key number pieces versions now
  all_stay_got other before now gets number [] [] had = tt
  all_stay_got other before now gets number [] (v ∷ versions) had = had
  all_stay_got other before now gets number (p ∷ pieces) [] had = had
  all_stay_got other before now gets number (p ∷ pieces) (v ∷ versions) had = (stays_got cache (part_key key number) p v other before now gets had.0, all_stay_got other before now gets (suc number) pieces versions had.1)

  -- a get of a key leaves what was set last
  large_stays : (other value : List ℕ) (before now : Worker) → EndsWithoutMemory cache other before now → HasSetLarge cache key value before → HasSetLarge cache key value now
  large_stays other value before now gets (inl small) = inl (last_stays cache (root_key key) (small_root value) other before now small gets.only.calls gets.stores_nothing)
  large_stays other value before now gets (inr parts) = inr (record {
    pieces = parts.pieces;
    versions = parts.versions;
    together = parts.together;
    root = parts.root;
    is_root = parts.is_root;
    last = last_stays cache (root_key key) parts.root other before now parts.last gets.only.calls gets.stores_nothing;
    parts = all_stay_got other before now gets 0 parts.pieces parts.versions parts.parts;
  })

  parts_stay : (other value : List ℕ) (count number : ℕ) (before now : Worker) → OnlyGetsParts count cache other number before now → HasSetLarge cache key value before → HasSetLarge cache key value now
  parts_stay other value zero number before now same had = subst (λ (w : Worker). HasSetLarge cache key value w) (sym same) had
  parts_stay other value (suc count) number before now (between, first, rest) had = parts_stay other value count (suc number) between now rest (large_stays (part_key other number) value before between first had)

  -- parts that are found with the versions that the worker stored are the pieces that it stored
  pieces_found : (number : ℕ) (versions : List ℕ) (found pieces : List (List ℕ)) (before now : Worker) → AreBytes (concat found) → AreBytes (concat pieces) → HasStoredPieces cache key number pieces versions before → GetsParts cache key number versions found before now
      → found ≡ pieces
  pieces_found number [] [] [] before now found_bytes bytes had gets = refl
  pieces_found number [] [] (p ∷ pieces) before now found_bytes bytes had gets = absurd had
  pieces_found number [] (f ∷ found) pieces before now found_bytes bytes had gets = absurd gets
  pieces_found number (v ∷ versions) [] pieces before now found_bytes bytes had gets = absurd gets
  pieces_found number (v ∷ versions) (f ∷ found) [] before now found_bytes bytes had gets = absurd had
  pieces_found number (v ∷ versions) (f ∷ found) (p ∷ pieces) before now found_bytes bytes had (between, first, rest) =
      let first_bytes : AreBytes f = subst (λ (b : List ℕ). AreBytes b) (take_at f (concat found) (length f) refl) (bytes_take (length f) (concat (f ∷ found)) found_bytes) in
      let piece_bytes : AreBytes p = subst (λ (b : List ℕ). AreBytes b) (take_at p (concat pieces) (length p) refl) (bytes_take (length p) (concat (p ∷ pieces)) bytes) in
      let rest_found : AreBytes (concat found) = subst (λ (b : List ℕ). AreBytes b) (drop_at f (concat found) (length f) refl) (bytes_drop (length f) (concat (f ∷ found)) found_bytes) in
      let rest_bytes : AreBytes (concat pieces) = subst (λ (b : List ℕ). AreBytes b) (drop_at p (concat pieces) (length p) refl) (bytes_drop (length p) (concat (p ∷ pieces)) bytes) in
      let one : f ≡ p = piece_found cache (part_key key number) p f v before between piece_bytes first_bytes had.0 first.reads in
      let behind : HasStoredPieces cache key (suc number) pieces versions between = all_stay_got (part_key key number) before between (gets_only cache (part_key key number) f v before between first) (suc number) pieces versions had.1 in
      let others : found ≡ pieces = pieces_found (suc number) versions found pieces between now rest_found rest_bytes behind rest in
      ap (λ (x : List ℕ). x ∷ found) one ∙ ap (λ (xs : List (List ℕ)). p ∷ xs) others

pub large_sets_are_last : LargeSetsAreLast
large_sets_are_last cache key value before now belongs (inl small) = inl (sets_are_last cache (root_key key) (small_root value) before now belongs small.root)
large_sets_are_last cache key value before now belongs (inr large) =
    let whole = large.whole in
    inr (record {
      pieces = whole.parts.pieces;
      versions = whole.versions;
      together = whole.parts.cut.together;
      root = whole.root;
      is_root = whole.is_root;
      last = sets_are_last cache (root_key key) whole.root whole.between now belongs whole.stores;
      parts = all_stay_root cache key (root_key key) whole.root whole.between now whole.stores 0 whole.parts.pieces whole.versions (had_stored cache key 0 whole.parts.pieces whole.versions before whole.between whole.parts.stores);
    })

pub large_gets_keep_last : LargeGetsKeepLast
large_gets_keep_last cache key other value before now had gets =
    parts_stay cache key other value gets.parts.0 0 gets.looked now gets.parts.1 (large_stays cache key (root_key other) value before gets.looked gets.root had)

-- a byte before bytes
tagged_bytes : (tag : ℕ) (bytes : List ℕ) → tag < 256 → AreBytes bytes → AreBytes (tag ∷ bytes)
tagged_bytes tag bytes small are zero = small
tagged_bytes tag bytes small are (suc k) = are k

versions_bytes : (versions : List ℕ) → AreBytes (bytes_of_versions versions)
versions_bytes [] = λ k. lit< tt
versions_bytes (v ∷ versions) = bytes_append (bytes_of_word v) (bytes_of_versions versions) (bytes_in_bytes v) (versions_bytes versions)

large_root_bytes : (root : List ℕ) (len : ℕ) (versions : List ℕ) → IsLargeRoot root len versions → AreBytes root
large_root_bytes root len versions is =
    subst (λ (b : List ℕ). AreBytes b) (sym is.is_root) (tagged_bytes 1 (bytes_of_word len ++ bytes_of_versions versions) (lit< tt) (bytes_append (bytes_of_word len) (bytes_of_versions versions) (bytes_in_bytes len) (versions_bytes versions)))

-- what comes behind bytes
added_bytes : (old new added : List ℕ) → AreBytes new → new ≡ old ++ added → AreBytes added
added_bytes old new added are is = subst (λ (b : List ℕ). AreBytes b) (ap (drop (length old)) is ∙ drop_at old added (length old) refl) (bytes_drop (length old) new are)

-- the root that a get found is the last own one, or another worker's
root_found : (cache : Cache) (key root found : List ℕ) (before looked : Worker) → AreBytes root → AreBytes found → BelongsTo cache before → HasSetLast cache (root_key key) root before → GetsRoot cache key found before looked → (found ≡ root) ⊎ FindsRootOfOther cache key before
root_found cache key root found before looked bytes found_bytes belongs had (version, gets) =
    let place = root_key key in
    let reads : ActsOnKey cache place (ReadsValue (hash_in cache place) place found) before looked =
    acts_so cache place (ReadsVersion (hash_in cache place) place found version) (ReadsValue (hash_in cache place) place found) before looked (λ arena hand after r. (r.0.0, r.1)) gets.reads in
    ⊎_elim (λ (same : found ≡ root). inl same) (λ (other : ActsOnKey cache place (ReadsValueOfOther (hash_in cache place) place found) before looked). inr (record { root = found; looked = looked; finds = other }))
    (last_is_found cache place root found before looked bytes found_bytes belongs had reads)

pub large_last_is_found : LargeLastIsFound
large_last_is_found cache key value old new before now bytes new_bytes belongs (inl small) (inl got) =
    ⊎_elim (λ (same : small_root got.value ≡ small_root value). inl (got.added ∙ ap (λ (v : List ℕ). old ++ v) (roots_are_unique.small got.value value same))) (λ other. inr other)
    (root_found cache key (small_root value) (small_root got.value) before now (tagged_bytes 0 value (lit< tt) bytes) (tagged_bytes 0 got.value (lit< tt) (added_bytes old new got.value new_bytes got.added)) belongs small got.root)
large_last_is_found cache key value old new before now bytes new_bytes belongs (inl small) (inr got) =
    ⊎_elim (λ (same : got.root ≡ small_root value). absurd (roots_are_unique.one got.root value got.len got.versions same got.is_root)) (λ other. inr other)
    (root_found cache key (small_root value) got.root before got.looked (tagged_bytes 0 value (lit< tt) bytes) (large_root_bytes got.root got.len got.versions got.is_root) belongs small got.gets_root)
large_last_is_found cache key value old new before now bytes new_bytes belongs (inr parts) (inl got) =
    ⊎_elim (λ (same : small_root got.value ≡ parts.root). absurd (roots_are_unique.one parts.root got.value (length value) parts.versions (sym same) parts.is_root)) (λ other. inr other)
    (root_found cache key parts.root (small_root got.value) before now (large_root_bytes parts.root (length value) parts.versions parts.is_root) (tagged_bytes 0 got.value (lit< tt) (added_bytes old new got.value new_bytes got.added)) belongs parts.last got.root)
large_last_is_found cache key value old new before now bytes new_bytes belongs (inr parts) (inr got) =
    ⊎_elim
    (λ (same : got.root ≡ parts.root).
    let own_root : IsLargeRoot parts.root got.len got.versions = subst (λ (r : List ℕ). IsLargeRoot r got.len got.versions) same got.is_root in
    let versions : got.versions ≡ parts.versions = (roots_are_unique.large parts.root got.len (length value) got.versions parts.versions own_root parts.is_root).1 in
    let adds = got.parts.adds in
    let gets : GetsParts cache key 0 parts.versions adds.pieces got.looked now = subst (λ (vs : List ℕ). GetsParts cache key 0 vs adds.pieces got.looked now) versions adds.gets in
    let had : HasStoredPieces cache key 0 parts.pieces parts.versions got.looked =
    all_stay_got cache key (root_key key) before got.looked (gets_only cache (root_key key) got.root got.gets_root.0 before got.looked got.gets_root.1) 0 parts.pieces parts.versions parts.parts in
    let found : adds.pieces ≡ parts.pieces =
    pieces_found cache key 0 parts.versions adds.pieces parts.pieces got.looked now (added_bytes old new (concat adds.pieces) new_bytes adds.added) (subst (λ (b : List ℕ). AreBytes b) (sym parts.together) bytes) had gets in
    inl (adds.added ∙ ap (λ (v : List ℕ). old ++ v) (ap concat found ∙ parts.together)))
    (λ other. inr other)
    (root_found cache key parts.root got.root before got.looked (large_root_bytes parts.root (length value) parts.versions parts.is_root) (large_root_bytes got.root got.len got.versions got.is_root) belongs parts.last got.gets_root)

-- the words of an item of this version were stored with it
stored_item : (setup : Setup) (own : List StoredItem) (hash version : ℕ) (part piece : List ℕ) (item : Option Ref) (words : Ref → List ℕ) → Some (packed_item part piece) ≡ option_map words item → option_map item_stamp item ≡ Some version
    → IfSome item (λ item. WereStored setup own (item_stamp item) (item_with hash (item_stamp item) (packed_item part piece))) → WereStored setup own version (item_with hash version (packed_item part piece))
stored_item setup own hash version part piece None words are is stored = let never : Some (packed_item part piece) ≡ None = are in absurd (cc)
stored_item setup own hash version part piece (Some item) words are is stored =
    let stamps : item_stamp item ≡ version = cc in
    subst (λ (v : ℕ). WereStored setup own v (item_with hash v (packed_item part piece))) stamps stored

pub got_parts_were_stored : GotPartsWereStored
got_parts_were_stored cache key number piece version before now gets =
    let part = part_key key number in
    let reads = gets.reads in
    let finds = reads.does.0 in
    record {
      arena = reads.arena;
      is_arena = reads.is_arena;
      hand = reads.hand;
      is_hand = reads.is_hand;
      stored = stored_item (setup_of reads.arena) (items_stored_by reads.hand) (hash_in cache part) version part piece finds.0.item (item_words (view finds.0.got)) finds.0.words_are finds.1 finds.0.stored;
    }
