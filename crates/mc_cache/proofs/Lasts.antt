-- What a worker stored last under a key, and what it finds there.
use Rattle.std.proofs.Common.{◌≡◌, ◌∙◌, ℕ, List, Option, Some, sym, ap, subst, arith, inl, inr, slice_set, length-set, get_or-set_same, ⊎_elim}
use Rattle.std.specs.List.{slice_get}
use Rattle.std.proofs.lemmas.Option.{get_or_from_slice_get, slice_get-get_or, slice_get_within}
use Rattle.mc_packing.specs.Packing.{packed_item}
use Rattle.mc_packing.proofs.Packs.{values_apart}
use Rattle.mc_words.specs.declared.arena.Arena.{Arena}
use Rattle.mc_words.specs.declared.hand.Hand.{Hand}
use Rattle.mc_words.specs.hand.Arenas.{setup_of}
use Rattle.mc_cache.specs.Belonging.{hash_in, shard_in}
use Rattle.mc_cache.specs.Newest.{GetsKeepLast, LastIsFound, SetsAreLast, UnusedFindOthers}
use Rattle.mc_cache.specs.Shards.{ActsOnShard, AreIdleHands, GetsAtMost, StoresNoMore, StoresValue}
use Rattle.mc_shard.specs.Hands.{IsIdleHandOf, IsUnusedHandOf}
use Rattle.mc_shard.specs.Newest.{HasStoredLast, WasStoredByOther}
use Rattle.mc_cache.proofs.LastStored.{finds_last, finds_others, keeps_last, stores_last}

-- the hand of a shard after a call there
hand_after : (arenas : List Arena) (shard : ℕ) (Does : Arena → Hand → Hand → Type 0) (before now : List Hand) → (acts : ActsOnShard arenas shard Does before now) → slice_get now shard ≡ Some acts.after
hand_after arenas shard Does before now acts =
    let within = slice_get_within before shard acts.hand acts.is_hand in
    ap (λ (hands : List Hand). slice_get hands shard) acts.others
    ∙ (slice_get-get_or (slice_set before shard acts.after) shard acts.after (omega (arith, within, length-set before shard acts.after))
    ∙ ap Some (get_or-set_same before shard acts.after acts.after within))

-- it is idle where the worker belongs to the cache
idle_there : (arenas : List Arena) (hands : List Hand) (shard : ℕ) (arena : Arena) (hand : Hand) → AreIdleHands arenas hands → slice_get arenas shard ≡ Some arena → slice_get hands shard ≡ Some hand → IsIdleHandOf arena hand
idle_there arenas hands shard arena hand are is_arena is_hand =
    subst (λ (p : Arena × Hand). IsIdleHandOf p.0 p.1) (λ k. (get_or_from_slice_get arenas shard arena arena is_arena k, get_or_from_slice_get hands shard hand hand is_hand k))
    (are.each shard arena hand (slice_get_within arenas shard arena is_arena))

same_there : {X : Type 0} (a b : X) (o : Option X) → o ≡ Some a → o ≡ Some b → a ≡ b
same_there a b o first second = let both : Some a ≡ Some b = sym first ∙ second in cc

pub sets_are_last : SetsAreLast
sets_are_last cache key value before now belongs stores =
    let there = hand_after cache.arenas.items (shard_in cache key) (StoresValue (hash_in cache key) key value) before.hands.items now.hands.items stores in
    record {
      arena = stores.arena;
      is_arena = stores.is_arena;
      hand = stores.after;
      is_hand = there;
      last = stores_last stores.arena (hash_in cache key) key value stores.hand stores.after stores.does (idle_there cache.arenas.items now.hands.items (shard_in cache key) stores.arena stores.after belongs stores.is_arena there).of_arena;
    }

pub gets_keep_last : GetsKeepLast
gets_keep_last cache key value before now had gets stores_nothing =
    let there = hand_after cache.arenas.items (shard_in cache key) (GetsAtMost (hash_in cache key)) before.hands.items now.hands.items gets in
    let also = hand_after cache.arenas.items (shard_in cache key) StoresNoMore before.hands.items now.hands.items stores_nothing in
    let arenas : had.arena ≡ gets.arena = same_there had.arena gets.arena (slice_get cache.arenas.items (shard_in cache key)) had.is_arena gets.is_arena in
    let hands : had.hand ≡ gets.hand = same_there had.hand gets.hand (slice_get before.hands.items (shard_in cache key)) had.is_hand gets.is_hand in
    let same : stores_nothing.hand ≡ gets.hand = same_there stores_nothing.hand gets.hand (slice_get before.hands.items (shard_in cache key)) stores_nothing.is_hand gets.is_hand in
    let after : stores_nothing.after ≡ gets.after = same_there stores_nothing.after gets.after (slice_get now.hands.items (shard_in cache key)) also there in
    let last = subst (λ (p : Arena × Hand). HasStoredLast (setup_of p.0) (hash_in cache key) key value p.1) (λ k. (arenas k, hands k)) had.last in
    let none = subst (λ (p : Hand × Hand). StoresNoMore gets.arena p.0 p.1) (λ k. (same k, after k)) stores_nothing.does in
    record {
      arena = gets.arena;
      is_arena = gets.is_arena;
      hand = gets.after;
      is_hand = there;
      last = keeps_last gets.arena (hash_in cache key) key value gets.hand gets.after last gets.does none;
    }

pub last_is_found : LastIsFound
last_is_found cache key value found before now bytes found_bytes belongs had reads =
    let arenas : had.arena ≡ reads.arena = same_there had.arena reads.arena (slice_get cache.arenas.items (shard_in cache key)) had.is_arena reads.is_arena in
    let hands : had.hand ≡ reads.hand = same_there had.hand reads.hand (slice_get before.hands.items (shard_in cache key)) had.is_hand reads.is_hand in
    let last = subst (λ (p : Arena × Hand). HasStoredLast (setup_of p.0) (hash_in cache key) key value p.1) (λ k. (arenas k, hands k)) had.last in
    let idle = idle_there cache.arenas.items before.hands.items (shard_in cache key) reads.arena reads.hand belongs reads.is_arena reads.is_hand in
    ⊎_elim
    (λ (same : packed_item key found ≡ packed_item key value). inl (values_apart key key found value found_bytes bytes same))
    (λ (other : WasStoredByOther (setup_of reads.arena) (hash_in cache key) key found reads.hand).
    inr (record { arena = reads.arena; is_arena = reads.is_arena; hand = reads.hand; is_hand = reads.is_hand; after = reads.after; others = reads.others; does = (reads.does, other) }))
    (finds_last reads.arena (hash_in cache key) key value found reads.hand last idle.of_arena reads.does.0)

pub unused_find_others : UnusedFindOthers
unused_find_others cache key found before now unused reads =
    let there : IsUnusedHandOf reads.arena reads.hand =
    subst (λ (p : Arena × Hand). IsUnusedHandOf p.0 p.1)
    (λ k. (get_or_from_slice_get cache.arenas.items (shard_in cache key) reads.arena reads.arena reads.is_arena k, get_or_from_slice_get before.hands.items (shard_in cache key) reads.hand reads.hand reads.is_hand k))
    (unused.each (shard_in cache key) reads.arena reads.hand (slice_get_within cache.arenas.items (shard_in cache key) reads.arena reads.is_arena)) in
    record {
      arena = reads.arena;
      is_arena = reads.is_arena;
      hand = reads.hand;
      is_hand = reads.is_hand;
      after = reads.after;
      others = reads.others;
      does = (reads.does, finds_others reads.arena (hash_in cache key) key found reads.hand there.unused there.idle.of_arena reads.does.0);
    }
