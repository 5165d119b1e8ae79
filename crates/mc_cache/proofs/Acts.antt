-- What one call does on one shard.
use Rattle.std.proofs.lemmas.Bool.{leb-false, leb-true}
use Rattle.std.proofs.Common.{◌⊎◌, Bool, true, false, inl, inr, nat_le, IfSome, None, Option, Some, ◌≡◌, ◌<◌, ◌∙◌, ℕ, List, Err, MatchResult, Ok, OnErr, Result, ap, arith, get_or, is_ok, length, refl, set, subst, sym, true≢false}
use Rattle.std.proofs.lemmas.Option.{slice_get_read}
use Rattle.mc_words.specs.declared.arena.Arena.{Arena}
use Rattle.mc_words.specs.declared.hand.Hand.{Hand}
use Rattle.mc_shard.specs.Hands.{IsIdleHandOf}
use Rattle.mc_cache.specs.declared.cache.Cache.{Cache}
use Rattle.mc_cache.specs.declared.place.Place.{Place}
use Rattle.mc_cache.specs.Belonging.{hash_in, shard_in}
use Rattle.mc_cache.specs.Shards.{ActsOnShard, AreIdleHands, IsKey}
use Rattle.mc_cache.proofs.Pairs.{pair_set}

-- the hand of a shard is idle
pub idle_at : (arenas : List Arena) (hands : List Hand) (shard : ℕ) (arena : Arena) (hand : Hand) → AreIdleHands arenas hands → shard < length arenas → IsIdleHandOf (get_or arenas shard arena) (get_or hands shard hand)
idle_at arenas hands shard arena hand are in_range = are.each shard arena hand in_range

-- with another in its place all are idle still
pub idle_after : (arenas : List Arena) (hands : List Hand) (shard : ℕ) (arena : Arena) (after : Hand) → shard < length arenas → arena ≡ get_or arenas shard arena → IsIdleHandOf arena after → AreIdleHands arenas hands → AreIdleHands arenas (set hands shard after)
idle_after arenas hands shard arena after in_range is idle are = pair_set IsIdleHandOf arenas hands shard arena after in_range is idle are

pub acts : (arenas : List Arena) (hands : List Hand) (shard : ℕ) (arena : Arena) (hand after : Hand) (Does : Arena → Hand → Hand → Type 0) → shard < length arenas → length hands ≡ length arenas
    → arena ≡ get_or arenas shard arena → hand ≡ get_or hands shard hand → Does arena hand after → ActsOnShard arenas shard Does hands (set hands shard after)
acts arenas hands shard arena hand after Does in_range count is_arena is_hand does = record {
  arena = arena;
  is_arena = slice_get_read arenas (length arenas) shard arena refl in_range is_arena;
  hand = hand;
  is_hand = slice_get_read hands (length hands) shard hand refl (omega arith) is_hand;
  after = after;
  others = refl;
  does = does;
}

pub same_ok : {T E : Type 0} (x y : T) → ◌≡◌ {A = Result T E} (Ok x) (Ok y) → x ≡ y
same_ok x y is = cc

pub same_error : {T E : Type 0} (x y : E) → ◌≡◌ {A = Result T E} (Err x) (Err y) → x ≡ y
same_error x y is = cc

-- an answer whose refusal was named anew is the answer that came
pub same_answer : {T D E : Type 0} (Q : E → Type 0) (r : Result T E) (m : Result T D) (x : T) → MatchResult r (λ y. m ≡ Ok y) Q → is_ok m ≡ is_ok r → m ≡ Ok x → r ≡ Ok x
same_answer Q (Ok y) m x cases variant is = ap Ok (same_ok y x (sym cases ∙ is))
same_answer Q (Err e) m x cases variant is = absurd (true≢false (sym (ap is_ok is) ∙ variant))

pub answer_stays : {T D E : Type 0} (Q : E → Type 0) (r : Result T E) (m : Result T D) (x : T) → MatchResult r (λ y. m ≡ Ok y) Q → r ≡ Ok x → m ≡ Ok x
answer_stays Q (Ok y) m x cases is = cases ∙ ap Ok (same_ok y x is)
answer_stays Q (Err e) m x cases is = absurd (true≢false (sym (ap is_ok is)))

-- what follows from a refusal follows from one that was named anew
pub refused_so : {T D E : Type 0} (P R : Type 0) (r : Result T E) (m : Result T D) → is_ok m ≡ is_ok r → OnErr r P → (P → R) → OnErr m R
refused_so P R (Ok y) (Ok x) variant p next = tt
refused_so P R (Ok y) (Err e) variant p next = absurd (true≢false (sym variant))
refused_so P R (Err e) (Ok x) variant p next = tt
refused_so P R (Err e) (Err d) variant p next = next p

-- what follows from what is there
pub some_map : {A : Type 0} (P Q : A → Type 0) (o : Option A) → ((x : A) → P x → Q x) → IfSome o P → IfSome o Q
some_map P Q None next p = tt
some_map P Q (Some x) next p = next x p

-- what holds anyhow holds of a refusal
pub on_refusal : {T E P : Type 0} (r : Result T E) → P → OnErr r P
on_refusal (Ok x) p = tt
on_refusal (Err e) p = p

-- a worker's call on the shard of a key
pub acted : (cache : Cache) (key : List ℕ) (hands : List Hand) (at : Place) (arena : Arena) (hand after : Hand) (Does : ℕ → Arena → Hand → Hand → Type 0) → AreIdleHands cache.arenas.items hands → at.hash ≡ hash_in cache key
    → at.shard ≡ shard_in cache key → at.shard < length cache.arenas.items → arena ≡ get_or cache.arenas.items at.shard arena → hand ≡ get_or hands at.shard hand → Does at.hash arena hand after
    → ActsOnShard cache.arenas.items (shard_in cache key) (Does (hash_in cache key)) hands (set hands at.shard after)
acted cache key hands at arena hand after Does are is_hash is_shard in_range is_arena is_hand does =
    let done : Does (hash_in cache key) arena hand after = subst (λ (h : ℕ). Does h arena hand after) is_hash does in
    subst (λ (s : ℕ). ActsOnShard cache.arenas.items s (Does (hash_in cache key)) hands (set hands at.shard after)) is_shard
    (acts cache.arenas.items hands at.shard arena hand after (Does (hash_in cache key)) in_range are.count is_arena is_hand done)

-- a place that was found is one
pub no_none : {T : Type 0} (x : T) → Some x ≡ None → ⊥
no_none x is = cc

-- what isn't known to be no key is one
pub is_key : (key : List ℕ) → (¬ IsKey key → ⊥) → IsKey key
is_key key so = test (nat_le 1 (length key)) (nat_le (length key) 250) refl refl
  where
    test : (some few : Bool) → nat_le 1 (length key) ≡ some → nat_le (length key) 250 ≡ few → IsKey key
    test true true some few = (leb-true 1 (length key) some, leb-true (length key) 250 few)
    test false few none is = absurd (so (λ key_is. omega (arith, key_is.0, leb-false 1 (length key) none)))
    test true false some many = absurd (so (λ key_is. omega (arith, key_is.1, leb-false (length key) 250 many)))

-- a delete found the key, or it didn't, or it was refused
pub deleted_any : {E : Type 0} (A B C K : Type 0) (r : Result Bool E) → K → (r ≡ Ok true → A) → (r ≡ Ok false → B) → OnErr r (K → C) → A ⊎ B ⊎ C
deleted_any A B C K (Ok true) key deletes none refused = inl (deletes refl)
deleted_any A B C K (Ok false) key deletes none refused = inr (inl (none refl))
deleted_any A B C K (Err e) key deletes none refused = inr (inr (refused key))
