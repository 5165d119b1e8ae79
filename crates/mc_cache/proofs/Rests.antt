-- Hands that rest, and are recalled.
use Rattle.std.proofs.Common.{◌≡◌, ◌<◌, ℕ, IfSome, List, Option, Some, ap, length, set, subst}
use Rattle.mc_words.specs.declared.arena.Arena.{Arena}
use Rattle.mc_words.specs.declared.hand.Hand.{Hand}
use Rattle.mc_words.specs.hand.Arenas.{view}
use Rattle.mc_words.specs.hand.Observers.{hand_number}
use Rattle.mc_words.specs.hand.View.{View}
use Rattle.std.proofs.Common.{get_or}
use Rattle.mc_cache.specs.declared.cache.Cache.{Cache}
use Rattle.mc_cache.specs.declared.place.Place.{Place}
use Rattle.mc_cache.specs.Belonging.{hash_in, shard_in}
use Rattle.mc_cache.specs.Pairs.{ArePaired}
use Rattle.mc_cache.specs.Resting.{IsRestingHandOf, ActsWhenRecalled}
use Rattle.mc_cache.specs.Shards.{ActsOnShard}
use Rattle.mc_shard.specs.Hands.{IsIdleHandOf}
use Rattle.mc_cache.proofs.Acts.{acts}
use Rattle.mc_cache.proofs.Pairs.{pair_set}

-- an idle hand rests
pub rests : (arena : Arena) (hand : Hand) → IsIdleHandOf arena hand → IsRestingHandOf arena hand
rests arena hand idle = record {
  seated = record { same_table = idle.of_arena.same_table; setup = idle.of_arena.setup; told = ap (λ (v : View). v.made_of) idle.of_arena.lawful.is };
  ready = idle.ready;
  none = idle.none;
}

-- and a list of them
pub rests_all : (arenas : List Arena) (hands : List Hand) → ArePaired IsIdleHandOf arenas hands → ArePaired IsRestingHandOf arenas hands
rests_all arenas hands are = record { count = are.count; each = λ place arena hand within. rests (get_or arenas place arena) (get_or hands place hand) (are.each place arena hand within) }

-- what holds of what there is
pub some_of : {A : Type 0} (P : A → Type 0) (o : Option A) (a : A) → o ≡ Some a → IfSome o P → P a
some_of P o a is = subst (λ (o : Option _). IfSome o P) is

-- with an idle hand in one place all rest still
pub rests_after : (arenas : List Arena) (hands : List Hand) (shard : ℕ) (arena : Arena) (after : Hand) → shard < length arenas → arena ≡ get_or arenas shard arena → IsIdleHandOf arena after → ArePaired IsRestingHandOf arenas hands → ArePaired IsRestingHandOf arenas (set hands shard after)
rests_after arenas hands shard arena after in_range is idle are = pair_set IsRestingHandOf arenas hands shard arena after in_range is (rests arena after idle) are

-- what a hand of one shard did once it was recalled
pub acts_again : (arenas : List Arena) (hands : List Hand) (shard : ℕ) (arena : Arena) (hand again after : Hand) (Does : Arena → Hand → Hand → Type 0) → shard < length arenas → length hands ≡ length arenas → arena ≡ get_or arenas shard arena → hand ≡ get_or hands shard hand
    → view again ≡ view hand → hand_number again ≡ hand_number hand → Does arena again after → ActsOnShard arenas shard (ActsWhenRecalled Does) hands (set hands shard after)
acts_again arenas hands shard arena hand again after Does in_range count is_arena is_hand same number does =
    acts arenas hands shard arena hand after (ActsWhenRecalled Does) in_range count is_arena is_hand (record { again = again; view_is = same; number_is = number; does = does })

-- a call on the shard of a key, by a hand that was recalled
pub acted_again : (cache : Cache) (key : List ℕ) (hands : List Hand) (at : Place) (arena : Arena) (hand again after : Hand) (Does : ℕ → Arena → Hand → Hand → Type 0) → ArePaired IsRestingHandOf cache.arenas.items hands → at.hash ≡ hash_in cache key
    → at.shard ≡ shard_in cache key → at.shard < length cache.arenas.items → arena ≡ get_or cache.arenas.items at.shard arena → hand ≡ get_or hands at.shard hand → view again ≡ view hand → hand_number again ≡ hand_number hand → Does at.hash arena again after
    → ActsOnShard cache.arenas.items (shard_in cache key) (ActsWhenRecalled (Does (hash_in cache key))) hands (set hands at.shard after)
acted_again cache key hands at arena hand again after Does are is_hash is_shard in_range is_arena is_hand same number does =
    let done : Does (hash_in cache key) arena again after = subst (λ (h : ℕ). Does h arena again after) is_hash does in
    subst (λ (s : ℕ). ActsOnShard cache.arenas.items s (ActsWhenRecalled (Does (hash_in cache key))) hands (set hands at.shard after)) is_shard
    (acts cache.arenas.items hands at.shard arena hand after (ActsWhenRecalled (Does (hash_in cache key))) in_range are.count is_arena is_hand (record { again = again; view_is = same; number_is = number; does = done }))
