-- Walks over all shards: one shard more, and the one at which a walk was stopped.
use Rattle.std.proofs.Common.{◌≡◌, ◌<◌, ◌≤◌, ◌+◌, ◌-◌, ◌^◌, ◌++◌, ◌∷◌, [], ◌∙◌, ℕ, List, arith, get_or, length, length-append, min, ap, refl, set, subst, sym, ⊎_elim}
use Rattle.std.proofs.lemmas.Bool.{cases_eq}
use Rattle.std.proofs.lemmas.List.{get_or-set_other, get_or_append_left, get_or_at}
use Rattle.mc_words.specs.declared.arena.Arena.{Arena}
use Rattle.mc_words.specs.declared.hand.Hand.{Hand}
use Rattle.mc_words.specs.hand.Arenas.{setup_of, view}
use Rattle.mc_words.specs.hand.Observers.{hand_number}
use Rattle.mc_words.specs.hand.View.{Setup, View}
use Rattle.mc_shard.specs.declared.clearing.ClearWithinError.{ClearWithinError}
use Rattle.mc_shard.specs.declared.clearing.ClearWithinError.TheVariants.{Held, NoMemory}
use Rattle.mc_shard.specs.Walking.{LosesHash, MissesClearingShard, StopsClearWithin, StopsClearingShard, saturated_sum}
use Rattle.mc_cache.specs.declared.cache.Cache.{Cache}
use Rattle.mc_cache.specs.declared.cache.Worker.{Worker}
use Rattle.mc_cache.specs.Pairs.{ArePaired}
use Rattle.mc_cache.specs.Resting.{ActsWhenRecalled, IsRestingHandOf}
use Rattle.mc_shard.specs.Hands.{IsIdleHandOf}
use Rattle.mc_cache.specs.Walking.{ClearsCache, ClearsCacheAgain, ClearsOwnShard, DoesOnFirst, LosesEachHash, ShardCall, StopsClearingWithin, WalksShards, WalksUpToShard, stopped_behind}
use Rattle.mc_shard.proofs.Walks.{sum_more}
use Rattle.mc_cache.proofs.Tendings.{at_place, still_behind, was_there}

module _ (Does : ShardCall) (arenas : List Arena) where
  -- up to a shard each was walked over, and from there on all hands are as they were
  pub record AreWalked (count : ℕ) (hands hands_now : List Hand) (counts : List ℕ) : Type 0 where
    pub first : DoesOnFirst Does count arenas hands hands_now counts
    pub left : (shard : ℕ) (hand : Hand) → count ≤ shard → get_or hands_now shard hand ≡ get_or hands shard hand

  pub none_walked : (hands : List Hand) → AreWalked 0 hands hands []
  none_walked hands = record {
    first = record { counted = refl; each = λ shard here arena hand now in_range. absurd (omega arith) };
    left = λ shard hand from. refl;
  }

  pub one_walked : (count : ℕ) (hands hands_now : List Hand) (counts : List ℕ) (here : ℕ) (arena : Arena) (hand now : Hand) → count < length arenas → count < length hands_now → arena ≡ get_or arenas count arena → hand ≡ get_or hands_now count hand
      → Does here arena hand now → AreWalked count hands hands_now counts → AreWalked (count + 1) hands (set hands_now count now) (counts ++ here ∷ [])
  one_walked count hands hands_now counts here arena hand now near in_range is_arena is_hand does h = record {
    first = record {
      counted = omega (arith, length-append counts (here ∷ []), h.first.counted);
      each = λ k n x a b less.
          ⊎_elim
          (λ (same : k ≡ count).
          let e1 : get_or (counts ++ here ∷ []) k n ≡ here = get_or_at counts here [] n k (h.first.counted ∙ sym same) in
          let e2 : get_or arenas k x ≡ arena = was_there arenas arenas count k arena x same near is_arena (λ shard e from. refl) in
          let e3 : get_or hands k a ≡ hand = was_there hands_now hands count k hand a same in_range is_hand h.left in
          let e4 : get_or (set hands_now count now) k b ≡ now = at_place hands_now count k now b same in_range in
          rw (e1, e2, e3, e4) does)
          (λ (other : k ≡ count → ⊥).
          let before : k < count = omega arith in
          let e1 : get_or (counts ++ here ∷ []) k n ≡ get_or counts k n = get_or_append_left counts (here ∷ []) n k (omega (arith, h.first.counted)) in
          let e4 : get_or (set hands_now count now) k b ≡ get_or hands_now k b = get_or-set_other hands_now count k now b other in
          rw (e1, e4) (h.first.each k n x a b before))
          (cases_eq k count);
    };
    left = λ k a from. get_or-set_other hands_now count k now a (λ (same : k ≡ count). omega arith) ∙ h.left k a (omega arith);
  }

  -- at the shard at which the walk was stopped, those before it were walked over
  pub walked_before : (count : ℕ) (hands hands_now : List Hand) (counts : List ℕ) (now : Hand) → AreWalked count hands hands_now counts → DoesOnFirst Does count arenas hands (set hands_now count now) counts
  walked_before count hands hands_now counts now h = record {
    counted = h.first.counted;
    each = λ k n x a b less.
        let e4 : get_or (set hands_now count now) k b ≡ get_or hands_now k b = get_or-set_other hands_now count k now b (λ (same : k ≡ count). omega arith) in
        rw e4 (h.first.each k n x a b less);
  }

  -- and there it was stopped
  pub stopped_there : (Stops : Arena → Hand → Hand → Type 0) (count : ℕ) (hands hands_now : List Hand) (counts : List ℕ) (arena : Arena) (hand now : Hand) → count < length arenas → count < length hands_now → arena ≡ get_or arenas count arena → hand ≡ get_or hands_now count hand
      → Stops arena hand now → AreWalked count hands hands_now counts → (x : Arena) (a b : Hand) → Stops (get_or arenas count x) (get_or hands count a) (get_or (set hands_now count now) count b)
  stopped_there Stops count hands hands_now counts arena hand now near in_range is_arena is_hand stops h x a b =
      let e2 : get_or arenas count x ≡ arena = was_there arenas arenas count count arena x refl near is_arena (λ shard e from. refl) in
      let e3 : get_or hands count a ≡ hand = was_there hands_now hands count count hand a refl in_range is_hand h.left in
      let e4 : get_or (set hands_now count now) count b ≡ now = at_place hands_now count count now b refl in_range in
      rw (e2, e3, e4) stops

-- what a recalled hand lost it lost as it lay
pub lost_again : (setup : Setup) (hash : ℕ) (before again now : Hand) → view again ≡ view before → LosesHash setup hash again now → LosesHash setup hash before now
lost_again setup hash before again now same lost = record {
  last = lost.last;
  was = lost.was;
  setup_is = lost.setup_is;
  behind = (lost.behind.0, lost.behind.1 ∙ ap (λ (v : View). v.events ++ lost.behind.0) same);
  ahead = lost.ahead;
  nowhere = lost.nowhere;
}

-- all shards were walked over
pub walked_cache : (Does : ShardCall) (arenas : List Arena) (hands hands_now : List Hand) (shards total : ℕ) (counts : List ℕ) → shards ≡ length arenas → AreWalked Does arenas shards hands hands_now counts → total ≡ saturated_sum counts
    → WalksShards Does arenas total hands hands_now
walked_cache Does arenas hands hands_now shards total counts same walked summed = record {
  counts = counts;
  each = subst (λ (n : ℕ). DoesOnFirst Does n arenas hands hands_now counts) same walked.first;
  summed = summed;
}

-- a walk that was stopped, where the hand of the shard took the place of the one before
pub stopped_walk : (Does : ShardCall) (Stops : Arena → Hand → Hand → Type 0) (arenas : List Arena) (hands hands_now : List Hand) (shard : ℕ) (counts : List ℕ) (arena : Arena) (hand now : Hand) → shard < length arenas → shard < length hands_now
    → arena ≡ get_or arenas shard arena → hand ≡ get_or hands_now shard hand → Stops arena hand now → AreWalked Does arenas shard hands hands_now counts → WalksUpToShard Does Stops arenas hands (set hands_now shard now)
stopped_walk Does Stops arenas hands hands_now shard counts arena hand now in_range near_hand is_arena is_hand stops walked = record {
  shard = shard;
  in_range = in_range;
  counts = counts;
  each = walked_before Does arenas shard hands hands_now counts now walked;
  stops = stopped_there Does arenas Stops shard hands hands_now counts arena hand now in_range near_hand is_arena is_hand stops walked;
  left = still_behind shard hands hands_now now walked.left;
}

-- so, with the sum of what was counted up to there
pub stopped_summed : (Does : ShardCall) (Stops : Arena → Hand → Hand → Type 0) (arenas : List Arena) (hands hands_now : List Hand) (shard : ℕ) (counts : List ℕ) (arena : Arena) (hand now : Hand) (here total : ℕ) → shard < length arenas → shard < length hands_now
    → arena ≡ get_or arenas shard arena → hand ≡ get_or hands_now shard hand → Stops arena hand now → AreWalked Does arenas shard hands hands_now counts → total ≡ saturated_sum (counts ++ here ∷ [])
    → (walk : WalksUpToShard Does Stops arenas hands (set hands_now shard now)) × (total ≡ saturated_sum (walk.counts ++ here ∷ []))
unfolding stopped_walk
stopped_summed Does Stops arenas hands hands_now shard counts arena hand now here total in_range near_hand is_arena is_hand stops walked summed =
    (stopped_walk Does Stops arenas hands hands_now shard counts arena hand now in_range near_hand is_arena is_hand stops walked, summed)

-- why a clear stopped, where the hand of the shard took the place of the one before
pub stops_behind : (cache : Cache) (tries count shard : ℕ) (counts : List ℕ) (error : ClearWithinError) (before middle after : Worker) (arena : Arena) (hand again now : Hand) → shard < length cache.arenas.items → shard < length middle.hands.items → arena ≡ get_or cache.arenas.items shard arena
    → hand ≡ get_or middle.hands.items shard hand → view again ≡ view hand → hand_number again ≡ hand_number hand → AreWalked (λ count. ActsWhenRecalled (ClearsOwnShard count)) cache.arenas.items shard before.hands.items middle.hands.items counts
    → count ≡ saturated_sum counts → after.hands.items ≡ set middle.hands.items shard now → StopsClearWithin (setup_of arena) tries error again now → StopsClearingWithin cache tries (stopped_behind count error) before after
stops_behind cache tries count shard counts (NoMemory refused) before middle after arena hand again now in_range near_hand is_arena is_hand same number walked summed is stops =
    let Does : ShardCall = λ count. ActsWhenRecalled (ClearsOwnShard count) in
    let Stops : Arena → Hand → Hand → Type 0 = ActsWhenRecalled (λ arena. StopsClearingShard (setup_of arena)) in
    subst (λ (hands : List Hand). WalksUpToShard Does Stops cache.arenas.items before.hands.items hands) (sym is)
    (stopped_walk Does Stops cache.arenas.items before.hands.items middle.hands.items shard counts arena hand now in_range near_hand is_arena is_hand (record { again = again; view_is = same; number_is = number; does = stops }) walked)
stops_behind cache tries count shard counts (Held here) before middle after arena hand again now in_range near_hand is_arena is_hand same number walked summed is stops =
    let Does : ShardCall = λ count. ActsWhenRecalled (ClearsOwnShard count) in
    let Stops : Arena → Hand → Hand → Type 0 = ActsWhenRecalled (λ arena. MissesClearingShard (setup_of arena) tries here) in
    let total : ℕ = min (count + here) (2 ^ 64 - 1) in
    let stopped = stopped_summed Does Stops cache.arenas.items before.hands.items middle.hands.items shard counts arena hand now here total in_range near_hand is_arena is_hand (record { again = again; view_is = same; number_is = number; does = stops }) walked (sum_more counts count here total summed refl) in
    let walk = subst (λ (hands : List Hand). (walk : WalksUpToShard Does Stops cache.arenas.items before.hands.items hands) × (total ≡ saturated_sum (walk.counts ++ here ∷ []))) (sym is) stopped in
    record { here = here; walk = walk.0; summed = walk.1 }

-- each shard lost each hash
pub lost_each : (cache : Cache) (count : ℕ) (before now : Worker) → ClearsCache cache count before now → LosesEachHash cache before now
lost_each cache count before now clears shard hash arena hand after in_range = (clears.each.each shard 0 arena hand after in_range).gone hash

pub lost_each_again : (cache : Cache) (count : ℕ) (before now : Worker) → ClearsCacheAgain cache count before now → LosesEachHash cache before now
lost_each_again cache count before now clears shard hash arena hand after in_range =
    let acts = clears.each.each shard 0 arena hand after in_range in
    lost_again (setup_of (get_or cache.arenas.items shard arena)) hash (get_or before.hands.items shard hand) acts.again (get_or now.hands.items shard after) acts.view_is (acts.does.gone hash)

-- the hand of a shard is idle, or rests
pub idle_there : (arenas : List Arena) (hands : List Hand) (shard : ℕ) (arena : Arena) (hand : Hand) → ArePaired IsIdleHandOf arenas hands → shard < length arenas → arena ≡ get_or arenas shard arena → hand ≡ get_or hands shard hand → IsIdleHandOf arena hand
idle_there arenas hands shard arena hand are in_range is_arena is_hand =
    subst (λ (p : Arena × Hand). IsIdleHandOf p.0 p.1) (λ k. (sym is_arena k, sym is_hand k)) (are.each shard arena hand in_range)

pub resting_there : (arenas : List Arena) (hands : List Hand) (shard : ℕ) (arena : Arena) (hand : Hand) → ArePaired IsRestingHandOf arenas hands → shard < length arenas → arena ≡ get_or arenas shard arena → hand ≡ get_or hands shard hand → IsRestingHandOf arena hand
resting_there arenas hands shard arena hand are in_range is_arena is_hand =
    subst (λ (p : Arena × Hand). IsRestingHandOf p.0 p.1) (λ k. (sym is_arena k, sym is_hand k)) (are.each shard arena hand in_range)
