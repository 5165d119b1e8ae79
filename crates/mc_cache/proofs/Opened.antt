-- The hands of a new arena, and lists to which one comes.
use Rattle.std.proofs.Common.{◌≡◌, ◌<◌, ◌+◌, ◌-◌, ◌++◌, ◌∷◌, ◌∙◌, [], ℕ, zero, suc, All, Err, List, Ok, OnOk, Result, ap, arith, get_or, length, length-append, refl, replicate, subst, sym, take}
use Rattle.std.proofs.lemmas.List.{get_or_at, take_at}
use Rattle.mc_words.specs.declared.arena.Arena.{Arena}
use Rattle.mc_words.specs.declared.hand.Hand.{Hand}
use Rattle.mc_words.specs.hand.Arenas.{IsHandOf, view}
use Rattle.mc_words.specs.hand.Hands.{AreHandsFrom, AreNewHands, IsNewHand}
use Rattle.mc_words.specs.hand.Ready.{IsReady}
use Rattle.mc_words.specs.hand.View.{Setup, View}
use Rattle.mc_shard.specs.Hands.{IsIdleHandOf, IsUnused, IsUnusedHandOf}
use Rattle.mc_cache.specs.declared.cache.Worker.{Worker}
use Rattle.mc_cache.specs.declared.opening.CacheConfig.{CacheConfig}
use Rattle.mc_cache.specs.Belonging.{HaveIdleHands, HaveUnusedHands}
use Rattle.mc_cache.specs.Opening.{IsNewShard}
use Rattle.mc_cache.specs.Shards.{AreIdleHands, AreUnusedHands, AreUnusedHandsOf}
use Rattle.mc_cache.proofs.Dealt.{each_push}

unused_in : (arena : Arena) (number : ℕ) (hands : List Hand) (place : ℕ) (hand : Hand) → AreHandsFrom arena number hands → place < length hands → IsUnusedHandOf arena (get_or hands place hand)
unused_in arena number [] place hand are in_range = absurd (omega arith)
unused_in arena number (first ∷ hands) zero hand are in_range = record {
  idle = record { of_arena = are.0.of_arena; ready = are.0.ready; none = ap (λ (v : View). v.row.holdings) are.0.new };
  unused = subst IsUnused (sym are.0.new) (record { stored = refl; number = number; calls = refl });
}
unused_in arena number (first ∷ hands) (suc place) hand are in_range = unused_in arena (1 + number) hands place hand are.1 (omega arith)

pub new_hands_are_unused : (arena : Arena) (hands : List Hand) → AreNewHands arena hands → AreUnusedHandsOf arena hands
new_hands_are_unused arena hands are = λ place hand in_range. unused_in arena 0 hands place hand are.1 in_range

pub first_is_new : (arena : Arena) (hands : List Hand) (hand : Hand) → AreNewHands arena hands → 0 < length hands → IsNewHand arena 0 (get_or hands 0 hand)
first_is_new arena [] hand are some = absurd (omega arith)
first_is_new arena (first ∷ hands) hand are some = are.1.0

-- a hand that holds what it held, stored nothing and made no call did nothing still
pub stays_unused : (arena : Arena) (hand after : Hand) → IsUnusedHandOf arena hand → IsHandOf arena after → IsReady (view after) → (view after).row.holdings ≡ (view hand).row.holdings
    → (view after).row.knows.stored ≡ (view hand).row.knows.stored → (view after).row.knows.mine ≡ (view hand).row.knows.mine → IsUnusedHandOf arena after
stays_unused arena hand after was of ready same stored calls = record {
  idle = record { of_arena = of; ready = ready; none = same ∙ was.idle.none };
  unused = record {
    stored = stored ∙ was.unused.stored;
    number = was.unused.number;
    calls = calls ∙ (was.unused.calls ∙ ap (λ (setup : Setup). record { number = was.unused.number; calls = replicate setup.config.stripes [] } ∷ []) (was.idle.of_arena.setup ∙ sym of.setup));
  };
}

-- a hand that holds what it held is idle still
pub stays_idle : (arena : Arena) (hand after : Hand) → IsIdleHandOf arena hand → IsHandOf arena after → IsReady (view after) → (view after).row.holdings ≡ (view hand).row.holdings → IsIdleHandOf arena after
stays_idle arena hand after idle of ready same = record { of_arena = of; ready = ready; none = same ∙ idle.none }

-- hands that did nothing yet are idle
pub idle_hands : (arenas : List Arena) (hands : List Hand) → AreUnusedHands arenas hands → AreIdleHands arenas hands
idle_hands arenas hands are = record { count = are.count; each = λ place arena hand in_range. (are.each place arena hand in_range).idle }

pub idle_workers : (arenas : List Arena) (workers : List Worker) → HaveUnusedHands arenas workers → HaveIdleHands arenas workers
idle_workers arenas workers have = λ place worker in_range. idle_hands arenas (get_or workers place worker).hands.items (have place worker in_range)

without_hands : (worker : Worker) → worker.hands.items ≡ [] → AreUnusedHands [] worker.hands.items
without_hands worker none = record { count = ap length none; each = λ place arena hand in_range. absurd (omega arith) }

-- one worker more, who has no hands, as there are no arenas
pub one_worker_more : (workers : List Worker) (worker : Worker) → worker.hands.items ≡ [] → HaveUnusedHands [] workers → HaveUnusedHands [] (workers ++ worker ∷ [])
one_worker_more workers worker none all = each_push (λ (w : Worker). AreUnusedHands [] w.hands.items) workers worker (without_hands worker none) all

-- the last of a list, and those before it
pub last_of : {A : Type 0} (xs : List A) (x d : A) → get_or (xs ++ x ∷ []) (length (xs ++ x ∷ []) - 1) d ≡ x
last_of xs x d = get_or_at xs x [] d (length (xs ++ x ∷ []) - 1) (let e : length xs ≡ length (xs ++ x ∷ []) - 1 = omega (arith, length-append xs (x ∷ [])) in e)

pub front_of : {A : Type 0} (xs : List A) (x : A) → take (length (xs ++ x ∷ []) - 1) (xs ++ x ∷ []) ≡ xs
front_of xs x = take_at xs (x ∷ []) (length (xs ++ x ∷ []) - 1) (let e : length xs ≡ length (xs ++ x ∷ []) - 1 = omega (arith, length-append xs (x ∷ [])) in e)

-- the hands of an arena that came last are of the last of all
pub own_last : (arenas all : List Arena) (arena : Arena) (hands : List Hand) → all ≡ arenas ++ arena ∷ [] → AreUnusedHandsOf arena hands → (last : Arena) → AreUnusedHandsOf (get_or all (length all - 1) last) hands
own_last arenas all arena hands is own last = subst (λ (a : Arena). AreUnusedHandsOf a hands) (sym (ap (λ (list : List Arena). get_or list (length list - 1) last) is ∙ last_of arenas arena last)) own

-- and who has hands of those before has hands of all but the last
pub have_front : (arenas all : List Arena) (arena : Arena) (workers : List Worker) → all ≡ arenas ++ arena ∷ [] → HaveUnusedHands arenas workers → HaveUnusedHands (take (length all - 1) all) workers
have_front arenas all arena workers is have = subst (λ (list : List Arena). HaveUnusedHands list workers) (sym (ap (λ (list : List Arena). take (length list - 1) list) is ∙ front_of arenas arena)) have

-- one shard more
pub one_arena_more : {T E : Type 0} (config : CacheConfig) (result : Result T E) (arenas all : List Arena) (arena : Arena) → all ≡ arenas ++ arena ∷ [] → IsNewShard config arena → All (IsNewShard config) arenas → OnOk result (All (IsNewShard config) all)
one_arena_more config (Ok value) arenas all arena is own none = subst (All (IsNewShard config)) (sym is) (each_push (IsNewShard config) arenas arena own none)
one_arena_more config (Err error) arenas all arena is own none = tt

pub no_arenas : (config : CacheConfig) (arenas : List Arena) → arenas ≡ [] → All (IsNewShard config) arenas
no_arenas config arenas none = λ place arena in_range. absurd (omega (arith, ap length none))
