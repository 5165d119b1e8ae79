-- Walks over the stripes of a shard: one stripe more.
use Rattle.std.proofs.Common.{◌≡◌, ◌≤◌, ◌+◌, ◌-◌, ◌%◌, ◌^◌, ◌<◌, ◌∙◌, ℕ, zero, suc, None, ap, List, [], ◌∷◌, ◌++◌, min, add-one, arith, inl, inr, Result, Ok, Err, OnErr, refl, subst, sym}
use Rattle.std.proofs.lemmas.Bool.{cases_eq}
use Rattle.std.proofs.lemmas.List.Sums.{sum_by-append}
use Rattle.mc_core.specs.run.Items.{chunk_of_key}
use Rattle.mc_words.specs.declared.arena.Arena.{Arena}
use Rattle.mc_words.specs.declared.arena.plan.Plan.{Plan}
use Rattle.mc_words.specs.declared.hand.Hand.{Hand}
use Rattle.mc_words.specs.hand.Arenas.{setup_of, view}
use Rattle.mc_words.specs.hand.View.{Setup, View}
use Rattle.mc_words.specs.rule.Happens.{LawfulView}
use Rattle.mc_words.specs.hand.Observers.{hand_number}
use Rattle.mc_words.specs.lock.Wait.{MissesStripeEachTime}
use Rattle.mc_items.specs.Clearing.{ClearsStripe, GivesBackEmpty, StopsClearing}
use Rattle.mc_items.proofs.Clears.{IsBehind, behind_both, behind_same, deletes_behind, deletes_setup, given_behind, still_empty}
use Rattle.mc_shard.specs.Walking.{CountsStripe, DoesFirst, LosesAll, MissesClearingShard, MissesCounting, StopsClearingShard, StripeCall, WalksShard, WalksUpToStripe, saturated_sum}

-- an arena has a stripe
some_stripes : (arena : Arena) → 1 ≤ (setup_of arena).config.stripes
some_stripes arena = subst (λ (p : Plan). 1 ≤ p.config.stripes) (sym arena.planned) arena.some

mod_below : (n m : ℕ) → 1 ≤ m → n % m < m
mod_below n m some = omega (arith, some)

pub one_more : (Does : StripeCall) (stripe here : ℕ) (counts : List ℕ) (view between now : View) → DoesFirst Does stripe counts view between → Does stripe here between now → DoesFirst Does (stripe + 1) (counts ++ here ∷ []) view now
one_more Does stripe here counts view between now done one =
    subst (λ (n : ℕ). DoesFirst Does n (counts ++ here ∷ []) view now) (sym (add-one stripe)) (counts, between, here, done, one, refl)

-- a count more
pub sum_more : (counts : List ℕ) (total here next : ℕ) → total ≡ saturated_sum counts → next ≡ min (total + here) (2 ^ 64 - 1) → next ≡ saturated_sum (counts ++ here ∷ [])
sum_more counts total here next was is = omega (arith, sum_by-append (λ (count : ℕ). count) counts (here ∷ []), was, is)

-- those below the next stripe were given back with no key
pub empty_more : (number stripe count : ℕ) (view now : View) → ClearsStripe number stripe count view now → ((below : ℕ) → below < stripe → GivesBackEmpty view below) → GivesBackEmpty now stripe → (below : ℕ) → below < stripe + 1 → GivesBackEmpty now below
empty_more number stripe count view now clears before own below in_range =
    elim (cases_eq below stripe) [
      | inl same ↦ subst (GivesBackEmpty now) (sym same) own
      | inr apart ↦ still_empty number stripe clears.keys view now clears.holds below apart (before below (omega (arith, in_range, apart)))
    ]

-- a clear of some stripes is behind what the hand had done
walk_behind : (number count : ℕ) (counts : List ℕ) (view now : View) → DoesFirst (ClearsStripe number) count counts view now → IsBehind view now
walk_behind number zero counts view now done = behind_same view now (ap (λ (v : View). v.events) done.1)
walk_behind number (suc stripe) counts view now (others, next, here, before, clears, is) =
    behind_both view next now (walk_behind number stripe others view next before) (deletes_behind number stripe clears.keys next now clears.holds)

-- the setup stays
walk_setup : (number count : ℕ) (counts : List ℕ) (view now : View) → DoesFirst (ClearsStripe number) count counts view now → now.setup ≡ view.setup
walk_setup number zero counts view now done = ap (λ (v : View). v.setup) done.1
walk_setup number (suc stripe) counts view now (others, next, here, before, clears, is) =
    ap (λ (v : View). v.setup) clears.holds.done.given ∙ (deletes_setup number stripe clears.keys next now clears.holds ∙ walk_setup number stripe others view next before)

-- a moment of the walk in which the hash led nowhere
record Loses (setup : Setup) (hash : ℕ) (view now : View) : Type 0 where
  last : View
  was : LawfulView last
  setup_is : last.setup ≡ setup
  behind : IsBehind view last
  ahead : IsBehind last now
  nowhere : chunk_of_key was.moment.state hash ≡ None

-- of a hash of one of these stripes
lost_by : (number count : ℕ) (counts : List ℕ) (hash : ℕ) (setup : Setup) (view now : View) → view.setup ≡ setup → hash % setup.config.stripes < count → DoesFirst (ClearsStripe number) count counts view now → Loses setup hash view now
lost_by number zero counts hash setup view now same in_range done = absurd (omega (arith, in_range))
lost_by number (suc stripe) counts hash setup view now same in_range (others, next, here, before, clears, is) =
    elim (cases_eq (hash % setup.config.stripes) stripe) [
      | inl at ↦
          let holds = clears.holds in
          let setup_next : next.setup ≡ setup = walk_setup number stripe others view next before ∙ same in
          record {
            last = holds.done.last;
            was = holds.done.gives.was;
            setup_is = deletes_setup number stripe clears.keys next now holds ∙ setup_next;
            behind = behind_both view next holds.done.last (walk_behind number stripe others view next before) holds.behind;
            ahead = given_behind number stripe clears.keys next now holds;
            nowhere = clears.gone hash (ap (λ (s : Setup). hash % s.config.stripes) setup_next ∙ at);
          }
      | inr apart ↦
          let lost = lost_by number stripe others hash setup view next same (omega (arith, in_range, apart)) before in
          record {
            last = lost.last;
            was = lost.was;
            setup_is = lost.setup_is;
            behind = lost.behind;
            ahead = behind_both lost.last next now lost.ahead (deletes_behind number stripe clears.keys next now clears.holds);
            nowhere = lost.nowhere;
          }
    ]

-- all stripes were cleared
pub all_lost : (arena : Arena) (before now : Hand) (counts : List ℕ) (number : ℕ) → (view before).setup ≡ setup_of arena → DoesFirst (ClearsStripe number) (setup_of arena).config.stripes counts (view before) (view now) → LosesAll (setup_of arena) before now
all_lost arena before now counts number same done hash =
    let some : 1 ≤ (setup_of arena).config.stripes = some_stripes arena in
    let in_range : hash % (setup_of arena).config.stripes < (setup_of arena).config.stripes = mod_below hash (setup_of arena).config.stripes some in
    let lost = lost_by number (setup_of arena).config.stripes counts hash (setup_of arena) (view before) (view now) same in_range done in
    record { last = lost.last; was = lost.was; setup_is = lost.setup_is; behind = lost.behind; ahead = lost.ahead; nowhere = lost.nowhere }

-- a walk that was stopped, from its parts
stopped_at : (Does : StripeCall) (Stops : ℕ → View → View → Type 0) (setup : Setup) (before now : Hand) (stripe : ℕ) (counts : List ℕ) (between : View) → stripe < setup.config.stripes → DoesFirst Does stripe counts (view before) between → Stops stripe between (view now) → WalksUpToStripe Does Stops setup before now
stopped_at Does Stops setup before now stripe counts between in_range each stops = record { stripe = stripe; in_range = in_range; counts = counts; between = between; each = each; stops = stops }

-- a clear that was stopped
pub stopped_clearing : (setup : Setup) (before middle now : Hand) (stripe : ℕ) (counts : List ℕ) → hand_number middle ≡ hand_number before → stripe < setup.config.stripes → DoesFirst (ClearsStripe (hand_number before)) stripe counts (view before) (view middle)
    → StopsClearing (hand_number middle) stripe (view middle) (view now) → StopsClearingShard setup before now
stopped_clearing setup before middle now stripe counts number in_range each stops =
    stopped_at (ClearsStripe (hand_number before)) (StopsClearing (hand_number before)) setup before now stripe counts (view middle) in_range each (subst (λ (n : ℕ). StopsClearing n stripe (view middle) (view now)) number stops)

-- one that missed a lock
pub missed_clearing : (setup : Setup) (tries total : ℕ) (before middle now : Hand) (stripe : ℕ) (counts : List ℕ) → stripe < setup.config.stripes → DoesFirst (ClearsStripe (hand_number before)) stripe counts (view before) (view middle)
    → MissesStripeEachTime tries stripe (view middle) (view now) → total ≡ saturated_sum counts → MissesClearingShard setup tries total before now
missed_clearing setup tries total before middle now stripe counts in_range each misses summed = record {
  walk = record { stripe = stripe; in_range = in_range; counts = counts; between = view middle; each = each; stops = misses };
  summed = summed;
}

pub missed_counting : (setup : Setup) (tries : ℕ) (before middle now : Hand) (stripe : ℕ) (counts : List ℕ) → stripe < setup.config.stripes → DoesFirst CountsStripe stripe counts (view before) (view middle)
    → MissesStripeEachTime tries stripe (view middle) (view now) → MissesCounting setup tries before now
missed_counting setup tries before middle now stripe counts in_range each misses =
    stopped_at CountsStripe (MissesStripeEachTime tries) setup before now stripe counts (view middle) in_range each misses

-- all stripes were walked over
pub walked_all : (Does : StripeCall) (setup : Setup) (stripes total : ℕ) (before now : Hand) (counts : List ℕ) → stripes ≡ setup.config.stripes → DoesFirst Does stripes counts (view before) (view now) → total ≡ saturated_sum counts → WalksShard Does setup total before now
walked_all Does setup stripes total before now counts same each summed = record { counts = counts; each = subst (λ (n : ℕ). DoesFirst Does n counts (view before) (view now)) same each; summed = summed }

-- what holds anyhow holds of a refusal
pub on_refusal : {T E P : Type 0} (r : Result T E) → P → OnErr r P
on_refusal (Ok x) p = tt
on_refusal (Err e) p = p
