-- A hand that is made changes nothing of the moment.
use Rattle.std.proofs.Common.{◌≡◌, ◌≢◌, ◌⊎◌, ℕ, zero, suc, ◌+◌, ◌-◌, ◌<◌, ◌≤◌, List, [], ◌∷◌, ◌++◌, map, length, Option, None, is_none, true, length-append, refl, sym, ap, subst, ◌∙◌, inl, inr, arith, slice_set, length-set}
use mathlib.Core.Option.{some}
use lib.ListN.{get_elem?}
use Rattle.atomic_table.specs.Table as table
use Rattle.atomic_table.proofs.Lists.{at_set, at_map}
use Rattle.std.proofs.lemmas.List.{map-set, map-append}
use mathlib.Core.Option as maybe
use Rattle.mc_core.specs.past.Past.{Moment}
use Rattle.mc_words.specs.declared.arena.Arena.{Arena}
use Rattle.mc_words.specs.declared.hand.Hand.{Hand}
use Rattle.mc_words.specs.hand.View.{Setup, View, new_view, settled_view}
use Rattle.mc_words.specs.rule.Meaning.{IsViewOf, IsRuled}
use Rattle.mc_words.specs.rule.Happens.{LawfulView}
use Rattle.mc_words.specs.rule.Joins.{IsMade, Rule, all_settled}
use Rattle.mc_words.specs.rule.Beginning.{one_made, next_view}
use Rattle.mc_words.specs.hand.Arenas.{IsHandOf, setup_of, view}
use Rattle.mc_words.specs.hand.Hands.{AreHandsFrom, IsNewHand}
use Rattle.mc_words.specs.hand.Ready.{IsReady}
use Rattle.mc_stripe.specs.StripeState.{ReadyStripe}
use Rattle.std.specs.List.{list_all, range_with_len}
use Rattle.mc_words.proofs.Rules.Settled.{settled_same, not_made}

-- one entry more at the end of a list
snoc_at : {A : Type 0} (l : List A) (last a : A) (i : ℕ) → get_elem? (l ++ last ∷ []) i ≡ some a → (get_elem? l i ≡ some a) ⊎ ((i ≡ length l) × (last ≡ a))
snoc_at [] last a zero at = inr (refl, maybe.some-injective last a at)
snoc_at [] last a (suc i) at = absurd (maybe.some-ne-none a (sym at))
snoc_at (x ∷ xs) last a zero at = inl at
snoc_at (x ∷ xs) last a (suc i) at = elim (snoc_at xs last a i at) [ inl old ↦ inl old | inr new ↦ inr ((let e = new.0 in omega arith), new.1) ]

-- the meaning of the table
ruled_splits : (setup : Setup) (id : ℕ) (v : View) → 1 ≤ v.spare → v.setup ≡ setup → table.Splits (IsRuled setup) id v (one_made v) (next_view v)
ruled_splits setup id v more of t r at =
    let m : Moment = r.moment in
    let means = r.means in
    let sum = means.made id v at more in
    let is = means.views id v at in
    let long : length (slice_set t.views id (one_made v)) ≡ length t.views = length-set t.views id (one_made v) in
    let long' : length (slice_set t.views id (one_made v) ++ next_view v ∷ []) ≡ length t.views + 1 = length-append (slice_set t.views id (one_made v)) (next_view v ∷ []) ∙ ap (λ n. n + 1) long in
    let hands : v.setup.hands ≡ setup.hands = ap (λ (s : Setup). s.hands) of in
    let number : v.setup.hands - v.spare ≡ length t.views = let e = sum.1 in omega arith in
    let made : IsViewOf setup r.run m (length t.views) (next_view v) =
    subst (λ (u : View). IsViewOf setup r.run m (length t.views) u) (λ k. new_view (sym of k) (sym number k) 0) (means.unmade (length t.views) (omega arith) (let e = sum.1 in omega arith)) in
    let kept : IsViewOf setup r.run m id (one_made v) = record {
      there = λ here. ap one_made (is.there here);
      gone = λ none. absurd (let e : v.spare ≡ 0 = ap (λ (u : View). u.spare) (is.gone none) in omega arith);
    } in
    let which : (other : ℕ) (u : View) → get_elem? (slice_set t.views id (one_made v) ++ next_view v ∷ []) other ≡ some u
    → ((other ≡ id) × (one_made v ≡ u)) ⊎ (((other ≢ id) × (get_elem? t.views other ≡ some u)) ⊎ ((other ≡ length t.views) × (next_view v ≡ u))) =
    λ other u at_u. elim (snoc_at (slice_set t.views id (one_made v)) (next_view v) u other at_u) [
      | inl old ↦ elim (at_set t.views id other (one_made v) u old) [ inl same ↦ inl same | inr differs ↦ inr (inl differs) ]
      | inr last ↦ inr (inr (last.0 ∙ long, last.1))
    ] in
    record {
      moment = m;
      run = r.run;
      cuts = r.cuts;
      lawful = r.lawful;
      reached = r.reached;
      means = record {
        same_table = means.same_table;
        hands = means.hands;
        stripes = means.stripes;
        words = means.words;
        cut = means.cut;
        homes = means.homes;
        slots = means.slots;
        views = λ other u at_u. elim (which other u at_u) [
          | inl same ↦ subst (λ (p : ℕ × View). IsViewOf setup r.run m p.0 p.1) (λ k. (sym same.0 k, same.1 k)) kept
          | inr else' ↦ elim else' [
            | inl there ↦ means.views other u there.1
            | inr last ↦ subst (λ (p : ℕ × View). IsViewOf setup r.run m p.0 p.1) (λ k. (sym last.0 k, last.1 k)) made
          ]
        ];
        most = let e = sum.1 in omega arith;
        made = λ other u at_u has. elim (which other u at_u) [
          | inl same ↦ (same.0 ∙ sum.0, (let e = sum.1 in let f : v.spare - 1 ≡ u.spare = ap (λ (x : View). x.spare) same.1 in omega arith))
          | inr else' ↦ elim else' [
            | inl there ↦ let old = means.made other u there.1 has in absurd (there.0 (old.0 ∙ sym sum.0))
            | inr last ↦ absurd (let f : 0 ≡ u.spare = ap (λ (x : View). x.spare) last.1 in omega arith)
          ]
        ];
        unmade = λ other past within. means.unmade other (omega arith) within;
      };
    }

-- and its rule
pub splits : (setup : Setup) (id : ℕ) (v : View) → 1 ≤ v.spare → v.setup ≡ setup → v.made_of ≡ None → table.Splits (Rule setup) id v (one_made v) (next_view v)
splits setup id v more of plain t rule at =
    let at_settled : get_elem? (map settled_view t.views) id ≡ some v = at_map settled_view t.views id v at ∙ ap some (settled_same v plain) in
    let left : slice_set (map settled_view t.views) id (one_made v) ≡ map settled_view (slice_set t.views id (one_made v)) =
    ap (slice_set (map settled_view t.views) id) (sym (settled_same (one_made v) plain)) ∙ sym (map-set settled_view t.views id (one_made v)) in
    let views : slice_set (map settled_view t.views) id (one_made v) ++ next_view v ∷ [] ≡ map settled_view (slice_set t.views id (one_made v) ++ next_view v ∷ []) =
    ap (λ (views : List View). views ++ next_view v ∷ []) left ∙ sym (map-append settled_view (slice_set t.views id (one_made v)) (next_view v ∷ [])) in
    record {
      ruled = subst (λ (views : List View). IsRuled setup (record { words = t.words; homes = t.homes; views = views })) views (ruled_splits setup id v more of (all_settled t) rule.ruled at_settled);
      made = λ other u at_u. elim (snoc_at (slice_set t.views id (one_made v)) (next_view v) u other at_u) [
        | inl old ↦ elim (at_set t.views id other (one_made v) u old) [
          | inl same ↦ subst IsMade same.1 (not_made (one_made v) plain)
          | inr differs ↦ rule.made other u differs.1
        ]
        | inr last ↦ subst IsMade last.1 (not_made (next_view v) refl)
      ];
    }

-- the one that made another knows what it knew
pub one_lawful : (v : View) → LawfulView v → LawfulView (one_made v)
one_lawful v was = record {
  moment = was.moment;
  hand = was.hand;
  lawful = was.lawful;
  same_table = was.same_table;
  hands = was.hands;
  stripes = was.stripes;
  there = was.there;
  run = was.run;
  reached = was.reached;
  is = ap one_made was.is;
  words = was.words;
  cuts = was.cuts;
  are = was.are;
  cut = was.cut;
}

-- a hand that did nothing may make any call
all_none : (stripes : List ℕ) → list_all is_none (map {B = Option ReadyStripe} (λ stripe. None) stripes) ≡ true
all_none [] = refl
all_none (stripe ∷ stripes) = all_none stripes

new_ready : (setup : Setup) (number spare : ℕ) → IsReady (new_view setup number spare)
new_ready setup number spare = record { unlocked = all_none (range_with_len 0 setup.config.stripes); unfilled = refl; within_limit = omega arith }

pub new_hand : (arena : Arena) (number : ℕ) (hand : Hand) → IsHandOf arena hand → view hand ≡ new_view (setup_of arena) number 0 → IsNewHand arena number hand
new_hand arena number hand of is = record { of_arena = of; new = is; ready = subst IsReady (sym is) (new_ready (setup_of arena) number 0) }

-- one hand more
pub hands_more : (arena : Arena) (number : ℕ) (hands : List Hand) (hand : Hand) → AreHandsFrom arena number hands → IsHandOf arena hand → view hand ≡ new_view (setup_of arena) (number + length hands) 0
    → AreHandsFrom arena number (hands ++ hand ∷ [])
hands_more arena number [] hand are of is = (new_hand arena number hand of (is ∙ ap (λ n. new_view (setup_of arena) n 0) (omega arith)), record {})
hands_more arena number (first ∷ hands) hand are of is =
    (are.0, hands_more arena (1 + number) hands hand are.1 of (is ∙ ap (λ n. new_view (setup_of arena) n 0) (omega arith)))

-- the first hand of a new arena, which made as many hands as come before this number, and makes the one of this number
pub one_is : (setup : Setup) (number : ℕ) → one_made (new_view setup 0 (setup.hands - number)) ≡ new_view setup 0 (setup.hands - (1 + number))
one_is setup number = ap (new_view setup 0) (omega arith)

pub next_is : (setup : Setup) (number : ℕ) → number < setup.hands → next_view (new_view setup 0 (setup.hands - number)) ≡ new_view setup number 0
next_is setup number within = ap (λ n. new_view setup n 0) (omega arith)
