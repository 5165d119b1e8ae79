-- A stamp is said once.
use Rattle.std.proofs.Common.{◌≡◌, ◌≢◌, ℕ, zero, suc, ◌+◌, ◌*◌, ◌/◌, ◌%◌, ◌^◌, ◌<◌, ◌≤◌, ◌==◌, ◌&&◌, true, List, [], ◌∷◌, length, refl, sym, ap, subst, ◌∙◌, inl, inr, arith, eqb-true, eq-eqb, ne_eqb, nat_le, nat_lt, slice_index_or, Some, None, Option, Contains, All}
use Rattle.std.specs.Bool.{nat_eq}
use Rattle.std.specs.Option.{option_eq}
use Rattle.std.proofs.lemmas.Bool.{cases_eq, and_parts, and_right, lt-leb}
use Rattle.std.proofs.lemmas.List.Elements.{All-head, All-tail, All-weaker}
use Rattle.std.proofs.lemmas.List.Sums.{sum_by-cons, get_or-le-sum_by}
use Rattle.mc_pages.specs.Accounted.{truth}
use Rattle.mc_core.specs.declared.ids.Ids.{Ids}
use Rattle.mc_core.specs.run.Items.{is_next_stamp, most_stamps}
use Rattle.mc_core.specs.past.Past.{with_more, Own, StoredItem, KnownItem}
use Rattle.mc_core.specs.law.Identities.{count_in_hand, stored_times, stored_count, AreCountedTo, AreNumbered}
use Rattle.mc_core.specs.law.Knowing.{WasStored}
use Rattle.mc_core.specs.model.State.{no_ids}
use Rattle.mc_core.proofs.Hands.MoreRows.{row_of, more_contains, joined_rows, joined_contains}
use Rattle.mc_core.proofs.Counts.Totals.{total_at, total_none, total_two, total_more, total_joined, said_total, owned_total}

-- what was said with a stamp counts
times_said : (row : List StoredItem) (s : StoredItem) → Contains row s → 1 ≤ stored_times s.stamp row
times_said row s (k, within, at) =
    let here : truth ((slice_index_or row k s).stamp == s.stamp) ≡ 1 = ap (λ (x : StoredItem). truth (x.stamp == s.stamp)) at ∙ ap truth (eq-eqb s.stamp s.stamp refl) in
    omega (arith, get_or-le-sum_by (λ (x : StoredItem). truth (x.stamp == s.stamp)) row k s within, here)

times-cons : (stamp : ℕ) (s : StoredItem) (row : List StoredItem) → stored_times stamp (s ∷ row) ≡ truth (s.stamp == stamp) + stored_times stamp row
times-cons stamp s row = sum_by-cons (λ (x : StoredItem). truth (x.stamp == stamp)) s row

here_counts : (stamp : ℕ) (s : StoredItem) → s.stamp ≡ stamp → truth (s.stamp == stamp) ≡ 1
here_counts stamp s e = ap truth (eq-eqb s.stamp stamp e)

times_at : (stamp : ℕ) (row : List StoredItem) (s : StoredItem) → s.stamp ≡ stamp → Contains row s → 1 ≤ stored_times stamp row
times_at stamp row s e has = subst (λ n. 1 ≤ stored_times n row) e (times_said row s has)

-- in one row
row_once : (stamp : ℕ) (row : List StoredItem) (a b : StoredItem) → stored_times stamp row ≤ 1 → Contains row a → Contains row b → a.stamp ≡ stamp → b.stamp ≡ stamp → a ≡ b
row_once stamp [] a b once (k, within, at) has_b is_a is_b = absurd (omega arith)
row_once stamp (s ∷ row) a b once (zero, within, at) (zero, within', at') is_a is_b = sym at ∙ at'
row_once stamp (s ∷ row) a b once (zero, within, at) (suc k, within', at') is_a is_b =
    let first = here_counts stamp s (ap (λ (x : StoredItem). x.stamp) at ∙ is_a) in
    let rest = times_at stamp row b is_b (k, omega arith, at') in
    absurd (omega (arith, times-cons stamp s row))
row_once stamp (s ∷ row) a b once (suc k, within, at) (zero, within', at') is_a is_b =
    let first = here_counts stamp s (ap (λ (x : StoredItem). x.stamp) at' ∙ is_b) in
    let rest = times_at stamp row a is_a (k, omega arith, at) in
    absurd (omega (arith, times-cons stamp s row))
row_once stamp (s ∷ row) a b once (suc k, within, at) (suc k', within', at') is_a is_b =
    row_once stamp row a b (omega (arith, times-cons stamp s row)) (k, omega arith, at) (k', omega arith, at') is_a is_b

-- what is said with one stamp is one
pub said_one : (said : List (List StoredItem)) (stamp : ℕ) (a b : List ℕ) → stored_count stamp said ≤ 1 → WasStored said stamp a → WasStored said stamp b → a ≡ b
said_one said stamp a b once (hand, s, has, is, words) (hand', s', has', is', words') =
    let some = times_at stamp (row_of said hand) s is has in
    let some' = times_at stamp (row_of said hand') s' is' has' in
    let all = said_total stamp said in
    elim (cases_eq hand hand') [
      | inl same ↦
          let one : Contains (row_of said hand) s' = subst (λ n. Contains (row_of said n) s') (sym same) has' in
          let most = total_at (stored_times stamp) said hand refl in
          let within_limit : stored_times stamp (row_of said hand) ≤ 1 = omega arith in
          sym words ∙ (ap (λ (x : StoredItem). x.words) (row_once stamp (row_of said hand) s s' within_limit has one is is') ∙ words')
      | inr apart ↦ absurd (omega (arith, total_two (stored_times stamp) said hand hand' refl apart))
    ]

-- more may be said
pub said_more : (said : List (List StoredItem)) (hand : ℕ) (more : List StoredItem) (stamp : ℕ) (words : List ℕ) → WasStored said stamp words → WasStored (with_more said hand more) stamp words
said_more said hand more stamp words (other, s, has, is, same) = (other, s, more_contains said hand other more s has, is, same)

pub said_joined : (said : List (List StoredItem)) (kept spent : ℕ) (stamp : ℕ) (words : List ℕ) → kept ≢ spent → kept < length said → WasStored said stamp words → WasStored (joined_rows said kept spent) stamp words
said_joined said kept spent stamp words apart within (other, s, has, is, same) =
    let there = joined_contains said kept spent other s apart within has in (there.0, s, there.1, is, same)

pub once_joined : (said : List (List StoredItem)) (kept spent stamp : ℕ) → kept ≢ spent → kept < length said → spent < length said → stored_count stamp said ≤ 1 → stored_count stamp (joined_rows said kept spent) ≤ 1
once_joined said kept spent stamp apart in_kept in_spent once =
    let before = said_total stamp said in
    let now = said_total stamp (joined_rows said kept spent) in
    let same = total_joined (λ (s : StoredItem). truth (s.stamp == stamp)) said kept spent apart in_kept in_spent in
    omega arith

-- a stamp that no saying of the row has isn't counted
pub times_none : (stamp : ℕ) (row : List StoredItem) → All (λ (s : StoredItem). s.stamp ≡ stamp → ⊥) row → stored_times stamp row ≡ 0
times_none stamp [] none = refl
times_none stamp (s ∷ row) none =
    let first : truth (s.stamp == stamp) ≡ 0 = ap truth (ne_eqb s.stamp stamp (All-head (λ (x : StoredItem). x.stamp ≡ stamp → ⊥) s row none)) in
    let rest = times_none stamp row (All-tail (λ (x : StoredItem). x.stamp ≡ stamp → ⊥) s row none) in
    omega (arith, times-cons stamp s row)

number_is : (number : Option ℕ) (n : ℕ) → option_eq nat_eq number (Some n) ≡ true → number ≡ Some n
number_is None n h = absurd (cc)
number_is (Some x) n h = ap Some (eqb-true x n h)

-- nobody said the next stamp of a hand
pub next_unsaid : (ids : List Ids) (mine : List (List Own)) (said : List (List StoredItem)) (known : List (List KnownItem)) (hand stamp : ℕ) → AreNumbered ids mine said known → is_next_stamp (slice_index_or ids hand no_ids) stamp ≡ true → stored_count stamp said ≡ 0
next_unsaid ids mine said known hand stamp are next =
    let i = slice_index_or ids hand no_ids in
    let first = and_parts (nat_lt i.stamps most_stamps && option_eq nat_eq i.number (Some (stamp / 2 ^ 48))) (stamp % 2 ^ 48 == i.stamps + 1) next in
    let front = and_parts (nat_lt i.stamps most_stamps) (option_eq nat_eq i.number (Some (stamp / 2 ^ 48))) first.0 in
    let number = number_is i.number (stamp / 2 ^ 48) front.1 in
    let count = eqb-true (stamp % 2 ^ 48) (i.stamps + 1) first.1 in
    let owned = are.own hand (stamp / 2 ^ 48) number in
    let own_row : stored_times stamp (row_of said hand) ≡ 0 = own_none i.stamps (row_of said hand) stamp (are.stamps hand (stamp / 2 ^ 48) number) count in
    let rows = λ (other : ℕ).
    elim (cases_eq other hand) as (λ _. stored_times stamp (row_of said other) ≡ 0) [
      | inl same ↦ subst (λ n. stored_times stamp (row_of said n) ≡ 0) (sym same) own_row
      | inr apart ↦ times_none stamp (row_of said other) (All-weaker (λ (s : StoredItem). count_in_hand (s.stamp / 2 ^ 48) (row_of mine other) ≡ 1) (λ (s : StoredItem). s.stamp ≡ stamp → ⊥)
          (λ s one is.
          let theirs : count_in_hand (stamp / 2 ^ 48) (row_of mine other) ≡ 1 = subst (λ n. count_in_hand (n / 2 ^ 48) (row_of mine other) ≡ 1) is one in
          let most = are.apart (stamp / 2 ^ 48) in
          let all = owned_total (stamp / 2 ^ 48) mine in
          let both = total_two (count_in_hand (stamp / 2 ^ 48)) mine other hand refl apart in
          omega arith)
          (row_of said other) (are.of_own other))
    ] in
    said_total stamp said ∙ total_none (stored_times stamp) said rows
  where
    own_none : (stamps : ℕ) (row : List StoredItem) (stamp : ℕ) → AreCountedTo stamps (stamp / 2 ^ 48) row → stamp % 2 ^ 48 ≡ stamps + 1 → stored_times stamp row ≡ 0
    own_none stamps row stamp counted count =
        let is : stamp / 2 ^ 48 * 2 ^ 48 + stamp % 2 ^ 48 ≡ stamp = omega arith in
        subst (λ n. stored_times n row ≡ 0) is
        (counted (stamp % 2 ^ 48) (omega arith) ∙ ap truth (and_right (nat_le 1 (stamp % 2 ^ 48)) (nat_le (stamp % 2 ^ 48) stamps) (lt-leb (stamp % 2 ^ 48) stamps (omega arith))))

-- a new saying
pub once_more : (said : List (List StoredItem)) (hand : ℕ) (s : StoredItem) (stamp : ℕ) → hand < length said → stored_count s.stamp said ≡ 0 → stored_count stamp said ≤ 1 → stored_count stamp (with_more said hand (s ∷ [])) ≤ 1
once_more said hand s stamp within stores_nothing once =
    let before = said_total stamp said in
    let now = said_total stamp (with_more said hand (s ∷ [])) in
    let more = total_more (λ (x : StoredItem). truth (x.stamp == stamp)) said hand (s ∷ []) within in
    let one = times-cons stamp s [] in
    elim (cases_eq s.stamp stamp) [
      | inl same ↦
          let none : stored_count stamp said ≡ 0 = subst (λ n. stored_count n said ≡ 0) same stores_nothing in
          let here = here_counts stamp s same in omega arith
      | inr apart ↦ let other : truth (s.stamp == stamp) ≡ 0 = ap truth (ne_eqb s.stamp stamp apart) in omega arith
    ]
