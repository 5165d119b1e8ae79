-- Sums over the rows of all hands.
use Rattle.std.proofs.Common.{◌≡◌, ◌≢◌, ℕ, zero, suc, ◌+◌, ◌<◌, ◌≤◌, List, [], ◌∷◌, ◌++◌, length, refl, sym, ap, arith, length-set, slice_set, sum_by}
use Rattle.std.proofs.lemmas.List.Sums.{sum_by-append}
use Rattle.mc_core.specs.past.Past.{with_more, Own, StoredItem}
use Rattle.mc_core.specs.law.Identities.{count_in_hand, count_in_hands, stored_times, stored_count}
use Rattle.mc_core.proofs.Hands.MoreRows.{row_of, row_other, joined_rows}

module _ {X : Type 0} (f : List X → ℕ) where
  -- what a row counts, summed up
  abbrev pub total : List (List X) → ℕ
  total [] = 0
  total (row ∷ rows) = f row + total rows

  pub total_set : (rows : List (List X)) (hand : ℕ) (row : List X) → hand < length rows → total (slice_set rows hand row) + f (row_of rows hand) ≡ total rows + f row
  total_set [] hand row h = absurd (omega arith)
  total_set (r ∷ rows) zero row h = omega arith
  total_set (r ∷ rows) (suc hand) row h = let rest = total_set rows hand row (omega arith) in omega arith

  pub total_none : (rows : List (List X)) → ((hand : ℕ) → f (row_of rows hand) ≡ 0) → total rows ≡ 0
  total_none [] h = refl
  total_none (row ∷ rows) h = let first = h zero in let rest = total_none rows (λ hand. h (suc hand)) in omega arith

  pub total_at : (rows : List (List X)) (hand : ℕ) → f [] ≡ 0 → f (row_of rows hand) ≤ total rows
  total_at [] hand none = omega arith
  total_at (row ∷ rows) zero none = omega arith
  total_at (row ∷ rows) (suc hand) none = let rest = total_at rows hand none in omega arith

  -- two rows together are within the sum
  pub total_two : (rows : List (List X)) (a b : ℕ) → f [] ≡ 0 → a ≢ b → f (row_of rows a) + f (row_of rows b) ≤ total rows
  total_two [] a b none apart = omega arith
  total_two (row ∷ rows) zero zero none apart = absurd (apart refl)
  total_two (row ∷ rows) zero (suc b) none apart = let rest = total_at rows b none in omega arith
  total_two (row ∷ rows) (suc a) zero none apart = let rest = total_at rows a none in omega arith
  total_two (row ∷ rows) (suc a) (suc b) none apart = let rest = total_two rows a b none (λ e. apart (ap suc e)) in omega arith

module _ {X : Type 0} (g : X → ℕ) where
  abbrev counts : List X → ℕ
  counts row = sum_by g row

  -- a row gets more
  pub total_more : (rows : List (List X)) (hand : ℕ) (more : List X) → hand < length rows → total (λ (row : List X). sum_by g row) (with_more rows hand more) ≡ total (λ (row : List X). sum_by g row) rows + sum_by g more
  total_more rows hand more within =
      let set_is = total_set counts rows hand (row_of rows hand ++ more) within in
      let parts = sum_by-append g (row_of rows hand) more in
      omega arith

  -- two rows are put together
  pub total_joined : (rows : List (List X)) (kept spent : ℕ) → kept ≢ spent → kept < length rows → spent < length rows → total (λ (row : List X). sum_by g row) (joined_rows rows kept spent) ≡ total (λ (row : List X). sum_by g row) rows
  total_joined rows kept spent apart in_kept in_spent =
      let more = with_more rows kept (row_of rows spent) in
      let added = total_more rows kept (row_of rows spent) in_kept in
      let long = length-set rows kept (row_of rows kept ++ row_of rows spent) in
      let emptied = total_set counts more spent [] (omega arith) in
      let same : sum_by g (row_of more spent) ≡ sum_by g (row_of rows spent) = ap (λ (row : List X). sum_by g row) (row_other rows kept spent (row_of rows kept ++ row_of rows spent) (λ e. apart (sym e))) in
      omega arith

-- the counts of the law are such sums
pub said_total : (stamp : ℕ) (rows : List (List StoredItem)) → stored_count stamp rows ≡ total (stored_times stamp) rows
said_total stamp [] = refl
said_total stamp (row ∷ rows) = ap (λ n. stored_times stamp row + n) (said_total stamp rows)

pub owned_total : (number : ℕ) (rows : List (List Own)) → count_in_hands number rows ≡ total (count_in_hand number) rows
owned_total number [] = refl
owned_total number (row ∷ rows) = ap (λ n. count_in_hand number row + n) (owned_total number rows)
