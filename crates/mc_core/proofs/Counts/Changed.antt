-- Rows of holdings in which some holdings of one hand are changed, and keep their places.
use Rattle.std.proofs.Common.{◌≡◌, ℕ, ◌<◌, ◌≤◌, Bool, true, false, cond, List, [], ◌∷◌, length, find, Some, refl, sym, ap, subst, arith, slice_index_or, slice_set, All, get_or-set_same}
use Rattle.std.proofs.lemmas.Bool.{both_ways}
use Rattle.std.proofs.lemmas.List.{length-map, set-set}
use Rattle.std.proofs.lemmas.List.Elements.{All-nil, All-cons, All-head, All-tail, All-set, All-weaker}
use Rattle.mc_pages.specs.declared.ids.ChunkId.{ChunkId}
use Rattle.mc_pages.specs.ClassState.{is_chunk}
use Rattle.mc_pages.specs.Accounted.{truth}
use Rattle.mc_core.specs.declared.holding.Holding.{Holding}
use Rattle.mc_core.specs.model.Holdings.{is_of_chunk, holding_of, change_each, without_first}
use Rattle.mc_core.specs.model.Columns.{Each, count_of_holdings, holder_count}
use Rattle.mc_core.proofs.Steps.Base.{each_row, each_set}
use Rattle.mc_core.proofs.Counts.Holders.{holds-cons, holders_set, not_held}
use Rattle.mc_core.proofs.Counts.Rows.{rows_less}
use Rattle.mc_core.specs.run.Chunks.{most_holdings}

-- the hand's holdings that pass the test are changed
abbrev pub rows_changed : List (List Holding) → ℕ → (Holding → Bool) → (Holding → Holding) → List (List Holding)
rows_changed rows hand test change = slice_set rows hand (change_each test change (slice_index_or rows hand []))

module _ (test : Holding → Bool) (change : Holding → Holding) where
  -- what becomes of one holding
  abbrev changed : Holding → Holding
  changed holding = cond (test holding) (change holding) holding

  by_test : (Q : Holding → Type 0) (holding : Holding) → (test holding ≡ true → Q (change holding)) → (test holding ≡ false → Q holding) → Q (changed holding)
  by_test Q holding passes fails = elim (test holding) as (λ b. test holding ≡ b → Q (cond b (change holding) holding)) [ true ↦ passes | false ↦ fails ] refl

  pub all_changed : (P Q : Holding → Type 0) → ((holding : Holding) → test holding ≡ true → P holding → Q (change holding)) → ((holding : Holding) → test holding ≡ false → P holding → Q holding) →
      (row : List Holding) → All P row → All Q (change_each test change row)
  all_changed P Q passes fails [] all = All-nil Q
  all_changed P Q passes fails (first ∷ row) all =
      let p = All-head P first row all in
      All-cons Q (changed first) (change_each test change row) (by_test Q first (λ is. passes first is p) (λ isnt. fails first isnt p)) (all_changed P Q passes fails row (All-tail P first row all))

  -- each chunk is held as often as before
  holds_changed : ((holding : Holding) → (change holding).chunk ≡ holding.chunk) → (chunk : ChunkId) (row : List Holding) → count_of_holdings chunk (change_each test change row) ≡ count_of_holdings chunk row
  holds_changed same chunk [] = refl
  holds_changed same chunk (first ∷ row) =
      let rest = holds_changed same chunk row in
      let here : truth (is_of_chunk chunk (changed first)) ≡ truth (is_of_chunk chunk first) =
      by_test (λ h. truth (is_of_chunk chunk h) ≡ truth (is_of_chunk chunk first)) first (λ _. ap (λ c. truth (is_chunk c chunk)) (same first)) (λ _. refl) in
      omega (arith, holds-cons chunk first row, holds-cons chunk (changed first) (change_each test change row))

  module _ (rows : List (List Holding)) (hand : ℕ) where
    abbrev row_of_hand : List Holding
    row_of_hand = slice_index_or rows hand []

    pub holders_changed : hand < length rows → ((holding : Holding) → (change holding).chunk ≡ holding.chunk) → (chunk : ChunkId) → holder_count chunk (rows_changed rows hand test change) ≡ holder_count chunk rows
    holders_changed within same chunk =
        let set = holders_set chunk rows hand (change_each test change row_of_hand) within in let as_often = holds_changed same chunk row_of_hand in omega arith

    pub most_changed : hand < length rows → All (λ row. length row ≤ most_holdings) rows → All (λ row. length row ≤ most_holdings) (rows_changed rows hand test change)
    most_changed within most =
        let before : length row_of_hand ≤ most_holdings = most hand [] within in
        let long : length (change_each test change row_of_hand) ≡ length row_of_hand = length-map row_of_hand changed in
        All-set (λ (row : List Holding). length row ≤ most_holdings) rows hand (change_each test change row_of_hand) (omega arith) most

    -- whatever holds of each holding holds of those that are changed, if the change keeps it
    pub each_changed : (P Q : Holding → Type 0) → ((holding : Holding) → P holding → Q holding) → ((holding : Holding) → test holding ≡ true → P holding → Q (change holding)) → Each P rows → Each Q (rows_changed rows hand test change)
    each_changed P Q stays passes each =
        each_set Q rows hand (change_each test change row_of_hand) (All-weaker (All P) (All Q) (λ row. All-weaker P Q stays row) rows each)
        (all_changed P Q passes (λ holding _. stays holding) row_of_hand (each_row P rows hand each))

-- where the chunk is held once, its one holding is changed and all others are as they were
pub all_changed_once : (Q : Holding → Type 0) (chunk : ChunkId) (change : Holding → Holding) (row : List Holding) (holding : Holding) → holding_of chunk row ≡ Some holding → count_of_holdings chunk row ≤ 1 →
    All Q (without_first (is_of_chunk chunk) row) → Q (change holding) → All Q (change_each (is_of_chunk chunk) change row)
all_changed_once Q chunk change [] holding found once left is = absurd (cc)
all_changed_once Q chunk change (first ∷ row) holding found once left is =
    let sum = holds-cons chunk first row in
    elim (is_of_chunk chunk first) as (λ b. is_of_chunk chunk first ≡ b → cond b (Some first) (find (is_of_chunk chunk) row) ≡ Some holding → All Q (cond b row (first ∷ without_first (is_of_chunk chunk) row)) →
    All Q (cond b (change first) first ∷ change_each (is_of_chunk chunk) change row)) [
      | true ↦ λ here found left.
          let same : first ≡ holding = cc in
          let one : truth (is_of_chunk chunk first) ≡ 1 = ap truth here in
          let none : count_of_holdings chunk row ≡ 0 = omega arith in
          All-cons Q (change first) (change_each (is_of_chunk chunk) change row) (subst (λ h. Q (change h)) (sym same) is)
          (all_changed (is_of_chunk chunk) change (λ h. (is_of_chunk chunk h ≡ false) × Q h) Q (λ h passes both. absurd (both_ways (is_of_chunk chunk h) both.0 passes)) (λ h _ both. both.1) row
          (λ i x inside. (not_held chunk row none i x inside, left i x inside)))
      | false ↦ λ elsewhere found left.
          All-cons Q first (change_each (is_of_chunk chunk) change row) (All-head Q first (without_first (is_of_chunk chunk) row) left)
          (all_changed_once Q chunk change row holding found (omega arith) (All-tail Q first (without_first (is_of_chunk chunk) row) left) is)
    ] refl found left

module _ (rows : List (List Holding)) (hand : ℕ) (chunk : ChunkId) (change : Holding → Holding) where
  -- the same of the rows of all hands
  pub each_changed_once : (Q : Holding → Type 0) (holding : Holding) → holding_of chunk (slice_index_or rows hand []) ≡ Some holding → count_of_holdings chunk (slice_index_or rows hand []) ≤ 1 → hand < length rows →
      Each Q (rows_less rows hand (is_of_chunk chunk)) → Q (change holding) → Each Q (rows_changed rows hand (is_of_chunk chunk) change)
  each_changed_once Q holding found once within left is =
      let row = slice_index_or rows hand [] in
      let less = without_first (is_of_chunk chunk) row in
      let now = change_each (is_of_chunk chunk) change row in
      let mine : All Q less = subst (All Q) (get_or-set_same rows hand less [] within) (each_row Q (rows_less rows hand (is_of_chunk chunk)) hand left) in
      subst (Each Q) (set-set rows hand less now) (each_set Q (rows_less rows hand (is_of_chunk chunk)) hand now left (all_changed_once Q chunk change row holding found once mine is))
