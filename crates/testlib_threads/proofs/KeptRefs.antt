-- What a hand keeps stays what it is, whatever its calls do.
use Rattle.std.proofs.Common.{◌≡◌, ◌≤◌, ◌<◌, ℕ, zero, suc, ◌+◌, Bool, true, List, [], ◌∷◌, ◌++◌, length, is_some, Some, All, count_by, refl, sym, ap, subst, ◌∙◌, arith, inl, inr, slice_index_or, append-nil, get_or, take, drop}
use Rattle.std.proofs.lemmas.Bool.{cases_Bool}
use Rattle.std.proofs.Math.Seq.{split_at}
use Rattle.std.proofs.lemmas.List.Elements.{All-cons, All-head, All-nil, All-push, All-tail}
use Rattle.std.proofs.lemmas.List.Sums.{sum_by-append, sum_by-cons, sum_by_push}
use Rattle.mc_pages.specs.declared.ids.ChunkId.{ChunkId}
use Rattle.mc_pages.specs.ClassState.{is_chunk}
use Rattle.mc_pages.specs.Accounted.{truth}
use Rattle.mc_pages.proofs.Chunks.{is_chunk-same}
use Rattle.mc_core.specs.declared.holding.Holding.{Holding}
use Rattle.mc_core.specs.model.Columns.{count_of_holdings}
use Rattle.mc_core.specs.model.Holdings.{holding_of, is_of_chunk, without_first}
use Rattle.mc_core.proofs.Counts.Holders.{holds-cons, holds-lose, holds-push}
use Rattle.mc_words.specs.hand.View.{View}
use Rattle.mc_words.specs.item.Refs.{KeepsHoldings, KeepsRefs, KeepsRemainingRefs}
use Rattle.mc_items.specs.declared.refs.Ref.{Ref}
use Rattle.mc_items.specs.ItemRefs.{RefersToEach, IsItemRef, item_chunk, refers_to}
use Rattle.mc_items.specs.Keeping.{HoldsLess, HoldsToo, KeepsHoldingCounts, holding_by}
use Rattle.mc_items.proofs.Rows.{chunk_found}
use Rattle.mc_items.proofs.Chains.{counts_kept, held_refs_keep_items, kept_refs_keep_items}

-- each is a reference still
refs_stay : (view now : View) (kept : List Ref) → KeepsRefs view now → All (IsItemRef view) kept → All (IsItemRef now) kept
refs_stay view now kept keeps all = λ k d below. (kept_refs_keep_items view now (slice_index_or kept k d) keeps (all k d below)).refers

-- so a call that keeps references, and holds each chunk as often, leaves what is kept
pub kept_stay : (view now : View) (kept : List Ref) → RefersToEach view kept → KeepsHoldingCounts view now → RefersToEach now kept
kept_stay view now kept are keeps = record { items = refs_stay view now kept keeps.references are.items; counts = λ chunk. keeps.counts chunk ∙ are.counts chunk }

-- and so does one that keeps the holdings
pub kept_beside : (view now : View) (kept : List Ref) → RefersToEach view kept → KeepsHoldings view now → RefersToEach now kept
kept_beside view now kept are keeps = kept_stay view now kept are (counts_kept view now keeps)

-- one reference more
pub kept_too : (view now : View) (kept : List Ref) (item : Ref) → RefersToEach view kept → KeepsRefs view now → HoldsToo (Some item) view now → IsItemRef now item → RefersToEach now (kept ++ item ∷ [])
kept_too view now kept item are keeps too is = record {
  items = All-push (IsItemRef now) kept item (refs_stay view now kept keeps are.items) is;
  counts = λ chunk. ap (count_of_holdings chunk) too ∙ (holds-push chunk view.row.holdings (holding_by now item)
      ∙ (ap (λ (n : ℕ). n + truth (refers_to chunk item)) (are.counts chunk) ∙ sym (sum_by_push (λ (r : Ref). truth (refers_to chunk r)) kept item)));
}

-- a reference in the middle counts beside the others
count_middle : (p : Ref → Bool) (front back : List Ref) (item : Ref) → count_by p (front ++ item ∷ back) ≡ count_by p (front ++ back) + truth (p item)
count_middle p front back item =
    let test = λ (r : Ref). truth (p r) in
    let whole = sum_by-append test front (item ∷ back) in
    let one = sum_by-cons test item back in
    let others = sum_by-append test front back in
    omega arith

-- what is among them counts
counted : (p : Ref → Bool) (kept : List Ref) (k : ℕ) (d : Ref) → k < length kept → p (slice_index_or kept k d) ≡ true → 1 ≤ count_by p kept
counted p [] k d below passes = absurd (omega arith)
counted p (first ∷ kept) zero d below passes =
    let one : truth (p first) ≡ 1 = ap truth passes in
    let sum = sum_by-cons (λ (r : Ref). truth (p r)) first kept in
    omega arith
counted p (first ∷ kept) (suc k) d below passes =
    let rest = counted p kept k d (omega arith) passes in
    let sum = sum_by-cons (λ (r : Ref). truth (p r)) first kept in
    omega arith

-- a chunk that is held is found
found_held : (chunk : ChunkId) (row : List Holding) → 1 ≤ count_of_holdings chunk row → is_some (holding_of chunk row) ≡ true
found_held chunk [] some = absurd (omega arith)
found_held chunk (first ∷ row) some = elim (cases_Bool (is_of_chunk chunk first)) [
  | inl is ↦ rw is refl
  | inr isnt ↦ let none : truth (is_of_chunk chunk first) ≡ 0 = ap truth isnt in
      rw isnt (found_held chunk row (let sum = holds-cons chunk first row in omega arith))
]

-- all of two parts are those of the whole less what stands between
all_apart : (P : Ref → Type 0) (front back : List Ref) (item : Ref) → All P (front ++ item ∷ back) → All P (front ++ back)
all_apart P [] back item all = All-tail P item back all
all_apart P (first ∷ front) back item all =
    All-cons P first (front ++ back) (All-head P first (front ++ item ∷ back) all) (all_apart P front back item (All-tail P first (front ++ item ∷ back) all))

-- a reference that was kept is there
there : (P : Ref → Type 0) (front back : List Ref) (item : Ref) → All P (front ++ item ∷ back) → P item
there P [] back item all = All-head P item back all
there P (first ∷ front) back item all = there P front back item (All-tail P first (front ++ item ∷ back) all)

-- one of those that are kept is given back: the others are kept still
module _ (view now : View) (front back : List Ref) (item : Ref) (are : RefersToEach view (front ++ item ∷ back)) (held : KeepsRemainingRefs view now) (less : HoldsLess item view now) where
  is_there : IsItemRef view item
  is_there = there (IsItemRef view) front back item are.items

  counts : (chunk : ChunkId) → count_of_holdings chunk now.row.holdings ≡ count_by (refers_to chunk) (front ++ back)
  counts chunk =
      let ref = is_there.reference in
      let lost = holds-lose chunk (is_of_chunk (item_chunk item)) view.row.holdings ref.holding ref.found in
      let after : count_of_holdings chunk now.row.holdings ≡ count_of_holdings chunk (without_first (is_of_chunk (item_chunk item)) view.row.holdings) = ap (count_of_holdings chunk) less in
      let same : truth (is_of_chunk chunk ref.holding) ≡ truth (refers_to chunk item) = ap (λ (c : ChunkId). truth (is_chunk c chunk)) (chunk_found (item_chunk item) view.row.holdings ref.holding ref.found) in
      let before = are.counts chunk in
      let middle = count_middle (refers_to chunk) front back item in
      omega arith

  stays : (k : ℕ) (d : Ref) → k < length (front ++ back) → IsItemRef now (slice_index_or (front ++ back) k d)
  stays k d below =
      let other = slice_index_or (front ++ back) k d in
      let some = counted (refers_to (item_chunk other)) (front ++ back) k d below (is_chunk-same (item_chunk other)) in
      let same = counts (item_chunk other) in
      (held_refs_keep_items view now other held (all_apart (IsItemRef view) front back item are.items k d below) (found_held (item_chunk other) now.row.holdings (omega arith))).refers

  pub kept_less : RefersToEach now (front ++ back)
  kept_less = record { items = stays; counts = counts }

-- references that are kept are no more than the hand holds
pub none_kept : (view : View) → RefersToEach view [] → view.row.holdings ≡ []
none_kept view are = empty view.row.holdings are.counts
  where
    empty : (row : List Holding) → ((chunk : ChunkId) → count_of_holdings chunk row ≡ 0) → row ≡ []
    empty [] none = refl
    empty (first ∷ row) none =
        let one : truth (is_of_chunk first.chunk first) ≡ 1 = ap truth (is_chunk-same first.chunk) in
        let sum = holds-cons first.chunk first row in
        let zero = none first.chunk in
        absurd (omega arith)

pub kept_none : (view : View) → view.row.holdings ≡ [] → RefersToEach view []
kept_none view none = record { items = All-nil (IsItemRef view); counts = λ chunk. ap (count_of_holdings chunk) none }

-- the last one is given back
pub last_kept : (view : View) (kept : List Ref) (item : Ref) → RefersToEach view (kept ++ item ∷ []) → IsItemRef view item
last_kept view kept item are = there (IsItemRef view) kept [] item are.items

pub kept_but_last : (view now : View) (kept : List Ref) (item : Ref) → RefersToEach view (kept ++ item ∷ []) → KeepsRemainingRefs view now → HoldsLess item view now → RefersToEach now kept
kept_but_last view now kept item are held less = subst (RefersToEach now) (append-nil kept) (kept_less view now kept [] item are held less)

-- one at a place is given back
pub kept_without : (view now : View) (kept : List Ref) (place : ℕ) (item : Ref) → place < length kept → item ≡ get_or kept place item → RefersToEach view kept → KeepsRemainingRefs view now → HoldsLess item view now → RefersToEach now (take place kept ++ drop (suc place) kept)
kept_without view now kept place item within at are held less =
    kept_less view now (take place kept) (drop (suc place) kept) item (subst (RefersToEach view) (parts kept place item within at) are) held less
  where
    parts : (kept : List Ref) (place : ℕ) (item : Ref) → place < length kept → item ≡ get_or kept place item → kept ≡ take place kept ++ item ∷ drop (suc place) kept
    parts kept place item within at = split_at kept place item within ∙ ap (λ (x : Ref). take place kept ++ x ∷ drop (suc place) kept) (sym at)
