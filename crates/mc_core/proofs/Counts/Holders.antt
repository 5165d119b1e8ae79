-- How often a chunk is held, by one hand and by all.
use Rattle.std.proofs.Common.{◌≡◌, ℕ, zero, suc, ◌+◌, ◌<◌, ◌≤◌, Bool, true, false, cond, List, [], ◌∷◌, ◌++◌, length, Some, None, sym, ap, ◌∙◌, arith, subst, is_some, slice_index_or, slice_set, All, inl, inr}
use Rattle.std.specs.List.{find}
use Rattle.std.proofs.lemmas.Bool.{cases_Bool, cases_lt, both_ways}
use Rattle.std.proofs.lemmas.List.{get_or_past}
use Rattle.std.proofs.lemmas.List.Elements.{All-nil, All-cons, All-head, All-tail}
use Rattle.std.proofs.lemmas.List.Sums.{sum_by-cons, sum_by_push}
use Rattle.mc_pages.specs.declared.ids.ChunkId.{ChunkId}
use Rattle.mc_pages.specs.ClassState.{is_chunk}
use Rattle.mc_pages.specs.Accounted.{truth}
use Rattle.mc_pages.proofs.Chunks.{is_chunk-same}
use Rattle.mc_core.specs.declared.ids.Ids.{Ids}
use Rattle.mc_core.specs.declared.head.Tag.TheVariants.{Unlinked}
use Rattle.mc_core.specs.declared.holding.Holding.{Holding}
use Rattle.mc_core.specs.model.Holdings.{is_of_chunk, is_fresh, without_first, holding_of}
use Rattle.mc_core.specs.model.State.{no_ids, is_hand}
use Rattle.mc_core.specs.model.Columns.{head_in, Each, count_of_holdings, holder_count}
use Rattle.mc_core.specs.past.Past.{Moment}
use Rattle.mc_core.specs.law.Lawful.{IsLawful}

-- one more holding at the head
pub holds-cons : (chunk : ChunkId) (holding : Holding) (row : List Holding) → count_of_holdings chunk (holding ∷ row) ≡ truth (is_of_chunk chunk holding) + count_of_holdings chunk row
holds-cons chunk holding row = sum_by-cons (λ h. truth (is_of_chunk chunk h)) holding row

-- one more holding at the end
pub holds-push : (chunk : ChunkId) (row : List Holding) (holding : Holding) → count_of_holdings chunk (row ++ holding ∷ []) ≡ count_of_holdings chunk row + truth (is_of_chunk chunk holding)
holds-push chunk row holding = sum_by_push (λ h. truth (is_of_chunk chunk h)) row holding

-- the first holding that passes is lost: its chunk is held once less
pub holds-lose : (chunk : ChunkId) (test : Holding → Bool) (row : List Holding) (holding : Holding) → find test row ≡ Some holding →
    count_of_holdings chunk (without_first test row) + truth (is_of_chunk chunk holding) ≡ count_of_holdings chunk row
holds-lose chunk test [] holding found = absurd (cc)
holds-lose chunk test (first ∷ row) holding found =
    elim (test first) as (λ b. cond b (Some first) (find test row) ≡ Some holding → count_of_holdings chunk (cond b row (first ∷ without_first test row)) + truth (is_of_chunk chunk holding) ≡ count_of_holdings chunk (first ∷ row)) [
      | true ↦ λ here. let same : first ≡ holding = cc in let is : truth (is_of_chunk chunk first) ≡ truth (is_of_chunk chunk holding) = ap (λ h. truth (is_of_chunk chunk h)) same in
          omega (arith, holds-cons chunk first row)
      | false ↦ λ later. let rest = holds-lose chunk test row holding later in omega (arith, holds-cons chunk first row, holds-cons chunk first (without_first test row))
    ] found

-- the row is one shorter, or none where none passes
pub length-lose : (test : Holding → Bool) (row : List Holding) (holding : Holding) → find test row ≡ Some holding → length (without_first test row) + 1 ≡ length row
length-lose test [] holding found = absurd (cc)
length-lose test (first ∷ row) holding found =
    elim (test first) as (λ b. cond b (Some first) (find test row) ≡ Some holding → length (cond b row (first ∷ without_first test row)) + 1 ≡ length (first ∷ row)) [
      | true ↦ λ here. omega arith
      | false ↦ λ later. let rest = length-lose test row holding later in omega arith
    ] found

pub length-lose-le : (test : Holding → Bool) (row : List Holding) → length (without_first test row) ≤ length row
length-lose-le test [] = omega arith
length-lose-le test (first ∷ row) =
    let rest = length-lose-le test row in
    elim (test first) as (λ b. length (cond b row (first ∷ without_first test row)) ≤ length (first ∷ row)) [ true ↦ omega arith | false ↦ omega arith ]

-- what is found passes
pub found_passes : (test : Holding → Bool) (row : List Holding) (holding : Holding) → find test row ≡ Some holding → test holding ≡ true
found_passes test [] holding found = absurd (cc)
found_passes test (first ∷ row) holding found =
    elim (cases_Bool (test first)) [
      | inl passes ↦ let here : Some first ≡ Some holding = rw passes at found in let same : first ≡ holding = cc in ap test (sym same) ∙ passes
      | inr fails ↦ found_passes test row holding (rw fails at found)
    ]

pub holds_from_found : (chunk : ChunkId) (row : List Holding) (holding : Holding) → holding_of chunk row ≡ Some holding → 1 ≤ count_of_holdings chunk row
holds_from_found chunk row holding found =
    let passes : truth (is_of_chunk chunk holding) ≡ 1 = ap truth (found_passes (is_of_chunk chunk) row holding found) in
    omega (arith, holds-lose chunk (is_of_chunk chunk) row holding found)

-- what holds of each holding of the row holds of it
pub found_all : (P : Holding → Type 0) (test : Holding → Bool) (row : List Holding) (holding : Holding) → find test row ≡ Some holding → All P row → P holding
found_all P test [] holding found all = absurd (cc)
found_all P test (first ∷ row) holding found all =
    elim (cases_Bool (test first)) [
      | inl passes ↦ let here : Some first ≡ Some holding = rw passes at found in let same : first ≡ holding = cc in subst P same (All-head P first row all)
      | inr fails ↦ found_all P test row holding (rw fails at found) (All-tail P first row all)
    ]

some_of_none : (holding : Holding) → None ≡ Some holding → ⊥
some_of_none holding is = cc

-- a row is written
pub holders_set : (chunk : ChunkId) (rows : List (List Holding)) (hand : ℕ) (row : List Holding) → hand < length rows →
    holder_count chunk (slice_set rows hand row) + count_of_holdings chunk (slice_index_or rows hand []) ≡ holder_count chunk rows + count_of_holdings chunk row
holders_set chunk [] hand row within = absurd (omega arith)
holders_set chunk (first ∷ rows) zero row within = omega arith
holders_set chunk (first ∷ rows) (suc hand) row within = let rest = holders_set chunk rows hand row (omega arith) in omega arith

-- all hands hold the chunk as often as one of them
pub holds-le-holders : (chunk : ChunkId) (rows : List (List Holding)) (hand : ℕ) → count_of_holdings chunk (slice_index_or rows hand []) ≤ holder_count chunk rows
holds-le-holders chunk [] hand = omega arith
holds-le-holders chunk (first ∷ rows) zero = omega arith
holds-le-holders chunk (first ∷ rows) (suc hand) = let rest = holds-le-holders chunk rows hand in omega arith

-- a chunk that a hand doesn't hold, and one that nobody holds
pub not_held : (chunk : ChunkId) (row : List Holding) → count_of_holdings chunk row ≡ 0 → All (λ holding. is_of_chunk chunk holding ≡ false) row
not_held chunk [] none = All-nil (λ holding. is_of_chunk chunk holding ≡ false)
not_held chunk (first ∷ row) none =
    let sum = holds-cons chunk first row in
    let here : is_of_chunk chunk first ≡ false = elim (cases_Bool (is_of_chunk chunk first)) [
      | inl is ↦ let one : truth (is_of_chunk chunk first) ≡ 1 = ap truth is in absurd (omega arith)
      | inr isnt ↦ isnt
    ] in
    All-cons (λ holding. is_of_chunk chunk holding ≡ false) first row here (not_held chunk row (omega arith))

pub none_held : (chunk : ChunkId) (rows : List (List Holding)) → holder_count chunk rows ≡ 0 → Each (λ holding. is_of_chunk chunk holding ≡ false) rows
none_held chunk [] none = All-nil (All (λ holding. is_of_chunk chunk holding ≡ false))
none_held chunk (first ∷ rows) none =
    All-cons (All (λ holding. is_of_chunk chunk holding ≡ false)) first rows (not_held chunk first (omega arith)) (none_held chunk rows (omega arith))

-- the same with an equation
pub nobodys : (chunk : ChunkId) (rows : List (List Holding)) → holder_count chunk rows ≡ 0 → Each (λ holding. holding.chunk ≡ chunk → ⊥) rows
nobodys chunk rows none = λ hand row within place holding inside is.
    let k = none_held chunk rows none hand row within place holding inside in
    both_ways _ k (ap (λ c. is_chunk c chunk) is ∙ is_chunk-same chunk)

-- what holds of each holding holds of the first that passes
pub found_each : (P : Holding → Type 0) (rows : List (List Holding)) (hand : ℕ) (test : Holding → Bool) (holding : Holding) → find test (slice_index_or rows hand []) ≡ Some holding → Each P rows → P holding
found_each P rows hand test holding found each = elim (cases_lt hand (length rows)) [
  | inl within ↦ found_all P test (slice_index_or rows hand []) holding found (each hand [] within)
  | inr past ↦ absurd (some_of_none holding (sym (ap (find test) (get_or_past rows hand [] past)) ∙ found))
]

-- a hand that is there has a row
pub hand_within : (m : Moment) → IsLawful m → (hand : ℕ) → is_hand m.state hand ≡ true → hand < length m.state.holdings
hand_within m lawful hand there = elim (cases_lt hand (length m.state.ids)) [
  | inl within ↦ let rows = lawful.hands.holding_rows in omega arith
  | inr past ↦ absurd (both_ways _ (ap (λ (i : Ids). is_some i.number) (get_or_past m.state.ids hand no_ids past)) there)
]

-- a fresh chunk has one holder
pub fresh_once : (m : Moment) → IsLawful m → (hand : ℕ) (test : Holding → Bool) (holding : Holding) → find test (slice_index_or m.state.holdings hand []) ≡ Some holding → is_fresh holding ≡ true →
    holder_count holding.chunk m.state.holdings ≡ 1
fresh_once m lawful hand test holding found fresh =
    (found_each (λ h. is_fresh h ≡ true → ((head_in m.state.table m.state.heads h.chunk).tag ≡ Unlinked) × (holder_count h.chunk m.state.holdings ≡ 1)) m.state.holdings hand test holding found lawful.held.alone fresh).1

-- and none after it is lost
pub fresh_lost : (m : Moment) → IsLawful m → (hand : ℕ) → is_hand m.state hand ≡ true → (test : Holding → Bool) (holding : Holding) → find test (slice_index_or m.state.holdings hand []) ≡ Some holding → is_fresh holding ≡ true →
    holder_count holding.chunk (slice_set m.state.holdings hand (without_first test (slice_index_or m.state.holdings hand []))) ≡ 0
fresh_lost m lawful hand there test holding found fresh =
    let once = fresh_once m lawful hand test holding found fresh in
    let here : truth (is_of_chunk holding.chunk holding) ≡ 1 = ap truth (is_chunk-same holding.chunk) in
    let lost = holds-lose holding.chunk test (slice_index_or m.state.holdings hand []) holding found in
    let row = holders_set holding.chunk m.state.holdings hand (without_first test (slice_index_or m.state.holdings hand [])) (hand_within m lawful hand there) in
    omega arith
