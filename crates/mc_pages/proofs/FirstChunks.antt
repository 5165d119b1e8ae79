-- Counts over the first chunks of a page.
use Rattle.std.proofs.Common.{◌≡◌, ℕ, ◌+◌, ◌<◌, ◌==◌, Bool, true, false, ◌&&◌, nat_lt, count_by, zero, suc, refl, sym, ap, ◌∙◌, inl, inr, arith, add-one, eq-eqb, ne_eqb, le-ltb, lt-ltb}
use Rattle.std.proofs.lemmas.Bool.{cases_lt, cases_order, false_from_ne_true}
use Rattle.std.proofs.lemmas.List.FromFn.{sum_by-map-range_with_len_more}
use Rattle.mc_pages.specs.declared.ids.ChunkId.{ChunkId}
use Rattle.mc_pages.specs.ClassState.{is_chunk}
use Rattle.mc_pages.specs.Accounted.{truth, first_chunks}

-- the chunk of a page by its number
abbrev pub chunk_of : ℕ → ℕ → ChunkId
chunk_of page index = record { page = page; index = index }

-- one chunk more
pub count_by-first_more : (p : ChunkId → Bool) (page count : ℕ) → count_by p (first_chunks page (count + 1)) ≡ count_by p (first_chunks page count) + truth (p (chunk_of page count))
count_by-first_more p page count = sum_by-map-range_with_len_more (λ chunk. truth (p chunk)) (chunk_of page) 0 count count (omega arith)

-- the same for the successor of the count
count_by-first_suc : (p : ChunkId → Bool) (page count : ℕ) → count_by p (first_chunks page (suc count)) ≡ count_by p (first_chunks page count) + truth (p (chunk_of page count))
count_by-first_suc p page count = ap (λ (n : ℕ). count_by p (first_chunks page n)) (sym (add-one count)) ∙ count_by-first_more p page count

-- a test that each of them passes counts them all
pub count_by-first_all : (p : ChunkId → Bool) (page count : ℕ) → ((index : ℕ) → index < count → p (chunk_of page index) ≡ true) → count_by p (first_chunks page count) ≡ count
count_by-first_all p page zero all = refl
count_by-first_all p page (suc count) all =
    omega (arith, count_by-first_suc p page count, ap truth (all count (omega arith)), count_by-first_all p page count (λ index h. all index (omega arith)))

-- a test that counts none of them fails at each
pub first_fails : (p : ChunkId → Bool) (page count : ℕ) → count_by p (first_chunks page count) ≡ 0 → (index : ℕ) → index < count → p (chunk_of page index) ≡ false
first_fails p page zero none index h = absurd (omega arith)
first_fails p page (suc count) none index h =
    let more = count_by-first_suc p page count in
    elim (cases_lt index count) [
      | inl below ↦ first_fails p page count (omega (arith, more, none)) index below
      | inr last ↦
          let same : index ≡ count = omega arith in
          ap (λ (n : ℕ). p (chunk_of page n)) same ∙ false_from_ne_true _ (λ e. omega (arith, more, none, ap truth e))
    ]

-- one more number lies below i + 1 than below i: i itself
pub truth-nat_lt_more : (i k : ℕ) → truth (i == k) + truth (nat_lt k i) ≡ truth (nat_lt k (i + 1))
truth-nat_lt_more i k =
    elim (cases_order i k) [
      | inl same ↦ omega (arith, ap truth (eq-eqb i k same), ap truth (le-ltb k i (omega arith)), ap truth (lt-ltb k (i + 1) (omega arith)))
      | inr apart ↦ elim apart [
        | inl below ↦ omega (arith, ap truth (ne_eqb i k (omega arith)), ap truth (le-ltb k i (omega arith)), ap truth (le-ltb k (i + 1) (omega arith)))
        | inr above ↦ omega (arith, ap truth (ne_eqb i k (omega arith)), ap truth (lt-ltb k i (omega arith)), ap truth (lt-ltb k (i + 1) (omega arith)))
      ]
    ]

-- a chunk of the page is one of its first chunks once, where it comes before their number
count-first_below : (chunk : ChunkId) (count : ℕ) → count_by (λ c. is_chunk chunk c) (first_chunks chunk.page count) ≡ truth (nat_lt chunk.index count)
count-first_below chunk zero = sym (ap truth (le-ltb chunk.index 0 (omega arith)))
count-first_below chunk (suc count) =
    let here = ap (λ b. truth (b && (chunk.index == count))) (eq-eqb chunk.page chunk.page refl) in
    let turned : truth (chunk.index == count) ≡ truth (count == chunk.index) =
    elim (cases_order chunk.index count) [
      | inl same ↦ ap truth (eq-eqb chunk.index count same) ∙ sym (ap truth (eq-eqb count chunk.index (sym same)))
      | inr apart ↦ elim apart [
        | inl below ↦ ap truth (ne_eqb chunk.index count (omega arith)) ∙ sym (ap truth (ne_eqb count chunk.index (omega arith)))
        | inr above ↦ ap truth (ne_eqb chunk.index count (omega arith)) ∙ sym (ap truth (ne_eqb count chunk.index (omega arith)))
      ]
    ] in
    let next = ap (λ (n : ℕ). truth (nat_lt chunk.index n)) (add-one count) in
    omega (arith, count_by-first_suc (λ c. is_chunk chunk c) chunk.page count, count-first_below chunk count, truth-nat_lt_more count chunk.index, here, turned, next)

-- a chunk of the page is one of its first chunks once
pub count-first_one : (chunk : ChunkId) (page count : ℕ) → chunk.page ≡ page → chunk.index < count → count_by (λ c. is_chunk chunk c) (first_chunks page count) ≡ 1
count-first_one chunk page count on within =
    ap (λ (p : ℕ). count_by (λ c. is_chunk chunk c) (first_chunks p count)) (sym on) ∙ (count-first_below chunk count ∙ ap truth (lt-ltb chunk.index count within))
