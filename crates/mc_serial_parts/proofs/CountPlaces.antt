-- Counts by place: a place more, a page more, and a count that changes.
use Rattle.std.proofs.Common.{◌≡◌, ◌≢◌, ℕ, zero, suc, ◌+◌, ◌<◌, ◌≤◌, List, [], ◌∷◌, ◌++◌, length, refl, ap, sym, ◌∙◌, inl, inr, arith, slice_index_or, slice_set, subst, Vec, Global, Bool, true, false}
use Rattle.std.proofs.lemmas.Bool.{cases_Bool, cases_eq, cases_lt}
use Rattle.std.proofs.lemmas.Bool.Decides.{nat_tests}
use Rattle.std.proofs.lemmas.List.{map-append, map-set, get_or-map, get_or-set_same, get_or-set_other, get_or_default, get_or_past, length-map, length-set}
use Rattle.mc_pages.specs.declared.ids.ChunkId.{ChunkId}
use Rattle.mc_pages.specs.Accounted.{truth}
use Rattle.mc_pages.specs.ClassState.{is_chunk}
use Rattle.mc_pages.proofs.Chunks.{same_from_is_chunk}
use Rattle.mc_serial_parts.specs.CountsByPlace.{count_at, counts_by_page, CountAlike, IsReached}

-- ---- what is pushed holds nothing

pub push_zero : (counts : List ℕ) (at : ℕ) → slice_index_or (counts ++ 0 ∷ []) at 0 ≡ slice_index_or counts at 0
push_zero [] zero = refl
push_zero [] (suc at) = refl
push_zero (c ∷ counts) zero = refl
push_zero (c ∷ counts) (suc at) = push_zero counts at

push_empty : (rows : List (List ℕ)) (page : ℕ) → slice_index_or (rows ++ [] ∷ []) page [] ≡ slice_index_or rows page []
push_empty [] zero = refl
push_empty [] (suc page) = refl
push_empty (row ∷ rows) zero = refl
push_empty (row ∷ rows) (suc page) = push_empty rows page

pub page_pushed : (pages : List (Vec ℕ Global)) (new : Vec ℕ Global) → new.items ≡ [] → CountAlike (counts_by_page pages) (counts_by_page (pages ++ new ∷ []))
page_pushed pages new empty = λ chunk.
    ap (λ (rows : List (List ℕ)). count_at rows chunk)
    (map-append (λ (counts : Vec ℕ Global). counts.items) pages (new ∷ []) ∙ ap (λ (row : List ℕ). counts_by_page pages ++ row ∷ []) empty)
    ∙ ap (λ (row : List ℕ). slice_index_or row chunk.index 0) (push_empty (counts_by_page pages) chunk.page)

-- ---- the row of a page is written

module _ (pages : List (Vec ℕ Global)) (page : ℕ) (old new : Vec ℕ Global) (there : page < length pages) (is : old ≡ slice_index_or pages page old) where
  within : page < length (counts_by_page pages)
  within = omega (arith, there, length-map pages (λ (counts : Vec ℕ Global). counts.items))

  written : counts_by_page (slice_set pages page new) ≡ slice_set (counts_by_page pages) page new.items
  written = map-set (λ (counts : Vec ℕ Global). counts.items) pages page new

  pub row_was : slice_index_or (counts_by_page pages) page [] ≡ old.items
  row_was = get_or-map (λ (counts : Vec ℕ Global). counts.items) pages page old [] there ∙ sym (ap (λ (counts : Vec ℕ Global). counts.items) is)

  pub row_now : slice_index_or (counts_by_page (slice_set pages page new)) page [] ≡ new.items
  row_now = ap (λ (rows : List (List ℕ)). slice_index_or rows page []) written ∙ get_or-set_same (counts_by_page pages) page new.items [] within

  pub row_other : (other : ℕ) → other ≢ page → slice_index_or (counts_by_page (slice_set pages page new)) other [] ≡ slice_index_or (counts_by_page pages) other []
  row_other other apart = ap (λ (rows : List (List ℕ)). slice_index_or rows other []) written ∙ get_or-set_other (counts_by_page pages) page other new.items [] apart

  -- with the same counts
  pub alike_written : ((at : ℕ) → slice_index_or new.items at 0 ≡ slice_index_or old.items at 0) → CountAlike (counts_by_page pages) (counts_by_page (slice_set pages page new))
  alike_written same = λ chunk. elim (cases_eq chunk.page page) [
    | inl here ↦
        rw here (ap (λ (row : List ℕ). slice_index_or row chunk.index 0) row_now ∙ same chunk.index ∙ sym (ap (λ (row : List ℕ). slice_index_or row chunk.index 0) row_was))
    | inr apart ↦ ap (λ (row : List ℕ). slice_index_or row chunk.index 0) (row_other chunk.page apart)
  ]

  pub reached : (index : ℕ) → index < length new.items → IsReached (counts_by_page (slice_set pages page new)) (record { page = page; index = index })
  reached index inside = record {
    page = omega (arith, there, length-map (slice_set pages page new) (λ (counts : Vec ℕ Global). counts.items), length-set pages page new);
    index = rw row_now inside;
  }

-- ---- one count is written

module _ (pages : List (Vec ℕ Global)) (chunk : ChunkId) (old new : Vec ℕ Global) (n : ℕ) (there : IsReached (counts_by_page pages) chunk)
    (is : old ≡ slice_index_or pages chunk.page old) (set : new.items ≡ slice_set old.items chunk.index n) where
  page_there : chunk.page < length pages
  page_there = omega (arith, there.page, length-map pages (λ (counts : Vec ℕ Global). counts.items))

  index_there : chunk.index < length old.items
  index_there = rw (← row_was pages chunk.page old new page_there is) there.index

  pub count_written : count_at (counts_by_page (slice_set pages chunk.page new)) chunk ≡ n
  count_written =
      ap (λ (row : List ℕ). slice_index_or row chunk.index 0) (row_now pages chunk.page old new page_there is ∙ set)
      ∙ get_or-set_same old.items chunk.index n 0 index_there

  pub count_other : (other : ChunkId) → is_chunk chunk other ≡ false → count_at (counts_by_page (slice_set pages chunk.page new)) other ≡ count_at (counts_by_page pages) other
  count_other other apart = elim (cases_eq other.page chunk.page) [
    | inl here ↦ elim (cases_eq other.index chunk.index) [
      | inl same ↦ let bad : is_chunk chunk other ≡ true = grind (arith, nat_tests, here, same) in absurd (true_false bad apart)
      | inr away ↦
          rw here (ap (λ (row : List ℕ). slice_index_or row other.index 0) (row_now pages chunk.page old new page_there is ∙ set)
          ∙ get_or-set_other old.items chunk.index other.index n 0 away
          ∙ sym (ap (λ (row : List ℕ). slice_index_or row other.index 0) (row_was pages chunk.page old new page_there is)))
    ]
    | inr away ↦ ap (λ (row : List ℕ). slice_index_or row other.index 0) (row_other pages chunk.page old new page_there is other.page away)
  ]
    where
      true_false : {b : Bool} → b ≡ true → b ≡ false → ⊥
      true_false is not_so = cc

  -- the count that was there
  pub count_was : (x : ℕ) → x ≡ slice_index_or old.items chunk.index x → x ≡ count_at (counts_by_page pages) chunk
  count_was x read =
      read ∙ get_or_default old.items chunk.index x 0 index_there
      ∙ sym (ap (λ (row : List ℕ). slice_index_or row chunk.index 0) (row_was pages chunk.page old new page_there is))

-- one more, or one less
module _ (before now : List (List ℕ)) (chunk : ChunkId) (other_same : (other : ChunkId) → is_chunk chunk other ≡ false → count_at now other ≡ count_at before other) where
  pub counted_more : count_at now chunk ≡ count_at before chunk + 1 → (other : ChunkId) → count_at now other ≡ count_at before other + truth (is_chunk chunk other)
  counted_more more other = elim (cases_Bool (is_chunk chunk other)) [
    | inl same ↦ let here : chunk ≡ other = same_from_is_chunk chunk other same in rw same (subst (λ (c : ChunkId). count_at now c ≡ count_at before c + 1) here more)
    | inr apart ↦ rw apart (omega (arith, other_same other apart))
  ]

  pub counted_less : count_at now chunk + 1 ≡ count_at before chunk → (other : ChunkId) → count_at now other + truth (is_chunk chunk other) ≡ count_at before other
  counted_less less other = elim (cases_Bool (is_chunk chunk other)) [
    | inl same ↦ let here : chunk ≡ other = same_from_is_chunk chunk other same in rw same (subst (λ (c : ChunkId). count_at now c + 1 ≡ count_at before c) here less)
    | inr apart ↦ rw apart (omega (arith, other_same other apart))
  ]

-- where a count not_so 0 there is a place
pub reached_from_some : (rows : List (List ℕ)) (chunk : ChunkId) → 1 ≤ count_at rows chunk → IsReached rows chunk
reached_from_some rows chunk some = record {
  page = elim (cases_lt chunk.page (length rows)) [
    | inl inside ↦ inside
    | inr past ↦ let bad : 1 ≤ count_at rows chunk = some in absurd (none_past past bad)
  ];
  index = elim (cases_lt chunk.index (length (slice_index_or rows chunk.page []))) [
    | inl inside ↦ inside
    | inr past ↦ absurd (omega (arith, some, get_or_past (slice_index_or rows chunk.page []) chunk.index 0 past))
  ];
}
  where
    none_past : length rows ≤ chunk.page → 1 ≤ count_at rows chunk → ⊥
    none_past past bad =
        let row : slice_index_or rows chunk.page [] ≡ [] = get_or_past rows chunk.page [] past in
        let zero : 1 ≤ slice_index_or [] chunk.index 0 = rw row at bad in omega (arith, zero)
