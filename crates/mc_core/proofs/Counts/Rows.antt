-- Rows of holdings after one is lost and one comes.
use Rattle.std.proofs.Common.{◌≡◌, ℕ, ◌+◌, ◌<◌, ◌≤◌, Bool, true, false, List, [], ◌∷◌, ◌++◌, length, cond, Some, None, refl, sym, ap, ◌∙◌, arith, subst, slice_index_or, slice_set, All, inl, inr, length-set, length-append, get_or-set_same}
use Rattle.std.specs.List.{find}
use Rattle.std.proofs.lemmas.Bool.{cases_Bool}
use Rattle.std.proofs.lemmas.List.{set-get_or}
use Rattle.std.proofs.lemmas.List.Elements.{All-set}
use Rattle.mc_pages.specs.declared.ids.ChunkId.{ChunkId}
use Rattle.mc_pages.specs.ClassState.{is_chunk}
use Rattle.mc_pages.specs.Accounted.{truth}
use Rattle.mc_pages.proofs.Chunks.{is_chunk-same}
use Rattle.mc_core.specs.declared.holding.Holding.{Holding}
use Rattle.mc_core.specs.model.Holdings.{is_of_chunk, is_fresh, without_first}
use Rattle.mc_core.specs.model.Columns.{Each, holder_count}
use Rattle.mc_core.proofs.Steps.Base.{each_row, each_set, all_lose, all_more}
use Rattle.mc_core.proofs.Counts.Holders.{holds-push, holds-lose, length-lose, length-lose-le, holders_set, nobodys}
use Rattle.mc_core.specs.run.Chunks.{most_holdings}

-- the hand has one holding more
abbrev pub rows_more : List (List Holding) → ℕ → Holding → List (List Holding)
rows_more rows hand holding = slice_set rows hand (slice_index_or rows hand [] ++ holding ∷ [])

-- the hand's first holding that passes is lost
abbrev pub rows_less : List (List Holding) → ℕ → (Holding → Bool) → List (List Holding)
rows_less rows hand test = slice_set rows hand (without_first test (slice_index_or rows hand []))

is_of_here : (chunk : ChunkId) (holding : Holding) → holding.chunk ≡ chunk → truth (is_of_chunk chunk holding) ≡ 1
is_of_here chunk holding is = ap truth (ap (λ c. is_chunk c chunk) is ∙ is_chunk-same chunk)

is_of_other : (chunk other : ChunkId) (holding : Holding) → holding.chunk ≡ chunk → is_chunk chunk other ≡ false → truth (is_of_chunk other holding) ≡ 0
is_of_other chunk other holding is isnt = ap truth (ap (λ c. is_chunk c other) is ∙ isnt)

module _ (rows : List (List Holding)) (hand : ℕ) where
  abbrev row : List Holding
  row = slice_index_or rows hand []

  -- whatever holds of each holding holds of those that stay, and of one more that has it
  pub each_less : (P : Holding → Type 0) (test : Holding → Bool) → Each P rows → Each P (rows_less rows hand test)
  each_less P test each = each_set P rows hand (without_first test row) each (all_lose P test row (each_row P rows hand each))

  pub each_more : (P : Holding → Type 0) (holding : Holding) → Each P rows → P holding → Each P (rows_more rows hand holding)
  each_more P holding each is = each_set P rows hand (row ++ holding ∷ []) each (all_more P row holding (each_row P rows hand each) is)

  -- no row grows too long
  pub most_less : (test : Holding → Bool) → hand < length rows → All (λ row. length row ≤ most_holdings) rows → All (λ row. length row ≤ most_holdings) (rows_less rows hand test)
  most_less test within most =
      let before : length row ≤ most_holdings = most hand [] within in
      let less = length-lose-le test row in
      All-set (λ (row : List Holding). length row ≤ most_holdings) rows hand (without_first test row) (omega arith) most

  pub most_more : (holding : Holding) → length row < most_holdings → All (λ row. length row ≤ most_holdings) rows → All (λ row. length row ≤ most_holdings) (rows_more rows hand holding)
  most_more holding room most = All-set (λ (row : List Holding). length row ≤ most_holdings) rows hand (row ++ holding ∷ []) (rw (length-append row (holding ∷ [])) (omega arith)) most

  module _ (within : hand < length rows) where
    holders_more : (chunk : ChunkId) (holding : Holding) → holder_count chunk (rows_more rows hand holding) ≡ holder_count chunk rows + truth (is_of_chunk chunk holding)
    holders_more chunk holding =
        let set = holders_set chunk rows hand (row ++ holding ∷ []) within in let push = holds-push chunk row holding in omega arith

    holders_less : (chunk : ChunkId) (test : Holding → Bool) (holding : Holding) → find test row ≡ Some holding → holder_count chunk (rows_less rows hand test) + truth (is_of_chunk chunk holding) ≡ holder_count chunk rows
    holders_less chunk test holding found =
        let set = holders_set chunk rows hand (without_first test row) within in let less = holds-lose chunk test row holding found in omega arith

    -- one holding more of the chunk
    pub more_here : (chunk : ChunkId) (holding : Holding) → holding.chunk ≡ chunk → holder_count chunk (rows_more rows hand holding) ≡ holder_count chunk rows + 1
    more_here chunk holding is = holders_more chunk holding ∙ ap (λ n. holder_count chunk rows + n) (is_of_here chunk holding is)

    pub more_other : (chunk other : ChunkId) (holding : Holding) → holding.chunk ≡ chunk → is_chunk chunk other ≡ false → holder_count other (rows_more rows hand holding) ≡ holder_count other rows
    more_other chunk other holding is isnt = let none = is_of_other chunk other holding is isnt in let more = holders_more other holding in omega arith

    -- one holding less of the chunk
    pub less_here : (chunk : ChunkId) (test : Holding → Bool) (holding : Holding) → find test row ≡ Some holding → holding.chunk ≡ chunk → holder_count chunk (rows_less rows hand test) + 1 ≡ holder_count chunk rows
    less_here chunk test holding found is = let one = is_of_here chunk holding is in let less = holders_less chunk test holding found in omega arith

    pub less_other : (chunk other : ChunkId) (test : Holding → Bool) (holding : Holding) → find test row ≡ Some holding → holding.chunk ≡ chunk → is_chunk chunk other ≡ false →
        holder_count other (rows_less rows hand test) ≡ holder_count other rows
    less_other chunk other test holding found is isnt = let none = is_of_other chunk other holding is isnt in let less = holders_less other test holding found in omega arith

    pub less_le : (chunk : ChunkId) (test : Holding → Bool) (holding : Holding) → find test row ≡ Some holding → holder_count chunk (rows_less rows hand test) ≤ holder_count chunk rows
    less_le chunk test holding found = let less = holders_less chunk test holding found in omega arith

    -- after one holding of a chunk is lost, none that is left of it is fresh
    pub stale_less : (test : Holding → Bool) (holding : Holding) → find test row ≡ Some holding → Each (λ other. is_fresh other ≡ true → holder_count other.chunk rows ≡ 1) rows →
        Each (λ other. other.chunk ≡ holding.chunk → is_fresh other ≡ false) (rows_less rows hand test)
    stale_less test holding found alone = λ i first inside j other there is.
        let left = slice_index_or (slice_index_or (rows_less rows hand test) i first) j other in
        elim (cases_Bool (is_fresh left)) [
          | inl fresh ↦
              let one = each_less (λ other. is_fresh other ≡ true → holder_count other.chunk rows ≡ 1) test alone i first inside j other there fresh in
              let same : holder_count left.chunk rows ≡ holder_count holding.chunk rows = ap (λ c. holder_count c rows) is in
              let less = less_here holding.chunk test holding found refl in
              absurd (nobodys holding.chunk (rows_less rows hand test) (omega arith) i first inside j other there is)
          | inr stale ↦ stale
        ]

    pub length_less : (test : Holding → Bool) → hand < length (rows_less rows hand test)
    length_less test = subst (λ n. hand < n) (sym (length-set rows hand (without_first test row))) within

    -- lost, and another of its chunk comes back
    pub swapped : (chunk : ChunkId) (test : Holding → Bool) (lost holding : Holding) → find test row ≡ Some lost → holding.chunk ≡ lost.chunk → holder_count chunk (rows_more (rows_less rows hand test) hand holding) ≡ holder_count chunk rows
    swapped chunk test lost holding found is =
        let less = holders_less chunk test lost found in
        let more = again (rows_less rows hand test) (length_less test) in
        let same : truth (is_of_chunk chunk holding) ≡ truth (is_of_chunk chunk lost) = ap (λ c. truth (is_chunk c chunk)) is in
        omega arith
      where
        again : (others : List (List Holding)) → hand < length others → holder_count chunk (rows_more others hand holding) ≡ holder_count chunk others + truth (is_of_chunk chunk holding)
        again others there =
            let set = holders_set chunk others hand (slice_index_or others hand [] ++ holding ∷ []) there in let push = holds-push chunk (slice_index_or others hand []) holding in omega arith

    pub most_swapped : (test : Holding → Bool) (lost holding : Holding) → find test row ≡ Some lost → All (λ row. length row ≤ most_holdings) rows → All (λ row. length row ≤ most_holdings) (rows_more (rows_less rows hand test) hand holding)
    most_swapped test lost holding found most =
        let before : length row ≤ most_holdings = most hand [] within in
        let shorter = length-lose test row lost found in
        let now = ap length (get_or-set_same rows hand (without_first test row) [] within) in
        most_more_of (rows_less rows hand test) (omega arith) (most_less test within most)
      where
        most_more_of : (others : List (List Holding)) → length (slice_index_or others hand []) < most_holdings → All (λ row. length row ≤ most_holdings) others → All (λ row. length row ≤ most_holdings) (rows_more others hand holding)
        most_more_of others room most = All-set (λ (row : List Holding). length row ≤ most_holdings) others hand (slice_index_or others hand [] ++ holding ∷ []) (rw (length-append (slice_index_or others hand []) (holding ∷ [])) (omega arith)) most

-- where none passes, none is lost
lose_none : (test : Holding → Bool) (row : List Holding) → find test row ≡ None → without_first test row ≡ row
lose_none test [] none = refl
lose_none test (first ∷ row) none =
    elim (test first) as (λ b. cond b (Some first) (find test row) ≡ None → cond b row (first ∷ without_first test row) ≡ first ∷ row)
    [ true ↦ λ never. absurd (cc) | false ↦ λ later. ap (λ rest. first ∷ rest) (lose_none test row later) ] none

pub less_none : (rows : List (List Holding)) (hand : ℕ) (test : Holding → Bool) → find test (slice_index_or rows hand []) ≡ None → rows_less rows hand test ≡ rows
less_none rows hand test none = ap (slice_set rows hand) (lose_none test (slice_index_or rows hand []) none) ∙ set-get_or rows hand []
