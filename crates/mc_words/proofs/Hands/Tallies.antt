-- Tallies through steps: most leave them, a pop adds a fresh chunk, a discard takes one.
use Rattle.std.proofs.Common.{◌≡◌, ℕ, suc, ◌+◌, ◌≤◌, Bool, true, false, List, [], ◌∷◌, ◌++◌, length, Option, Some, refl, sym, ap, ap₂, ◌∙◌, inl, inr, arith, nat_lt, ◌||◌, zero-add, lt-ltb, if◌then◌else◌}
use Rattle.std.proofs.lemmas.Bool.{cases_Bool}
use Rattle.mc_pages.specs.declared.ids.ChunkId.{ChunkId}
use Rattle.mc_pages.specs.Accounted.{truth}
use Rattle.mc_core.specs.declared.holding.Holding.{Holding}
use Rattle.mc_core.specs.declared.holding.Kind.{Kind}
use Rattle.mc_core.specs.declared.holding.Kind.TheVariants.{Reference, Fresh}
use Rattle.mc_core.specs.declared.ids.Ids.{Ids}
use Rattle.mc_core.specs.run.Chunks.{holding_with_word, filled_kind}
use Rattle.mc_core.specs.model.Holdings.{change_each, has_fresh, holding_of, is_fresh, is_fresh_kind, is_of_chunk, without_first}
use Rattle.mc_words.specs.hand.Tallies.{fresh_count, IsTallied}
use Rattle.mc_words.specs.rule.Told.{Sits}

-- a step that leaves the hand's stamps and chunks
pub tallied_same : (me now : Sits) (stamps fresh : ℕ) → IsTallied me stamps fresh → now.0.row.ids ≡ me.0.row.ids → now.0.row.holdings ≡ me.0.row.holdings → IsTallied now stamps fresh
tallied_same me now stamps fresh (given, fills) ids holdings = (given ∙ ap (λ (i : Ids). i.stamps) (sym ids), fills ∙ ap fresh_count (sym holdings))

-- one that changes how many chunks it fills
pub tallied_fresh : (me now : Sits) (stamps fresh fresh' : ℕ) → IsTallied me stamps fresh → now.0.row.ids ≡ me.0.row.ids → fresh' ≡ fresh_count now.0.row.holdings → IsTallied now stamps fresh'
tallied_fresh me now stamps fresh fresh' (given, fills) ids count = (given ∙ ap (λ (i : Ids). i.stamps) (sym ids), count)

-- a holding more
pub fresh_more : (holdings : List Holding) (holding : Holding) → fresh_count (holdings ++ holding ∷ []) ≡ fresh_count holdings + truth (is_fresh holding)
fresh_more [] holding = omega arith
fresh_more (first ∷ holdings) holding = let more = fresh_more holdings holding in omega arith

-- one less
pub fresh_less : (chunk : ChunkId) (holdings : List Holding) (holding : Holding) → holding_of chunk holdings ≡ Some holding → fresh_count (without_first (is_of_chunk chunk) holdings) + truth (is_fresh holding) ≡ fresh_count holdings
fresh_less chunk [] holding found = absurd (cc)
fresh_less chunk (first ∷ more) holding found = elim (cases_Bool (is_of_chunk chunk first)) [
  | inl is ↦
      let same : Some first ≡ Some holding = ap (λ (b : Bool). if b then Some first else holding_of chunk more) (sym is) ∙ found in
      let first_is : truth (is_fresh first) ≡ truth (is_fresh holding) = ap (λ (o : Option Holding). truth (Rattle.std.specs.Option.option_map_or is_fresh o false)) same in
      let left = ap (λ (b : Bool). fresh_count (if b then more else first ∷ without_first (is_of_chunk chunk) more)) is in
      omega arith
  | inr isnt ↦
      let rest = fresh_less chunk more holding (ap (λ (b : Bool). if b then Some first else holding_of chunk more) (sym isnt) ∙ found) in
      let left = ap (λ (b : Bool). fresh_count (if b then more else first ∷ without_first (is_of_chunk chunk) more)) isnt in
      omega arith
]

filled_is : (kind : Kind) (place word : ℕ) → is_fresh_kind (filled_kind place word kind) ≡ is_fresh_kind kind
filled_is (Reference item) place word = refl
filled_is (Fresh purpose words) place word = refl

-- filling leaves it
pub fresh_filled : (chunk : ChunkId) (place word : ℕ) (holdings : List Holding) → fresh_count (change_each (is_of_chunk chunk) (holding_with_word place word) holdings) ≡ fresh_count holdings
fresh_filled chunk place word [] = refl
fresh_filled chunk place word (first ∷ holdings) = ap₂ (λ (a b : ℕ). a + b) (by (is_of_chunk chunk first)) (fresh_filled chunk place word holdings)
  where
    by : (b : Bool) → truth (is_fresh (if b then holding_with_word place word first else first)) ≡ truth (is_fresh first)
    by true = ap truth (filled_is first.kind place word)
    by false = refl

-- the hand fills a chunk where its tally isn't 0
pub fresh_any : (holdings : List Holding) → nat_lt 0 (fresh_count holdings) ≡ has_fresh holdings
fresh_any [] = refl
fresh_any (first ∷ holdings) = by (is_fresh first) (fresh_count holdings) (has_fresh holdings) (fresh_any holdings)
  where
    by : (b : Bool) (count : ℕ) (any : Bool) → nat_lt 0 count ≡ any → nat_lt 0 (truth b + count) ≡ (b || any)
    by true count any same = lt-ltb 0 (1 + count) (omega arith)
    by false count any same = ap (nat_lt 0) (zero-add count) ∙ same

-- it fills at most the chunks that it holds
pub fresh_most : (holdings : List Holding) → fresh_count holdings ≤ length holdings
fresh_most [] = omega arith
fresh_most (first ∷ holdings) = let rest = fresh_most holdings in by (is_fresh first) rest
  where
    by : (b : Bool) → fresh_count holdings ≤ length holdings → truth b + fresh_count holdings ≤ suc (length holdings)
    by true rest = omega arith
    by false rest = omega arith
