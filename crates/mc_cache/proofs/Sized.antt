-- The smallest cache of a size is accepted.
use Rattle.std.proofs.Common.{Bool, Option, Some, None, cond, not, leb, ltb, ◌≡◌, ◌*◌, ◌/◌, ◌<◌, ◌≤◌, ◌∙◌, ℕ, true, ap, arith, refl, subst, sym, ◌⊎◌, ⊎_elim}
use Rattle.std.proofs.Math.Nat.{div-le_of_le-mul, div-le_self, le-max_right, max-le}
use Rattle.std.proofs.lemmas.Nat.{le-div}
use Rattle.std.proofs.lemmas.Bool.{and_from, cond-false, cond-true, le-leb, le-ltb, lt-ltb, cases_lt}
use Rattle.std.specs.Option.{option_map}
use Rattle.mc_classes.specs.declared.config.Config.{Config}
use Rattle.mc_classes.specs.declared.config.ConfigError.{ConfigError}
use Rattle.mc_classes.specs.Refusals.{config_refusal, first_size, is_below_max, is_between, rounded_up}
use Rattle.mc_cache.specs.declared.opening.CacheConfig.{CacheConfig}
use Rattle.mc_cache.specs.declared.opening.NewError.TheVariants as refused
use Rattle.mc_cache.specs.Opening.{cache_refusal}
use Rattle.mc_cache.specs.Sizing.{FillsBytes, IsSized, doubled_factor, filled_bytes, sized_arena, sized_cache, sized_chunks, sized_first, sized_stripes, usual_page_chunks}

-- a test that is passed leaves the others
passes : {E : Type 0} (test : Bool) (error : E) (rest : Option E) → test ≡ true → rest ≡ None → cond (not test) (Some error) rest ≡ None
passes test error rest same none = cond-false (not test) (Some error) rest (ap not same) ∙ none

between : (low high n : ℕ) → low ≤ n → n ≤ high → is_between low high n ≡ true
between low high n above below = and_from (leb low n) (leb n high) (le-leb low n above) (le-leb n high below)

-- the factor is above 1, and small
factor_within : (first : ℕ) → (3 ≤ doubled_factor first) × (doubled_factor first ≤ 8)
factor_within first =
    ⊎_elim
    (λ (below : first < 4096).
    let same : doubled_factor first ≡ 8 = cond-true (ltb first 4096) 8 3 (lt-ltb first 4096 below) in
    (omega (arith, same), omega (arith, same)))
    (λ (above : 4096 ≤ first).
    let same : doubled_factor first ≡ 3 = cond-false (ltb first 4096) 8 3 (le-ltb first 4096 above) in
    (omega (arith, same), omega (arith, same)))
    (cases_lt first 4096)

-- a page has no more than 256 chunks of the first class
chunks_within : (config : Config) → config.page ≡ 16384 → config.max ≡ 16384 → 64 ≤ config.first → config.page / first_size config ≤ 256
chunks_within config page max some =
    ⊎_elim
    (λ (below : config.first * config.num < config.max * config.den).
    let size : first_size config ≡ rounded_up config.first = cond-true (is_below_max config config.first) (rounded_up config.first) config.max (lt-ltb _ _ below) in
    div-le_of_le-mul (first_size config) (within (first_size config) (omega (arith, size, some))))
    (λ (above : config.max * config.den ≤ config.first * config.num).
    let size : first_size config ≡ config.max = cond-false (is_below_max config config.first) (rounded_up config.first) config.max (le-ltb _ _ above) in
    div-le_of_le-mul (first_size config) (within (first_size config) (omega (arith, size, max))))
    (cases_lt (config.first * config.num) (config.max * config.den))
  where
    within : (size : ℕ) → 64 ≤ size → config.page ≤ size * 256
    within size enough = omega (arith, page, enough)

-- the first class is within a page
first_within : (item : ℕ) → (64 ≤ sized_first item) × (sized_first item ≤ 16384)
first_within item =
    let size : ℕ = 16384 / usual_page_chunks item in
    let whole : size ≤ 16384 = div-le_self 16384 (usual_page_chunks item) in
    (le-max_right (size / 8 * 8) 64, max-le (omega (arith, whole)) (omega arith))

-- the arena with one page of a size has one stripe
stripes_within : (item : ℕ) → (1 ≤ sized_stripes (sized_chunks item (16384 * 1))) × (sized_stripes (sized_chunks item (16384 * 1)) ≤ 64)
stripes_within item =
    let range = first_within item in
    let chunks : ℕ = 16384 / sized_first item in
    let some : 1 ≤ chunks = le-div 1 16384 (sized_first item) (omega (arith, range.0)) (omega (arith, range.1)) in
    let few : chunks ≤ 256 = div-le_of_le-mul (sized_first item) (omega (arith, range.0)) in
    (omega (arith, some), omega (arith, few))

-- the arena with one page of a size is accepted
arena_passes : (item : ℕ) → config_refusal (sized_arena item (16384 * 1)) ≡ None
arena_passes item =
    let range = first_within item in
    let arena : Config = sized_arena item (16384 * 1) in
    let factor = factor_within (sized_first item) in
    let num : ℕ = doubled_factor (sized_first item) in
    passes _ _ _ (between 24 16384 (sized_first item) (omega (arith, range.0)) range.1)
    (passes _ _ _ (and_from (ltb 2 num) (leb num 65535) (lt-ltb 2 num (omega (arith, factor.0))) (le-leb num 65535 (omega (arith, factor.1))))
    (passes _ _ _ (between (sized_first item) 16384 16384 range.1 (omega arith))
    (passes _ _ _ (between 1 64 (sized_stripes (sized_chunks item (16384 * 1))) (stripes_within item).0 (stripes_within item).1)
    (passes _ _ _ (le-leb (16384 / first_size arena) 256 (chunks_within arena refl refl range.0)) refl))))

-- the smallest cache of a size is accepted
pub least_passes : (item workers : ℕ) → 1 ≤ workers → workers ≤ 63 → cache_refusal (sized_cache item workers 1) ≡ None
least_passes item workers some few =
    passes (is_between 1 63 workers) _ _ (between 1 63 workers some few) (unmap (config_refusal (sized_arena item (16384 * 1))) (arena_passes item))
  where
    unmap : (refusal : Option ConfigError) → refusal ≡ None → option_map (λ error. refused.Config error) refusal ≡ None
    unmap refusal none = ap (option_map (λ error. refused.Config error)) none

-- a configuration of a size, with more shards
pub sized_by : (bytes item workers pages : ℕ) (config result : CacheConfig) → config ≡ sized_cache item workers pages → cache_refusal result ≡ None → filled_bytes result ≤ bytes → FillsBytes bytes result → result.workers ≡ config.workers → result.arena ≡ config.arena
    → IsSized bytes item workers result
sized_by bytes item workers pages config result is accepted fits full count arena =
    let of_size : result.arena ≡ sized_arena item (16384 * pages) = arena ∙ ap (λ (c : CacheConfig). c.arena) is in
    record {
      accepted = accepted;
      fits = fits;
      full = full;
      count = count ∙ ap (λ (c : CacheConfig). c.workers) is;
      arena = of_size ∙ sym (ap (λ (a : Config). sized_arena item a.limit) of_size);
    }

-- the one of two that is taken is of the size, as both are
pub sized_one : (bytes item workers : ℕ) (first second result : CacheConfig) → IsSized bytes item workers first → IsSized bytes item workers second → (result ≡ first) ⊎ (result ≡ second) → IsSized bytes item workers result
sized_one bytes item workers first second result a b =
    ⊎_elim
    (λ (same : result ≡ first). subst (IsSized bytes item workers) (sym same) a)
    (λ (same : result ≡ second). subst (IsSized bytes item workers) (sym same) b)
