-- Sizes that come from a configuration's raw sizes never fall, and lie between the first size and the greatest.
use Rattle.std.proofs.Common.{◌≡◌, ℕ, zero, suc, add-zero, ◌+◌, ◌-◌, ◌*◌, ◌/◌, ◌<◌, ◌≤◌, IsTrue, true, List, length, get_or, None, sym, ap, ◌∙◌, subst, arith, ⊎_elim}
use Rattle.std.proofs.Math.Nat.{div-lt_iff_lt-mul, div-mul-le_self, le_refl, le_trans}
use Rattle.std.proofs.lemmas.Bool.{cases_lt, cond_both, cond-true}
use Rattle.std.proofs.lemmas.Nat.{le-div, mul-le}
use Rattle.std.proofs.lemmas.Option.{get_or_from_slice_get, slice_get_within}
use Rattle.mc_classes.specs.declared.config.Config.{Config}
use Rattle.mc_classes.specs.Classes.{Classes, ComesFrom, IsSound, IsTableOf}
use Rattle.mc_classes.specs.Refusals.{first_size, is_below_max, config_refusal, rounded_up}
use Rattle.mc_classes.proofs.Accepted.{IsAccepted, accepted}
use Rattle.mc_classes.proofs.Begun.{below_max, grown_within, rounded_within}

-- the first size is one of the two that a table may begin with
first_within : (config : Config) → IsAccepted config → (config.first ≤ first_size config) × (first_size config ≤ config.max)
first_within config a =
    cond_both (is_below_max config config.first) (rounded_up config.first) config.max (λ (size : ℕ). (config.first ≤ size) × (size ≤ config.max))
    (λ below. rounded_within config config.first a (below_max config config.first a below))
    (λ above. (a.max.0, le_refl config.max))

-- 64 pages are the most
limit_below : (config : Config) → IsAccepted config → config.limit < 65 * config.page
limit_below config a = (div-lt_iff_lt-mul (omega (arith, a.page))).0 (omega (arith, a.pages))

-- larger chunks are no more
fewer_chunks : (page small large : ℕ) → 0 < small → small ≤ large → page / large ≤ page / small
fewer_chunks page small large h le =
    le-div (page / large) page small h (le_trans (mul-le (page / large) small (page / large) large (le_refl (page / large)) le) (div-mul-le_self page large))

module _ (config : Config) (raws sizes : List ℕ) (a : IsAccepted config) (comes : ComesFrom config raws sizes) where
  -- there is a class
  pub some_class : 0 < length sizes
  some_class = omega (arith, slice_get_within sizes (length sizes - 1) config.max comes.last)

  pub last_size : get_or sizes (length sizes - 1) 0 ≡ config.max
  last_size = get_or_from_slice_get sizes (length sizes - 1) config.max 0 comes.last

  -- before the last class the size is from the raw size to the greatest
  step_within : (i : ℕ) → i + 1 < length sizes → (get_or raws i 0 ≤ get_or sizes i 0) × (get_or sizes i 0 ≤ config.max)
  step_within i h =
      let step = comes.steps i h in
      let within = rounded_within config (get_or raws i 0) a (below_max config (get_or raws i 0) a step.below) in
      let raised : get_or sizes i 0 ≡ rounded_up (get_or raws i 0) = step.raised in
      (rw raised within.0, rw raised within.1)

  -- the next raw size is no smaller than the size
  step_grows : (i : ℕ) → i + 1 < length sizes → get_or sizes i 0 ≤ get_or raws (i + 1) 0
  step_grows i h =
      let grown : get_or raws (i + 1) 0 ≡ get_or sizes i 0 * config.num / config.den = (comes.steps i h).grown in
      rw grown (grown_within config (get_or sizes i 0) a (step_within i h).1).0

  pub at_most_max : (i : ℕ) → i < length sizes → get_or sizes i 0 ≤ config.max
  at_most_max i h =
      ⊎_elim
      (λ (before : i + 1 < length sizes). (step_within i before).1)
      (λ (after : length sizes ≤ i + 1).
      let at : i ≡ length sizes - 1 = omega arith in
      rw at (rw last_size (le_refl config.max)))
      (cases_lt (i + 1) (length sizes))

  pub no_fall : (i : ℕ) → i + 1 < length sizes → get_or sizes i 0 ≤ get_or sizes (i + 1) 0
  no_fall i h =
      ⊎_elim
      (λ (before : (i + 1) + 1 < length sizes). le_trans (step_grows i h) (step_within (i + 1) before).0)
      (λ (after : length sizes ≤ (i + 1) + 1).
      let at : i + 1 ≡ length sizes - 1 = omega arith in
      rw at (rw last_size (at_most_max i (omega arith))))
      (cases_lt ((i + 1) + 1) (length sizes))

  -- the first class has the first size
  pub first_at_least : first_size config ≤ get_or sizes 0 0
  first_at_least =
      ⊎_elim
      (λ (before : 0 + 1 < length sizes).
      let first : get_or raws 0 0 ≡ config.first = get_or_from_slice_get raws 0 config.first 0 comes.begins in
      let step = comes.steps 0 before in
      let below : is_below_max config config.first ≡ true = subst (λ (raw : ℕ). IsTrue (is_below_max config raw)) first step.below in
      let raised : get_or sizes 0 0 ≡ rounded_up config.first = step.raised ∙ ap rounded_up first in
      rw (raised, cond-true (is_below_max config config.first) (rounded_up config.first) config.max below) (le_refl (rounded_up config.first)))
      (λ (after : length sizes ≤ 0 + 1).
      let at : 0 ≡ length sizes - 1 = omega (arith, some_class) in
      subst (λ (k : ℕ). first_size config ≤ get_or sizes k 0) (sym at) (rw last_size (first_within config a).1))
      (cases_lt (0 + 1) (length sizes))

  -- a higher class has no smaller chunks
  pub rises : (low gap : ℕ) → low + gap < length sizes → get_or sizes low 0 ≤ get_or sizes (low + gap) 0
  rises low zero h = rw add-zero (le_refl (get_or sizes low 0))
  rises low (suc gap) h =
      let at : low + suc gap ≡ (low + gap) + 1 = omega arith in
      rw at (le_trans (rises low gap (omega arith)) (no_fall (low + gap) (omega arith)))

  pub at_least_first : (i : ℕ) → i < length sizes → first_size config ≤ get_or sizes i 0
  at_least_first i h =
      let at : 0 + i ≡ i = omega arith in
      le_trans first_at_least (subst (λ (k : ℕ). get_or sizes 0 0 ≤ get_or sizes k 0) at (rises 0 i (omega arith)))

  -- a page has from 1 to 256 chunks of each class
  pub chunks_within : (i : ℕ) → i < length sizes → (1 ≤ config.page / get_or sizes i 0) × (config.page / get_or sizes i 0 ≤ 256)
  chunks_within i h =
      let least = at_least_first i h in
      let most = at_most_max i h in
      let first = first_within config a in
      (le-div 1 config.page (get_or sizes i 0) (omega arith) (omega arith), le_trans (fewer_chunks config.page (first_size config) (get_or sizes i 0) (omega arith) least) a.chunks)

  pub sound : IsSound (record { page = config.page; limit = config.limit; sizes = sizes })
  sound =
      record {
        page = a.page;
        limit = omega (arith, limit_below config a);
        pages = a.pages;
        count = (some_class, comes.most);
        sizes = λ class h.
            let least = at_least_first (class - 1) (omega (arith, h.0, h.1)) in
            let most = at_most_max (class - 1) (omega (arith, h.0, h.1)) in
            (le_trans (le_trans a.first.0 (first_within config a).0) least, le_trans most a.max.1);
        chunks = λ class h. chunks_within (class - 1) (omega (arith, h.0, h.1));
        order = λ low high l h le.
            let at : (low - 1) + (high - low) ≡ high - 1 = omega (arith, l.0) in
            subst (λ (k : ℕ). get_or sizes (low - 1) 0 ≤ get_or sizes k 0) at (rises (low - 1) (high - low) (omega (arith, l.0, h.1)));
      }

pub sound_table : (config : Config) (table : Classes) → config_refusal config ≡ None → IsTableOf config table → IsSound table
sound_table config table h t =
    let s = sound config t.raws table.sizes (accepted config h) t.comes in
    let at_page : ℕ → Classes = λ n. record { page = n; limit = config.limit; sizes = table.sizes } in
    let at_limit : ℕ → Classes = λ n. record { page = table.page; limit = n; sizes = table.sizes } in
    subst (λ (t : Classes). IsSound t) (ap at_page (sym t.page) ∙ ap at_limit (sym t.limit)) s
