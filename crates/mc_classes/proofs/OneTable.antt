-- Two tables of one configuration are the same: raw sizes and sizes agree place by place, and both end at one place.
use Rattle.std.proofs.Common.{◌≡◌, ℕ, zero, suc, ◌+◌, ◌-◌, ◌*◌, ◌/◌, ◌<◌, ◌≤◌, List, length, get_or, sym, ap, ◌∙◌, subst, arith, ⊎_elim}
use Rattle.std.proofs.lemmas.Bool.{cases_lt, cases_order, ltb-true}
use Rattle.std.proofs.lemmas.List.{ext_get_or}
use Rattle.std.proofs.lemmas.Option.{get_or_from_slice_get, slice_get_within}
use Rattle.mc_classes.specs.declared.config.Config.{Config}
use Rattle.mc_classes.specs.Classes.{Classes, ComesFrom, IsTableOf}
use Rattle.mc_classes.specs.Refusals.{rounded_up}

module _ (config : Config) (raws sizes raws' sizes' : List ℕ) (comes : ComesFrom config raws sizes) (comes' : ComesFrom config raws' sizes') where
  -- before the last class of either, equal raw sizes give equal sizes
  same_size : (i : ℕ) → i + 1 < length sizes → i + 1 < length sizes' → get_or raws i 0 ≡ get_or raws' i 0 → get_or sizes i 0 ≡ get_or sizes' i 0
  same_size i h h' e = (comes.steps i h).raised ∙ ap rounded_up e ∙ sym (comes'.steps i h').raised

  same_raw : (i : ℕ) → i < length sizes → i < length sizes' → get_or raws i 0 ≡ get_or raws' i 0
  same_raw zero h h' = get_or_from_slice_get raws 0 config.first 0 comes.begins ∙ sym (get_or_from_slice_get raws' 0 config.first 0 comes'.begins)
  same_raw (suc i) h h' =
      let next : suc i ≡ i + 1 = omega arith in
      let size = same_size i (omega arith) (omega arith) (same_raw i (omega arith) (omega arith)) in
      rw next ((comes.steps i (omega arith)).grown ∙ ap (λ (s : ℕ). s * config.num / config.den) size ∙ sym (comes'.steps i (omega arith)).grown)

  -- the first doesn't end before the second: the last raw size is not below the greatest size, and a step of the second would be
  not_shorter : length sizes < length sizes' → ⊥
  not_shorter lt =
      let some = slice_get_within sizes (length sizes - 1) config.max comes.last in
      let step = comes'.steps (length sizes - 1) (omega arith) in
      let below = ltb-true (get_or raws' (length sizes - 1) 0 * config.num) (config.max * config.den) step.below in
      let at : length raws - 1 ≡ length sizes - 1 = omega (arith, comes.paired) in
      let same : get_or raws (length raws - 1) 0 ≡ get_or raws' (length sizes - 1) 0 = ap (λ (k : ℕ). get_or raws k 0) at ∙ same_raw (length sizes - 1) some (omega arith) in
      let above : config.max * config.den ≤ get_or raws' (length sizes - 1) 0 * config.num = subst (λ (raw : ℕ). config.max * config.den ≤ raw * config.num) same (comes.ends (omega (arith, comes'.most))) in
      omega arith

  same_sizes_at : length sizes ≡ length sizes' → (i : ℕ) → i < length sizes → get_or sizes i 0 ≡ get_or sizes' i 0
  same_sizes_at e i h =
      ⊎_elim
      (λ (before : i + 1 < length sizes). same_size i before (omega arith) (same_raw i h (omega arith)))
      (λ (after : length sizes ≤ i + 1).
      let at : i ≡ length sizes - 1 = omega arith in
      let at' : i ≡ length sizes' - 1 = omega arith in
      ap (λ (k : ℕ). get_or sizes k 0) at ∙ get_or_from_slice_get sizes (length sizes - 1) config.max 0 comes.last
      ∙ sym (ap (λ (k : ℕ). get_or sizes' k 0) at' ∙ get_or_from_slice_get sizes' (length sizes' - 1) config.max 0 comes'.last))
      (cases_lt (i + 1) (length sizes))

pub same_sizes : (config : Config) (raws sizes raws' sizes' : List ℕ) → ComesFrom config raws sizes → ComesFrom config raws' sizes' → sizes ≡ sizes'
same_sizes config raws sizes raws' sizes' comes comes' =
    let not_less = λ (lt : length sizes < length sizes'). not_shorter config raws sizes raws' sizes' comes comes' lt in
    let not_more = λ (lt : length sizes' < length sizes). not_shorter config raws' sizes' raws sizes comes' comes lt in
    let len : length sizes ≡ length sizes' = ⊎_elim (λ e. e) (⊎_elim (λ lt. absurd (not_less lt)) (λ lt. absurd (not_more lt))) (cases_order (length sizes) (length sizes')) in
    ext_get_or 0 sizes sizes' len (same_sizes_at config raws sizes raws' sizes' comes comes' len)

pub one_table : (config : Config) (a b : Classes) → IsTableOf config a → IsTableOf config b → a ≡ b
one_table config a b of_a of_b =
    let page : a.page ≡ b.page = of_a.page ∙ sym of_b.page in
    let limit : a.limit ≡ b.limit = of_a.limit ∙ sym of_b.limit in
    let sizes = same_sizes config of_a.raws a.sizes of_b.raws b.sizes of_a.comes of_b.comes in
    let at_page : ℕ → Classes = λ n. record { page = n; limit = a.limit; sizes = a.sizes } in
    let at_limit : ℕ → Classes = λ n. record { page = b.page; limit = n; sizes = a.sizes } in
    let at_sizes : List ℕ → Classes = λ s. record { page = b.page; limit = b.limit; sizes = s } in
    ap at_page page ∙ ap at_limit limit ∙ ap at_sizes sizes
