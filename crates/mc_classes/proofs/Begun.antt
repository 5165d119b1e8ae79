-- The classes before the last one, as far as they have come.
use Rattle.std.proofs.Common.{◌≡◌, ℕ, ◌+◌, ◌-◌, ◌*◌, ◌/◌, ◌<◌, ◌≤◌, IsTrue, List, [], ◌∷◌, ◌++◌, length, get_or, slice_get, slice_index, Some, refl, sym, ap, ◌∙◌, subst, arith, ⊎_elim}
use Rattle.std.proofs.Math.Nat.{div-le_self}
use Rattle.std.proofs.lemmas.Bool.{cases_lt, ltb-true}
use Rattle.std.proofs.lemmas.List.{length_push, get_or_append_left, get_or_push}
use Rattle.std.proofs.lemmas.Nat.{le-div, mul-le}
use Rattle.std.proofs.lemmas.Option.{slice_get-get_or}
use Rattle.mc_classes.specs.declared.config.Config.{Config}
use Rattle.mc_classes.specs.Classes.{ComesFrom, IsStep}
use Rattle.mc_classes.specs.Refusals.{is_below_max, rounded_up}
use Rattle.mc_classes.proofs.Accepted.{IsAccepted}

-- a raw size that is below the greatest size after the factor is below it already
pub below_max : (config : Config) (raw : ℕ) → IsAccepted config → IsTrue (is_below_max config raw) → raw < config.max
below_max config raw a h =
    ⊎_elim (λ lt. lt) (λ (le : config.max ≤ raw). absurd (omega (arith, ltb-true (raw * config.num) (config.max * config.den) h, mul-le config.max config.den raw config.num le (omega arith)))) (cases_lt raw config.max)

-- the greatest size is a multiple of 8, so rounding up doesn't pass it
pub rounded_within : (config : Config) (raw : ℕ) → IsAccepted config → raw < config.max → (raw ≤ rounded_up raw) × (rounded_up raw ≤ config.max)
rounded_within config raw a h = (omega arith, omega (arith, a.max_multiple))

-- the factor is above 1
pub grown_within : (config : Config) (size : ℕ) → IsAccepted config → size ≤ config.max → (size ≤ size * config.num / config.den) × (size * config.num / config.den ≤ 16384 * 65535)
grown_within config size a h =
    let more : size * config.den ≤ size * config.num = mul-le size config.den size config.num (omega arith) (omega arith) in
    let most : size * config.num ≤ 16384 * 65535 = mul-le size config.num 16384 65535 (omega arith) (omega arith) in
    (le-div size (size * config.num) config.den (omega arith) more, omega (arith, div-le_self (size * config.num) config.den))

-- the raw sizes with the next one, and the sizes before the last
pub record IsBegun (config : Config) (raws sizes : List ℕ) (raw : ℕ) : Type 0 where
  pub paired : length raws ≡ length sizes + 1
  pub begins : slice_get raws 0 ≡ Some config.first
  pub steps : (i : ℕ) → i < length sizes → IsStep config (slice_index raws i) (slice_index sizes i) (slice_index raws (i + 1))
  pub next : slice_index raws (length sizes) ≡ raw

pub begun_none : (config : Config) → IsBegun config (config.first ∷ []) [] config.first
begun_none config = record { paired = omega arith; begins = refl; steps = λ i h. absurd (omega arith); next = refl }

-- the first of a list stays the first
begins_push : (xs : List ℕ) (x y : ℕ) → slice_get xs 0 ≡ Some x → slice_get (xs ++ y ∷ []) 0 ≡ Some x
begins_push [] x y h = absurd (cc)
begins_push (z ∷ zs) x y h = h

-- a step is told by its three numbers
step_like : (config : Config) (r s n r' s' n' : ℕ) → r' ≡ r → s' ≡ s → n' ≡ n → IsStep config r s n → IsStep config r' s' n'
step_like config r s n r' s' n' p q t h =
    record {
      below = subst (λ (x : ℕ). IsTrue (is_below_max config x)) (sym p) h.below;
      raised = q ∙ h.raised ∙ ap rounded_up (sym p);
      grown = t ∙ h.grown ∙ ap (λ (x : ℕ). x * config.num / config.den) (sym q);
    }

pub begun_more : (config : Config) (raws sizes : List ℕ) (raw size next : ℕ) → IsBegun config raws sizes raw → IsStep config raw size next → IsBegun config (raws ++ next ∷ []) (sizes ++ size ∷ []) next
begun_more config raws sizes raw size next b s =
    let raws_len = length_push raws next in
    let sizes_len = length_push sizes size in
    let paired = b.paired in
    record {
      paired = omega arith;
      begins = begins_push raws config.first next b.begins;
      steps = λ i h.
          ⊎_elim
          (λ (lt : i < length sizes).
          step_like config (get_or raws i 0) (get_or sizes i 0) (get_or raws (i + 1) 0) _ _ _
          (get_or_append_left raws (next ∷ []) 0 i (omega arith))
          (get_or_append_left sizes (size ∷ []) 0 i lt)
          (get_or_append_left raws (next ∷ []) 0 (i + 1) (omega arith)) (b.steps i lt))
          (λ (le : length sizes ≤ i).
          let at : i ≡ length sizes = omega arith in
          step_like config raw size next _ _ _
          (get_or_append_left raws (next ∷ []) 0 i (omega arith) ∙ ap (λ (k : ℕ). get_or raws k 0) at ∙ b.next)
          (get_or_push sizes size 0 i (sym at))
          (get_or_push raws next 0 (i + 1) (omega arith)) s)
          (cases_lt i (length sizes));
      next = get_or_push raws next 0 (length (sizes ++ size ∷ [])) (omega arith);
    }

pub begun_all : (config : Config) (raws sizes : List ℕ) (raw : ℕ) → IsBegun config raws sizes raw → length sizes ≤ 62 → (length sizes < 62 → config.max * config.den ≤ raw * config.num) → ComesFrom config raws (sizes ++ config.max ∷ [])
begun_all config raws sizes raw b within_limit done =
    let len = length_push sizes config.max in
    let paired = b.paired in
    let all = sizes ++ config.max ∷ [] in
    record {
      paired = omega arith;
      begins = b.begins;
      steps = λ i h. step_like config (get_or raws i 0) (get_or sizes i 0) (get_or raws (i + 1) 0) _ _ _ refl (get_or_append_left sizes (config.max ∷ []) 0 i (omega arith)) refl (b.steps i (omega arith));
      last = slice_get-get_or all (length all - 1) 0 (omega arith) ∙ ap Some (get_or_push sizes config.max 0 (length all - 1) (omega arith));
      most = omega arith;
      ends = λ h.
          let at : length sizes ≡ length raws - 1 = omega arith in
          subst (λ (x : ℕ). config.max * config.den ≤ x * config.num) (sym b.next ∙ ap (λ (k : ℕ). get_or raws k 0) at) (done (omega arith));
    }
