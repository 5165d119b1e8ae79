use Rattle.std.proofs.Common.{◌≡◌, ℕ, List, [], ◌∷◌, length, refl, ap, ◌∙◌, arith}
use Rattle.std.specs.Map.{keys_of}
use Rattle.std.proofs.lemmas.List.Sorted.{length_permutation}
use Rattle.mc_stripe.specs.Keys.{AddsKeys}
use Rattle.mc_stripe.specs.StripeState.{Index}
use Rattle.mc_stripe.proofs.laws.worked_key_lists.Goals as goal

-- behind nothing, there are as many as the index has
as_many : (index : Index) (new : List ℕ) → AddsKeys index [] new → length new ≡ length (keys_of index)
as_many index new adds = ap length adds.behind ∙ length_permutation (keys_of index) adds.added adds.each

pub returns-clause-any_order : goal.returns-clause-any_order
returns-clause-any_order c one two = record {
  added = 9 ∷ 3 ∷ [];
  behind = refl;
  each = record { moves = (0, 1) ∷ []; below = (omega arith, omega arith, tt); is = refl };
}

-- two are not one, and not three
one_is_two : (a b : ℕ) → a ≡ 1 → b ≡ 2 → a ≡ b → ⊥
one_is_two a b one two same = omega arith

three_is_two : (a b : ℕ) → a ≡ 3 → b ≡ 2 → a ≡ b → ⊥
three_is_two a b three two same = omega arith

pub returns-clause-one_missing : goal.returns-clause-one_missing
returns-clause-one_missing c one two adds = one_is_two 1 2 refl refl (as_many ((3, one) ∷ (9, two) ∷ []) (9 ∷ []) adds)

pub returns-clause-one_twice : goal.returns-clause-one_twice
returns-clause-one_twice c one two adds = three_is_two 3 2 refl refl (as_many ((3, one) ∷ (9, two) ∷ []) (9 ∷ 3 ∷ 9 ∷ []) adds)
