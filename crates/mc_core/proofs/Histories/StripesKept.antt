-- Each stripe's history stays legal, and what is free has nothing aside.
use Rattle.std.proofs.Common.{◌≡◌, ◌≢◌, ◌⊎◌, ℕ, zero, suc, ◌+◌, ◌%◌, ◌<◌, true, List, [], ◌∷◌, length, Option, Some, None, refl, sym, ap, subst, ◌∙◌, inl, inr, arith, eqb-true, length-set, slice_get, slice_set, slice_index, slice_index_or}
use Rattle.std.proofs.lemmas.Option.{get_or_from_slice_get}
use Rattle.std.proofs.lemmas.List.{get_or_past}
use Rattle.std.proofs.lemmas.List.Elements.{All-set}
use Rattle.std.proofs.lemmas.Bool.{cases_lt}
use Rattle.mc_pages.specs.declared.ids.ChunkId.{ChunkId}
use Rattle.mc_stripe.specs.StripeState.{ReadyStripe, new_stripe}
use Rattle.mc_stripe.specs.Legal.{IsLegal}
use Rattle.mc_core.specs.model.State.{State, is_held_by, has_stripe, number_at}
use Rattle.mc_core.specs.law.Indexed.{AreLegal}

module _ {X : Type 0} where
  -- what stands at a place after a write
  pub get_set : (xs : List X) (i j : ℕ) (v x : X) → slice_get (slice_set xs i v) j ≡ Some x → ((i ≡ j) × (v ≡ x)) ⊎ ((i ≢ j) × (slice_get xs j ≡ Some x))
  get_set [] i j v x e = absurd (cc)
  get_set (y ∷ ys) zero zero v x e = inl (refl, cc)
  get_set (y ∷ ys) zero (suc j) v x e = inr ((λ no. absurd (omega (arith, no))), e)
  get_set (y ∷ ys) (suc i) zero v x e = inr ((λ no. absurd (omega (arith, no))), e)
  get_set (y ∷ ys) (suc i) (suc j) v x e =
      elim (get_set ys i j v x e) [
        | inl both ↦ inl (ap suc both.0, both.1)
        | inr other ↦ inr ((λ same. other.0 (omega (arith, same))), other.1)
      ]

-- the word of a lock that somebody has isn't 0
pub held_word : (word : ℕ) (number : Option ℕ) → is_held_by word number ≡ true → word ≢ 0
held_word word None h zero_is = absurd (cc)
held_word word (Some number) h zero_is = let is : word ≡ number + 1 = eqb-true word (number + 1) h in omega (arith, is, zero_is)

-- a stripe whose lock is held is there
pub stripe_within : (state : State) (hand stripe : ℕ) → has_stripe state hand stripe ≡ true → stripe < length state.stripe_locks
stripe_within state hand stripe h =
    elim (cases_lt stripe (length state.stripe_locks)) [
      | inl within ↦ within
      | inr past ↦ absurd (held_word (slice_index state.stripe_locks stripe) (number_at state hand) h (get_or_past state.stripe_locks stripe 0 past))
    ]

-- one stripe, whose lock is held, is written
pub legal_written : (stripes : List ReadyStripe) (locks : List ℕ) (stripe : ℕ) (value : ReadyStripe) → AreLegal stripes locks → IsLegal value.state → slice_index locks stripe ≢ 0
    → ((entry : ℕ × (ChunkId × ℕ)) → value.state.aside ≡ Some entry → entry.0 % length stripes ≡ stripe) → AreLegal (slice_set stripes stripe value) locks
legal_written stripes locks stripe value l legal held aside =
    let long = length-set stripes stripe value in
    record {
      lock_count = l.lock_count ∙ sym long;
      some = omega (arith, l.some, long);
      legal = All-set (λ (v : ReadyStripe). IsLegal v.state) stripes stripe value legal l.legal;
      free = λ other v locked at. elim (get_set stripes stripe other value v at) [
        | inl both ↦ absurd (held (ap (λ (i : ℕ). slice_index locks i) both.0 ∙ get_or_from_slice_get locks other 0 0 locked))
        | inr else ↦ l.free other v locked else.1
      ];
      aside = λ other v entry at is. subst (λ (n : ℕ). entry.0 % n ≡ other) (sym long) (elim (get_set stripes stripe other value v at) [
        | inl both ↦ aside entry (subst (λ (w : ReadyStripe). w.state.aside ≡ Some entry) (sym both.1) is) ∙ both.0
        | inr else ↦ l.aside other v entry else.1 is
      ]);
    }

-- a lock's word is written: what is free then had nothing aside
pub legal_locked : (stripes : List ReadyStripe) (locks : List ℕ) (stripe word : ℕ) → AreLegal stripes locks → (word ≡ 0 → (slice_index_or stripes stripe new_stripe).state.aside ≡ None) → AreLegal stripes (slice_set locks stripe word)
legal_locked stripes locks stripe word l empty =
    record {
      lock_count = length-set locks stripe word ∙ l.lock_count;
      some = l.some;
      legal = l.legal;
      free = λ other v locked at. elim (get_set locks stripe other word 0 locked) [
        | inl both ↦ subst (λ (w : ReadyStripe). w.state.aside ≡ None) (ap (λ (i : ℕ). slice_index_or stripes i new_stripe) both.0 ∙ get_or_from_slice_get stripes other v new_stripe at) (empty both.1)
        | inr else ↦ l.free other v else.1 at
      ];
      aside = l.aside;
    }
