-- A hand with no lock, from its notes and from what it knows.
use Rattle.std.proofs.Common.{◌≡◌, ℕ, zero, suc, Bool, true, false, ◌&&◌, nat_lt, List, [], ◌∷◌, map, is_some, is_none, slice_index_or, Option, Some, None, zero-add, refl, sym, ap, ◌∙◌, ltb-true, eq-eqb}
use Rattle.std.proofs.lemmas.List.FromFn.{get_or-map-range_with_len}
use Rattle.std.specs.List.{list_all, range_with_len}
use Rattle.mc_stripe.specs.StripeState.{ReadyStripe}
use Rattle.mc_words.specs.declared.lock.locks.Locks.{Locks}
use Rattle.mc_words.specs.declared.lock.locks.Locks.TheVariants.{Neither, Slabs, Stripe, SlabsLast, StripeLast}
use Rattle.mc_words.specs.hand.View.{View}
use Rattle.mc_words.specs.lock.Out.{HasLocks, has_stripe_in, locks_have_no_stripe, is_neither}
use Rattle.mc_words.specs.hand.Idle.{has_no_stripes, is_unlocked}

-- where no stripe is among the locks, the view has none
none_there : (stripes : List (Option ReadyStripe)) (range : List ℕ) → map is_some stripes ≡ map (λ stripe. false) range → list_all is_none stripes ≡ true
none_there [] range same = refl
none_there (None ∷ stripes) (i ∷ range) same = none_there stripes range (cc)
none_there (None ∷ stripes) [] same = absurd (cc)
none_there (Some stripe ∷ stripes) (i ∷ range) same = absurd (cc)
none_there (Some stripe ∷ stripes) [] same = absurd (cc)

-- where one is, the view has it
one_there : (stripes : List (Option ReadyStripe)) (i : ℕ) → slice_index_or (map is_some stripes) i false ≡ true → list_all is_none stripes ≡ false
one_there [] i there = absurd (cc)
one_there (None ∷ stripes) zero there = absurd (cc)
one_there (None ∷ stripes) (suc i) there = one_there stripes i there
one_there (Some stripe ∷ stripes) i there = refl

none_of : {X : Type 0} (o : Option X) → is_some o ≡ false → is_none o ≡ true
none_of None none = refl
none_of (Some x) none = absurd (cc)

some_of : {X : Type 0} (o : Option X) → is_some o ≡ true → is_none o ≡ false
some_of None some = absurd (cc)
some_of (Some x) some = refl

-- a stripe of the arena that the locks have
there_in : (view : View) (locks : Locks) (stripe : ℕ) → HasLocks view locks → nat_lt stripe view.setup.config.stripes ≡ true → has_stripe_in locks stripe ≡ true → list_all is_none view.stripes ≡ false
there_in view locks stripe had in_range has =
    one_there view.stripes stripe
    (ap (λ (bs : List Bool). slice_index_or bs stripe false) had.1
    ∙ (get_or-map-range_with_len (has_stripe_in locks) 0 view.setup.config.stripes stripe stripe false (ltb-true stripe view.setup.config.stripes in_range) (zero-add stripe) ∙ has))

and_false : (b : Bool) → (b && false) ≡ false
and_false true = refl
and_false false = refl

slabs_there : (view : View) → is_some view.slabs ≡ true → is_unlocked view ≡ false
slabs_there view has = ap (λ (b : Bool). b && list_all is_none view.stripes) (some_of view.slabs has)

-- a hand has a lock exactly where it has a note of one
pub unlocked_from : (view : View) (locks : Locks) → HasLocks view locks → is_neither locks ≡ is_unlocked view
unlocked_from view Neither had = sym (λ k. none_of view.slabs had.0 k && none_there view.stripes (range_with_len 0 view.setup.config.stripes) had.1 k)
unlocked_from view Slabs had = sym (slabs_there view had.0)
unlocked_from view (SlabsLast stripe) had = sym (slabs_there view had.0)
unlocked_from view (StripeLast stripe) had = sym (slabs_there view had.0)
unlocked_from view (Stripe stripe) had = sym (ap (λ (b : Bool). is_none view.slabs && b) (there_in view (Stripe stripe) stripe had had.2 (eq-eqb stripe stripe refl)) ∙ and_false (is_none view.slabs))

-- a hand with no lock has no stripe's
pub no_stripe_unlocked : (locks : Locks) → is_neither locks ≡ true → locks_have_no_stripe locks ≡ true
no_stripe_unlocked Neither none = refl
no_stripe_unlocked Slabs none = refl
no_stripe_unlocked (Stripe stripe) none = absurd (cc)
no_stripe_unlocked (SlabsLast stripe) none = absurd (cc)
no_stripe_unlocked (StripeLast stripe) none = absurd (cc)

-- it has no stripe's lock exactly where it has a note of none
pub no_stripe_from : (view : View) (locks : Locks) → HasLocks view locks → has_no_stripes view ≡ true → locks_have_no_stripe locks ≡ true
no_stripe_from view Neither had none = refl
no_stripe_from view Slabs had none = refl
no_stripe_from view (Stripe stripe) had none = absurd (let e = there_in view (Stripe stripe) stripe had had.2 (eq-eqb stripe stripe refl) in cc)
no_stripe_from view (SlabsLast stripe) had none = absurd (let e = there_in view (SlabsLast stripe) stripe had had.2 (eq-eqb stripe stripe refl) in cc)
no_stripe_from view (StripeLast stripe) had none = absurd (let e = there_in view (StripeLast stripe) stripe had had.2 (eq-eqb stripe stripe refl) in cc)

pub no_stripes_there : (view : View) (locks : Locks) → HasLocks view locks → locks_have_no_stripe locks ≡ true → has_no_stripes view ≡ true
no_stripes_there view Neither had none = none_there view.stripes (range_with_len 0 view.setup.config.stripes) had.1
no_stripes_there view Slabs had none = none_there view.stripes (range_with_len 0 view.setup.config.stripes) had.1
no_stripes_there view (Stripe stripe) had none = absurd (cc)
no_stripes_there view (SlabsLast stripe) had none = absurd (cc)
no_stripes_there view (StripeLast stripe) had none = absurd (cc)
