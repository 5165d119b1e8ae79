-- The locks that a hand keeps note of are those whose values are out with it.
use Rattle.std.proofs.Common.{◌≡◌, ℕ, zero, suc, ◌==◌, Bool, true, false, nat_lt, List, [], ◌∷◌, length, map, is_some, slice_index_or, ◌<◌, Some, None, zero-add, arith, eqb-true, refl, sym, ap, ◌∙◌}
use Rattle.std.proofs.lemmas.List.{get_or-map, length-map}
use Rattle.std.proofs.lemmas.List.FromFn.{get_or-map-range_with_len, length-map-range_with_len}
use Rattle.mc_pages.specs.SlabState.{SlabState}
use Rattle.mc_stripe.specs.StripeState.{ReadyStripe}
use Rattle.std.specs.List.{range_with_len}
use Rattle.mc_words.specs.declared.lock.locks.Lock.TheVariants.{SlabsLock, StripeLock}
use Rattle.mc_words.specs.declared.lock.locks.Locks.{Locks}
use Rattle.mc_words.specs.declared.lock.locks.Locks.TheVariants.{Neither, Slabs, Stripe, SlabsLast, StripeLast}
use Rattle.mc_words.specs.hand.View.{Setup, View}
use Rattle.mc_words.specs.rule.Told.{Sits}
use Rattle.mc_words.specs.rule.Happens.{IsSameHand}
use Rattle.mc_words.specs.lock.Out.{slots_out, slots_in, has_slabs_in, has_stripe_in, is_within, HasLocks, IsNoted, with_last, locks_with_slabs, without_slabs, locks_with_stripe, without_stripe, locks_have_no_stripe}
use Rattle.mc_words.specs.lock.Slots.{slot_at}
use Rattle.mc_words.specs.lock.Tries.{Gains, Loses, IsOneHand}

slots_with : (locks : Locks) → has_slabs_in locks ≡ false → zero ∷ slots_in locks ≡ slots_in (locks_with_slabs locks)
slots_with Neither none = refl
slots_with Slabs none = absurd (cc)
slots_with (Stripe stripe) none = refl
slots_with (SlabsLast stripe) none = absurd (cc)
slots_with (StripeLast stripe) none = absurd (cc)

has_with : (locks : Locks) → true ≡ has_slabs_in (locks_with_slabs locks)
has_with Neither = refl
has_with Slabs = refl
has_with (Stripe stripe) = refl
has_with (SlabsLast stripe) = refl
has_with (StripeLast stripe) = refl

stripes_with : (locks : Locks) (stripes : List ℕ) → map (has_stripe_in locks) stripes ≡ map (has_stripe_in (locks_with_slabs locks)) stripes
stripes_with Neither stripes = refl
stripes_with Slabs stripes = refl
stripes_with (Stripe stripe) stripes = refl
stripes_with (SlabsLast stripe) stripes = refl
stripes_with (StripeLast stripe) stripes = refl

-- whose stripe is the same, is within as many
within_with : (stripes : ℕ) (locks : Locks) → is_within stripes locks ≡ is_within stripes (locks_with_slabs locks)
within_with stripes Neither = refl
within_with stripes Slabs = refl
within_with stripes (Stripe stripe) = refl
within_with stripes (SlabsLast stripe) = refl
within_with stripes (StripeLast stripe) = refl

within_without : (stripes : ℕ) (locks : Locks) → is_within stripes locks ≡ true → is_within stripes (without_slabs locks) ≡ true
within_without stripes Neither within = refl
within_without stripes Slabs within = refl
within_without stripes (Stripe stripe) within = within
within_without stripes (SlabsLast stripe) within = within
within_without stripes (StripeLast stripe) within = within

-- and a stripe that comes, or goes
within_stripe : (stripes stripe : ℕ) (locks : Locks) → nat_lt stripe stripes ≡ true → is_within stripes locks ≡ true → is_within stripes (locks_with_stripe stripe locks) ≡ true
within_stripe stripes stripe Neither in_range within = in_range
within_stripe stripes stripe Slabs in_range within = in_range
within_stripe stripes stripe (Stripe other) in_range within = within
within_stripe stripes stripe (SlabsLast other) in_range within = within
within_stripe stripes stripe (StripeLast other) in_range within = within

within_no_stripe : (stripes : ℕ) (locks : Locks) → is_within stripes (without_stripe locks) ≡ true
within_no_stripe stripes Neither = refl
within_no_stripe stripes Slabs = refl
within_no_stripe stripes (Stripe stripe) = refl
within_no_stripe stripes (SlabsLast stripe) = refl
within_no_stripe stripes (StripeLast stripe) = refl

none_with : (locks : Locks) → locks_have_no_stripe locks ≡ true → (stripe : ℕ) (stripes : List ℕ) → (map (has_stripe_in locks) stripes ≡ map (λ other. false) stripes) × (has_slabs_in (locks_with_stripe stripe locks) ≡ has_slabs_in locks)
    × (map (has_stripe_in (locks_with_stripe stripe locks)) stripes ≡ map (λ other. stripe == other) stripes) × (slots_in (locks_with_stripe stripe locks) ≡ slot_at (suc stripe) ∷ slots_in locks)
none_with Neither none stripe stripes = (refl, refl, refl, refl)
none_with Slabs none stripe stripes = (refl, refl, refl, refl)
none_with (Stripe other) none stripe stripes = absurd (cc)
none_with (SlabsLast other) none stripe stripes = absurd (cc)
none_with (StripeLast other) none stripe stripes = absurd (cc)

module _ (view now : View) (locks : Locks) (had : HasLocks view locks) (same : IsOneHand view now) where
  -- the range of the arena's stripes
  range_same : range_with_len 0 view.setup.config.stripes ≡ range_with_len 0 now.setup.config.stripes
  range_same = ap (λ (s : Setup). range_with_len 0 s.config.stripes) (sym same.0)

  -- and so is how many there are
  within_same : (kept : Locks) → is_within view.setup.config.stripes kept ≡ is_within now.setup.config.stripes kept
  within_same kept = ap (λ (s : Setup). is_within s.config.stripes kept) (sym same.0)

  -- of a hand with the lock of the slabs
  pub gained_slabs : Gains SlabsLock view now → HasLocks now (locks_with_slabs locks) × (zero ∷ slots_in locks ≡ slots_in (locks_with_slabs locks))
  gained_slabs gains = (
    (
      gains.1 ∙ has_with locks,
      gains.2 ∙ (had.1 ∙ (stripes_with locks (range_with_len 0 view.setup.config.stripes) ∙ ap (map (has_stripe_in (locks_with_slabs locks))) range_same)),
      sym (within_with view.setup.config.stripes locks ∙ within_same (locks_with_slabs locks)) ∙ had.2,
    ),
    slots_with locks (sym had.0 ∙ gains.0),
  )

  -- and with that of a stripe
  pub gained_stripe : (stripe : ℕ) → locks_have_no_stripe locks ≡ true → nat_lt stripe view.setup.config.stripes ≡ true → Gains (StripeLock stripe) view now → HasLocks now (locks_with_stripe stripe locks) × (slot_at (suc stripe) ∷ slots_in locks ≡ slots_in (locks_with_stripe stripe locks))
  gained_stripe stripe none in_range gains =
      let (old, slabs, new, slots) = none_with locks none stripe (range_with_len 0 view.setup.config.stripes) in (
        (
          gains.0 ∙ (had.0 ∙ sym slabs),
          gains.1 (had.1 ∙ old) ∙ (ap (map (λ other. stripe == other)) (sym range_same) ∙ (sym new ∙ ap (map (has_stripe_in (locks_with_stripe stripe locks))) range_same)),
          sym (within_same (locks_with_stripe stripe locks)) ∙ within_stripe view.setup.config.stripes stripe locks in_range had.2,
        ),
        sym slots,
      )

-- notes after a step that takes and gives no lock
pub noted_same : (me now : Sits) (number chunks chunks' : ℕ) (locks : Locks) → IsNoted me number chunks locks → now.1 ≡ me.1 → IsSameHand me.0 now.0 → chunks' ≡ length now.0.row.holdings → IsNoted now number chunks' locks
noted_same me now number chunks chunks' locks (is, within_limit, count, slots, had) out same count' = (
  same.number ∙ is,
  within_limit,
  count',
  ap slots_out out ∙ slots,
  (
    same.slabs ∙ had.0,
    same.stripes ∙ (had.1 ∙ ap (λ (s : Setup). map (has_stripe_in locks) (range_with_len 0 s.config.stripes)) (sym same.setup)),
    ap (λ (s : Setup). is_within s.config.stripes locks) same.setup ∙ had.2,
  ),
)

-- after the lock of the slabs was taken
pub noted_slabs : (me now : Sits) (number chunks : ℕ) (locks : Locks) → IsNoted me number chunks locks → IsOneHand me.0 now.0 → Gains SlabsLock me.0 now.0 → slots_out now.1 ≡ zero ∷ slots_out me.1 → now.0.row.holdings ≡ me.0.row.holdings → IsNoted now number chunks (locks_with_slabs locks)
noted_slabs me now number chunks locks (is, within_limit, count, slots, had) same gains out holdings =
    let (locked, front) = gained_slabs me.0 now.0 locks had same gains in (
      same.2 ∙ is,
      within_limit,
      count ∙ ap length (sym holdings),
      out ∙ (ap (λ l. zero ∷ l) slots ∙ front),
      locked,
    )

-- after a stripe's was
pub noted_stripe : (me now : Sits) (number chunks stripe : ℕ) (locks : Locks) → locks_have_no_stripe locks ≡ true → nat_lt stripe me.0.setup.config.stripes ≡ true → IsNoted me number chunks locks → IsOneHand me.0 now.0 → Gains (StripeLock stripe) me.0 now.0 → slots_out now.1 ≡ slot_at (suc stripe) ∷ slots_out me.1 → now.0.row.holdings ≡ me.0.row.holdings
    → IsNoted now number chunks (locks_with_stripe stripe locks)
noted_stripe me now number chunks stripe locks none in_range (is, within_limit, count, slots, had) same gains out holdings =
    let (locked, front) = gained_stripe me.0 now.0 locks had same stripe none in_range gains in (
      same.2 ∙ is,
      within_limit,
      count ∙ ap length (sym holdings),
      out ∙ (ap (λ l. slot_at (suc stripe) ∷ l) slots ∙ front),
      locked,
    )

-- the lock of the slabs stands before what is left without it
pub slabs_last : (locks : Locks) → has_slabs_in locks ≡ true → slots_in (with_last zero locks) ≡ zero ∷ slots_in (without_slabs locks)
slabs_last Neither has = absurd (cc)
slabs_last Slabs has = refl
slabs_last (Stripe stripe) has = absurd (cc)
slabs_last (SlabsLast stripe) has = refl
slabs_last (StripeLast stripe) has = refl

-- and so does a stripe's
pub stripe_last : (locks : Locks) (stripe : ℕ) → has_stripe_in locks stripe ≡ true → slots_in (with_last (suc stripe) locks) ≡ slot_at (suc stripe) ∷ slots_in (without_stripe locks)
stripe_last Neither stripe has = absurd (cc)
stripe_last Slabs stripe has = absurd (cc)
stripe_last (Stripe other) stripe has = ap (λ (i : ℕ). slot_at (suc i) ∷ []) (eqb-true other stripe has)
stripe_last (SlabsLast other) stripe has = ap (λ (i : ℕ). slot_at (suc i) ∷ zero ∷ []) (eqb-true other stripe has)
stripe_last (StripeLast other) stripe has = ap (λ (i : ℕ). slot_at (suc i) ∷ zero ∷ []) (eqb-true other stripe has)

pub left_slabs : (locks : Locks) → without_slabs (with_last zero locks) ≡ without_slabs locks
left_slabs Neither = refl
left_slabs Slabs = refl
left_slabs (Stripe stripe) = refl
left_slabs (SlabsLast stripe) = refl
left_slabs (StripeLast stripe) = refl

pub left_stripe : (locks : Locks) (stripe : ℕ) → without_stripe (with_last (suc stripe) locks) ≡ without_stripe locks
left_stripe Neither stripe = refl
left_stripe Slabs stripe = refl
left_stripe (Stripe other) stripe = refl
left_stripe (SlabsLast other) stripe = refl
left_stripe (StripeLast other) stripe = refl

none_left : (locks : Locks) (stripes : List ℕ) → (has_slabs_in (without_slabs locks) ≡ false) × (map (has_stripe_in locks) stripes ≡ map (has_stripe_in (without_slabs locks)) stripes)
none_left Neither stripes = (refl, refl)
none_left Slabs stripes = (refl, refl)
none_left (Stripe stripe) stripes = (refl, refl)
none_left (SlabsLast stripe) stripes = (refl, refl)
none_left (StripeLast stripe) stripes = (refl, refl)

no_stripe_left : (locks : Locks) (stripes : List ℕ) → (has_slabs_in locks ≡ has_slabs_in (without_stripe locks)) × (map (λ other. false) stripes ≡ map (has_stripe_in (without_stripe locks)) stripes)
no_stripe_left Neither stripes = (refl, refl)
no_stripe_left Slabs stripes = (refl, refl)
no_stripe_left (Stripe stripe) stripes = (refl, refl)
no_stripe_left (SlabsLast stripe) stripes = (refl, refl)
no_stripe_left (StripeLast stripe) stripes = (refl, refl)

that_stripe : (locks : Locks) (stripe : ℕ) (stripes : List ℕ) → has_stripe_in locks stripe ≡ true → map (has_stripe_in locks) stripes ≡ map (λ other. stripe == other) stripes
that_stripe Neither stripe stripes has = absurd (cc)
that_stripe Slabs stripe stripes has = absurd (cc)
that_stripe (Stripe other) stripe stripes has = ap (λ (i : ℕ). map (λ j. i == j) stripes) (eqb-true other stripe has)
that_stripe (SlabsLast other) stripe stripes has = ap (λ (i : ℕ). map (λ j. i == j) stripes) (eqb-true other stripe has)
that_stripe (StripeLast other) stripe stripes has = ap (λ (i : ℕ). map (λ j. i == j) stripes) (eqb-true other stripe has)

rest_same : (a b : ℕ) (xs ys : List ℕ) → a ∷ xs ≡ b ∷ ys → xs ≡ ys
rest_same a b xs ys e = cc

-- a hand whose slabs are out has their lock, and one of which a stripe is out has that
pub has_slabs_lock : (view : View) (locks : Locks) (slabs : SlabState) → HasLocks view locks → view.slabs ≡ Some slabs → has_slabs_in locks ≡ true
has_slabs_lock view locks slabs had mine = sym had.0 ∙ ap is_some mine

pub has_stripe_lock : (view : View) (locks : Locks) (stripe : ℕ) (value : ReadyStripe) → HasLocks view locks → stripe < view.setup.config.stripes → slice_index_or view.stripes stripe None ≡ Some value → has_stripe_in locks stripe ≡ true
has_stripe_lock view locks stripe value had in_range mine =
    let long : length view.stripes ≡ view.setup.config.stripes = sym (length-map view.stripes is_some) ∙ (ap length had.1 ∙ length-map-range_with_len (has_stripe_in locks) 0 view.setup.config.stripes) in
    sym (get_or-map-range_with_len (has_stripe_in locks) 0 view.setup.config.stripes stripe stripe false in_range (zero-add stripe))
    ∙ (ap (λ (bs : List Bool). slice_index_or bs stripe false) (sym had.1) ∙ (get_or-map is_some view.stripes stripe None false (omega arith) ∙ ap is_some mine))

module _ (me now : Sits) (number chunks : ℕ) (locks : Locks) (same : IsOneHand me.0 now.0) (holdings : now.0.row.holdings ≡ me.0.row.holdings) where
  -- notes after the lock of the slabs was given, which was taken last
  pub noted_gave_slabs : IsNoted me number chunks (with_last zero locks) → HasLocks me.0 locks → has_slabs_in locks ≡ true → Loses SlabsLock me.0 now.0 → slots_out me.1 ≡ zero ∷ slots_out now.1 → IsNoted now number chunks (without_slabs locks)
  noted_gave_slabs (is, within_limit, count, slots, _) had has loses out =
      let left = none_left locks (range_with_len 0 me.0.setup.config.stripes) in (
        same.2 ∙ is,
        within_limit,
        count ∙ ap length (sym holdings),
        rest_same zero zero (slots_out now.1) (slots_in (without_slabs locks)) (sym out ∙ (slots ∙ slabs_last locks has)),
        (
          loses.0 ∙ sym left.0,
          loses.1 ∙ (had.1 ∙ (left.1 ∙ ap (λ (s : Setup). map (has_stripe_in (without_slabs locks)) (range_with_len 0 s.config.stripes)) (sym same.0))),
          within_without now.0.setup.config.stripes locks (ap (λ (s : Setup). is_within s.config.stripes locks) same.0 ∙ had.2),
        ),
      )

  -- and after a stripe's was
  pub noted_gave_stripe : (stripe : ℕ) → IsNoted me number chunks (with_last (suc stripe) locks) → HasLocks me.0 locks → has_stripe_in locks stripe ≡ true → Loses (StripeLock stripe) me.0 now.0 → slots_out me.1 ≡ slot_at (suc stripe) ∷ slots_out now.1
      → IsNoted now number chunks (without_stripe locks)
  noted_gave_stripe stripe (is, within_limit, count, slots, _) had has loses out =
      let stripes = range_with_len 0 me.0.setup.config.stripes in
      let left = no_stripe_left locks stripes in (
        same.2 ∙ is,
        within_limit,
        count ∙ ap length (sym holdings),
        rest_same (slot_at (suc stripe)) (slot_at (suc stripe)) (slots_out now.1) (slots_in (without_stripe locks)) (sym out ∙ (slots ∙ stripe_last locks stripe has)),
        (
          loses.0 ∙ (had.0 ∙ left.0),
          loses.1 (had.1 ∙ that_stripe locks stripe stripes has) ∙ (ap (λ (s : Setup). map (λ other. false) (range_with_len 0 s.config.stripes)) same.0 ∙ (left.1 ∙ ap (λ (s : Setup). map (has_stripe_in (without_stripe locks)) (range_with_len 0 s.config.stripes)) (sym same.0))),
          within_no_stripe now.0.setup.config.stripes locks,
        ),
      )
