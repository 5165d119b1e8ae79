-- A stripe that changes while no call is told: why that may be told, and what a hand's view is afterwards.
use Rattle.std.proofs.Common.{◌≡◌, ◌≢◌, ℕ, zero, suc, ◌+◌, ◌<◌, ◌&&◌, true, List, [], ◌∷◌, length, Option, Some, None, refl, sym, ap, subst, ◌∙◌, inl, inr, arith, zero-add, lt-ltb, slice_index, slice_index_or, slice_set, get_or-set_same, get_or-set_other, if◌then◌else◌, ◌++◌, unwrap_or}
use Rattle.std.proofs.lemmas.Bool.{cases_eq, and_from, and_parts}
use Rattle.std.proofs.lemmas.List.FromFn.{get_or-map-range_with_len, length-map-range_with_len}
use Rattle.mc_stripe.specs.StripeState.{ReadyStripe, new_stripe}
use Rattle.mc_core.specs.declared.event.Change.TheVariants.{OfStripe}
use Rattle.mc_core.specs.declared.event.StripeChange.{StripeChange}
use Rattle.mc_core.specs.declared.event.StripeChange.TheVariants.{Reserve, ReserveCall, Trim, Forget}
use Rattle.mc_core.specs.declared.event.Step.TheVariants as core
use Rattle.mc_core.specs.model.State.{State, has_stripe, number_at, stripe_at}
use Rattle.mc_core.specs.run.Silent.{after_change, can_change_stripe, stripe_after}
use Rattle.mc_core.specs.past.Past.{Moment, Own, history_at, knowledge_at, moment_changed}
use Rattle.mc_core.specs.model.Views.{held_stripe}
use Rattle.mc_core.specs.law.Laws.{MayChange, MayStep}
use Rattle.mc_core.proofs.Law.LawKept.{lawful_changes}
use Rattle.mc_core.proofs.Known.Learns.{are_learned}
use Rattle.mc_core.proofs.Frame.SameSlabs.{looked_keeps}
use Rattle.mc_core.proofs.Seen.SeenHolder.{held_is}
use Rattle.mc_words.specs.hand.View.{View, held_stripes, view_at, events_of, own_event}
use Rattle.mc_words.specs.rule.Layout.{lock_address}
use Rattle.mc_words.specs.rule.Meaning.{AreCut}
use Rattle.mc_words.specs.rule.Happens.{LawfulView, Happens, AllowsStep}
use Rattle.mc_words.specs.lock.Lent.{lent_stripe}
use Rattle.mc_words.specs.hand.Views.{stripe_changed}
use Rattle.mc_words.proofs.Chunks.Heads.{AreAll}
use Rattle.mc_words.proofs.Hands.Knows.{mine_alike}
use Rattle.mc_words.proofs.Locks.LockViews.{stripes_set, stripes_were, knew, lock_count, missed_from}
use Rattle.mc_words.proofs.Rules.Quiet.{columns}
use Rattle.mc_words.proofs.Locks.TakeAndGive.{held_from}
use Rattle.mc_words.proofs.Rules.Written.{unwritten}
use Rattle.mc_core.specs.law.Lawful.{IsLawful}

-- what is found stands inside
pub inside : (all : List (Option ReadyStripe)) (i : ℕ) (value : ReadyStripe) → slice_index_or all i None ≡ Some value → i < length all
inside [] i value found = absurd (cc)
inside (entry ∷ all) zero value found = omega arith
inside (entry ∷ all) (suc i) value found = let rest = inside all i value found in omega arith

-- and what is set there is found
pub set_found : (all : List (Option ReadyStripe)) (i : ℕ) (value next : ReadyStripe) → slice_index_or all i None ≡ Some value → slice_index_or (slice_set all i (Some next)) i None ≡ Some next
set_found all i value next found = get_or-set_same all i (Some next) None (inside all i value found)

-- the stripe that a hand is known to have
pub lent_is : (view : View) (number : ℕ) (value : ReadyStripe) → slice_index_or view.stripes number None ≡ Some value → lent_stripe view number ≡ value
lent_is view number value mine = ap (λ (o : Option ReadyStripe). unwrap_or o new_stripe) mine

-- no call is told by it
same_history : (how : StripeChange) (value : ReadyStripe) → (stripe_after how value).state.history ≡ value.state.history
same_history Reserve value = refl
same_history ReserveCall value = refl
same_history Trim value = refl
same_history Forget value = refl

same_number : (a b : ℕ) → Some a ≡ Some b → a ≡ b
same_number a b e = cc

module _ (view : View) (stripe : ℕ) (value : ReadyStripe) (mine : slice_index_or view.stripes stripe None ≡ Some value) where
  module _ (was : LawfulView view) where
    -- a stripe that the hand has is one of the arena's
    pub stripe_near : stripe < view.setup.config.stripes
    stripe_near =
        let long = ap length (sym (stripes_were view view was)) ∙ length-map-range_with_len (held_stripe was.moment.state was.hand) 0 view.setup.config.stripes in
        let within = inside view.stripes stripe value mine in
        omega arith

    -- and it is this one
    pub stripe_here : (has_stripe was.moment.state was.hand stripe ≡ true) × (stripe_at was.moment.state stripe ≡ value)
    stripe_here =
        held_from (has_stripe was.moment.state was.hand stripe) (stripe_at was.moment.state stripe) value
        (sym (get_or-map-range_with_len (held_stripe was.moment.state was.hand) 0 view.setup.config.stripes stripe stripe None stripe_near (zero-add stripe))
        ∙ (ap (λ (all : List (Option ReadyStripe)). slice_index_or all stripe None) (stripes_were view view was) ∙ mine))

  module _ (how : StripeChange) (can : can_change_stripe how value.state ≡ true) where
    -- it may change so
    may_so : (was : LawfulView view) → (has_stripe was.moment.state was.hand stripe && can_change_stripe how (stripe_at was.moment.state stripe).state) ≡ true
    may_so was = and_from _ _ (stripe_here was).0 (ap (λ (v : ReadyStripe). can_change_stripe how v.state) (stripe_here was).1 ∙ can)

    pub may_change : AllowsStep view (OfStripe stripe how) (core.MissStripe stripe) (lock_address (suc stripe)) (λ found. found)
    may_change = record {
      allowed = may_so;
      step_allowed = λ was. let in_range = stripe_near was in let count = lock_count view view was in lt-ltb stripe (length was.moment.state.stripe_locks) (omega arith);
      writes = λ was.
          let s : State = was.moment.state in
          let changed : State = after_change s was.hand (OfStripe stripe how) in (
            was.cuts,
            subst (AreAll view.setup was.cuts (slice_set was.words (lock_address (suc stripe)) (slice_index was.words (lock_address (suc stripe))))) (sym (looked_keeps columns changed was.hand _ refl))
                (unwritten view.setup was.cuts was.words s.slabs_lock s.stripe_locks s.heads s.words was.are (lock_address (suc stripe))),
            subst (AreCut was.cuts) (sym (looked_keeps (λ (s : State). s.slabs) changed was.hand _ refl)) was.cut,
          );
    }

    -- the view between the change and the look that tells it
    abbrev pub made : View
    made = record view { stripes = slice_set view.stripes stripe (Some (stripe_after how value)) }

    module _ (was : LawfulView view) where
      abbrev s : State
      s = was.moment.state

      abbrev id : ℕ
      id = was.hand

      may : MayChange was.moment id (OfStripe stripe how)
      may = record { lawful = was.lawful; there = was.there; allowed = may_so was }

      abbrev changed : Moment
      changed = moment_changed was.moment id (OfStripe stripe how)

      -- this stripe alone is changed
      made_here : stripe_at changed.state stripe ≡ stripe_after how value
      made_here = get_or-set_same s.stripes stripe (stripe_after how (stripe_at s stripe)) new_stripe (let in_range = stripe_near was in let count = was.stripes in omega arith) ∙ ap (stripe_after how) (stripe_here was).1

      made_other : (i : ℕ) → i ≢ stripe → stripe_at changed.state i ≡ stripe_at s i
      made_other i apart = get_or-set_other s.stripes stripe i (stripe_after how (stripe_at s stripe)) new_stripe apart

      -- and no history grew
      told_none : (i : ℕ) → history_at changed.state i ≡ history_at s i
      told_none i = elim (cases_eq i stripe) [
        | inl same ↦
            ap (history_at changed.state) same
            ∙ (ap (λ (v : ReadyStripe). v.state.history) made_here ∙ (same_history how value ∙ (ap (λ (v : ReadyStripe). v.state.history) (sym (stripe_here was).1) ∙ ap (history_at s) (sym same))))
        | inr apart ↦ ap (λ (v : ReadyStripe). v.state.history) (made_other i apart)
      ]

      stripes_made : held_stripes view.setup changed.state id ≡ slice_set view.stripes stripe (Some (stripe_after how value))
      stripes_made =
          stripes_set view.setup s changed.state id stripe (Some (stripe_after how value)) (stripe_near was)
          ((λ k. if (stripe_here was).0 k then Some (made_here k) else None))
          (λ i apart. ap (λ (v : ReadyStripe). if has_stripe s id i then Some v else None) (made_other i apart))
          ∙ ap (λ (all : List (Option ReadyStripe)). slice_set all stripe (Some (stripe_after how value))) (stripes_were view view was)

      knows_made : knowledge_at changed.past id ≡ view.row.knows
      knows_made =
          are_learned.changes was.moment id (OfStripe stripe how) may
          ∙ (ap (λ (mine : List Own). record (knowledge_at was.moment.past id) { mine = mine }) (mine_alike s changed.state told_none id (knowledge_at was.moment.past id).mine) ∙ knew view view was)

      -- what the changed moment has of the hand
      made_is : made ≡ view_at view.setup view.spare (events_of id was.run) changed id
      made_is = λ k. let old = was.is k in record {
        setup = view.setup;
        spare = view.spare;
        events = old.events;
        row = record { ids = old.row.ids; holdings = old.row.holdings; looks = old.row.looks; knows = sym knows_made k };
        slabs = old.slabs;
        stripes = sym stripes_made k;
        made_of = old.made_of;
      }

      lawful_changed : IsLawful changed
      lawful_changed = lawful_changes was.moment id (OfStripe stripe how) may

    -- it changed, which was told by a look at the word of the stripe's lock
    pub changed_stripe : (now : View) (number : ℕ) → view.row.ids.number ≡ Some number → Happens view (OfStripe stripe how ∷ []) (core.MissStripe stripe) now → now ≡ stripe_changed how stripe value (number + 1) view
    changed_stripe now number numbered h =
        let was = h.was in
        let held = stripe_here was in
        let parts = and_parts _ _ h.allowed in
        let then_may : MayStep (changed was) was.hand (core.MissStripe stripe) = record { lawful = lawful_changed was; there = was.there; allowed = (and_parts _ _ parts.1).1 } in
        let lock : slice_index was.moment.state.stripe_locks stripe ≡ number + 1 =
        (let (n, is_n, word) = held_is (slice_index was.moment.state.stripe_locks stripe) (number_at was.moment.state was.hand) held.0 in word ∙ ap (λ (k : ℕ). k + 1) (same_number n number (sym is_n ∙ (ap (λ (v : View). v.row.ids.number) (sym was.is) ∙ numbered)))) in
        h.is ∙ missed_from made (changed was) was.hand (events_of was.hand was.run) (view.events ++ own_event (OfStripe stripe how ∷ []) (core.MissStripe stripe) ∷ []) (made_is was) stripe (number + 1) then_may lock
