-- A step changes a value behind a lock only where its hand has that lock.
use Rattle.std.proofs.Common.{◌≡◌, ◌⊎◌, ℕ, ◌&&◌, true, List, length, Option, Some, None, refl, sym, ap, subst, ◌∙◌, inl, inr, slice_set, slice_index_or, length-set, get_or-set_other}
use Rattle.std.proofs.lemmas.Bool.{and_parts, cases_eq}
use Rattle.mc_pages.specs.declared.ids.ChunkId.{ChunkId}
use Rattle.mc_stripe.specs.StripeState.{ReadyStripe, can_store, new_stripe}
use Rattle.mc_core.specs.declared.holding.Holding.{Holding}
use Rattle.mc_core.specs.declared.holding.Kind.{Kind}
use Rattle.mc_core.specs.declared.holding.Kind.TheVariants.{Reference, Fresh}
use Rattle.mc_core.specs.declared.holding.Purpose.TheVariants.{Item, Copy, Rescue}
use Rattle.mc_core.specs.declared.event.Step.{Step}
use Rattle.mc_core.specs.declared.event.Step.TheVariants as step
use Rattle.mc_core.specs.declared.event.Change.{Change}
use Rattle.mc_core.specs.declared.event.Change.TheVariants.{Grow, BeginMove, FinishMove, Touch, SetAutomove, TrimLedger, Passed, Wrap, Evicted, OfStripe, GotNone, DeletedNone}
use Rattle.mc_core.specs.law.Frame.{ChangesUnderLocks}
use Rattle.mc_core.specs.model.Holdings.{is_of_chunk, holding_of, known_key, has_fresh, holding_words}
use Rattle.mc_core.specs.model.State.{State, has_slabs, has_stripe, stripe_of, stripe_at, with_stripe, with_slabs, holdings_at, looks_at, without_holding}
use Rattle.mc_core.specs.run.Silent.{writer_of, after_change, allows_change}
use Rattle.mc_core.specs.run.Chunks.{next_free, target_of, has_place}
use Rattle.mc_core.specs.run.Items.{with_got, chunk_of_key, after_link_of, can_link_holding, can_link_key, recorded_link, can_refer_to, can_look_up, can_lift, is_linked_at}
use Rattle.mc_core.specs.run.Items as items
use Rattle.mc_core.specs.run.Evictions.{key_at, can_lose_entry, has_copy, has_reason}
use Rattle.mc_core.specs.run.Run.{after_step, allows_step}
use Rattle.mc_pages.specs.Changes as slabs_changes
use Rattle.mc_core.proofs.Frame.SameSlabs.{looked_keeps, popped_keeps, popped_off_keeps, told_link_keeps, referred_keeps, unlinked_keeps}
use Rattle.mc_core.proofs.Steps.StepTests.{pop_tests, pop_off_tests, put_back_tests, clear_tests, cut_tests}
use Rattle.mc_core.proofs.Hands.HandsSteps.{link_parts}

-- one stripe is written, whose lock the hand has
stripe_written : (s : State) (hand key : ℕ) (value : ReadyStripe) → has_stripe s hand (stripe_of s key) ≡ true → (i : ℕ)
    → (stripe_at (with_stripe s (stripe_of s key) value) i ≡ stripe_at s i) ⊎ (has_stripe s hand i ≡ true)
stripe_written s hand key value has i =
    elim (cases_eq i (stripe_of s key)) [
      | inl same ↦ inr (subst (λ (k : ℕ). has_stripe s hand k ≡ true) (sym same) has)
      | inr apart ↦ inl (get_or-set_other s.stripes (stripe_of s key) i value new_stripe apart)
    ]

module _ (s now : State) (hand : ℕ) where
  -- neither is changed
  pub guards_same : now.slabs ≡ s.slabs → now.stripes ≡ s.stripes → ChangesUnderLocks s now hand
  guards_same slabs stripes = record {
    slabs = inl slabs;
    stripes = λ i. inl (ap (λ (all : List ReadyStripe). slice_index_or all i new_stripe) stripes);
    count = ap length stripes;
  }

  guards_slabs : has_slabs s hand ≡ true → now.stripes ≡ s.stripes → ChangesUnderLocks s now hand
  guards_slabs has stripes = record {
    slabs = inr has;
    stripes = λ i. inl (ap (λ (all : List ReadyStripe). slice_index_or all i new_stripe) stripes);
    count = ap length stripes;
  }

  guards_stripe : (key : ℕ) (value : ReadyStripe) → has_stripe s hand (stripe_of s key) ≡ true → now.slabs ≡ s.slabs → now.stripes ≡ slice_set s.stripes (stripe_of s key) value → ChangesUnderLocks s now hand
  guards_stripe key value has slabs stripes = record {
    slabs = inl slabs;
    stripes = λ i. subst (λ (all : List ReadyStripe). (slice_index_or all i new_stripe ≡ stripe_at s i) ⊎ (has_stripe s hand i ≡ true)) (sym stripes) (stripe_written s hand key value has i);
    count = ap length stripes ∙ length-set s.stripes (stripe_of s key) value;
  }

-- which stripe a link writes
told_stripes : (s : State) (hand : ℕ) (holding : Holding) (kind : Kind) → (value : ReadyStripe) × ((recorded_link s hand holding kind).stripes ≡ slice_set s.stripes (stripe_of s (known_key (holding_words holding))) value)
told_stripes s hand holding (Reference own) = (_, refl)
told_stripes s hand holding (Fresh Item own) = (_, refl)
told_stripes s hand holding (Fresh (Copy old) own) = (_, refl)
told_stripes s hand holding (Fresh (Rescue old item) own) = (_, refl)

guards_link : (s : State) (hand : ℕ) (chunk : ChunkId) (found : Option Holding) → can_link_holding s hand chunk found ≡ true → ChangesUnderLocks s (after_link_of (without_holding s hand (is_of_chunk chunk)) hand chunk found) hand
guards_link s hand chunk None can = absurd (cc)
guards_link s hand chunk (Some holding) can =
    let left : State = without_holding s hand (is_of_chunk chunk) in
    let key = known_key (holding_words holding) in
    let parts = link_parts s hand chunk holding can in
    let ready = and_parts (has_stripe s hand (stripe_of s key) && can_store (stripe_at s (stripe_of s key))) _ parts.1 in
    let has = (and_parts (has_stripe s hand (stripe_of s key)) (can_store (stripe_at s (stripe_of s key))) ready.0).0 in
    let told = told_stripes left hand holding holding.kind in
    guards_stripe s (after_link_of left hand chunk (Some holding)) hand key told.0 has
    (told_link_keeps (λ x. x.slabs) left hand holding holding.kind refl refl) told.1

ready_has : (s : State) (hand key : ℕ) → can_look_up s hand key ≡ true → has_stripe s hand (stripe_of s key) ≡ true
ready_has s hand key can =
    let first = and_parts (has_stripe s hand (stripe_of s key) && (stripe_at s (stripe_of s key)).ready) _ can in
    (and_parts (has_stripe s hand (stripe_of s key)) (stripe_at s (stripe_of s key)).ready first.0).0

pub guards_step : (s : State) (hand : ℕ) (next : Step) → allows_step s hand next ≡ true → ChangesUnderLocks s (after_step s hand next) hand
guards_step s hand step.TakeSlabs can = guards_same s _ hand refl refl
guards_step s hand (step.TakeStripe stripe) can = guards_same s _ hand refl refl
guards_step s hand step.MissSlabs can = guards_same s _ hand refl refl
guards_step s hand (step.MissStripe stripe) can = guards_same s _ hand (looked_keeps (λ x. x.slabs) s hand _ refl) (looked_keeps (λ x. x.stripes) s hand _ refl)
guards_step s hand step.GiveSlabs can = guards_same s _ hand refl refl
guards_step s hand (step.GiveStripe stripe) can = guards_same s _ hand refl refl
guards_step s hand (step.Head chunk) can = guards_same s _ hand (looked_keeps (λ x. x.slabs) s hand _ refl) (looked_keeps (λ x. x.stripes) s hand _ refl)
guards_step s hand (step.Pop class) can =
    guards_slabs s _ hand (pop_tests s hand class (next_free s class) can).0
    (popped_keeps (λ x. x.stripes) (with_slabs s (slabs_changes.after_pop s.slabs class)) hand (next_free s class) (λ chunk. refl))
guards_step s hand (step.PopOff old) can =
    guards_slabs s _ hand (pop_off_tests s hand old (target_of s.table s.heads s.slabs old.page) can).0 (popped_off_keeps (λ x. x.stripes) s hand old (target_of s.table s.heads s.slabs old.page) (λ chunk. refl))
guards_step s hand (step.Fill chunk place word) can = guards_same s _ hand refl refl
guards_step s hand (step.Word chunk place) can = guards_same s _ hand refl refl
guards_step s hand (step.WordHeld chunk place) can = guards_same s _ hand refl refl
guards_step s hand (step.Link chunk) can = guards_link s hand chunk (holding_of chunk (holdings_at s hand)) can
guards_step s hand (step.Refer key) can =
    let first = and_parts (can_look_up s hand key && has_place s hand) (can_refer_to s (chunk_of_key s key)) can in
    let has = ready_has s hand key (and_parts (can_look_up s hand key) (has_place s hand) first.0).0 in
    guards_stripe s _ hand key _ has (referred_keeps (λ x. x.slabs) (with_got s hand key) hand (chunk_of_key s key) (λ chunk. refl))
    (referred_keeps (λ x. x.stripes) (with_got s hand key) hand (chunk_of_key s key) (λ chunk. refl))
guards_step s hand (step.Unlink key) can =
    let first = and_parts (can_look_up s hand key && can_lift s hand key) (is_linked_at s (chunk_of_key s key)) can in
    let has = ready_has s hand key (and_parts (can_look_up s hand key) (can_lift s hand key) first.0).0 in
    let value : ReadyStripe = items.stripe_unlinked (stripe_at s (stripe_of s key)) (has_fresh (holdings_at s hand)) (writer_of s hand) key in
    guards_stripe s _ hand key value has (unlinked_keeps (λ x. x.slabs) (with_stripe s (stripe_of s key) value) (chunk_of_key s key) (λ chunk. refl))
    (unlinked_keeps (λ x. x.stripes) (with_stripe s (stripe_of s key) value) (chunk_of_key s key) (λ chunk. refl))
guards_step s hand (step.Release chunk) can = guards_same s _ hand refl refl
guards_step s hand (step.Discard chunk) can = guards_same s _ hand refl refl
guards_step s hand (step.Condemn chunk) can =
    let key = key_at s chunk in
    let stripe = stripe_of s key in
    let takes = can_lose_entry (stripe_at s stripe) key (has_copy (holdings_at s hand) chunk) in
    let first = and_parts _ (has_reason s.table s.heads s.slabs (looks_at s hand) (holdings_at s hand) chunk) can in
    let second = and_parts _ takes first.0 in
    let has = (and_parts _ (has_stripe s hand stripe) second.0).1 in
    guards_stripe s _ hand key _ has refl refl
guards_step s hand (step.PutBack chunk) can = guards_slabs s _ hand (put_back_tests s hand chunk can).0 refl
guards_step s hand (step.Clear chunk) can = guards_slabs s _ hand (clear_tests s hand chunk can).0 refl
guards_step s hand (step.Cut page index) can = guards_slabs s _ hand (cut_tests s hand _ can).0 refl
guards_step s hand (step.Again chunk issue) can = guards_same s _ hand refl refl
guards_step s hand (step.Join kept spent) can = guards_same s _ hand refl refl

-- a stripe that the hand has is another value
guards_at : (s : State) (hand stripe : ℕ) (value : ReadyStripe) → has_stripe s hand stripe ≡ true → ChangesUnderLocks s (with_stripe s stripe value) hand
guards_at s hand stripe value has = record {
  slabs = inl refl;
  stripes = λ i. elim (cases_eq i stripe) [
    | inl same ↦ inr (subst (λ (k : ℕ). has_stripe s hand k ≡ true) (sym same) has)
    | inr apart ↦ inl (get_or-set_other s.stripes stripe i _ new_stripe apart)
  ];
  count = length-set s.stripes stripe _;
}

pub guards_change : (s : State) (hand : ℕ) (change : Change) → allows_change s hand change ≡ true → ChangesUnderLocks s (after_change s hand change) hand
guards_change s hand (Grow class) can = guards_slabs s _ hand (and_parts (has_slabs s hand) _ can).0 refl
guards_change s hand (BeginMove src dst) can = guards_slabs s _ hand (and_parts (has_slabs s hand) _ can).0 refl
guards_change s hand FinishMove can = guards_slabs s _ hand (and_parts (has_slabs s hand) _ can).0 refl
guards_change s hand (Touch chunk) can = guards_slabs s _ hand (and_parts (has_slabs s hand) _ can).0 refl
guards_change s hand (SetAutomove mode) can = guards_slabs s _ hand (and_parts (has_slabs s hand) _ can).0 refl
guards_change s hand TrimLedger can = guards_slabs s _ hand (and_parts (has_slabs s hand) _ can).0 refl
guards_change s hand (Passed found) can = guards_slabs s _ hand (and_parts (has_slabs s hand) _ can).0 refl
guards_change s hand Wrap can = guards_slabs s _ hand (and_parts (has_slabs s hand) _ can).0 refl
guards_change s hand (Evicted class) can = guards_slabs s _ hand (and_parts (has_slabs s hand) _ can).0 refl
guards_change s hand (OfStripe stripe how) can = guards_at s hand stripe _ (and_parts (has_stripe s hand stripe) _ can).0
guards_change s hand (GotNone key) can = guards_stripe s _ hand key _ (and_parts (has_stripe s hand (stripe_of s key)) _ can).0 refl refl
guards_change s hand (DeletedNone key) can = guards_stripe s _ hand key _ (and_parts (has_stripe s hand (stripe_of s key)) _ can).0 refl refl
