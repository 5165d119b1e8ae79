-- Each event keeps what hands are: numbers apart, locks free or held by one of them.
use Rattle.std.proofs.Common.{◌≡◌, ℕ, ◌^◌, ◌<◌, Bool, true, false, cond, List, Option, Some, None, refl, sym, ap, subst, ◌∙◌, inl, inr, arith, is_some, All}
use Rattle.std.proofs.lemmas.List.Elements.{All-weaker}
use Rattle.mc_pages.specs.declared.ids.ChunkId.{ChunkId}
use Rattle.mc_core.specs.declared.event.Change.{Change}
use Rattle.mc_core.specs.declared.event.Change.TheVariants.{Grow, BeginMove, FinishMove, Touch, SetAutomove, TrimLedger, Passed, Wrap, Evicted, OfStripe, GotNone, DeletedNone}
use Rattle.mc_core.specs.declared.event.Step.{Step}
use Rattle.mc_core.specs.declared.event.Step.TheVariants as step
use Rattle.mc_core.specs.declared.ids.Ids.{Ids}
use Rattle.mc_core.specs.declared.look.Look.{Look}
use Rattle.mc_core.specs.model.State.{State, is_held_by, is_hand, number_at, has_slabs, with_look}
use Rattle.mc_core.specs.run.Locks.{state_after_look}
use Rattle.mc_core.specs.run.Chunks.{state_after_pop_of, popped_off, next_free, target_of}
use Rattle.mc_core.specs.run.Items.{referred_to, with_unlinked, chunk_of_key, with_got}
use Rattle.mc_core.specs.run.Silent.{after_change}
use Rattle.mc_core.specs.run.Run.{after_step}
use Rattle.mc_core.specs.law.Identities.{AreHands, IsFreeOrHeld, number_in, stamps_given}
use Rattle.mc_core.specs.law.Lawful.{HandsIn}
use Rattle.mc_core.specs.law.Laws.{ChangesKeep}
use Rattle.mc_core.proofs.Frame.Own.{IsOwn, own_change}

-- a hand that is there isn't one that is gone
there_not_gone : (a b : Option ℕ) → a ≡ b → is_some a ≡ true → b ≡ None → ⊥
there_not_gone None b same there none = absurd (cc)
there_not_gone (Some n) b same there none = let no : Some n ≡ None = same ∙ none in absurd (cc)

-- locks stay free or held where numbers stay
still_held : (before now : List Ids) (word : ℕ) → ((other : ℕ) → number_in now other ≡ number_in before other) → IsFreeOrHeld before word → IsFreeOrHeld now word
still_held before now word same (inl free) = inl free
still_held before now word same (inr (hand, held)) = inr (hand, ap (is_held_by word) (same hand) ∙ held)

-- a step that changes nothing of hands but what is the stepping hand's own
pub hands_own : (before now : State) (hand : ℕ) → AreHands before.ids before.slabs_lock before.stripe_locks before.holdings before.looks → is_hand before hand ≡ true → IsOwn before now hand
    → ((other : ℕ) → stamps_given now.ids other < 2 ^ 48) → AreHands now.ids now.slabs_lock now.stripe_locks now.holdings now.looks
hands_own before now hand l there own stamps = record {
  count = (omega (arith, l.count.0, own.long), omega (arith, l.count.1, own.long));
  holding_rows = own.holding_rows ∙ l.holding_rows ∙ sym own.long;
  look_rows = own.look_rows ∙ l.look_rows ∙ sym own.long;
  numbers = λ other number is. l.numbers other number (sym (own.numbers other) ∙ is);
  apart = λ a b number at_a at_b. l.apart a b number (sym (own.numbers a) ∙ at_a) (sym (own.numbers b) ∙ at_b);
  stamps = stamps;
  slabs = subst (IsFreeOrHeld now.ids) (sym own.slabs_lock) (still_held before.ids now.ids before.slabs_lock own.numbers l.slabs);
  stripes = subst (All (IsFreeOrHeld now.ids)) (sym own.stripe_locks)
      (All-weaker (IsFreeOrHeld before.ids) (IsFreeOrHeld now.ids) (λ word. still_held before.ids now.ids word own.numbers) before.stripe_locks l.stripes);
  nothing = λ other none. own.holdings other (λ same. there_not_gone (number_at before hand) (number_in before.ids other) (ap (number_in before.ids) (sym same)) there (sym (own.numbers other) ∙ none))
      ∙ l.nothing other (sym (own.numbers other) ∙ none);
}

-- of whose stamps none is added
abbrev pub SameIds : State → State → Type 0
SameIds before now = now.ids ≡ before.ids

ids_popped : (s : State) (hand : ℕ) (chunk : Option ChunkId) → SameIds s (state_after_pop_of s hand chunk)
ids_popped s hand None = refl
ids_popped s hand (Some chunk) = refl

ids_popped_off : (s : State) (hand : ℕ) (old : ChunkId) (chunk : Option ChunkId) → SameIds s (popped_off s hand old chunk)
ids_popped_off s hand old None = refl
ids_popped_off s hand old (Some chunk) = refl

ids_referred : (s : State) (hand : ℕ) (place : Option (ChunkId × ℕ)) → SameIds s (referred_to s hand place)
ids_referred s hand None = refl
ids_referred s hand (Some place) = refl

ids_unlinked : (s : State) (place : Option (ChunkId × ℕ)) → SameIds s (with_unlinked s place)
ids_unlinked s None = refl
ids_unlinked s (Some place) = refl

ids_looked : (s : State) (hand : ℕ) (look : Look) → SameIds s (state_after_look s hand look)
ids_looked s hand look = elim (has_slabs s hand) as (λ b. (cond b (with_look s hand look) s).ids ≡ s.ids) [ true ↦ refl | false ↦ refl ]

-- the step gives out no stamp, and hands stay
abbrev pub leaves_ids : Step → Bool
leaves_ids (step.Link chunk) = false
leaves_ids (step.Join kept spent) = false
leaves_ids other = true

pub ids_step : (s : State) (hand : ℕ) (step : Step) → leaves_ids step ≡ true → SameIds s (after_step s hand step)
ids_step s hand step.TakeSlabs h = refl
ids_step s hand (step.TakeStripe stripe) h = refl
ids_step s hand step.MissSlabs h = refl
ids_step s hand (step.MissStripe stripe) h = ids_looked s hand _
ids_step s hand step.GiveSlabs h = refl
ids_step s hand (step.GiveStripe stripe) h = refl
ids_step s hand (step.Head chunk) h = ids_looked s hand _
ids_step s hand (step.Pop class) h = ids_popped _ hand (next_free s class)
ids_step s hand (step.PopOff old) h = ids_popped_off s hand old (target_of s.table s.heads s.slabs old.page)
ids_step s hand (step.Fill chunk place word) h = refl
ids_step s hand (step.Word chunk place) h = refl
ids_step s hand (step.WordHeld chunk place) h = refl
ids_step s hand (step.Link chunk) h = absurd (cc)
ids_step s hand (step.Refer key) h = ids_referred (with_got s hand key) hand (chunk_of_key s key)
ids_step s hand (step.Unlink key) h = ids_unlinked _ (chunk_of_key s key)
ids_step s hand (step.Release chunk) h = refl
ids_step s hand (step.Discard chunk) h = refl
ids_step s hand (step.Condemn chunk) h = refl
ids_step s hand (step.PutBack chunk) h = refl
ids_step s hand (step.Clear chunk) h = refl
ids_step s hand (step.Cut page index) h = refl
ids_step s hand (step.Again chunk issue) h = refl
ids_step s hand (step.Join kept spent) h = absurd (cc)

pub ids_change : (s : State) (hand : ℕ) (change : Change) → SameIds s (after_change s hand change)
ids_change s hand (Grow class) = refl
ids_change s hand (BeginMove src dst) = refl
ids_change s hand FinishMove = refl
ids_change s hand (Touch chunk) = refl
ids_change s hand (SetAutomove mode) = refl
ids_change s hand TrimLedger = refl
ids_change s hand (Passed found) = refl
ids_change s hand Wrap = refl
ids_change s hand (Evicted class) = refl
ids_change s hand (OfStripe stripe how) = refl
ids_change s hand (GotNone key) = refl
ids_change s hand (DeletedNone key) = refl

pub hands_changes : ChangesKeep HandsIn
hands_changes m hand change may =
    hands_own m.state _ hand may.lawful.hands may.there (own_change m.state hand change)
    (λ other. subst (λ (ids : List Ids). stamps_given ids other < 2 ^ 48) (sym (ids_change m.state hand change)) (may.lawful.hands.stamps other))
