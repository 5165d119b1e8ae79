-- What each step leaves: a part of the state that no branch of it changes, the table, and the owners of pages.
use Rattle.std.proofs.Common.{◌≡◌, ℕ, Bool, true, false, Option, Some, None, if◌then◌else◌, refl}
use Rattle.mc_pages.specs.declared.ids.ChunkId.{ChunkId}
use Rattle.mc_core.specs.declared.holding.Holding.{Holding}
use Rattle.mc_core.specs.declared.holding.Kind.{Kind}
use Rattle.mc_core.specs.declared.holding.Kind.TheVariants.{Reference, Fresh}
use Rattle.mc_core.specs.declared.holding.Purpose.TheVariants.{Item, Copy, Rescue}
use Rattle.mc_core.specs.declared.look.Look.{Look}
use Rattle.mc_core.specs.declared.event.Step.{Step}
use Rattle.mc_core.specs.declared.event.Step.TheVariants.{TakeSlabs, TakeStripe, MissSlabs, MissStripe, GiveSlabs, GiveStripe, Pop, PopOff, Fill, Word, WordHeld, Link, Refer, Unlink, Release, Discard, Condemn, PutBack, Clear, Cut, Again, Join}
use Rattle.mc_core.specs.declared.event.Step.TheVariants as step
use Rattle.mc_core.specs.model.Holdings.{is_of_chunk, holding_of}
use Rattle.mc_core.specs.model.State.{State, has_slabs, with_look, with_head, with_slabs, head_at, holdings_at, without_holding}
use Rattle.mc_core.specs.run.Locks.{state_after_look}
use Rattle.mc_core.specs.run.Chunks.{state_after_pop_of, popped_off, next_free, target_of}
use Rattle.mc_core.specs.run.Items.{recorded_link, with_rescued, with_set, after_link_of, with_got, referred_to, with_reference, with_unlinked, head_after_unlink, chunk_of_key}
use Rattle.mc_core.specs.run.Run.{after_step}
use Rattle.mc_pages.specs.Changes as slabs_changes

-- a part of the state that no branch changes stays, whichever is taken; the facts on branches are mostly refl
module _ {T : Type 0} (part : State → T) where
  pub looked_keeps : (state : State) (hand : ℕ) (look : Look) → part (with_look state hand look) ≡ part state → part (state_after_look state hand look) ≡ part state
  looked_keeps state hand look keeps = elim (has_slabs state hand) as (λ (b : Bool). part (if b then with_look state hand look else state) ≡ part state) [ true ↦ keeps | false ↦ refl ]

  pub popped_keeps : (state : State) (hand : ℕ) (next : Option ChunkId) → ((chunk : ChunkId) → part (state_after_pop_of state hand (Some chunk)) ≡ part state) → part (state_after_pop_of state hand next) ≡ part state
  popped_keeps state hand None keeps = refl
  popped_keeps state hand (Some chunk) keeps = keeps chunk

  pub popped_off_keeps : (state : State) (hand : ℕ) (old : ChunkId) (next : Option ChunkId) → ((chunk : ChunkId) → part (popped_off state hand old (Some chunk)) ≡ part state) → part (popped_off state hand old next) ≡ part state
  popped_off_keeps state hand old None keeps = refl
  popped_off_keeps state hand old (Some chunk) keeps = keeps chunk

  pub told_link_keeps : (state : State) (hand : ℕ) (holding : Holding) (kind : Kind) → part (with_rescued state hand holding) ≡ part state → part (with_set state hand holding) ≡ part state → part (recorded_link state hand holding kind) ≡ part state
  told_link_keeps state hand holding (Reference own) rescued set = set
  told_link_keeps state hand holding (Fresh Item own) rescued set = set
  told_link_keeps state hand holding (Fresh (Copy old) own) rescued set = set
  told_link_keeps state hand holding (Fresh (Rescue old item) own) rescued set = rescued

  pub linked_keeps : (state : State) (hand : ℕ) (chunk : ChunkId) (found : Option Holding) → ((holding : Holding) → part (after_link_of state hand chunk (Some holding)) ≡ part state) → part (after_link_of state hand chunk found) ≡ part state
  linked_keeps state hand chunk None keeps = refl
  linked_keeps state hand chunk (Some holding) keeps = keeps holding

  pub referred_keeps : (state : State) (hand : ℕ) (place : Option (ChunkId × ℕ)) → ((chunk : ChunkId) → part (with_reference state hand chunk) ≡ part state) → part (referred_to state hand place) ≡ part state
  referred_keeps state hand None keeps = refl
  referred_keeps state hand (Some place) keeps = keeps place.0

  pub unlinked_keeps : (state : State) (place : Option (ChunkId × ℕ)) → ((chunk : ChunkId) → part (with_head state chunk (head_after_unlink (head_at state chunk))) ≡ part state) → part (with_unlinked state place) ≡ part state
  unlinked_keeps state None keeps = refl
  unlinked_keeps state (Some place) keeps = keeps place.0

-- no step changes the table
pub table_stays : (state : State) (hand : ℕ) (step : Step) → (after_step state hand step).table ≡ state.table
table_stays state hand TakeSlabs = refl
table_stays state hand (TakeStripe stripe) = refl
table_stays state hand MissSlabs = refl
table_stays state hand (MissStripe stripe) = looked_keeps (λ s. s.table) state hand _ refl
table_stays state hand GiveSlabs = refl
table_stays state hand (GiveStripe stripe) = refl
table_stays state hand (step.Head chunk) = looked_keeps (λ s. s.table) state hand _ refl
table_stays state hand (Pop class) = popped_keeps (λ s. s.table) (with_slabs state (slabs_changes.after_pop state.slabs class)) hand (next_free state class) (λ chunk. refl)
table_stays state hand (PopOff old) = popped_off_keeps (λ s. s.table) state hand old (target_of state.table state.heads state.slabs old.page) (λ chunk. refl)
table_stays state hand (Fill chunk place word) = refl
table_stays state hand (Word chunk place) = refl
table_stays state hand (WordHeld chunk place) = refl
table_stays state hand (Link chunk) =
    let left : State = without_holding state hand (is_of_chunk chunk) in
    linked_keeps (λ s. s.table) left hand chunk (holding_of chunk (holdings_at state hand)) (λ holding. told_link_keeps (λ s. s.table) left hand holding holding.kind refl refl)
table_stays state hand (Refer key) = referred_keeps (λ s. s.table) (with_got state hand key) hand (chunk_of_key state key) (λ chunk. refl)
table_stays state hand (Unlink key) = unlinked_keeps (λ s. s.table) _ (chunk_of_key state key) (λ chunk. refl)
table_stays state hand (Release chunk) = refl
table_stays state hand (Discard chunk) = refl
table_stays state hand (Condemn chunk) = refl
table_stays state hand (PutBack chunk) = refl
table_stays state hand (Clear chunk) = refl
table_stays state hand (Cut page index) = refl
table_stays state hand (Again chunk issue) = refl
table_stays state hand (Join kept spent) = refl

-- nor the owners of pages, and so neither does it change the class of a page
pub owners_stay : (state : State) (hand : ℕ) (step : Step) → (after_step state hand step).slabs.owners ≡ state.slabs.owners
owners_stay state hand TakeSlabs = refl
owners_stay state hand (TakeStripe stripe) = refl
owners_stay state hand MissSlabs = refl
owners_stay state hand (MissStripe stripe) = looked_keeps (λ s. s.slabs.owners) state hand _ refl
owners_stay state hand GiveSlabs = refl
owners_stay state hand (GiveStripe stripe) = refl
owners_stay state hand (step.Head chunk) = looked_keeps (λ s. s.slabs.owners) state hand _ refl
owners_stay state hand (Pop class) = popped_keeps (λ s. s.slabs.owners) (with_slabs state (slabs_changes.after_pop state.slabs class)) hand (next_free state class) (λ chunk. refl)
owners_stay state hand (PopOff old) = popped_off_keeps (λ s. s.slabs.owners) state hand old (target_of state.table state.heads state.slabs old.page) (λ chunk. refl)
owners_stay state hand (Fill chunk place word) = refl
owners_stay state hand (Word chunk place) = refl
owners_stay state hand (WordHeld chunk place) = refl
owners_stay state hand (Link chunk) =
    let left : State = without_holding state hand (is_of_chunk chunk) in
    linked_keeps (λ s. s.slabs.owners) left hand chunk (holding_of chunk (holdings_at state hand)) (λ holding. told_link_keeps (λ s. s.slabs.owners) left hand holding holding.kind refl refl)
owners_stay state hand (Refer key) = referred_keeps (λ s. s.slabs.owners) (with_got state hand key) hand (chunk_of_key state key) (λ chunk. refl)
owners_stay state hand (Unlink key) = unlinked_keeps (λ s. s.slabs.owners) _ (chunk_of_key state key) (λ chunk. refl)
owners_stay state hand (Release chunk) = refl
owners_stay state hand (Discard chunk) = refl
owners_stay state hand (Condemn chunk) = refl
owners_stay state hand (PutBack chunk) = refl
owners_stay state hand (Clear chunk) = refl
owners_stay state hand (Cut page index) = refl
owners_stay state hand (Again chunk issue) = refl
owners_stay state hand (Join kept spent) = refl
