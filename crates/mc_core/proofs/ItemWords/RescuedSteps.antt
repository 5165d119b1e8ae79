-- Every change and every step keeps what holdings say of items that are being rescued.
use Rattle.std.proofs.Common.{◌≡◌, ◌≢◌, refl, ℕ, ◌==◌, not, nat_lt, ap, subst, eq-eqb, Bool, true, false, List, [], length, arith, slice_index, Option, Some, None, if◌then◌else◌}
use Rattle.std.specs.Prelude.{⊤}
use Rattle.std.proofs.lemmas.Bool.{and_parts, both_ways}
use Rattle.mc_pages.specs.SlabState.{class_at, class_of_page}
use Rattle.mc_pages.proofs.Chunks.{same_from_is_chunk}
use Rattle.mc_pages.specs.declared.ids.ChunkId.{ChunkId}
use Rattle.mc_pages.specs.Changes as slabs_changes
use Rattle.mc_core.specs.declared.event.Change.TheVariants.{Grow, BeginMove, FinishMove, Touch, SetAutomove, TrimLedger, Passed, Wrap, Evicted, OfStripe, GotNone, DeletedNone}
use Rattle.mc_core.specs.declared.event.Step.TheVariants.{TakeSlabs, TakeStripe, MissSlabs, MissStripe, GiveSlabs, GiveStripe, Pop, PopOff, Fill, Word, WordHeld, Link, Refer, Unlink, Release, Discard, Condemn, PutBack, Clear, Cut, Again, Join}
use Rattle.mc_core.specs.declared.event.Step.TheVariants as step
use Rattle.mc_core.specs.declared.holding.Holding.{Holding}
use Rattle.mc_core.specs.declared.holding.Kind.{Kind}
use Rattle.mc_core.specs.declared.holding.Kind.TheVariants.{Reference, Fresh}
use Rattle.mc_core.specs.declared.holding.Purpose.TheVariants.{Item, Copy, Rescue}
use Rattle.mc_core.specs.declared.look.Look.{Look}
use Rattle.mc_core.specs.declared.look.Look.TheVariants.{Saw, SawStripe}
use Rattle.mc_core.specs.model.Holdings.{Words, is_of_chunk, is_copy_of, is_copy_kind, holding_of, stamp_in_words, length_of_item}
use Rattle.mc_core.specs.model.State.{State, has_slabs, head_at, item_at, holdings_at, with_slabs, with_look, with_head, with_holding, without_holding}
use Rattle.mc_core.specs.run.Locks.{state_after_look}
use Rattle.mc_core.specs.run.Chunks.{next_free, state_after_pop_of, is_target, target_of, most_issue, popped_off, holding_with_word, filled_kind}
use Rattle.mc_core.specs.run.Items.{chunk_of_key, after_link_of, recorded_link, with_got, referred_to, with_unlinked, head_after_link, as_reference}
use Rattle.mc_core.specs.run.Evictions.{as_rescue}
use Rattle.mc_core.specs.run.Run.{after_step}
use Rattle.mc_core.specs.past.Past.{Moment, StoredItem, with_more, item_stored_by_link, first_moment}
use Rattle.mc_core.specs.model.Columns.{Each}
use Rattle.mc_core.specs.law.Knowing.{WasStored, IsRescue}
use Rattle.mc_core.specs.law.Laws.{MayStep, ChangesKeep, StepsKeep, HoldsAtFirst}
use Rattle.mc_core.specs.law.Lawful.{RescuedIn}
use Rattle.mc_core.proofs.Steps.Base.{each_map, found_has}
use Rattle.mc_core.proofs.Counts.Rows.{rows_less, rows_more, each_less, each_more}
use Rattle.mc_core.proofs.Counts.Changed.{rows_changed, each_changed}
use Rattle.mc_core.proofs.Steps.Plays.{hand_there}
use Rattle.mc_core.proofs.Hands.MoreRows.{joined_rows}
use Rattle.mc_core.proofs.Histories.SaidOnce.{said_more, said_joined}
use Rattle.mc_core.proofs.Known.KnownReferences.{item_has}
use Rattle.mc_core.proofs.Known.KnownCondemned.{condemnable, are_joined}
use Rattle.mc_core.proofs.Known.KnownSteps.{each_none}
use Rattle.mc_core.proofs.Known.KnownQuiet.{IsStill}

-- what was said is said still
rescue_still : (said said' : List (List StoredItem)) → ((stamp : ℕ) (words : List ℕ) → WasStored said stamp words → WasStored said' stamp words) → (chunk : ChunkId) (kind : Kind) → IsRescue said chunk kind → IsRescue said' chunk kind
rescue_still said said' more chunk (Reference own) is = tt
rescue_still said said' more chunk (Fresh Item own) is = tt
rescue_still said said' more chunk (Fresh (Copy old) own) is = is
rescue_still said said' more chunk (Fresh (Rescue old item) own) is = (is.0, more (stamp_in_words item) item is.1, is.2)

filled_rescue : (said : List (List StoredItem)) (place word : ℕ) (chunk : ChunkId) (kind : Kind) → IsRescue said chunk kind → IsRescue said chunk (filled_kind place word kind)
filled_rescue said place word chunk (Reference own) is = tt
filled_rescue said place word chunk (Fresh Item own) is = tt
filled_rescue said place word chunk (Fresh (Copy old) own) is = is
filled_rescue said place word chunk (Fresh (Rescue old item) own) is = is

-- a copy is off the page of the chunk that it is to be a copy of
pub copy_is : (said : List (List StoredItem)) (chunk old : ChunkId) (kind : Kind) → is_copy_kind old kind ≡ true → IsRescue said chunk kind
    → ((own : Words) × (kind ≡ Fresh (Copy old) own)) × (chunk.page ≢ old.page)
copy_is said chunk old (Reference own) is off = absurd (cc)
copy_is said chunk old (Fresh Item own) is off = absurd (cc)
copy_is said chunk old (Fresh (Copy other) own) is off =
    let same = same_from_is_chunk other old is in ((own, ap (λ (c : ChunkId). Fresh (Copy c) own) same), subst (λ (c : ChunkId). chunk.page ≢ c.page) same off)
copy_is said chunk old (Fresh (Rescue other item) own) is off = absurd (cc)

-- so is a chunk that one may be taken to
target_off : (s : State) (page : ℕ) (chunk : ChunkId) → target_of s.table s.heads s.slabs page ≡ Some chunk → chunk.page ≢ page
target_off s page chunk found =
    let free = (class_at s.slabs (class_of_page s.slabs page)).free in
    let passes = (found_has (λ (c : ChunkId). ⊤) (is_target s.table s.heads page) free chunk found (λ i c within. tt)).1 in
    let off = (and_parts (not (chunk.page == page)) (nat_lt (head_at s chunk).issue most_issue) passes).0 in
    λ same. both_ways (not (chunk.page == page)) (ap not (eq-eqb chunk.page page same)) off

abbrev IsSaidRescue : List (List StoredItem) → Holding → Type 0
IsSaidRescue said holding = IsRescue said holding.chunk holding.kind

abbrev AreRescued : List (List Holding) → List (List StoredItem) → Type 0
AreRescued rows said = Each (IsSaidRescue said) rows

rescued_more : (rows : List (List Holding)) (said : List (List StoredItem)) (hand : ℕ) (more : List StoredItem) → AreRescued rows said → AreRescued rows (with_more said hand more)
rescued_more rows said hand more =
    each_map (IsSaidRescue said) (IsSaidRescue (with_more said hand more)) rows (λ holding. rescue_still said (with_more said hand more) (λ stamp words. said_more said hand more stamp words) holding.chunk holding.kind)

module _ (m : Moment) (hand : ℕ) where
  -- what is left of rows and sayings
  abbrev Ends : State → List StoredItem → Type 0
  Ends s more = AreRescued s.holdings (with_more m.past.stored hand more)

  ends : (s : State) (more : List StoredItem) → AreRescued s.holdings m.past.stored → Ends s more
  ends s more is = rescued_more s.holdings m.past.stored hand more is

  looked_rescued : (look : Look) → AreRescued m.state.holdings m.past.stored → AreRescued (state_after_look m.state hand look).holdings m.past.stored
  looked_rescued look is = elim (has_slabs m.state hand) as (λ (b : Bool). AreRescued (if b then with_look m.state hand look else m.state).holdings m.past.stored) [ true ↦ is | false ↦ is ]

  module _ (is : AreRescued m.state.holdings m.past.stored) where
    one_less : (test : Holding → Bool) → AreRescued (rows_less m.state.holdings hand test) m.past.stored
    one_less test = each_less m.state.holdings hand (IsSaidRescue m.past.stored) test is

    -- a holding goes and one comes
    one_other : (test : Holding → Bool) (holding : Holding) → IsRescue m.past.stored holding.chunk holding.kind → AreRescued (rows_more (rows_less m.state.holdings hand test) hand holding) m.past.stored
    one_other test holding new = each_more (rows_less m.state.holdings hand test) hand (IsSaidRescue m.past.stored) holding (one_less test) new

    one_more : (holding : Holding) → IsRescue m.past.stored holding.chunk holding.kind → AreRescued (rows_more m.state.holdings hand holding) m.past.stored
    one_more holding new = each_more m.state.holdings hand (IsSaidRescue m.past.stored) holding is new

    popped_rescued : (class : ℕ) (next : Option ChunkId) → AreRescued (state_after_pop_of (with_slabs m.state (slabs_changes.after_pop m.state.slabs class)) hand next).holdings m.past.stored
    popped_rescued class None = is
    popped_rescued class (Some chunk) = one_more _ tt

    popped_off_rescued : (old : ChunkId) (next : Option ChunkId) → target_of m.state.table m.state.heads m.state.slabs old.page ≡ next → AreRescued (popped_off m.state hand old next).holdings m.past.stored
    popped_off_rescued old None found = is
    popped_off_rescued old (Some chunk) found = one_more _ (target_off m.state old.page chunk found)

    filled_rescued : (chunk : ChunkId) (place word : ℕ) → AreRescued (rows_changed m.state.holdings hand (is_of_chunk chunk) (holding_with_word place word)) m.past.stored
    filled_rescued chunk place word = each_changed (is_of_chunk chunk) (holding_with_word place word) m.state.holdings hand (IsSaidRescue m.past.stored) (IsSaidRescue m.past.stored) (λ h rescue. rescue) (λ h _ rescue. filled_rescue m.past.stored place word h.chunk h.kind rescue) is

    linked_kind : (chunk : ChunkId) (holding : Holding) (kind : Kind) → AreRescued (with_holding (with_head (recorded_link (without_holding m.state hand (is_of_chunk chunk)) hand holding kind) chunk (head_after_link (head_at m.state chunk))) hand (as_reference holding)).holdings m.past.stored
    linked_kind chunk holding (Reference own) = one_other (is_of_chunk chunk) (as_reference holding) tt
    linked_kind chunk holding (Fresh Item own) = one_other (is_of_chunk chunk) (as_reference holding) tt
    linked_kind chunk holding (Fresh (Copy old) own) = one_other (is_of_chunk chunk) (as_reference holding) tt
    linked_kind chunk holding (Fresh (Rescue old item) own) = one_other (is_of_chunk chunk) (as_reference holding) tt

    linked_rescued : (chunk : ChunkId) (found : Option Holding) → AreRescued (after_link_of (without_holding m.state hand (is_of_chunk chunk)) hand chunk found).holdings m.past.stored
    linked_rescued chunk None = one_less (is_of_chunk chunk)
    linked_rescued chunk (Some holding) = linked_kind chunk holding holding.kind

    referred_rescued : (key : ℕ) (place : Option (ChunkId × ℕ)) → AreRescued (referred_to (with_got m.state hand key) hand place).holdings m.past.stored
    referred_rescued key None = is
    referred_rescued key (Some place) = one_more _ tt

    unlinked_rescued : (s : State) (place : Option (ChunkId × ℕ)) → AreRescued s.holdings m.past.stored → AreRescued (with_unlinked s place).holdings m.past.stored
    unlinked_rescued s None is = is
    unlinked_rescued s (Some place) is = is

  -- the item of a chunk that is condemned was said
  condemned_rescued : (chunk : ChunkId) → MayStep m hand (Condemn chunk) → AreRescued (rows_changed m.state.holdings hand (is_copy_of chunk) (as_rescue chunk (item_at m.state chunk))) m.past.stored
  condemned_rescued chunk may =
      let l = may.lawful in
      let is = condemnable m hand chunk may in
      let whole = item_has m l chunk is.in_range is.linked (λ k. length k.words ≡ length_of_item k.words)
      (each_map (IsStill m l) (λ k. length k.words ≡ length_of_item k.words) m.past.known (λ k still. still.whole) l.known.still) in
      let said = item_has m l chunk is.in_range is.linked (λ k. WasStored m.past.stored (stamp_in_words k.words) k.words) l.known.said_by_some in
      each_changed (is_copy_of chunk) (as_rescue chunk (item_at m.state chunk)) m.state.holdings hand (IsSaidRescue m.past.stored) (IsSaidRescue m.past.stored) (λ h rescue. rescue)
      (λ h copy rescue. (whole, said, (copy_is m.past.stored h.chunk chunk h.kind copy rescue).1)) l.rescued

joined_rescued : (m : Moment) (hand kept spent : ℕ) → MayStep m hand (Join kept spent) → AreRescued m.state.holdings (joined_rows m.past.stored kept spent)
joined_rescued m hand kept spent may =
    let join = are_joined m hand kept spent may in
    let rows = may.lawful.rows.stored in let within = hand_there m.state kept join.there in
    each_map (IsSaidRescue m.past.stored) (IsSaidRescue (joined_rows m.past.stored kept spent)) m.state.holdings
    (λ holding. rescue_still m.past.stored (joined_rows m.past.stored kept spent) (λ stamp words. said_joined m.past.stored kept spent stamp words join.apart (omega arith)) holding.chunk holding.kind) may.lawful.rescued

pub rescued_changes : ChangesKeep RescuedIn
rescued_changes m hand (Grow class) may = may.lawful.rescued
rescued_changes m hand (BeginMove src dst) may = may.lawful.rescued
rescued_changes m hand FinishMove may = may.lawful.rescued
rescued_changes m hand (Touch chunk) may = may.lawful.rescued
rescued_changes m hand (SetAutomove mode) may = may.lawful.rescued
rescued_changes m hand TrimLedger may = may.lawful.rescued
rescued_changes m hand (Passed found) may = may.lawful.rescued
rescued_changes m hand Wrap may = may.lawful.rescued
rescued_changes m hand (Evicted class) may = may.lawful.rescued
rescued_changes m hand (OfStripe stripe how) may = may.lawful.rescued
rescued_changes m hand (GotNone key) may = may.lawful.rescued
rescued_changes m hand (DeletedNone key) may = may.lawful.rescued

pub rescued_steps : StepsKeep RescuedIn
rescued_steps m hand TakeSlabs may = ends m hand m.state [] may.lawful.rescued
rescued_steps m hand (TakeStripe stripe) may = ends m hand m.state [] may.lawful.rescued
rescued_steps m hand MissSlabs may = ends m hand m.state [] may.lawful.rescued
rescued_steps m hand (MissStripe stripe) may = ends m hand (after_step m.state hand (MissStripe stripe)) [] (looked_rescued m hand (SawStripe stripe (slice_index m.state.stripe_locks stripe)) may.lawful.rescued)
rescued_steps m hand GiveSlabs may = ends m hand m.state [] may.lawful.rescued
rescued_steps m hand (GiveStripe stripe) may = ends m hand m.state [] may.lawful.rescued
rescued_steps m hand (step.Head chunk) may = ends m hand (after_step m.state hand (step.Head chunk)) [] (looked_rescued m hand (Saw chunk (head_at m.state chunk)) may.lawful.rescued)
rescued_steps m hand (Pop class) may = ends m hand (after_step m.state hand (Pop class)) [] (popped_rescued m hand may.lawful.rescued class (next_free m.state class))
rescued_steps m hand (PopOff old) may = ends m hand (after_step m.state hand (PopOff old)) [] (popped_off_rescued m hand may.lawful.rescued old (target_of m.state.table m.state.heads m.state.slabs old.page) refl)
rescued_steps m hand (Fill chunk place word) may =
    ends m hand (after_step m.state hand (Fill chunk place word)) [] (filled_rescued m hand may.lawful.rescued chunk place word)
rescued_steps m hand (Word chunk place) may = ends m hand m.state [] may.lawful.rescued
rescued_steps m hand (WordHeld chunk place) may = ends m hand m.state [] may.lawful.rescued
rescued_steps m hand (Link chunk) may =
    ends m hand (after_step m.state hand (Link chunk)) (item_stored_by_link (holding_of chunk (holdings_at m.state hand))) (linked_rescued m hand may.lawful.rescued chunk (holding_of chunk (holdings_at m.state hand)))
rescued_steps m hand (Refer key) may = ends m hand (after_step m.state hand (Refer key)) [] (referred_rescued m hand may.lawful.rescued key (chunk_of_key m.state key))
rescued_steps m hand (Unlink key) may = ends m hand (after_step m.state hand (Unlink key)) [] (unlinked_rescued m hand may.lawful.rescued _ (chunk_of_key m.state key) may.lawful.rescued)
rescued_steps m hand (Release chunk) may = ends m hand (after_step m.state hand (Release chunk)) [] (one_less m hand may.lawful.rescued (is_of_chunk chunk))
rescued_steps m hand (Discard chunk) may = ends m hand (after_step m.state hand (Discard chunk)) [] (one_less m hand may.lawful.rescued (is_of_chunk chunk))
rescued_steps m hand (Condemn chunk) may = ends m hand (after_step m.state hand (Condemn chunk)) [] (condemned_rescued m hand chunk may)
rescued_steps m hand (PutBack chunk) may = ends m hand m.state [] may.lawful.rescued
rescued_steps m hand (Clear chunk) may = ends m hand m.state [] may.lawful.rescued
rescued_steps m hand (Cut page index) may = ends m hand m.state [] may.lawful.rescued
rescued_steps m hand (Again chunk issue) may = ends m hand (after_step m.state hand (Again chunk issue)) [] (one_more m hand may.lawful.rescued _ tt)
rescued_steps m hand (Join kept spent) may = joined_rescued m hand kept spent may

pub rescued_first : HoldsAtFirst RescuedIn
rescued_first table stripes hands start sound some one most _ = each_none (IsSaidRescue (first_moment table stripes hands start).past.stored) hands
