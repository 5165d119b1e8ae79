-- Every change and every step keeps what hands said and know.
use Rattle.std.proofs.Common.{◌≡◌, ℕ, zero, suc, ◌*◌, List, [], replicate, get_or, refl, sym, subst, ◌∙◌, arith, slice_index, All}
use Rattle.std.proofs.lemmas.List.Elements.{All-nil, All-replicate}
use Rattle.mc_classes.specs.Classes.{arena_pages_of}
use Rattle.mc_pages.specs.SlabState.{SlabState}
use Rattle.mc_core.specs.declared.head.Tag.{Tag}
use Rattle.mc_core.specs.declared.head.Tag.TheVariants.{Out, Linked}
use Rattle.mc_core.specs.declared.event.Change.TheVariants.{Grow, BeginMove, FinishMove, Touch, SetAutomove, TrimLedger, Passed, Wrap, Evicted, OfStripe, GotNone, DeletedNone}
use Rattle.mc_core.specs.declared.event.Step.TheVariants.{TakeSlabs, TakeStripe, MissSlabs, MissStripe, GiveSlabs, GiveStripe, Pop, PopOff, Fill, Word, WordHeld, Link, Refer, Unlink, Release, Discard, Condemn, PutBack, Clear, Cut, Again, Join}
use Rattle.mc_core.specs.declared.event.Step.TheVariants as step
use Rattle.mc_core.specs.declared.look.Look.TheVariants.{Saw, SawStripe}
use Rattle.mc_core.specs.model.State.{head_place, head_at, most_of, with_slabs}
use Rattle.mc_core.specs.run.Silent.{slabs_after}
use Rattle.mc_core.specs.run.Run.{after_step}
use Rattle.mc_core.specs.past.Past.{Moment, first_moment}
use Rattle.mc_core.specs.model.Columns.{Each}
use Rattle.mc_core.specs.law.Identities.{stored_count}
use Rattle.mc_core.specs.law.Knowing.{WasStored, IsTrueStill}
use Rattle.mc_core.specs.model.Holdings.{stamp_in_words}
use Rattle.mc_core.specs.declared.holding.Holding.{Holding}
use Rattle.mc_core.specs.law.Laws.{ChangesKeep, StepsKeep, StaysOfClass, HoldsAtFirst}
use Rattle.mc_core.specs.law.Lawful.{IsLawful, KnownIn}
use Rattle.mc_core.proofs.Places.SamePages.{stays_changes}
use Rattle.mc_core.proofs.Known.KnownStill.{still_listed}
use Rattle.mc_core.proofs.Known.KnownQuiet.{IsOwn, known_quiet}
use Rattle.mc_core.proofs.Known.KnownLearned.{AreOne}
use Rattle.mc_core.proofs.Known.KnownChunks.{KnownAt, known_looked, known_end, known_put_back, known_clear, known_cut, known_release, known_discard, known_pop, known_pop_off, known_unlink}
use Rattle.mc_core.proofs.Known.KnownFills.{known_fill}
use Rattle.mc_core.proofs.Known.KnownLinks.{known_link}
use Rattle.mc_core.proofs.Known.KnownReferences.{known_refer, known_again}
use Rattle.mc_core.proofs.Known.KnownCondemned.{known_condemn, known_join}
use Rattle.mc_core.proofs.Steps.Made.{first_heads}

-- the order of lists changes, and what is handed out stays of its class
known_listed : (m : Moment) (l : IsLawful m) (next : SlabState) → StaysOfClass m.state (with_slabs m.state next) → KnownAt (with_slabs m.state next) m.past.stored m.past.known
known_listed m l next stays =
    known_quiet m l next m.state.heads m.state.words m.state.holdings
    (λ k is. still_listed m.state.table m.state.slabs next m.state.heads m.state.words m.state.holdings m.state.holdings k (λ out. stays k.chunk k.issue is.inside out) is.apart is)
    l.known.own l.known.linked

pub known_changes : ChangesKeep KnownIn
known_changes m hand (Grow class) may = known_listed m may.lawful (slabs_after m.state.slabs (Grow class)) (stays_changes m hand (Grow class) may)
known_changes m hand (BeginMove src dst) may = known_listed m may.lawful (slabs_after m.state.slabs (BeginMove src dst)) (stays_changes m hand (BeginMove src dst) may)
known_changes m hand FinishMove may = known_listed m may.lawful (slabs_after m.state.slabs FinishMove) (stays_changes m hand FinishMove may)
known_changes m hand (Touch chunk) may = known_listed m may.lawful (slabs_after m.state.slabs (Touch chunk)) (stays_changes m hand (Touch chunk) may)
known_changes m hand (SetAutomove mode) may = known_listed m may.lawful (slabs_after m.state.slabs (SetAutomove mode)) (stays_changes m hand (SetAutomove mode) may)
known_changes m hand TrimLedger may = known_listed m may.lawful (slabs_after m.state.slabs TrimLedger) (stays_changes m hand TrimLedger may)
known_changes m hand (Passed found) may = known_listed m may.lawful (slabs_after m.state.slabs (Passed found)) (stays_changes m hand (Passed found) may)
known_changes m hand Wrap may = known_listed m may.lawful (slabs_after m.state.slabs Wrap) (stays_changes m hand Wrap may)
known_changes m hand (Evicted class) may = known_listed m may.lawful (slabs_after m.state.slabs (Evicted class)) (stays_changes m hand (Evicted class) may)
known_changes m hand (OfStripe stripe how) may = may.lawful.known
known_changes m hand (GotNone key) may = may.lawful.known
known_changes m hand (DeletedNone key) may = may.lawful.known

pub known_steps : StepsKeep KnownIn
known_steps m hand TakeSlabs may = known_end m hand (after_step m.state hand TakeSlabs) may.lawful.known
known_steps m hand (TakeStripe stripe) may = known_end m hand (after_step m.state hand (TakeStripe stripe)) may.lawful.known
known_steps m hand MissSlabs may = known_end m hand m.state may.lawful.known
known_steps m hand (MissStripe stripe) may =
    known_end m hand (after_step m.state hand (MissStripe stripe)) (known_looked m.state hand (SawStripe stripe (slice_index m.state.stripe_locks stripe)) m.past.stored m.past.known may.lawful.known)
known_steps m hand GiveSlabs may = known_end m hand (after_step m.state hand GiveSlabs) may.lawful.known
known_steps m hand (GiveStripe stripe) may = known_end m hand (after_step m.state hand (GiveStripe stripe)) may.lawful.known
known_steps m hand (step.Head chunk) may =
    known_end m hand (after_step m.state hand (step.Head chunk)) (known_looked m.state hand (Saw chunk (head_at m.state chunk)) m.past.stored m.past.known may.lawful.known)
known_steps m hand (Pop class) may = known_pop m hand class may
known_steps m hand (PopOff old) may = known_pop_off m hand old may
known_steps m hand (Fill chunk place word) may = known_fill m hand chunk place word may
known_steps m hand (Word chunk place) may = known_end m hand m.state may.lawful.known
known_steps m hand (WordHeld chunk place) may = known_end m hand (after_step m.state hand (WordHeld chunk place)) may.lawful.known
known_steps m hand (Link chunk) may = known_link m hand chunk may
known_steps m hand (Refer key) may = known_refer m hand key may
known_steps m hand (Unlink key) may = known_unlink m hand key may
known_steps m hand (Release chunk) may = known_release m hand chunk may
known_steps m hand (Discard chunk) may = known_discard m hand chunk may
known_steps m hand (Condemn chunk) may = known_condemn m hand chunk may
known_steps m hand (PutBack chunk) may = known_put_back m hand chunk may
known_steps m hand (Clear chunk) may = known_clear m hand chunk may
known_steps m hand (Cut page index) may = known_cut m hand page index may
known_steps m hand (Again chunk issue) may = known_again m hand chunk issue may
known_steps m hand (Join kept spent) may = known_join m hand kept spent may

pub read_replicate : {X : Type 0} (n i : ℕ) (x : X) → get_or (replicate n x) i x ≡ x
read_replicate zero i x = refl
read_replicate (suc n) zero x = refl
read_replicate (suc n) (suc i) x = read_replicate n i x

pub each_none : {X : Type 0} (P : X → Type 0) (hands : ℕ) → Each P (replicate hands [])
each_none P hands = All-replicate (All P) hands [] (All-nil P)

none_said : (stamp hands : ℕ) → stored_count stamp (replicate hands []) ≡ 0
none_said stamp zero = refl
none_said stamp (suc hands) = let rest = none_said stamp hands in omega arith

pub known_first : HoldsAtFirst KnownIn
known_first table stripes hands start sound some one most small =
    let m = first_moment table stripes hands start in
    record {
      once = λ stamp. let none = none_said stamp hands in omega arith;
      agree = each_none (λ k. (words : List ℕ) → WasStored m.past.stored (stamp_in_words k.words) words → words ≡ k.words) hands;
      said_by_some = each_none (λ k. WasStored m.past.stored (stamp_in_words k.words) k.words) hands;
      still = each_none (IsTrueStill table m.state.slabs m.state.heads m.state.words m.state.holdings) hands;
      one = each_none (λ k. Each (AreOne k) m.past.known) hands;
      own = λ hand. subst (λ (row : List Holding). All (IsOwn m.past.known hand) row) (sym (read_replicate hands hand [])) (All-nil (IsOwn m.past.known hand));
      linked = λ chunk in_range linked.
          let was : ◌≡◌ {A = Tag} Out Linked = sym (first_heads (arena_pages_of table * most_of table) (head_place table chunk) start small).out ∙ linked in absurd (cc);
    }
