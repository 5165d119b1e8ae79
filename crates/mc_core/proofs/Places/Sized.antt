-- Sizes: there stay as many headers and data words as the table says.
use Rattle.std.proofs.Common.{◌≡◌, ℕ, ◌*◌, length, refl, sym, ap, subst, ◌∙◌, length-set}
use Rattle.std.proofs.lemmas.List.{length-replicate}
use Rattle.mc_classes.specs.Classes.{Classes, IsSound, arena_pages_of}
use Rattle.mc_core.specs.declared.head.Head.{Head}
use Rattle.mc_core.specs.declared.event.Change.TheVariants.{Grow, BeginMove, FinishMove, Touch, SetAutomove, TrimLedger, Passed, Wrap, Evicted, OfStripe, GotNone, DeletedNone}
use Rattle.mc_core.specs.declared.event.Step.{Step}
use Rattle.mc_core.specs.declared.event.Step.TheVariants.{TakeSlabs, TakeStripe, MissSlabs, MissStripe, GiveSlabs, GiveStripe, Pop, PopOff, Fill, Word, WordHeld, Link, Refer, Unlink, Release, Discard, Condemn, PutBack, Clear, Cut, Again, Join}
use Rattle.mc_core.specs.declared.event.Step.TheVariants as step
use Rattle.mc_core.specs.model.Head.{uncut_from}
use Rattle.mc_core.specs.model.Holdings.{is_of_chunk, holding_of}
use Rattle.mc_core.specs.model.State.{State, most_of, page_words, with_slabs, holdings_at, without_holding}
use Rattle.mc_core.specs.run.Chunks.{next_free, target_of}
use Rattle.mc_core.specs.run.Items.{with_got, chunk_of_key}
use Rattle.mc_core.specs.run.Run.{after_step}
use Rattle.mc_core.specs.law.Lawful.{SizedIn}
use Rattle.mc_core.specs.law.Laws.{ChangesKeep, StepsKeep, HoldsAtFirst}
use Rattle.mc_core.proofs.Frame.SameSlabs.{looked_keeps, popped_keeps, popped_off_keeps, told_link_keeps, linked_keeps, referred_keeps, unlinked_keeps, table_stays}
use Rattle.mc_pages.specs.Changes as slabs_changes

abbrev head_count : State → ℕ
head_count state = length state.heads

-- each write of a header leaves as many
heads_stay : (state : State) (hand : ℕ) (step : Step) → head_count (after_step state hand step) ≡ head_count state
heads_stay state hand TakeSlabs = refl
heads_stay state hand (TakeStripe stripe) = refl
heads_stay state hand MissSlabs = refl
heads_stay state hand (MissStripe stripe) = looked_keeps head_count state hand _ refl
heads_stay state hand GiveSlabs = refl
heads_stay state hand (GiveStripe stripe) = refl
heads_stay state hand (step.Head chunk) = looked_keeps head_count state hand _ refl
heads_stay state hand (Pop class) = popped_keeps head_count (with_slabs state (slabs_changes.after_pop state.slabs class)) hand (next_free state class) (λ chunk. length-set state.heads _ _)
heads_stay state hand (PopOff old) = popped_off_keeps head_count state hand old (target_of state.table state.heads state.slabs old.page) (λ chunk. length-set state.heads _ _)
heads_stay state hand (Fill chunk place word) = refl
heads_stay state hand (Word chunk place) = refl
heads_stay state hand (WordHeld chunk place) = refl
heads_stay state hand (Link chunk) =
    let left : State = without_holding state hand (is_of_chunk chunk) in
    linked_keeps head_count left hand chunk (holding_of chunk (holdings_at state hand))
    (λ holding. length-set _ _ _ ∙ told_link_keeps head_count left hand holding holding.kind refl refl)
heads_stay state hand (Refer key) = referred_keeps head_count (with_got state hand key) hand (chunk_of_key state key) (λ chunk. length-set state.heads _ _)
heads_stay state hand (Unlink key) = unlinked_keeps head_count _ (chunk_of_key state key) (λ chunk. length-set state.heads _ _)
heads_stay state hand (Release chunk) = length-set state.heads _ _
heads_stay state hand (Discard chunk) = length-set state.heads _ _
heads_stay state hand (Condemn chunk) = length-set _ _ _
heads_stay state hand (PutBack chunk) = length-set state.heads _ _
heads_stay state hand (Clear chunk) = length-set state.heads _ _
heads_stay state hand (Cut page index) = length-set state.heads _ _
heads_stay state hand (Again chunk issue) = length-set state.heads _ _
heads_stay state hand (Join kept spent) = refl

abbrev word_count : State → ℕ
word_count state = length state.words

-- so does each write of a data word
words_stay : (state : State) (hand : ℕ) (step : Step) → word_count (after_step state hand step) ≡ word_count state
words_stay state hand TakeSlabs = refl
words_stay state hand (TakeStripe stripe) = refl
words_stay state hand MissSlabs = refl
words_stay state hand (MissStripe stripe) = looked_keeps word_count state hand _ refl
words_stay state hand GiveSlabs = refl
words_stay state hand (GiveStripe stripe) = refl
words_stay state hand (step.Head chunk) = looked_keeps word_count state hand _ refl
words_stay state hand (Pop class) = popped_keeps word_count (with_slabs state (slabs_changes.after_pop state.slabs class)) hand (next_free state class) (λ chunk. refl)
words_stay state hand (PopOff old) = popped_off_keeps word_count state hand old (target_of state.table state.heads state.slabs old.page) (λ chunk. refl)
words_stay state hand (Fill chunk place word) = length-set _ _ _
words_stay state hand (Word chunk place) = refl
words_stay state hand (WordHeld chunk place) = refl
words_stay state hand (Link chunk) =
    let left : State = without_holding state hand (is_of_chunk chunk) in
    linked_keeps word_count left hand chunk (holding_of chunk (holdings_at state hand)) (λ holding. told_link_keeps word_count left hand holding holding.kind refl refl)
words_stay state hand (Refer key) = referred_keeps word_count (with_got state hand key) hand (chunk_of_key state key) (λ chunk. refl)
words_stay state hand (Unlink key) = unlinked_keeps word_count _ (chunk_of_key state key) (λ chunk. refl)
words_stay state hand (Release chunk) = refl
words_stay state hand (Discard chunk) = refl
words_stay state hand (Condemn chunk) = refl
words_stay state hand (PutBack chunk) = refl
words_stay state hand (Clear chunk) = refl
words_stay state hand (Cut page index) = refl
words_stay state hand (Again chunk issue) = refl
words_stay state hand (Join kept spent) = refl

-- changes touch neither headers nor data words
pub sized_changes : ChangesKeep SizedIn
sized_changes moment hand (Grow class) may = may.lawful.sized
sized_changes moment hand (BeginMove src dst) may = may.lawful.sized
sized_changes moment hand FinishMove may = may.lawful.sized
sized_changes moment hand (Touch chunk) may = may.lawful.sized
sized_changes moment hand (SetAutomove mode) may = may.lawful.sized
sized_changes moment hand TrimLedger may = may.lawful.sized
sized_changes moment hand (Passed found) may = may.lawful.sized
sized_changes moment hand Wrap may = may.lawful.sized
sized_changes moment hand (Evicted class) may = may.lawful.sized
sized_changes moment hand (OfStripe stripe how) may = may.lawful.sized
sized_changes moment hand (GotNone key) may = may.lawful.sized
sized_changes moment hand (DeletedNone key) may = may.lawful.sized

pub sized_steps : StepsKeep SizedIn
sized_steps moment hand step may =
    let was = may.lawful.sized in
    let table = table_stays moment.state hand step in
    record {
      sound = subst IsSound (sym table) was.sound;
      headers = heads_stay moment.state hand step ∙ was.headers ∙ sym (ap (λ (t : Classes). arena_pages_of t * most_of t) table);
      places = words_stay moment.state hand step ∙ was.places ∙ sym (ap (λ (t : Classes). arena_pages_of t * page_words t) table);
    }

pub sized_first : HoldsAtFirst SizedIn
sized_first table stripes hands start sound some someone within_limit _ = record {
  sound = sound;
  headers = length-replicate {A = Head} (arena_pages_of table * most_of table) (uncut_from start);
  places = length-replicate {A = ℕ} (arena_pages_of table * page_words table) 0;
}
