-- Issue numbers never fall, whichever hands do what.
use Rattle.std.proofs.Common.{◌≡◌, ℕ, zero, suc, ◌*◌, ◌≤◌, true, List, [], ◌∷◌, length, Option, Some, None, refl, sym, ap, ◌∙◌, arith, slice_index_or, slice_set}
use Rattle.std.proofs.lemmas.List.{get_or-replicate, length-replicate}
use Rattle.mc_classes.specs.Classes.{Classes, arena_pages_of}
use Rattle.mc_pages.specs.declared.ids.ChunkId.{ChunkId}
use Rattle.mc_pages.specs.SlabState.{SlabState}
use Rattle.mc_core.specs.declared.event.Event.{Event}
use Rattle.mc_core.specs.declared.event.Step.{Step}
use Rattle.mc_core.specs.declared.event.Step.TheVariants as step
use Rattle.mc_core.specs.declared.head.Head.{Head}
use Rattle.mc_core.specs.declared.holding.Holding.{Holding}
use Rattle.mc_core.specs.declared.holding.Kind.{Kind}
use Rattle.mc_core.specs.declared.holding.Kind.TheVariants.{Reference, Fresh}
use Rattle.mc_core.specs.declared.holding.Purpose.TheVariants.{Item, Copy, Rescue}
use Rattle.mc_core.specs.run.Chunks.{head_after_hand_out, head_after_release, most_issue, next_free, state_after_pop_of, popped_off, target_of, with_tag_free, with_tag_out}
use Rattle.mc_core.specs.run.Evictions.{head_after_condemn}
use Rattle.mc_core.specs.model.Head.{never_cut, uncut_from}
use Rattle.mc_core.specs.model.Holdings.{holding_of, is_of_chunk}
use Rattle.mc_core.specs.run.Items.{after_link_of, chunk_of_key, head_after_link, head_after_refer, referred_to, recorded_link, head_after_unlink, with_got, with_unlinked}
use Rattle.mc_core.specs.law.Laws.{moment_at_end}
use Rattle.mc_core.specs.past.Past.{Moment, moment_after, moment_changes}
use Rattle.mc_core.specs.run.Run.{after_step}
use Rattle.mc_core.specs.model.State.{State, has_chunk, head_at, head_place, holdings_at, is_class, most_of, with_head, without_holding}
use Rattle.mc_core.proofs.Steps.Base.{head_place_within}
use Rattle.mc_core.proofs.Frame.SameSlabs.{looked_keeps}
use Rattle.mc_words.specs.rule.Happens.{LawfulView}
use Rattle.mc_words.specs.rule.Meaning.{beginning_of}
use Rattle.mc_words.specs.page.Owner.{PopsFirst}
use Rattle.mc_words.specs.hand.View.{View}
use Rattle.mc_words.specs.hand.Views.{head_seen}
use Rattle.mc_words.proofs.Items.Agains.{seen_is}
use Rattle.mc_words.proofs.Pages.Owners.{first_near}
use Rattle.example_calls.proofs.Alone.{calm_changes, issue_at}

-- each issue number is as it was, or greater
abbrev Rises : State → State → Type 0
Rises s now = (place : ℕ) → issue_at s place ≤ issue_at now place

-- a header with no lower issue number is written
rises_set : (heads : List Head) (at other : ℕ) (h : Head) → (slice_index_or heads at never_cut).issue ≤ h.issue → (slice_index_or heads other never_cut).issue ≤ (slice_index_or (slice_set heads at h) other never_cut).issue
rises_set [] at other h more = omega arith
rises_set (x ∷ heads) zero zero h more = more
rises_set (x ∷ heads) zero (suc other) h more = omega arith
rises_set (x ∷ heads) (suc at) zero h more = omega arith
rises_set (x ∷ heads) (suc at) (suc other) h more = rises_set heads at other h more

rises_same : (s now : State) → ((place : ℕ) → issue_at now place ≡ issue_at s place) → Rises s now
rises_same s now same place = let e = same place in omega (arith, e)

rises_none : (s : State) → Rises s s
rises_none s place = omega arith

rises_head : (s : State) (chunk : ChunkId) (h : Head) → (head_at s chunk).issue ≤ h.issue → Rises s (with_head s chunk h)
rises_head s chunk h more place = rises_set s.heads (head_place s.table chunk) place h more

rises_then : (s between now : State) → Rises s between → Rises between now → Rises s now
rises_then s between now first second place = let a = first place in let b = second place in omega (arith, a, b)

rises_popped : (s : State) (hand : ℕ) (next : Option ChunkId) → Rises s (state_after_pop_of s hand next)
rises_popped s hand None = rises_none s
rises_popped s hand (Some chunk) = rises_head s chunk (head_after_hand_out (head_at s chunk)) (omega arith)

rises_popped_off : (s : State) (hand : ℕ) (old : ChunkId) (next : Option ChunkId) → Rises s (popped_off s hand old next)
rises_popped_off s hand old None = rises_none s
rises_popped_off s hand old (Some chunk) = rises_head s chunk (head_after_hand_out (head_at s chunk)) (omega arith)

rises_told : (s : State) (hand : ℕ) (chunk : ChunkId) (holding : Holding) (kind : Kind) → Rises s (with_head (recorded_link s hand holding kind) chunk (head_after_link (head_at s chunk)))
rises_told s hand chunk holding (Reference own) = rises_head s chunk (head_after_link (head_at s chunk)) (omega arith)
rises_told s hand chunk holding (Fresh Item own) = rises_head s chunk (head_after_link (head_at s chunk)) (omega arith)
rises_told s hand chunk holding (Fresh (Copy old) own) = rises_head s chunk (head_after_link (head_at s chunk)) (omega arith)
rises_told s hand chunk holding (Fresh (Rescue old item) own) = rises_head s chunk (head_after_link (head_at s chunk)) (omega arith)

rises_linked : (s : State) (hand : ℕ) (chunk : ChunkId) (found : Option Holding) → Rises s (after_link_of s hand chunk found)
rises_linked s hand chunk None = rises_none s
rises_linked s hand chunk (Some holding) = rises_told s hand chunk holding holding.kind

rises_referred : (s : State) (hand : ℕ) (place : Option (ChunkId × ℕ)) → Rises s (referred_to s hand place)
rises_referred s hand None = rises_none s
rises_referred s hand (Some place) = rises_head s place.0 (head_after_refer (head_at s place.0)) (omega arith)

rises_unlinked : (s : State) (place : Option (ChunkId × ℕ)) → Rises s (with_unlinked s place)
rises_unlinked s None = rises_none s
rises_unlinked s (Some place) = rises_head s place.0 (head_after_unlink (head_at s place.0)) (omega arith)

rises_step : (s : State) (hand : ℕ) (next : Step) → Rises s (after_step s hand next)
rises_step s hand step.TakeSlabs = rises_none s
rises_step s hand (step.TakeStripe stripe) = rises_none s
rises_step s hand step.MissSlabs = rises_none s
rises_step s hand (step.MissStripe stripe) = rises_same s (after_step s hand (step.MissStripe stripe)) (λ place. looked_keeps (λ state. issue_at state place) s hand _ refl)
rises_step s hand step.GiveSlabs = rises_none s
rises_step s hand (step.GiveStripe stripe) = rises_none s
rises_step s hand (step.Head chunk) = rises_same s (after_step s hand (step.Head chunk)) (λ place. looked_keeps (λ state. issue_at state place) s hand _ refl)
rises_step s hand (step.Pop class) = rises_popped _ hand (next_free s class)
rises_step s hand (step.PopOff old) = rises_popped_off s hand old (target_of s.table s.heads s.slabs old.page)
rises_step s hand (step.Fill chunk place word) = rises_none s
rises_step s hand (step.Word chunk place) = rises_none s
rises_step s hand (step.WordHeld chunk place) = rises_none s
rises_step s hand (step.Link chunk) = rises_linked (without_holding s hand (is_of_chunk chunk)) hand chunk (holding_of chunk (holdings_at s hand))
rises_step s hand (step.Refer key) = rises_referred (with_got s hand key) hand (chunk_of_key s key)
rises_step s hand (step.Unlink key) = rises_unlinked _ (chunk_of_key s key)
rises_step s hand (step.Release chunk) = rises_head s chunk (head_after_release (head_at s chunk)) (omega arith)
rises_step s hand (step.Discard chunk) = rises_head s chunk (head_after_release (head_at s chunk)) (omega arith)
rises_step s hand (step.Condemn chunk) = rises_head s chunk (head_after_condemn (head_at s chunk)) (omega arith)
rises_step s hand (step.PutBack chunk) = rises_head s chunk (with_tag_free (head_at s chunk)) (omega arith)
rises_step s hand (step.Clear chunk) = rises_head s chunk (with_tag_out (head_at s chunk)) (omega arith)
rises_step s hand (step.Cut page index) = let chunk : ChunkId = record { page = page; index = index } in rises_head s chunk (with_tag_free (head_at s chunk)) (omega arith)
rises_step s hand (step.Again chunk issue) = rises_head s chunk (head_after_refer (head_at s chunk)) (omega arith)
rises_step s hand (step.Join kept spent) = rises_none s

rises_event : (m : Moment) (event : Event) → Rises m.state (moment_after m event).state
rises_event m event =
    let changed : Moment = moment_changes m event.hand event.before in
    rises_then m.state changed.state (moment_after m event).state (rises_same m.state changed.state (calm_changes m event.hand event.before).0) (rises_step changed.state event.hand event.step)

rises_run : (m : Moment) (run : List Event) → Rises m.state (moment_at_end m run).state
rises_run m [] = rises_none m.state
rises_run m (event ∷ run) =
    let next : Moment = moment_after m event in
    rises_then m.state next.state (moment_at_end next run).state (rises_event m event) (rises_run next run)

-- no header's issue number is below the first one, whatever any hand did
pub never_below : (view : View) (was : LawfulView view) (chunk : ChunkId) → has_chunk view.setup.table chunk ≡ true → view.setup.start ≤ (head_at was.moment.state chunk).issue
never_below view was chunk in_range =
    let s : State = was.moment.state in
    let begin : Moment = beginning_of view.setup in
    let table : Classes = view.setup.table in
    let place : ℕ = head_place table chunk in
    let count : ℕ = arena_pages_of table * most_of table in
    let long : length begin.state.heads ≡ count = length-replicate count (uncut_from view.setup.start) in
    let within = head_place_within table begin.state.heads chunk long in_range in
    let first : issue_at begin.state place ≡ view.setup.start = ap (λ (h : Head). h.issue) (get_or-replicate count place (uncut_from view.setup.start) never_cut (omega (arith, within, long))) in
    let now : issue_at (moment_at_end begin was.run).state place ≡ (head_at s chunk).issue =
    ap (λ (m : Moment). issue_at m.state place) was.reached.end ∙ ap (λ (t : Classes). (slice_index_or s.heads (head_place t chunk) never_cut).issue) (sym was.same_table) in
    let rises = rises_run begin was.run place in
    omega (arith, first, now, rises)

-- so no chunk is handed out where all are used up from the beginning
pub none_popped : (view now : View) (slabs : SlabState) (class : ℕ) (chunk : ChunkId) → LawfulView view → view.slabs ≡ Some slabs → is_class view.setup.table class ≡ true → view.setup.start ≡ most_issue → PopsFirst view slabs class chunk now → ⊥
none_popped view now slabs class chunk was mine is worn pops =
    let seen = ap (λ (h : Head). h.issue) (seen_is view (head_seen chunk pops.head view) chunk pops.head pops.looks refl) in
    let least = never_below view pops.looks.was chunk (first_near view was slabs class chunk mine is pops.first) in
    let unused = pops.unused in
    absurd (omega (arith, seen, least, unused, worn))
