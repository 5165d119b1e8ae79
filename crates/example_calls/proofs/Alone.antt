-- In an arena of one hand a run is what the hand did. Where it did nothing but prepare, each header has the first issue number.
use Rattle.std.proofs.Common.{◌≡◌, ℕ, zero, suc, Bool, true, List, [], ◌∷◌, ◌++◌, length, refl, sym, ap, ◌∙◌, arith, eq-eqb, if◌then◌else◌, slice_index_or, slice_set, ◌*◌}
use Rattle.std.specs.List.{list_all}
use Rattle.std.proofs.lemmas.Bool.{and_parts, and_from}
use Rattle.std.proofs.lemmas.List.{get_or-replicate, length-replicate}
use Rattle.std.proofs.lemmas.List.Folds.{list_all-append}
use Rattle.std.proofs.lemmas.List.FromFn.{length-map-range_with_len}
use Rattle.mc_classes.specs.Classes.{Classes, arena_pages_of}
use Rattle.mc_pages.specs.declared.ids.ChunkId.{ChunkId}
use Rattle.mc_core.specs.declared.event.Change.{Change}
use Rattle.mc_core.specs.declared.event.Change.TheVariants.{Grow, BeginMove, FinishMove, Touch, SetAutomove, TrimLedger, Passed, Wrap, Evicted, OfStripe, GotNone, DeletedNone}
use Rattle.mc_core.specs.declared.event.Event.{Event}
use Rattle.mc_core.specs.declared.event.Step.{Step}
use Rattle.mc_core.specs.declared.event.Step.TheVariants as step
use Rattle.mc_core.specs.declared.head.Head.{Head}
use Rattle.mc_core.specs.model.Head.{never_cut, uncut_from}
use Rattle.mc_core.specs.run.Chunks.{with_tag_free}
use Rattle.mc_core.specs.past.Past.{Moment, moment_after, moment_changed, moment_changes}
use Rattle.mc_core.specs.law.Laws.{IsRun, moment_at_end}
use Rattle.mc_core.specs.run.Run.{after_step}
use Rattle.mc_core.specs.run.Silent.{after_change}
use Rattle.mc_core.specs.model.State.{State, has_chunk, head_at, head_place, is_hand, most_of}
use Rattle.mc_core.proofs.Steps.Base.{head_place_within}
use Rattle.mc_core.proofs.Steps.Plays.{hand_there}
use Rattle.mc_core.proofs.Frame.SameSlabs.{looked_keeps}
use Rattle.mc_words.specs.rule.Happens.{LawfulView}
use Rattle.mc_words.specs.rule.Meaning.{beginning_of}
use Rattle.mc_words.specs.hand.View.{OwnEvent, View, events_of, own_event}
use Rattle.example_calls.specs.Preparing.{has_prepared, is_prepare_event}

-- the issue number of the header at this place
abbrev pub issue_at : State → ℕ → ℕ
issue_at s place = (slice_index_or s.heads place never_cut).issue

-- issue numbers stay, and so do the hands
abbrev IsCalm : State → State → Type 0
IsCalm s now = ((place : ℕ) → issue_at now place ≡ issue_at s place) × (now.ids ≡ s.ids)

-- a header with the old issue number is written
issue_set : (heads : List Head) (at other : ℕ) (h : Head) → h.issue ≡ (slice_index_or heads at never_cut).issue → (slice_index_or (slice_set heads at h) other never_cut).issue ≡ (slice_index_or heads other never_cut).issue
issue_set [] at other h same = refl
issue_set (x ∷ heads) zero zero h same = same
issue_set (x ∷ heads) zero (suc other) h same = refl
issue_set (x ∷ heads) (suc at) zero h same = refl
issue_set (x ∷ heads) (suc at) (suc other) h same = issue_set heads at other h same

calm_change : (s : State) (hand : ℕ) (change : Change) → IsCalm s (after_change s hand change)
calm_change s hand (Grow class) = (λ place. refl, refl)
calm_change s hand (BeginMove src dst) = (λ place. refl, refl)
calm_change s hand FinishMove = (λ place. refl, refl)
calm_change s hand (Touch chunk) = (λ place. refl, refl)
calm_change s hand (SetAutomove mode) = (λ place. refl, refl)
calm_change s hand TrimLedger = (λ place. refl, refl)
calm_change s hand (Passed found) = (λ place. refl, refl)
calm_change s hand Wrap = (λ place. refl, refl)
calm_change s hand (Evicted class) = (λ place. refl, refl)
calm_change s hand (OfStripe stripe how) = (λ place. refl, refl)
calm_change s hand (GotNone key) = (λ place. refl, refl)
calm_change s hand (DeletedNone key) = (λ place. refl, refl)

calm_then : (s between now : State) → IsCalm s between → IsCalm between now → IsCalm s now
calm_then s between now first second = (λ place. second.0 place ∙ first.0 place, second.1 ∙ first.1)

pub calm_changes : (m : Moment) (hand : ℕ) (changes : List Change) → IsCalm m.state (moment_changes m hand changes).state
calm_changes m hand [] = (λ place. refl, refl)
calm_changes m hand (change ∷ changes) =
    let next : Moment = moment_changed m hand change in
    calm_then m.state next.state (moment_changes next hand changes).state (calm_change m.state hand change) (calm_changes next hand changes)

calm_step : (before : List Change) (s : State) (hand : ℕ) (next : Step) → is_prepare_event (own_event before next) ≡ true → IsCalm s (after_step s hand next)
calm_step before s hand step.TakeSlabs is = (λ place. refl, refl)
calm_step before s hand (step.TakeStripe stripe) is = absurd (cc)
calm_step before s hand step.MissSlabs is = (λ place. refl, refl)
calm_step before s hand (step.MissStripe stripe) is = absurd (cc)
calm_step before s hand step.GiveSlabs is = (λ place. refl, refl)
calm_step before s hand (step.GiveStripe stripe) is = absurd (cc)
calm_step before s hand (step.Head chunk) is = (
  λ place. looked_keeps (λ state. issue_at state place) s hand _ refl,
  looked_keeps (λ (state : State). state.ids) s hand _ refl,
)
calm_step before s hand (step.Pop class) is = absurd (cc)
calm_step before s hand (step.PopOff old) is = absurd (cc)
calm_step before s hand (step.Fill chunk place word) is = absurd (cc)
calm_step before s hand (step.Word chunk place) is = absurd (cc)
calm_step before s hand (step.WordHeld chunk place) is = absurd (cc)
calm_step before s hand (step.Link chunk) is = absurd (cc)
calm_step before s hand (step.Refer key) is = absurd (cc)
calm_step before s hand (step.Unlink key) is = absurd (cc)
calm_step before s hand (step.Release chunk) is = absurd (cc)
calm_step before s hand (step.Discard chunk) is = absurd (cc)
calm_step before s hand (step.Condemn chunk) is = absurd (cc)
calm_step before s hand (step.PutBack chunk) is = absurd (cc)
calm_step before s hand (step.Clear chunk) is = absurd (cc)
calm_step before s hand (step.Cut page index) is =
    let chunk : ChunkId = record { page = page; index = index } in
    (λ place. issue_set s.heads (head_place s.table chunk) place (with_tag_free (head_at s chunk)) refl, refl)
calm_step before s hand (step.Again chunk issue) is = absurd (cc)
calm_step before s hand (step.Join kept spent) is = absurd (cc)

calm_event : (m : Moment) (event : Event) → is_prepare_event (own_event event.before event.step) ≡ true → IsCalm m.state (moment_after m event).state
calm_event m event is =
    let changed : Moment = moment_changes m event.hand event.before in
    calm_then m.state changed.state (moment_after m event).state (calm_changes m event.hand event.before) (calm_step event.before changed.state event.hand event.step is)

-- a whole run of one hand
calm_run : (m : Moment) (run : List Event) → IsRun m run → length m.state.ids ≡ 1 → list_all is_prepare_event (events_of 0 run) ≡ true → IsCalm m.state (moment_at_end m run).state
calm_run m [] is one all = (λ place. refl, refl)
calm_run m (event ∷ run) is one all =
    let there = hand_there m.state event.hand (and_parts (is_hand m.state event.hand) _ is.0).0 in
    let first : event.hand ≡ 0 = omega (arith, there, one) in
    let own : OwnEvent = own_event event.before event.step in
    let parts = and_parts (is_prepare_event own) (list_all is_prepare_event (events_of 0 run))
    (ap (λ (b : Bool). list_all is_prepare_event (if b then own ∷ events_of 0 run else events_of 0 run)) (sym (eq-eqb event.hand 0 first)) ∙ all) in
    let next : Moment = moment_after m event in
    let now = calm_event m event parts.0 in
    calm_then m.state next.state (moment_at_end next run).state now (calm_run next run is.1 (ap length now.1 ∙ one) parts.1)

-- an event more
pub one_more : (events : List OwnEvent) (event : OwnEvent) → list_all is_prepare_event events ≡ true → is_prepare_event event ≡ true → list_all is_prepare_event (events ++ event ∷ []) ≡ true
one_more events event all is = list_all-append is_prepare_event events (event ∷ []) ∙ and_from _ _ all (and_from _ _ is refl)

-- a chunk's header before the hand handed a chunk out
pub issue_here : (view : View) (was : LawfulView view) → view.setup.hands ≡ 1 → has_prepared view ≡ true → (chunk : ChunkId) → has_chunk view.setup.table chunk ≡ true → (head_at was.moment.state chunk).issue ≡ view.setup.start
issue_here view was one all chunk in_range =
    let s : State = was.moment.state in
    let begin : Moment = beginning_of view.setup in
    let table : Classes = view.setup.table in
    let place : ℕ = head_place table chunk in
    let count : ℕ = arena_pages_of table * most_of table in
    let at_limit : length begin.state.ids ≡ 1 = length-map-range_with_len _ 0 view.setup.hands ∙ one in
    let there = hand_there s was.hand was.there in
    let hands = was.hands in
    let mine : was.hand ≡ 0 = omega (arith, there, hands, one) in
    let did : list_all is_prepare_event (events_of 0 was.run) ≡ true =
    ap (λ (n : ℕ). list_all is_prepare_event (events_of n was.run)) (sym mine) ∙ (ap (λ (v : View). list_all is_prepare_event v.events) (sym was.is) ∙ all) in
    let calm = calm_run begin was.run was.reached.is_run at_limit did in
    let long : length begin.state.heads ≡ count = length-replicate count (uncut_from view.setup.start) in
    let within = head_place_within table begin.state.heads chunk long in_range in
    ap (λ (t : Classes). (slice_index_or s.heads (head_place t chunk) never_cut).issue) was.same_table
    ∙ (ap (λ (m : Moment). issue_at m.state place) (sym was.reached.end)
    ∙ (calm.0 place ∙ ap (λ (h : Head). h.issue) (get_or-replicate count place (uncut_from view.setup.start) never_cut (omega (arith, within, long)))))
