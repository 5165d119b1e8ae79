-- What a line of the mover does by its hand, as the reply reports it.
use Rattle.std.specs.Prelude.{◌≡◌, ◌≢◌, ℕ, ◌+◌, ◌<◌, ◌≤◌, ◌==◌, true, false, ◌&&◌, is_none, is_some, if◌then◌else◌, List, [], ◌∷◌, ◌++◌, length, All, Option, Some, None, Result, Ok, Err, ◌⊎◌, ⊤}
use Rattle.mc_pages.specs.declared.moves.Reassign.{Reassign}
use Rattle.mc_pages.specs.declared.moves.Reassign.TheVariants.{NoMemory}
use Rattle.mc_words.specs.declared.hand.Hand.{Hand}
use Rattle.mc_words.specs.hand.Arenas.{view}
use Rattle.mc_words.specs.hand.Observers.{hand_number}
use Rattle.mc_words.specs.page.Moves.{Reassigns}
use Rattle.mc_mover.specs.declared.counts.Turn.{Turn}
use Rattle.mc_mover.specs.declared.counts.Turn.TheVariants as turn
use Rattle.mc_mover.specs.declared.numbers.Survey.{Survey}
use Rattle.mc_mover.specs.Acting.{ActsOnceByNumber, RecordsTurn}
use Rattle.mc_stripe.specs.declared.refusal.Trim.{Trim}
use Rattle.mc_stripe.specs.declared.refusal.Trim.TheVariants as trim
use Rattle.mc_mover.specs.Recording.{FindsStripeFull, FindsNotFull, StopsTrimming, TrimsAll}
use Rattle.mc_mover.specs.Reassigning.{SetsMode}
use Rattle.mc_mover.specs.Surveying.{Surveys, evictions_in, free_in, pages_in}
use Rattle.mc_mover.specs.Telling.{counts_in}
use Rattle.mc_mover.specs.Turning.{Turns}
use Rattle.mc_script.specs.declared.command.Command.{Command}
use Rattle.mc_script.specs.declared.command.Command.TheVariants as command
use Rattle.mc_watch.specs.declared.decider.Decision.{Decision}
use Rattle.mc_watch.specs.declared.refusal.Feed.{Feed}
use Rattle.mc_watch.specs.Decider.{DeciderState, after_window, decision_of, feed_refusal}
use Rattle.mc_serial_spec.specs.declared.turn.Counts.{Counts}
use Rattle.mc_serial_spec.specs.declared.turn.Ending.{Ending}
use Rattle.mc_serial_spec.specs.declared.turn.Ending.TheVariants.{Idle, Went, Finished}
use Rattle.mc_serial_spec.specs.Mover.{zero_counts}
use Rattle.mc_workers.specs.declared.mover.Mover.{Mover}
use Rattle.mc_workers.specs.declared.mover_reply.Acted.{Acted}
use Rattle.mc_workers.specs.declared.mover_reply.MoverReply.{MoverReply}
use Rattle.mc_workers.specs.declared.mover_reply.MoverReply.TheVariants.{Answer, Mode, Window, Turned, Totals, Classes}

-- the mover's decider, with the windows that it was fed
abbrev pub decider_of : Mover → DeciderState
decider_of mover = mover.decider

-- how many turns of the run were begun
abbrev pub turns_of : Mover → ℕ
turns_of mover = mover.turns

-- a page was asked for, and got this answer, which isn't that memory was missing
abbrev pub AsksForPage : Option ℕ → ℕ → Result (Unit {0}) Reassign → Hand → Hand → Type 0
AsksForPage src dst answer before now = ActsOnceByNumber (λ number. Reassigns number src dst answer) before now × (answer ≢ Err (NoMemory tt))

-- why the decider doesn't take the numbers of a survey. In a run it takes all, as classes stay and evictions never fall, but no contract
-- states this
abbrev pub refusal_for : DeciderState → Survey → Option Feed
refusal_for decider survey = feed_refusal decider (evictions_in survey) (pages_in survey) (free_in survey)

-- the decider at the end of a window with these numbers, in any mode; a decider that refuses the numbers stays
abbrev pub decider_after : DeciderState → Survey → DeciderState
decider_after decider survey =
    if is_some (refusal_for decider survey) then decider else after_window decider (evictions_in survey) (pages_in survey) (free_in survey)

-- the decision at a window's end: in mode 1 alone there may be one, and none where the decider refuses the numbers
abbrev pub decision_acted_on : DeciderState → Survey → Option Decision
decision_acted_on decider survey = if is_none (refusal_for decider survey) && survey.mode == 1 then decision_of (decider_after decider survey) else None

-- the page of the decision was asked for, and got the recorded answer; or there is no decision, and nothing was done
abbrev pub ActsOnDecisionInRun : Option Decision → Option Acted → Hand → Hand → Type 0
ActsOnDecisionInRun None None before now = now ≡ before
ActsOnDecisionInRun (Some decision) (Some acted) before now =
    (acted.decision ≡ decision) × AsksForPage (Some decision.src) decision.dst acted.answer before now
ActsOnDecisionInRun decision acted before now = ⊥

-- at a window's end the dead chunks of all classes were put back; the decider got the numbers of what was left, and its decision was acted
-- on
pub record ActsOnWindow (acted : Option Acted) (mover : Mover) (before : Hand) (left : Mover) (now : Hand) : Type 0 where
  pub survey : Survey
  pub surveyed : Hand
  pub surveys : ActsOnceByNumber (λ number. Surveys true survey) before surveyed
  pub feeds : left ≡ record mover { decider = decider_after mover.decider survey }
  pub acts : ActsOnDecisionInRun (decision_acted_on mover.decider survey) acted surveyed now

-- each stripe was trimmed and the ledger, or the first stripes, up to one that was full or for whose room memory was refused
abbrev pub TrimsAs : Result (Unit {0}) Trim → Hand → Hand → Type 0
TrimsAs (Ok all) before now = TrimsAll (hand_number before) (view before).setup.config.stripes (view before) (view now)
TrimsAs (Err trim.Full) before now = StopsTrimming (hand_number before) FindsStripeFull (view before) (view now)
TrimsAs (Err (trim.NoMemory refused)) before now = StopsTrimming (hand_number before) FindsNotFull (view before) (view now)

-- a window ended: the decision was acted on as `acted` reports, and then all was trimmed, as far as `trimmed` reports
pub record EndsWindowInRun (acted : Option Acted) (trimmed : Result (Unit {0}) Trim) (mover : Mover) (before : Hand) (left : Mover) (now : Hand) : Type 0 where
  pub decided : Hand
  pub acts : ActsOnWindow acted mover before left decided
  pub trims : TrimsAs trimmed decided now

-- a page was asked for, and memory was refused
abbrev pub RefusesPage : Hand → Hand → Type 0
RefusesPage before now = (src : Option ℕ) × (dst : ℕ) × ActsOnceByNumber (λ number. Reassigns number src dst (Err (NoMemory tt))) before now

-- memory was refused to a window: to its survey, behind that to the decider, or to the page of its decision; and nothing was trimmed
abbrev pub RefusesWindow : Hand → Hand → Type 0
RefusesWindow before now =
    (view now ≡ view before)
    ⊎ ((survey : Survey) × (surveyed : Hand) × ActsOnceByNumber (λ number. Surveys true survey) before surveyed
    × ((view now ≡ view surveyed) ⊎ RefusesPage surveyed now))

-- how a turn ended
abbrev pub ending_of : Turn → Ending
ending_of turn.Idle = Idle
ending_of (turn.Went counts) = Went
ending_of (turn.Finished counts) = Finished

-- the turn went on: it found a move and didn't end it
abbrev pub WentOn : Turn → Type 0
WentOn turn = ending_of turn ≡ Went

-- the turns were done one after another, each in one hold of the slabs lock, and each records its evictions and rescues
abbrev pub TurnsEach : List Turn → Hand → Hand → Type 0
TurnsEach [] before now = now ≡ before
TurnsEach (turn ∷ turns) before now =
    (next : Hand) × ActsOnceByNumber (λ number. Turns number turn) before next × RecordsTurn before next turn × TurnsEach turns next now

-- the counts with those of a turn added
abbrev pub counts_with : Turn → Counts → Counts
counts_with turn counts = record {
  cleared = counts.cleared + (counts_in turn).cleared;
  rescued = counts.rescued + (counts_in turn).rescued;
  evicted = counts.evicted + (counts_in turn).evicted;
  busy = counts.busy + (counts_in turn).busy;
  locked = counts.locked + (counts_in turn).locked;
}

-- what some turns counted, all together
abbrev pub counts_of_all : List Turn → Counts
counts_of_all [] = zero_counts
counts_of_all (turn ∷ turns) = counts_with turn (counts_of_all turns)

-- the turns of a line that asks for n: all but the last went on, and where the last went on, too, there are n
pub record AreTurnsOf (asked : ℕ) (turns : List Turn) (ending : Ending) : Type 0 where
  pub earlier : List Turn
  pub last : Turn
  pub all : turns ≡ earlier ++ last ∷ []
  pub went : All WentOn earlier
  pub ends : ending ≡ ending_of last
  pub most : length turns ≤ asked
  pub enough : WentOn last → length turns ≡ asked

-- n turns were asked for, and these were done, of the 1,000,000 that a run has. The reply has their sums, and how the last one ended
pub record DoesTurnsInRun (asked : ℕ) (ending : Ending) (counts : Counts) (mover : Mover) (before : Hand) (left : Mover) (now : Hand) : Type 0 where
  pub turns : List Turn
  pub are : AreTurnsOf asked turns ending
  pub does : TurnsEach turns before now
  pub sums : counts ≡ counts_of_all turns
  pub begun : left ≡ record mover { turns = mover.turns + length turns }
  pub within_limit : left.turns ≤ 1000000

-- the run had no turns left for the next one: those before it were done, and each went on
pub record RunsOutOfTurns (asked : ℕ) (mover : Mover) (before : Hand) (left : Mover) (now : Hand) : Type 0 where
  pub turns : List Turn
  pub went : All WentOn turns
  pub fewer : length turns < asked
  pub does : TurnsEach turns before now
  pub begun : left ≡ record mover { turns = mover.turns + length turns }
  pub spent : 1000000 ≤ left.turns

-- a line of the mover, by its reply: what it did by its hand, and what it made of the decider and of the run's count of turns
abbrev pub ServesMover : Command → MoverReply → Mover → Hand → Mover → Hand → Type 0
ServesMover (command.Reassign src dst) (Answer answer) mover before left now = AsksForPage src dst answer before now × (left ≡ mover)
ServesMover (command.Automove mode) Mode mover before left now = ActsOnceByNumber (λ number. SetsMode number mode) before now × (left ≡ mover)
ServesMover command.Window (Window acted trimmed) mover before left now = EndsWindowInRun acted trimmed mover before left now
ServesMover (command.Turn asked) (Turned ending counts) mover before left now = DoesTurnsInRun asked ending counts mover before left now
ServesMover command.Stats (Totals survey) mover before left now = ActsOnceByNumber (λ number. Surveys false survey) before now × (left ≡ mover)
ServesMover command.StatsSlabs (Classes survey) mover before left now = ActsOnceByNumber (λ number. Surveys true survey) before now × (left ≡ mover)
ServesMover command reply mover before left now = ⊥

-- a line of the mover that ended the run, which only a line of turns does
abbrev pub StopsMover : Command → Mover → Hand → Mover → Hand → Type 0
StopsMover (command.Turn asked) mover before left now = RunsOutOfTurns asked mover before left now
StopsMover command mover before left now = ⊥

-- a line of the mover that didn't end well: all that is known is that a window trimmed nothing
abbrev pub RefusesMover : Command → Hand → Hand → Type 0
RefusesMover command.Window before now = RefusesWindow before now
RefusesMover command before now = ⊤
