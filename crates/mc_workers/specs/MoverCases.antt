-- Worked cases of a line of the mover, which the prover computes.
use Rattle.std.specs.Prelude.{◌≡◌, ◌≢◌, ℕ, ◌+◌, ◌<◌, ◌≤◌, true, List, [], ◌∷◌, ◌++◌, codes, decimal, Option, Some, None, Result, Ok, Err}
use Rattle.mc_classes.specs.Classes.{Classes}
use Rattle.mc_pages.specs.declared.moves.Reassign.{Reassign}
use Rattle.mc_pages.specs.declared.moves.Reassign.TheVariants.{NoMemory, NoSpare}
use Rattle.mc_words.specs.declared.hand.Hand.{Hand}
use Rattle.mc_mover.specs.Surveying.{evictions_in, free_in, pages_in}
use Rattle.mc_mover.specs.declared.counts.Counts as turns
use Rattle.mc_mover.specs.declared.counts.Turn.{Turn}
use Rattle.mc_mover.specs.declared.counts.Turn.TheVariants as turn
use Rattle.mc_mover.specs.declared.numbers.Survey.{Survey}
use Rattle.mc_script.specs.declared.command.Command.TheVariants as command
use Rattle.mc_watch.specs.declared.decider.Decision.{Decision}
use Rattle.mc_watch.specs.declared.refusal.Feed.{Feed}
use Rattle.mc_watch.specs.Decider.{DeciderState, after_window}
use Rattle.mc_watch.specs.Texts.{line, stat_line}
use Rattle.mc_serial_spec.specs.declared.turn.Counts.{Counts}
use Rattle.mc_serial_spec.specs.declared.turn.Ending.{Ending}
use Rattle.mc_serial_spec.specs.declared.turn.Ending.TheVariants.{Idle, Went, Finished}
use Rattle.mc_workers.specs.declared.mover.Mover.{Mover}
use Rattle.mc_workers.specs.declared.mover_reply.Acted.{Acted}
use Rattle.mc_workers.specs.declared.mover_reply.MoverReply.TheVariants as reply
use Rattle.mc_workers.specs.MoverReplies.{totals_text, window_text}
use Rattle.mc_workers.specs.Moving.{ActsOnDecisionInRun, AreTurnsOf, DoesTurnsInRun, RunsOutOfTurns, ServesMover, TurnsEach, counts_of_all, decider_after, decision_acted_on, refusal_for, turns_of}
use Rattle.mc_workers.specs.Surveyed.{ArePrintable, granted_in}

-- a page was to go from class 3 to the pool, and this was answered
abbrev pub pool_move : Result (Unit {0}) Reassign → Option Acted
pool_move answer = Some (record { decision = record { src = 3; dst = 0 }; answer = answer })

-- the line of a window has source and destination in this order, and then the answer
abbrev pub WindowsArePrinted : Type 0
WindowsArePrinted =
    (window_text (pool_move (Ok tt)) ≡ codes "WINDOW " ++ decimal 3 ++ codes " " ++ decimal 0 ++ codes " OK\r\n")
    × (window_text (pool_move (Err NoSpare)) ≡ codes "WINDOW " ++ decimal 3 ++ codes " " ++ decimal 0 ++ codes " NOSPARE\r\n")

-- a decision is acted on in mode 1 alone
abbrev pub DecidesInMode1Alone : Type 0
DecidesInMode1Alone = (decider : DeciderState) (survey : Survey) → survey.mode ≢ 1 → decision_acted_on decider survey ≡ None

-- the decider is fed in every mode
abbrev pub IsFedInEveryMode : Type 0
IsFedInEveryMode = (decider : DeciderState) (survey : Survey) → refusal_for decider survey ≡ None →
    decider_after decider survey ≡ after_window decider (evictions_in survey) (pages_in survey) (free_in survey)

-- numbers that the decider refuses change nothing
abbrev pub RefusedNumbersChangeNothing : Type 0
RefusedNumbersChangeNothing = (decider : DeciderState) (survey : Survey) (refusal : Feed) → refusal_for decider survey ≡ Some refusal →
    (decider_after decider survey ≡ decider) × (decision_acted_on decider survey ≡ None)

-- no decision is passed over, and none is made up
abbrev pub DecisionsAreActedOn : Type 0
DecisionsAreActedOn = (decision : Decision) (acted : Acted) (before now : Hand) →
    (ActsOnDecisionInRun (Some decision) None before now → ⊥) × (ActsOnDecisionInRun None (Some acted) before now → ⊥)

-- the counts of a turn that cleared 3 chunks, one of them by a rescue, and found 2 busy
abbrev pub first_counts : turns.Counts
first_counts = record { cleared = 3; rescued = 1; evicted = 0; busy = 2; locked = 0 }

-- the counts of a turn that cleared 4 chunks, one of them by an eviction, and found 5 with their stripe locked
abbrev pub last_counts : turns.Counts
last_counts = record { cleared = 4; rescued = 0; evicted = 1; busy = 0; locked = 5 }

-- two turns are asked for: both are done while they go on, and none behind one that found no move or ended one
abbrev pub TurnsGoOnUntilDone : Type 0
TurnsGoOnUntilDone =
    AreTurnsOf 2 (turn.Went first_counts ∷ turn.Finished last_counts ∷ []) Finished
    × AreTurnsOf 2 (turn.Idle ∷ []) Idle
    × (AreTurnsOf 2 (turn.Went first_counts ∷ []) Went → ⊥)
    × (AreTurnsOf 2 (turn.Idle ∷ turn.Went last_counts ∷ []) Went → ⊥)
    × (AreTurnsOf 1 (turn.Went first_counts ∷ turn.Went last_counts ∷ []) Went → ⊥)

-- the sums of a line's turns are kind by kind
abbrev pub TurnsAreSummed : Type 0
TurnsAreSummed =
    counts_of_all (turn.Went first_counts ∷ turn.Idle ∷ turn.Finished last_counts ∷ [])
    ≡ record { cleared = 7; rescued = 1; evicted = 1; busy = 2; locked = 5 }

-- turns one after another are the first of them, and then the others
abbrev pub TurnsComeApart : Type 0
TurnsComeApart = (first others : List Turn) (before now : Hand) → TurnsEach (first ++ others) before now →
    (between : Hand) × TurnsEach first before between × TurnsEach others between now

-- a line begins at least one turn, and no more than are asked for; the run never more than 1,000,000
abbrev pub TurnsAreCounted : Type 0
TurnsAreCounted = (asked : ℕ) (ending : Ending) (counts : Counts) (mover : Mover) (before : Hand) (left : Mover) (now : Hand) →
    DoesTurnsInRun asked ending counts mover before left now →
    (turns_of mover < turns_of left) × (turns_of left ≤ turns_of mover + asked) × (turns_of left ≤ 1000000)

-- a line of turns ends the run only where it asks for more turns than are left
abbrev pub TurnsRunOut : Type 0
TurnsRunOut = (asked : ℕ) (mover : Mover) (before : Hand) (left : Mover) (now : Hand) →
    RunsOutOfTurns asked mover before left now → 1000000 < turns_of mover + asked

-- two pages were moved, three items rescued, four evicted, five chunks were busy; a page is in the pool, and one on the move
abbrev pub TotalsArePrinted : Type 0
TotalsArePrinted = (survey : Survey) →
    survey.totals ≡ record { granted = 9; pool = 1; moved = 2; rescues = 3; evictions_nomem = 4; busy = 5 } → survey.running ≡ true →
    totals_text survey ≡
    stat_line (codes "slab_global_page_pool") 1
    ++ stat_line (codes "slab_reassign_running") 1
    ++ stat_line (codes "slabs_moved") 2
    ++ stat_line (codes "slab_reassign_rescues") 3
    ++ stat_line (codes "slab_reassign_evictions_nomem") 4
    ++ stat_line (codes "slab_reassign_busy_items") 5
    ++ line (codes "END")

-- a table of one class, whose pages have two chunks
abbrev pub two_a_page : Classes
two_a_page = record { page = 1024; limit = 4096; sizes = 512 ∷ [] }

-- a page of two chunks can't have three free ones; granted bytes are those of whole pages
abbrev pub ClassesArePrinted : Type 0
ClassesArePrinted = (survey : Survey) →
    (pages_in survey ≡ 1 ∷ [] → free_in survey ≡ 3 ∷ [] → ArePrintable two_a_page survey → ⊥)
    × (survey.totals.granted ≡ 3 → granted_in two_a_page survey ≡ 3072)

-- want of memory is no answer, and no line has the reply of another one
abbrev pub RepliesAreOfTheirLines : Type 0
RepliesAreOfTheirLines = (mover left : Mover) (before now : Hand) (survey : Survey) →
    (ServesMover (command.Reassign None 1) (reply.Answer (Err (NoMemory tt))) mover before left now → ⊥)
    × (ServesMover command.Stats (reply.Classes survey) mover before left now → ⊥)
    × (ServesMover command.StatsSlabs (reply.Totals survey) mover before left now → ⊥)
