-- A window of one shard: its survey, what its decider makes of that, and turns of its mover.
use Rattle.std.specs.Prelude.{◌≡◌, ◌<◌, ◌≤◌, ℕ, ◌+◌, ◌-◌, ◌^◌, Bool, true, false, is_some, is_none, min, if◌then◌else◌, List, [], ◌∷◌, length, drop, ⊤, Option, Some, None, Result, Ok}
use Rattle.mc_pages.specs.declared.moves.Reassign.{Reassign}
use Rattle.mc_words.specs.declared.hand.Hand.{Hand}
use Rattle.mc_words.specs.page.Moves.{Reassigns}
use Rattle.mc_mover.specs.declared.counts.Turn.{Turn}
use Rattle.mc_mover.specs.declared.counts.Turn.TheVariants.{Went}
use Rattle.mc_mover.specs.declared.numbers.Survey.{Survey}
use Rattle.mc_mover.specs.Acting.{ActsOnceByNumber, RecordsTurn}
use Rattle.mc_mover.specs.Answering.{is_finished}
use Rattle.mc_mover.specs.Surveying.{Surveys, evictions_in, free_in, pages_in}
use Rattle.mc_mover.specs.Recording.{TrimsLedger}
use Rattle.mc_mover.specs.Telling.{counts_in}
use Rattle.mc_mover.specs.Turning.{Turns}
use Rattle.mc_watch.specs.declared.decider.Decision.{Decision}
use Rattle.mc_watch.specs.declared.refusal.Feed.{Feed}
use Rattle.mc_watch.specs.Decider.{DeciderState, after_window, decision_of, feed_refusal}
use Rattle.mc_cache.specs.declared.tended.Tended.{Tended}
use Rattle.mc_cache.specs.declared.window.FirstHalf.{FirstHalf}

-- why the decider doesn't take the numbers of a survey
abbrev pub refusal_for : DeciderState → Survey → Option Feed
refusal_for decider survey = feed_refusal decider (evictions_in survey) (pages_in survey) (free_in survey)

-- the decider at the end of a window with these numbers; a decider that refuses the numbers stays
abbrev pub decider_after : DeciderState → Survey → DeciderState
decider_after decider survey =
    if is_some (refusal_for decider survey) then decider else after_window decider (evictions_in survey) (pages_in survey) (free_in survey)

-- the decision at the end of a window with these numbers; none where the decider refuses the numbers
abbrev pub decision_after : DeciderState → Survey → Option Decision
decision_after decider survey = if is_none (refusal_for decider survey) then decision_of (decider_after decider survey) else None

-- the page of the decision was asked for, and got this answer; or there is no decision, and nothing was done
abbrev pub ActsOnDecision : Option Decision → Option (Result (Unit {0}) Reassign) → Hand → Hand → Type 0
ActsOnDecision None None before now = now ≡ before
ActsOnDecision (Some decision) (Some answer) before now = ActsOnceByNumber (λ number. Reassigns number (Some decision.src) decision.dst answer) before now
ActsOnDecision decision answer before now = ⊥

-- the dead of all classes were put back, the decider was fed what was left then, and its decision was acted on
pub record EndsWindow (first : FirstHalf) (decider : DeciderState) (before : Hand) (left : DeciderState) (now : Hand) : Type 0 where
  pub survey : Survey
  pub surveyed : Hand
  pub surveys : ActsOnceByNumber (λ number. Surveys true survey) before surveyed
  pub feeds : left ≡ decider_after decider survey
  pub shown : survey.running ≡ first.running
  pub acts : ActsOnDecision (decision_after decider survey) first.answer surveyed now

-- the page that the turn found on the move is so still
abbrev pub is_under_way : Turn → Bool
is_under_way (Went counts) = true
is_under_way other = false

-- the hand did a turn, and its own calls are more by just those that the turn counts
abbrev pub MakesTurn : Turn → Hand → Hand → Type 0
MakesTurn turn before now = ActsOnceByNumber (λ number. Turns number turn) before now × RecordsTurn before now turn

-- the hand did these turns, one after another; the newest is first in the list
unfoldable pub DoesTurns : List Turn → Hand → Hand → Type 0
DoesTurns [] before now = now ≡ before
DoesTurns (turn ∷ turns) before now = (between : Hand) × DoesTurns turns before between × MakesTurn turn between now

-- a count after n more, which stops at 2^64 - 1
abbrev pub count_with : ℕ → ℕ → ℕ
count_with more count = min (count + more) (2 ^ 64 - 1)

-- nothing was done
abbrev pub nothing_tended : Tended
nothing_tended = record { found = 0; began = 0; ended = 0; rescued = 0; evicted = 0 }

-- what was done, with what one more turn did added
abbrev pub with_turn : Turn → Tended → Tended
with_turn turn done = record {
  found = done.found;
  began = done.began;
  ended = count_with (if is_finished turn then 1 else 0) done.ended;
  rescued = count_with (counts_in turn).rescued done.rescued;
  evicted = count_with (counts_in turn).evicted done.evicted;
}

-- what these turns did
unfoldable pub turns_tended : List Turn → Tended
turns_tended [] = nothing_tended
turns_tended (turn ∷ turns) = with_turn turn (turns_tended turns)

-- how many moves were under way as a window began, by what its survey showed
abbrev pub found_by : Bool → ℕ
found_by running = if running then 1 else 0

-- how many moves began by this answer
abbrev pub began_by : Option (Result (Unit {0}) Reassign) → ℕ
began_by (Some (Ok _)) = 1
began_by other = 0

-- each of these turns left its page on the move
unfoldable pub AreUnderWay : List Turn → Type 0
AreUnderWay [] = ⊤
AreUnderWay (turn ∷ turns) = (is_under_way turn ≡ true) × AreUnderWay turns

-- the newest of the turns found no move, or ended one
abbrev pub HasEnded : List Turn → Type 0
HasEnded [] = ⊥
HasEnded (turn ∷ turns) = is_under_way turn ≡ false

-- the turns of a window, and what they did: 16, or fewer where the newest found no move or ended one; each before it left its page on the move
pub record DoesWindowTurns (done : Tended) (before now : Hand) : Type 0 where
  pub turns : List Turn
  pub most : length turns ≤ 16
  pub fewer : length turns < 16 → HasEnded turns
  pub before_newest : AreUnderWay (drop 1 turns)
  pub does : DoesTurns turns before now
  pub counted : done ≡ turns_tended turns

-- a window of a shard: the window ended, turns were done, the ledger was trimmed, and the sums are of all that was done
pub record TendsShard (done : Tended) (decider : DeciderState) (before : Hand) (left : DeciderState) (now : Hand) : Type 0 where
  pub first : FirstHalf
  pub asked : Hand
  pub window : EndsWindow first decider before left asked
  pub counts : Tended
  pub turned : Hand
  pub turns : DoesWindowTurns counts asked turned
  pub trims : ActsOnceByNumber TrimsLedger turned now
  pub counted : done ≡ record counts { found = found_by first.running; began = began_by first.answer }
