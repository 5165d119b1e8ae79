-- A window of one shard whose locks are tried for: it ends early where each try for one of them missed.
use Rattle.std.specs.Prelude.{◌≡◌, ◌⊎◌, ◌<◌, ℕ, true, false, List, length, Some}
use Rattle.mc_words.specs.declared.hand.Hand.{Hand}
use Rattle.mc_words.specs.hand.Arenas.{view}
use Rattle.mc_words.specs.lock.Wait.{MissesSlabsEachTime}
use Rattle.mc_mover.specs.declared.counts.Turn.{Turn}
use Rattle.mc_mover.specs.declared.numbers.Survey.{Survey}
use Rattle.mc_mover.specs.Acting.{ActsOnceByNumber}
use Rattle.mc_mover.specs.Surveying.{Surveys}
use Rattle.mc_watch.specs.declared.decider.Decision.{Decision}
use Rattle.mc_watch.specs.Decider.{DeciderState}
use Rattle.mc_cache.specs.declared.tended.Tended.{Tended}
use Rattle.mc_cache.specs.declared.window.FirstHalf.{FirstHalf}
use Rattle.mc_cache.specs.declared.window_within.Window.{Window}
use Rattle.mc_cache.specs.declared.window_within.WindowEnd.{WindowEnd}
use Rattle.mc_cache.specs.declared.window_within.WindowEnd.TheVariants as window_end
use Rattle.mc_cache.specs.Windows.{AreUnderWay, DoesTurns, DoesWindowTurns, EndsWindow, TendsShard, began_by, decider_after, decision_after, found_by, nothing_tended, turns_tended}

-- the hand tried for the slabs lock this many times, each time in vain
abbrev pub MissesEachTime : ℕ → Hand → Hand → Type 0
MissesEachTime tries before now = MissesSlabsEachTime tries (view before) (view now)

-- the decider was fed what a survey showed, and no try for the lock came in, under which the page of its decision would have been asked for
pub record MissesMove (tries : ℕ) (decider : DeciderState) (before : Hand) (left : DeciderState) (now : Hand) : Type 0 where
  pub survey : Survey
  pub surveyed : Hand
  pub surveys : ActsOnceByNumber (λ number. Surveys true survey) before surveyed
  pub feeds : left ≡ decider_after decider survey
  pub decision : Decision
  pub decided : decision_after decider survey ≡ Some decision
  pub misses : MissesEachTime tries surveyed now

-- no try came in before the survey, and nothing was done; or none before the move
abbrev pub MissesWindow : ℕ → DeciderState → Hand → DeciderState → Hand → Type 0
MissesWindow tries decider before left now = (MissesEachTime tries before now × (left ≡ decider)) ⊎ MissesMove tries decider before left now

-- what became of the first half of a window
abbrev pub EndsWindowWithin : ℕ → WindowEnd → DeciderState → Hand → DeciderState → Hand → Type 0
EndsWindowWithin tries (window_end.Ended first) decider before left now = EndsWindow first decider before left now
EndsWindowWithin tries window_end.Held decider before left now = MissesWindow tries decider before left now

-- some turns were done, fewer than a window has, and each left its page on the move; then no try for the lock came in
pub record MissesTurn (tries : ℕ) (done : Tended) (before now : Hand) : Type 0 where
  pub turns : List Turn
  pub fewer : length turns < 16
  pub under_way : AreUnderWay turns
  pub turned : Hand
  pub does : DoesTurns turns before turned
  pub counted : done ≡ turns_tended turns
  pub misses : MissesEachTime tries turned now

-- the turns of a window, and what became of them
pub record DoesTurnsWithin (tries : ℕ) (window : Window) (before now : Hand) : Type 0 where
  pub whole : window.stopped ≡ false → DoesWindowTurns window.done before now
  pub early : window.stopped ≡ true → MissesTurn tries window.done before now

-- all turns were done, and then no try for the lock came in, under which the ledger would have been trimmed
pub record MissesTrim (tries : ℕ) (done : Tended) (before now : Hand) : Type 0 where
  pub turned : Hand
  pub turns : DoesWindowTurns done before turned
  pub misses : MissesEachTime tries turned now

-- the window ended, and what came behind it stopped at a lock; what was done is summed
pub record StopsBehindWindow (tries : ℕ) (done : Tended) (decider : DeciderState) (before : Hand) (left : DeciderState) (now : Hand) : Type 0 where
  pub first : FirstHalf
  pub asked : Hand
  pub window : EndsWindow first decider before left asked
  pub counts : Tended
  pub stops : MissesTurn tries counts asked now ⊎ MissesTrim tries counts asked now
  pub counted : done ≡ record counts { found = found_by first.running; began = began_by first.answer }

-- a window that stopped at a lock: before it asked for a page, and then nothing is counted; or behind that
abbrev pub StopsWindow : ℕ → Tended → DeciderState → Hand → DeciderState → Hand → Type 0
StopsWindow tries done decider before left now = (MissesWindow tries decider before left now × (done ≡ nothing_tended)) ⊎ StopsBehindWindow tries done decider before left now

-- a window of a shard, whole or up to a lock
pub record TendsShardWithin (tries : ℕ) (window : Window) (decider : DeciderState) (before : Hand) (left : DeciderState) (now : Hand) : Type 0 where
  pub whole : window.stopped ≡ false → TendsShard window.done decider before left now
  pub early : window.stopped ≡ true → StopsWindow tries window.done decider before left now
