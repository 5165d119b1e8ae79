-- How the threads of a run end, as the gate was asked: each at all of its lines, or stopped at one.
use Rattle.std.specs.Prelude.{◌≡◌, ◌⊎◌, ℕ, ◌+◌, ◌<◌, ◌≤◌, List, length, Result, Ok, Err, IfOk, OnOk, ⊤}
use Rattle.mc_words.specs.declared.arena.Arena.{Arena}
use Rattle.mc_words.specs.declared.hand.Hand.{Hand}
use Rattle.mc_script.specs.declared.command.Command.{Command}
use Rattle.mc_workers.specs.declared.ended.Ended.{Ended}
use Rattle.mc_workers.specs.declared.ended.Ended.TheVariants.{Turns}
use Rattle.mc_workers.specs.declared.threads.Joined.{Joined}
use Rattle.mc_workers.specs.declared.threads.Served.{Served}
use Rattle.mc_workers.specs.Asking.{greatest_worker, lines_of, lines_of_mover}
use Rattle.mc_workers.specs.Gates.{LetsOn, PassedEach, IsStopped, Stops}
use Rattle.mc_workers.specs.Spending.{StopsMoves}
use Rattle.mc_workers.specs.Threads.{AreDone, LinesAreServed}

-- the worker was let on before and after each of its lines
abbrev pub PassesLines : LetsOn → List Command → ℕ → Type 0
PassesLines lets_on commands worker = PassedEach lets_on worker (length (lines_of worker commands))

-- the mover was let on before and after each of its lines
abbrev pub PassesMoves : LetsOn → List Command → Type 0
PassesMoves lets_on commands = PassedEach lets_on 0 (length (lines_of_mover commands))

-- the worker was stopped at one of its lines, and let on at all before
abbrev pub StopsLines : LetsOn → Stops → List Command → ℕ → Type 0
StopsLines lets_on stops commands worker = IsStopped lets_on stops worker (length (lines_of worker commands))

-- n workers from this number on, and the mover, were let on at each line
pub record LetsAllOn (lets_on : LetsOn) (commands : List Command) (worker count : ℕ) : Type 0 where
  pub workers : (own : ℕ) → worker ≤ own → own < worker + count → PassesLines lets_on commands own
  pub mover : PassesMoves lets_on commands

-- one of n workers from this number on was stopped, or the mover was
abbrev pub StopsOne : LetsOn → Stops → List Command → ℕ → ℕ → Type 0
StopsOne lets_on stops commands worker count =
    ((own : ℕ) × (worker ≤ own) × (own < worker + count) × StopsLines lets_on stops commands own)
    ⊎ StopsMoves lets_on stops 0 commands

-- a worker or the mover was stopped, and each that wasn't was let on at each line; nobody's memory or thread was refused
pub record StopsSome (lets_on : LetsOn) (stops : Stops) (commands : List Command) (worker count : ℕ) : Type 0 where
  pub workers : (own : ℕ) → worker ≤ own → own < worker + count
      → PassesLines lets_on commands own ⊎ StopsLines lets_on stops commands own
  pub mover : PassesMoves lets_on commands ⊎ StopsMoves lets_on stops 0 commands
  pub one : StopsOne lets_on stops commands worker count

-- all workers of a script, up to the greatest, and its mover were let on at each line
abbrev pub RunPasses : LetsOn → List Command → Type 0
RunPasses lets_on commands = LetsAllOn lets_on commands 1 (greatest_worker commands)

-- some thread of the run was stopped, and each that wasn't was let on at each line
abbrev pub RunStops : LetsOn → Stops → List Command → Type 0
RunStops lets_on stops commands = StopsSome lets_on stops commands 1 (greatest_worker commands)

-- how a worker's thread ended: its lines were done, each let on; the gate stopped it at one; or memory was refused
pub record EndsServed (lets_on : LetsOn) (stops : Stops) (arena : Arena) (worker : ℕ) (commands : List Command) (hand : Hand) (ended : Result Served Ended) : Type 0 where
  pub served : IfOk ended (LinesAreServed arena worker commands hand)
  pub passed : OnOk ended (PassesLines lets_on commands worker)
  pub stopped : ended ≡ Err Turns → StopsLines lets_on stops commands worker

-- the threads of the workers from this number on and of the mover ended. Where they did their lines by these hands, each was let on. Where
-- `Turns` ended them, one was stopped
pub record EndsJoined (lets_on : LetsOn) (stops : Stops) (arena : Arena) (worker : ℕ) (commands : List Command) (hands : List Hand) (mover : Hand) (ended : Result Joined Ended) : Type 0 where
  pub done : IfOk ended (AreDone arena worker commands hands mover)
  pub passed : OnOk ended (LetsAllOn lets_on commands worker (length hands))
  pub stopped : ended ≡ Err Turns → StopsSome lets_on stops commands worker (length hands)

-- one of two ends is `Turns`, and the other is `Turns`, too, or no error
abbrev pub AreTurns : Result Served Ended → Result Joined Ended → Type 0
AreTurns (Ok served) (Err Turns) = ⊤
AreTurns (Err Turns) (Ok joined) = ⊤
AreTurns (Err Turns) (Err Turns) = ⊤
AreTurns own others = ⊥
