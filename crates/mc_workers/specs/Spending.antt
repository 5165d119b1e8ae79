-- Where the mover's thread ends by a gate that stops it, or by turns that a run doesn't have.
use Rattle.std.specs.Prelude.{ℕ, ◌+◌, ◌<◌, ◌⊎◌, List, length, sum_by, take}
use Rattle.mc_script.specs.declared.command.Command.{Command}
use Rattle.mc_script.specs.declared.command.Command.TheVariants.{Turn}
use Rattle.mc_workers.specs.declared.gate.Point.TheVariants.{Before}
use Rattle.mc_workers.specs.declared.mover.Mover.{Mover}
use Rattle.mc_workers.specs.Asking.{lines_of_mover}
use Rattle.mc_workers.specs.Gates.{LetsOn, PassedEach, IsStopped, StoppedAt, Stops}
use Rattle.mc_workers.specs.Moving.{turns_of}

-- how many turns a line asks for
abbrev pub turns_asked : Command → ℕ
turns_asked (Turn asked) = asked
turns_asked other = 0

-- the mover was stopped at this of its lines, or let on before one that asks for more turns than the run has left
abbrev pub StopsMove : LetsOn → Stops → ℕ → Command → Mover → Type 0
StopsMove lets_on stops nth command mover =
    StoppedAt lets_on stops 0 nth
    ⊎ (lets_on 0 nth Before × (1000000 < turns_of mover + turns_asked command))

-- after n turns these lines ask for more than the 1,000,000 of a run, by the line at which the mover was let on last
pub record SpendsTurns (lets_on : LetsOn) (begun : ℕ) (lines : List Command) : Type 0 where
  pub done : ℕ
  pub fewer : done < length lines
  pub passed : PassedEach lets_on 0 done
  pub here : lets_on 0 (done + 1) Before
  pub spent : 1000000 < begun + sum_by turns_asked (take (done + 1) lines)

-- the mover was stopped at one of its lines, or let on before one that asks for more turns than the run had left
abbrev pub StopsMoves : LetsOn → Stops → ℕ → List Command → Type 0
StopsMoves lets_on stops begun commands =
    IsStopped lets_on stops 0 (length (lines_of_mover commands))
    ⊎ SpendsTurns lets_on begun (lines_of_mover commands)
