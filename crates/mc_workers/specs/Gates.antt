-- Where a gate let a thread on, and where it stopped one.
use Rattle.std.specs.Prelude.{ℕ, ◌+◌, ◌<◌, ◌≤◌, ◌⊎◌}
use Rattle.mc_workers.specs.declared.gate.Point.{Point}
use Rattle.mc_workers.specs.declared.gate.Point.TheVariants.{Before, After}

-- the relation by which a gate let a worker on, at a line of the worker's, before or after it
abbrev pub LetsOn : Type 1
LetsOn = ℕ → ℕ → Point → Type 0

-- the relation by which a gate stopped a worker, at a line of the worker's, before or after it
abbrev pub Stops : Type 1
Stops = ℕ → ℕ → Point → Type 0

-- the worker was let on before this of its lines, and after it
abbrev pub IsLetOn : LetsOn → ℕ → ℕ → Type 0
IsLetOn lets_on worker nth = lets_on worker nth Before × lets_on worker nth After

-- the worker was let on before and after each of its first n lines, counted from 1
abbrev pub PassedEach : LetsOn → ℕ → ℕ → Type 0
PassedEach lets_on worker count = (nth : ℕ) → 1 ≤ nth → nth ≤ count → IsLetOn lets_on worker nth

-- the worker was stopped before this of its lines, or let on there and stopped after it
abbrev pub StoppedAt : LetsOn → Stops → ℕ → ℕ → Type 0
StoppedAt lets_on stops worker nth =
    stops worker nth Before ⊎ (lets_on worker nth Before × stops worker nth After)

-- the worker was let on at the first of its n lines, and stopped at the next
pub record IsStopped (lets_on : LetsOn) (stops : Stops) (worker count : ℕ) : Type 0 where
  pub done : ℕ
  pub fewer : done < count
  pub passed : PassedEach lets_on worker done
  pub here : StoppedAt lets_on stops worker (done + 1)
