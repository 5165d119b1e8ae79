-- How all threads ended, put together.
use Rattle.std.proofs.Common.{◌≡◌, ◌⊎◌, ℕ, suc, ◌+◌, ◌<◌, ◌≤◌, List, Result, Ok, Err, OnOk, refl, sym, subst, inl, inr, arith}
use Rattle.std.proofs.lemmas.Bool.{cases_lt}
use Rattle.mc_words.specs.declared.arena.Arena.{Arena}
use Rattle.mc_words.specs.declared.hand.Hand.{Hand}
use Rattle.mc_script.specs.declared.command.Command.{Command}
use Rattle.mc_workers.specs.declared.ended.Ended.{Ended}
use Rattle.mc_workers.specs.declared.ended.Ended.TheVariants.{Memory, Thread, Turns}
use Rattle.mc_workers.specs.declared.threads.Joined.{Joined}
use Rattle.mc_workers.specs.declared.threads.Served.{Served}
use Rattle.mc_workers.specs.Ends.{AreTurns, EndsServed, LetsAllOn, PassesLines, PassesMoves, StopsLines, StopsOne, StopsSome}
use Rattle.mc_workers.specs.Gates.{LetsOn, Stops}
use Rattle.mc_workers.specs.Spending.{StopsMoves}

-- what holds of a worker and of so many behind it
each_of : (P : ℕ → Type 0) (worker count : ℕ) → P worker → ((own : ℕ) → worker + 1 ≤ own → own < (worker + 1) + count → P own)
    → (own : ℕ) → worker ≤ own → own < worker + suc count → P own
each_of P worker count first others own some within_limit = from (cases_lt worker own)
  where
    from : (worker < own) ⊎ (own ≤ worker) → P own
    from (inl later) = others own (omega (arith, later)) (omega (arith, within_limit))
    from (inr here) = let same : own ≡ worker = omega (arith, some, here) in subst P (sym same) first

module _ (lets_on : LetsOn) (stops : Stops) (commands : List Command) (worker : ℕ) where
  -- the mover alone
  pub passes_alone : PassesMoves lets_on commands → LetsAllOn lets_on commands worker 0
  passes_alone mover = record { workers = λ own some within_limit. absurd (omega (arith, some, within_limit)); mover = mover }

  pub stops_alone : StopsMoves lets_on stops 0 commands → StopsSome lets_on stops commands worker 0
  stops_alone mover = record { workers = λ own some within_limit. absurd (omega (arith, some, within_limit)); mover = inr mover; one = inr mover }

  -- a worker and the others
  pub passes_with : (count : ℕ) → PassesLines lets_on commands worker → LetsAllOn lets_on commands (worker + 1) count → LetsAllOn lets_on commands worker (suc count)
  passes_with count own others = record { workers = each_of (PassesLines lets_on commands) worker count own others.workers; mover = others.mover }

  one_later : (count : ℕ) → StopsOne lets_on stops commands (worker + 1) count → StopsOne lets_on stops commands worker (suc count)
  one_later count (inl (own, some, within_limit, here)) = inl (own, omega (arith, some), omega (arith, within_limit), here)
  one_later count (inr mover) = inr mover

  abbrev EndsLines : ℕ → Type 0
  EndsLines own = PassesLines lets_on commands own ⊎ StopsLines lets_on stops commands own

  stops_behind : (count : ℕ) → EndsLines worker → StopsSome lets_on stops commands (worker + 1) count → StopsSome lets_on stops commands worker (suc count)
  stops_behind count own others = record { workers = each_of EndsLines worker count own others.workers; mover = others.mover; one = one_later count others.one }

  stops_first : (count : ℕ) → StopsLines lets_on stops commands worker → LetsAllOn lets_on commands (worker + 1) count → StopsSome lets_on stops commands worker (suc count)
  stops_first count own others = record {
    workers = each_of EndsLines worker count (inr own) (λ at some within_limit. inl (others.workers at some within_limit));
    mover = inl others.mover;
    one = inl (worker, omega arith, omega arith, own);
  }

  pub stops_both : (arena : Arena) (hand : Hand) (count : ℕ) (own : Result Served Ended) (others : Result Joined Ended) → AreTurns own others
      → EndsServed lets_on stops arena worker commands hand own → OnOk others (LetsAllOn lets_on commands (worker + 1) count)
      → (others ≡ Err Turns → StopsSome lets_on stops commands (worker + 1) count) → StopsSome lets_on stops commands worker (suc count)
  stops_both arena hand count (Ok served) (Err Turns) are first passed stopped = stops_behind count (inl first.passed) (stopped refl)
  stops_both arena hand count (Err Turns) (Err Turns) are first passed stopped = stops_behind count (inr (first.stopped refl)) (stopped refl)
  stops_both arena hand count (Err Turns) (Ok joined) are first passed stopped = stops_first count (first.stopped refl) passed
  stops_both arena hand count (Ok served) (Ok joined) are first passed stopped = absurd are
  stops_both arena hand count (Ok served) (Err (Memory refused)) are first passed stopped = absurd are
  stops_both arena hand count (Ok served) (Err (Thread unstarted)) are first passed stopped = absurd are
  stops_both arena hand count (Err Turns) (Err (Memory refused)) are first passed stopped = absurd are
  stops_both arena hand count (Err Turns) (Err (Thread unstarted)) are first passed stopped = absurd are
  stops_both arena hand count (Err (Memory refused)) others are first passed stopped = absurd are
  stops_both arena hand count (Err (Thread unstarted)) others are first passed stopped = absurd are
