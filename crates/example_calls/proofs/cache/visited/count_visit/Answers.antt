use Rattle.std.proofs.Common.{ℕ, Option, Result, subst}
use Rattle.mc_update.specs.Counting.{CountsValue}
use Rattle.mc_update.specs.Updates.{stored_by}
use Rattle.mc_update.specs.declared.change.Change.TheVariants.{Increment}
use Rattle.mc_update.specs.declared.updater.ChangeError.{ChangeError}
use Rattle.example_calls.proofs.Visited.{counts_visit}
use Rattle.example_calls.proofs.cache.visited.count_visit.Goals as goal

pub returns-clause-counts : goal.returns-clause-counts
returns-clause-counts g c = λ n is.
    counts_visit c.args.cache.now c.args.key.now (stored_by c.increment.new.self) n c.args.worker.now c.increment.new.worker c.conditions_are_met.ensures.versions
    (subst (λ (r : Result (Option ℕ) ChangeError). CountsValue c.args.cache.now c.args.key.now (Increment 1) (stored_by c.increment.new.self) r c.args.worker.now c.increment.new.worker) is (c.increment.ensures.counts c.requires.key))
