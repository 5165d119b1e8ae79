use Rattle.std.proofs.Common.{ℕ, Option, Result, subst}
use Rattle.mc_update.specs.Counting.{CountsValue}
use Rattle.mc_update.specs.Updates.{stored_by}
use Rattle.mc_update.specs.declared.change.Change.TheVariants.{Decrement}
use Rattle.mc_update.specs.declared.updater.ChangeError.{ChangeError}
use Rattle.example_calls.proofs.Stocked.{takes_one}
use Rattle.example_calls.proofs.cache.stocked.take_one.Goals as goal

pub returns-clause-takes : goal.returns-clause-takes
returns-clause-takes g c = λ n is.
    takes_one c.args.cache.now c.args.key.now (stored_by c.decrement.new.self) n c.args.worker.now c.decrement.new.worker c.conditions_are_met.ensures.versions
    (subst (λ (r : Result (Option ℕ) ChangeError). CountsValue c.args.cache.now c.args.key.now (Decrement 1) (stored_by c.decrement.new.self) r c.args.worker.now c.decrement.new.worker) is (c.decrement.ensures.counts c.requires.key))
