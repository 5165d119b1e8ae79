use Rattle.std.proofs.Common.{◌≡◌, ℕ, IfOk, IfSome, List, Ok, arith, refl, subst}
use Rattle.mc_script.specs.Words.{parsed_number}
use Rattle.mc_update.specs.Changes.{number_before}
use Rattle.mc_update.specs.declared.change.Change.TheVariants.{Decrement}
use Rattle.mc_update.proofs.Counted.{returns_number}
use Rattle.mc_update.proofs.updater.Updater.decrement.Goals as goal

pub returns-clause-counts : goal.returns-clause-counts
returns-clause-counts g c = λ is.
    let changes = c.change_value-changed.ensures.changes is in
    record {
      changed = c.change_value-changed.result;
      changes = changes;
      returns = returns_number c.args.cache.now c.args.key.now (Decrement c.args.by) (number_before c.args.by) (λ old. refl) (λ n less. omega (arith, less)) c.change_value-changed.new.self.new_value.items c.change_value-changed.result c.number_of.result c.args.worker.now c.change_value-changed.new.worker
          changes (subst (λ (v : List ℕ). IfOk c.change_value-changed.result (λ found. IfSome found (λ stamp. c.number_of.result ≡ Ok (parsed_number v)))) c.deref.ensures.value c.number_of.ensures.stored) c.number_of.ensures.none c.number_of.ensures.refused;
    }
