use Rattle.std.proofs.Common.{◌++◌, ◌∙◌, ℕ, List, Ok, Option, Result, ap, refl, subst}
use Rattle.mc_update.specs.Updates.{ChangesValue, stored_by}
use Rattle.mc_update.specs.declared.change.Change.TheVariants.{Append, Prepend}
use Rattle.mc_update.specs.declared.updater.ChangeError.{ChangeError}
use Rattle.example_calls.proofs.Lengthened.{stores_changed}
use Rattle.example_calls.proofs.cache.lengthened.add_at_both_ends.Goals as goal

pub returns-in-Ok-Some-append-clause-adds : goal.returns-in-Ok-Some-append-clause-adds
returns-in-Ok-Some-append-clause-adds g c = λ _.
    let cache = c.args.cache.now in
    let key = c.args.key.now in
    let law = c.conditions_are_met.ensures.versions in
    let before = stores_changed cache key (stored_by c.prepend.new.self) (Prepend c.args.first) (λ old. c.args.first.now ++ old) c.in-Ok-Some._version c.args.worker.now c.prepend.new.worker law (λ old. refl)
    (subst (λ (r : Result (Option ℕ) ChangeError). ChangesValue cache key (Prepend c.args.first) (stored_by c.prepend.new.self) r c.args.worker.now c.prepend.new.worker) (c.in-Ok-Some.is ∙ ap Ok c.in-Ok-Some.field-0-is) (c.prepend.ensures.changes c.requires.key)) in
    let behind = stores_changed cache key (stored_by c.append.new.self) (Append c.args.last) (λ old. old ++ c.args.last.now) c.in-Ok-Some-append._version c.prepend.new.worker c.append.new.worker law (λ old. refl)
    (subst (λ (r : Result (Option ℕ) ChangeError). ChangesValue cache key (Append c.args.last) (stored_by c.append.new.self) r c.prepend.new.worker c.append.new.worker) (c.in-Ok-Some-append.is ∙ ap Ok c.in-Ok-Some-append.field-0-is) (c.append.ensures.changes c.requires.key)) in
    ((c.prepend.new.worker, before), behind)
