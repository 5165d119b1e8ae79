use Rattle.std.proofs.Common.{◌∙◌, List, arith, subst, ℕ}
use Rattle.mc_cache.specs.Belonging.{GivesValueOf, IsUnusedWorker}
use Rattle.example_calls.proofs.Outcomes.{first_of_all, found_or_not}
use Rattle.example_calls.proofs.cache.unused.get_from_new.Goals as goal

pub returns : goal.returns
returns g c = record {
  others = found_or_not _ _ c.get-found.result
      (λ is.
      let cache = c.in_ok-cache.cache in
      let found = subst (λ (old : List ℕ). GivesValueOf cache c.args.key.now old c.get-found.new.into.items c.remove-worker.result c.get-found.new.self) c.new-bytes.ensures.items (c.get-found.ensures.value is) in
      let unused = first_of_all (IsUnusedWorker cache) c.in_ok-cache.workers.items c.remove-worker.result c.in_ok-cache.ensures.empty.0 (omega (arith, c.in_ok-cache.ensures.workers, c.requires)) c.remove-worker.ensures.value in (
        cache,
        c.remove-worker.result,
        c.get-found.new.self,
        c.get-found.ensures.belongs,
        (found.0, c.own_values_are_newest.ensures.unused cache c.args.key.now found.0 c.remove-worker.result c.get-found.new.self unused found.1, found.2),
      ))
      (λ isnt. c.get-found.ensures.kept isnt ∙ c.new-bytes.ensures.items);
}
