use Rattle.std.proofs.Common.{◌∙◌, List, subst, ℕ}
use Rattle.mc_cache.specs.Belonging.{GivesValueOf}
use Rattle.example_calls.specs.Cached.{city_key}
use Rattle.example_calls.proofs.Outcomes.{found_or_not}
use Rattle.example_calls.proofs.cache.shared.share.Goals as goal

pub returns : goal.returns
returns g c = record {
  found = found_or_not _ _ c.get-found.result
      (λ is. (
        c.in_ok-cache.cache,
        c.remove-reader.result,
        c.get-found.new.self,
        c.get-found.ensures.belongs,
        subst (λ (old : List ℕ). GivesValueOf c.in_ok-cache.cache city_key old c.get-found.new.into.items c.remove-reader.result c.get-found.new.self) c.new-bytes.ensures.items (c.get-found.ensures.value is),
      ))
      (λ isnt. c.get-found.ensures.kept isnt ∙ c.new-bytes.ensures.items);
}
