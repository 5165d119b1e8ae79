use Rattle.std.proofs.Common.{ℕ, IfSome, Ok, Option, subst}
use Rattle.mc_shard.specs.declared.conditions.Outcome.{Outcome}
use Rattle.mc_shard.specs.declared.conditions.Outcome.TheVariants.{Stored}
use Rattle.mc_shard.specs.declared.conditions.When.TheVariants.{Version}
use Rattle.mc_cache.specs.Belonging.{ActsOnKey, hash_in}
use Rattle.mc_cache.specs.Conditional.{SetsValueIf}
use Rattle.mc_cache.specs.Versions.{GivesVersionOf}
use Rattle.example_calls.proofs.Outcomes.{same_ok}
use Rattle.example_calls.proofs.Replaced.{stored_over}
use Rattle.example_calls.proofs.cache.exchanged.exchange.Goals as goal

pub returns-in-Ok-compare_and_set-clause-exchanges : goal.returns-in-Ok-compare_and_set-clause-exchanges
returns-in-Ok-compare_and_set-clause-exchanges g c = λ stamp is.
    let cache = c.args.cache.now in
    let key = c.args.key.now in
    let between = c.get_with_version.new.self in
    let found = subst (λ (o : Option ℕ). IfSome o (λ version. GivesVersionOf cache key version c.args.into.now.items c.get_with_version.new.into.items c.args.worker.now between)) c.in-Some.is c.in-Ok.ensures.value in
    record {
      found = found.0;
      added = found.2;
      version = c.in-Some.version;
      between = between;
      finds = found.1;
      stores = stored_over cache key c.args.value.now c.in-Some.version stamp between c.compare_and_set.new.self c.conditions_are_met.ensures.versions
          (subst (λ (o : Outcome). ActsOnKey cache key (SetsValueIf (hash_in cache key) key c.args.value.now (Version c.in-Some.version) (Ok o)) between c.compare_and_set.new.self) (same_ok c.in-Ok-compare_and_set.outcome (Stored stamp) is) (c.in-Ok-compare_and_set.ensures.acts c.requires.key));
    }
