use Rattle.std.proofs.Common.{◌∙◌, Ok, Result, ap, subst}
use Rattle.mc_shard.specs.declared.conditions.Outcome.{Outcome}
use Rattle.mc_shard.specs.declared.conditions.Outcome.TheVariants.{Stored}
use Rattle.mc_shard.specs.declared.conditions.When.TheVariants.{Present}
use Rattle.mc_cache.specs.declared.working.SetError.{SetError}
use Rattle.mc_cache.specs.Belonging.{ActsOnKey, hash_in}
use Rattle.mc_cache.specs.Conditional.{SetsValueIf}
use Rattle.example_calls.proofs.cache.replaced.replace_value.Goals as goal

pub returns-in-Ok-Stored-clause-replaces : goal.returns-in-Ok-Stored-clause-replaces
returns-in-Ok-Stored-clause-replaces g c = λ _.
    let cache = c.args.cache.now in
    let key = c.args.key.now in
    let value = c.args.value.now in
    let stamp = c.in-Ok-Stored._version in
    let acts = subst (λ (r : Result Outcome SetError). ActsOnKey cache key (SetsValueIf (hash_in cache key) key value Present r) c.args.worker.now c.replace.new.self) (c.in-Ok-Stored.is ∙ ap Ok c.in-Ok-Stored.field-0-is) (c.replace.ensures.acts c.requires.key) in
    let found = c.conditions_are_met.ensures.replaces acts.arena (hash_in cache key) key value stamp acts.hand acts.after acts.does in
    record {
      arena = acts.arena;
      is_arena = acts.is_arena;
      hand = acts.hand;
      is_hand = acts.is_hand;
      after = acts.after;
      others = acts.others;
      does = (found.0, (stamp, found.1));
    }
