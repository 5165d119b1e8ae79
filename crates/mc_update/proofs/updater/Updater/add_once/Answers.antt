use Rattle.std.proofs.Common.{◌∙◌, ℕ, Err, List, [], Ok, Vec, ap, refl, subst, sym}
use Rattle.std.specs.Global.{Global}
use Rattle.mc_shard.specs.declared.conditions.Outcome.TheVariants.{Stored}
use Rattle.mc_cache.specs.declared.working.SetError.TheVariants as set_error
use Rattle.mc_cache.specs.Belonging.{GivesValueOf}
use Rattle.mc_cache.specs.Shards.{IsKey}
use Rattle.mc_cache.proofs.Acts.{is_key}
use Rattle.mc_update.specs.Updates.{stored_by}
use Rattle.mc_update.proofs.Acts.{adds_so, is_stored}
use Rattle.mc_update.proofs.updater.Updater.add_once.Goals as goal

pub returns-in-Some-clause-ends : goal.returns-in-Some-clause-ends
returns-in-Some-clause-ends g c = λ is. (
  refl,
  adds_so c.args.cache.now c.args.key.now c.deref.result.now (stored_by c.args.self.now) c.set_if.result (Ok (Stored c.in-Some.stamp)) c.args.worker.now c.set_if.new.self c.deref.ensures.value
      (c.in-Ok.is ∙ ap Ok (is_stored c.in-Ok.outcome c.in-Some.stamp (sym c.stored_version.ensures ∙ c.in-Some.is))) (c.set_if.ensures.acts is),
)

pub returns-in-Err-Item-clause-ends : goal.returns-in-Err-Item-clause-ends
returns-in-Err-Item-clause-ends g c = λ is. (
  refl,
  adds_so c.args.cache.now c.args.key.now c.deref.result.now (stored_by c.args.self.now) c.set_if.result (Err (set_error.Item c.in-Err-Item.error)) c.args.worker.now c.set_if.new.self c.deref.ensures.value
      (c.in-Err-Item.is ∙ ap Err c.in-Err-Item.field-0-is) (c.set_if.ensures.acts is),
)

pub returns-in-Ok-true-clause-ends : goal.returns-in-Ok-true-clause-ends
returns-in-Ok-true-clause-ends g c = λ is.
    let cache = c.args.cache.now in
    let key = c.args.key.now in
    let between = c.set_if.new.self in
    record {
      outcome = c.in-Ok.outcome;
      vain = sym c.stored_version.ensures ∙ c.in-None.is;
      between = between;
      adds = adds_so cache key c.deref.result.now (stored_by c.args.self.now) c.set_if.result (Ok c.in-Ok.outcome) c.args.worker.now between c.deref.ensures.value c.in-Ok.is (c.set_if.ensures.acts is);
      does = record {
        gives = subst (λ (v : Vec ℕ Global). GivesValueOf cache key [] v.items between c.get.new.self) (sym c.swap.ensures.y_after)
            (subst (λ (old : List ℕ). GivesValueOf cache key old c.get.new.into.items between c.get.new.self) c.clear.ensures.items (c.get.ensures.value (c.in-Ok-true.is ∙ ap Ok c.in-Ok-true.field-0-test)));
        only = record { calls = c.get.ensures.calls is; untouched = c.get.ensures.untouched is };
      };
    }

pub returns-in-Ok-false-clause-again : goal.returns-in-Ok-false-clause-again
returns-in-Ok-false-clause-again g c = λ none.
    let cache = c.args.cache.now in
    let key = c.args.key.now in
    let is : IsKey key = is_key key (λ no. let wrong = sym c.in-Ok.is ∙ c.set_if.ensures.key.1 no in absurd (cc)) in (
      is,
      record {
        outcome = c.in-Ok.outcome;
        vain = sym c.stored_version.ensures ∙ c.in-None.is;
        between = c.set_if.new.self;
        adds = adds_so cache key c.deref.result.now (stored_by c.args.self.now) c.set_if.result (Ok c.in-Ok.outcome) c.args.worker.now c.set_if.new.self c.deref.ensures.value c.in-Ok.is (c.set_if.ensures.acts is);
        does = record { none = c.get.ensures.none (c.in-Ok-false.is ∙ ap Ok c.in-Ok-false.field-0-test); only = record { calls = c.get.ensures.calls is; untouched = c.get.ensures.untouched is } };
      },
    )

pub returns-in-Err-NoMemory-clause-ends : goal.returns-in-Err-NoMemory-clause-ends
returns-in-Err-NoMemory-clause-ends g c = λ is. record {
  outcome = c.in-Ok.outcome;
  vain = sym c.stored_version.ensures ∙ c.in-None.is;
  between = c.set_if.new.self;
  adds = adds_so c.args.cache.now c.args.key.now c.deref.result.now (stored_by c.args.self.now) c.set_if.result (Ok c.in-Ok.outcome) c.args.worker.now c.set_if.new.self c.deref.ensures.value c.in-Ok.is (c.set_if.ensures.acts is);
  does = record { stores_nothing = c.in-Err-NoMemory.ensures.refused is; only = record { calls = c.get.ensures.calls is; untouched = c.get.ensures.untouched is } };
}
