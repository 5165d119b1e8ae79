use Rattle.std.proofs.Common.{◌≡◌, ◌∙◌, ℕ, Err, List, Ok, Some, ap, subst, sym}
use Rattle.mc_shard.specs.declared.conditions.Outcome.TheVariants.{Stored}
use Rattle.mc_cache.specs.declared.working.SetError.TheVariants as set_error
use Rattle.mc_cache.specs.Shards.{IsKey}
use Rattle.mc_cache.proofs.Acts.{is_key}
use Rattle.mc_update.specs.Changes.{changed_by}
use Rattle.mc_update.specs.Updates.{OnlyGets}
use Rattle.mc_update.proofs.Acts.{gets_version, given_version, is_stored, lacks_memory, sets_so}
use Rattle.mc_update.proofs.updater.Updater.change_once.Goals as goal

pub returns-in-Ok-None-clause-ends : goal.returns-in-Ok-None-clause-ends
returns-in-Ok-None-clause-ends g c = λ is. record {
  none = c.get_with_version.ensures.none (c.in-Ok-None.is ∙ ap Ok c.in-Ok-None.field-0-is);
  only = record { calls = c.get_with_version.ensures.calls is; untouched = c.get_with_version.ensures.untouched is };
}

pub returns-in-Err-clause-ends : goal.returns-in-Err-clause-ends
returns-in-Err-clause-ends g c = λ is.
    lacks_memory c.args.cache.now c.args.key.now c.in-Ok-Some.version c.get_with_version.new.into.items c.args.worker.now c.get_with_version.new.self
    (given_version c.args.cache.now c.args.key.now c.clear.new.self.items c.get_with_version.new.into.items c.args.worker.now c.get_with_version.new.self c.in-Ok-Some.field-0 c.in-Ok-Some.version c.in-Ok-Some.field-0-is c.clear.ensures.items c.in-Ok-Some.ensures.value)
    (record { calls = c.get_with_version.ensures.calls is; untouched = c.get_with_version.ensures.untouched is })

pub returns-in-Err-Item-clause-ends : goal.returns-in-Err-Item-clause-ends
returns-in-Err-Item-clause-ends g c = λ is.
    let cache = c.args.cache.now in
    let key = c.args.key.now in
    let found = c.get_with_version.new.into.items in
    let between = c.get_with_version.new.self in
    let only : OnlyGets cache key c.args.worker.now between = record { calls = c.get_with_version.ensures.calls is; untouched = c.get_with_version.ensures.untouched is } in
    let gets = gets_version cache key c.in-Ok-Some.version found c.args.worker.now between (given_version cache key c.clear.new.self.items found c.args.worker.now between c.in-Ok-Some.field-0 c.in-Ok-Some.version c.in-Ok-Some.field-0-is c.clear.ensures.items c.in-Ok-Some.ensures.value) only in
    let changes = subst (λ (old : List ℕ). changed_by c.args.change old ≡ Some c.put.new.into.items) c.deref.ensures.value (c.put.ensures.changed (c.in-Ok-true.is ∙ ap Ok c.in-Ok-true.field-0-test)) in
    sets_so cache key c.args.change found c.put.new.into.items c.deref-2.result.now c.in-Ok-Some.version c.set_if.result (Err (set_error.Item c.in-Err-Item.error)) c.args.worker.now between c.set_if.new.self
    gets changes c.deref-2.ensures.value (c.in-Err-Item.is ∙ ap Err c.in-Err-Item.field-0-is) (c.set_if.ensures.acts is)

pub returns-in-Some-clause-ends : goal.returns-in-Some-clause-ends
returns-in-Some-clause-ends g c = λ is.
    let cache = c.args.cache.now in
    let key = c.args.key.now in
    let found = c.get_with_version.new.into.items in
    let between = c.get_with_version.new.self in
    let only : OnlyGets cache key c.args.worker.now between = record { calls = c.get_with_version.ensures.calls is; untouched = c.get_with_version.ensures.untouched is } in
    let gets = gets_version cache key c.in-Ok-Some.version found c.args.worker.now between (given_version cache key c.clear.new.self.items found c.args.worker.now between c.in-Ok-Some.field-0 c.in-Ok-Some.version c.in-Ok-Some.field-0-is c.clear.ensures.items c.in-Ok-Some.ensures.value) only in
    let changes = subst (λ (old : List ℕ). changed_by c.args.change old ≡ Some c.put.new.into.items) c.deref.ensures.value (c.put.ensures.changed (c.in-Ok-true.is ∙ ap Ok c.in-Ok-true.field-0-test)) in
    sets_so cache key c.args.change found c.put.new.into.items c.deref-2.result.now c.in-Ok-Some.version c.set_if.result (Ok (Stored c.in-Some.stamp)) c.args.worker.now between c.set_if.new.self
    gets changes c.deref-2.ensures.value (c.in-Ok.is ∙ ap Ok (is_stored c.in-Ok.outcome c.in-Some.stamp (sym c.stored_version.ensures ∙ c.in-Some.is))) (c.set_if.ensures.acts is)

pub returns-in-None-clause-again : goal.returns-in-None-clause-again
returns-in-None-clause-again g c = λ none.
    let cache = c.args.cache.now in
    let key = c.args.key.now in
    let is : IsKey key = is_key key (λ no. let wrong = sym c.in-Ok.is ∙ c.set_if.ensures.key.1 no in absurd (cc)) in
    let found = c.get_with_version.new.into.items in
    let between = c.get_with_version.new.self in
    let only : OnlyGets cache key c.args.worker.now between = record { calls = c.get_with_version.ensures.calls is; untouched = c.get_with_version.ensures.untouched is } in
    let gets = gets_version cache key c.in-Ok-Some.version found c.args.worker.now between (given_version cache key c.clear.new.self.items found c.args.worker.now between c.in-Ok-Some.field-0 c.in-Ok-Some.version c.in-Ok-Some.field-0-is c.clear.ensures.items c.in-Ok-Some.ensures.value) only in
    let changes = subst (λ (old : List ℕ). changed_by c.args.change old ≡ Some c.put.new.into.items) c.deref.ensures.value (c.put.ensures.changed (c.in-Ok-true.is ∙ ap Ok c.in-Ok-true.field-0-test)) in (
      is,
      record {
        value = c.put.new.into.items;
        outcome = c.in-Ok.outcome;
        vain = sym c.stored_version.ensures ∙ c.in-None.is;
        sets = sets_so cache key c.args.change found c.put.new.into.items c.deref-2.result.now c.in-Ok-Some.version c.set_if.result (Ok c.in-Ok.outcome) c.args.worker.now between c.set_if.new.self
            gets changes c.deref-2.ensures.value c.in-Ok.is (c.set_if.ensures.acts is);
      },
    )
