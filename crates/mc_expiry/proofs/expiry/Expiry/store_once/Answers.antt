use Rattle.std.proofs.Common.{◌∙◌, Err, Ok, ap, refl, sym}
use Rattle.mc_shard.specs.declared.conditions.Outcome.TheVariants.{Exists, Missing, Stored}
use Rattle.mc_cache.specs.declared.working.SetError.TheVariants as set_error
use Rattle.mc_cache.specs.Shards.{IsKey}
use Rattle.mc_cache.proofs.Acts.{is_key}
use Rattle.mc_update.specs.Updates.{OnlyGets}
use Rattle.mc_expiry.proofs.Looks.{GetsBehind, finds_unchosen, sets_chosen, stored_none}
use Rattle.mc_expiry.proofs.expiry.Expiry.store_once.Goals as goal

pub returns-in-Ok-false-clause-ends : goal.returns-in-Ok-false-clause-ends
returns-in-Ok-false-clause-ends g c = λ is.
    let cache = c.args.cache.now in
    let key = c.args.key.now in
    let stored = c.get_with_version.new.into.items in
    let between = c.get_with_version.new.self in
    let only : OnlyGets cache key c.args.worker.now between = record { calls = c.get_with_version.ensures.calls is; untouched = c.get_with_version.ensures.untouched is } in
    let got : GetsBehind cache key stored c.in-Ok.found c.args.worker.now between = record { old = c.clear.new.self.items; empty = c.clear.ensures.items; gives = c.in-Ok.ensures.value; none = λ none. c.get_with_version.ensures.none (c.in-Ok.is ∙ ap Ok none); only = only } in
    finds_unchosen cache key c.args.kind c.args.time stored c.deref.result.now c.args.worker.now between c.in-Ok.found c.deref.ensures.value (c.put.ensures.none (c.in-Ok-false.is ∙ ap Ok c.in-Ok-false.field-0-test)) got

pub returns-in-Err-clause-ends : goal.returns-in-Err-clause-ends
returns-in-Err-clause-ends g c = λ is.
    let cache = c.args.cache.now in
    let key = c.args.key.now in
    let stored = c.get_with_version.new.into.items in
    let between = c.get_with_version.new.self in
    let only : OnlyGets cache key c.args.worker.now between = record { calls = c.get_with_version.ensures.calls is; untouched = c.get_with_version.ensures.untouched is } in
    let got : GetsBehind cache key stored c.in-Ok.found c.args.worker.now between = record { old = c.clear.new.self.items; empty = c.clear.ensures.items; gives = c.in-Ok.ensures.value; none = λ none. c.get_with_version.ensures.none (c.in-Ok.is ∙ ap Ok none); only = only } in
    stored_none cache key stored c.args.worker.now between c.in-Ok.found got

pub returns-in-Ok-Stored-clause-ends : goal.returns-in-Ok-Stored-clause-ends
returns-in-Ok-Stored-clause-ends g c = λ is.
    let cache = c.args.cache.now in
    let key = c.args.key.now in
    let stored = c.get_with_version.new.into.items in
    let between = c.get_with_version.new.self in
    let only : OnlyGets cache key c.args.worker.now between = record { calls = c.get_with_version.ensures.calls is; untouched = c.get_with_version.ensures.untouched is } in
    let got : GetsBehind cache key stored c.in-Ok.found c.args.worker.now between = record { old = c.clear.new.self.items; empty = c.clear.ensures.items; gives = c.in-Ok.ensures.value; none = λ none. c.get_with_version.ensures.none (c.in-Ok.is ∙ ap Ok none); only = only } in
    sets_chosen cache key c.args.kind c.args.time c.args.deadline stored c.deref.result.now c.put.new.into.items c.deref-2.result.now c.in-Ok.found c.condition_of.result c.set_if.result (Ok (Stored c.in-Ok-Stored.stamp)) c.args.worker.now between c.set_if.new.self
    c.deref.ensures.value (c.put.ensures.puts (c.in-Ok-true.is ∙ ap Ok c.in-Ok-true.field-0-test)) got c.deref-2.ensures.value c.condition_of.ensures (c.in-Ok-Stored.is ∙ ap Ok c.in-Ok-Stored.field-0-is) (c.set_if.ensures.acts is)

pub returns-in-Err-Item-clause-ends : goal.returns-in-Err-Item-clause-ends
returns-in-Err-Item-clause-ends g c = λ is.
    let cache = c.args.cache.now in
    let key = c.args.key.now in
    let stored = c.get_with_version.new.into.items in
    let between = c.get_with_version.new.self in
    let only : OnlyGets cache key c.args.worker.now between = record { calls = c.get_with_version.ensures.calls is; untouched = c.get_with_version.ensures.untouched is } in
    let got : GetsBehind cache key stored c.in-Ok.found c.args.worker.now between = record { old = c.clear.new.self.items; empty = c.clear.ensures.items; gives = c.in-Ok.ensures.value; none = λ none. c.get_with_version.ensures.none (c.in-Ok.is ∙ ap Ok none); only = only } in
    sets_chosen cache key c.args.kind c.args.time c.args.deadline stored c.deref.result.now c.put.new.into.items c.deref-2.result.now c.in-Ok.found c.condition_of.result c.set_if.result (Err (set_error.Item c.in-Err-Item.error)) c.args.worker.now between c.set_if.new.self
    c.deref.ensures.value (c.put.ensures.puts (c.in-Ok-true.is ∙ ap Ok c.in-Ok-true.field-0-test)) got c.deref-2.ensures.value c.condition_of.ensures (c.in-Err-Item.is ∙ ap Err c.in-Err-Item.field-0-is) (c.set_if.ensures.acts is)

pub returns-in-Ok-Exists-clause-again : goal.returns-in-Ok-Exists-clause-again
returns-in-Ok-Exists-clause-again g c = λ none.
    let cache = c.args.cache.now in
    let key = c.args.key.now in
    let stored = c.get_with_version.new.into.items in
    let between = c.get_with_version.new.self in
    let is : IsKey key = is_key key (λ no. let wrong = sym c.in-Ok.is ∙ c.get_with_version.ensures.key.1 no in absurd (cc)) in
    let only : OnlyGets cache key c.args.worker.now between = record { calls = c.get_with_version.ensures.calls is; untouched = c.get_with_version.ensures.untouched is } in
    let got : GetsBehind cache key stored c.in-Ok.found c.args.worker.now between = record { old = c.clear.new.self.items; empty = c.clear.ensures.items; gives = c.in-Ok.ensures.value; none = λ none. c.get_with_version.ensures.none (c.in-Ok.is ∙ ap Ok none); only = only } in (
      is,
      record {
        outcome = Exists;
        vain = refl;
        sets = sets_chosen cache key c.args.kind c.args.time c.args.deadline stored c.deref.result.now c.put.new.into.items c.deref-2.result.now c.in-Ok.found c.condition_of.result c.set_if.result (Ok Exists) c.args.worker.now between c.set_if.new.self
            c.deref.ensures.value (c.put.ensures.puts (c.in-Ok-true.is ∙ ap Ok c.in-Ok-true.field-0-test)) got c.deref-2.ensures.value c.condition_of.ensures (c.in-Ok-Exists.is ∙ ap Ok c.in-Ok-Exists.field-0-is) (c.set_if.ensures.acts is);
      },
    )

pub returns-in-Ok-Missing-clause-again : goal.returns-in-Ok-Missing-clause-again
returns-in-Ok-Missing-clause-again g c = λ none.
    let cache = c.args.cache.now in
    let key = c.args.key.now in
    let stored = c.get_with_version.new.into.items in
    let between = c.get_with_version.new.self in
    let is : IsKey key = is_key key (λ no. let wrong = sym c.in-Ok.is ∙ c.get_with_version.ensures.key.1 no in absurd (cc)) in
    let only : OnlyGets cache key c.args.worker.now between = record { calls = c.get_with_version.ensures.calls is; untouched = c.get_with_version.ensures.untouched is } in
    let got : GetsBehind cache key stored c.in-Ok.found c.args.worker.now between = record { old = c.clear.new.self.items; empty = c.clear.ensures.items; gives = c.in-Ok.ensures.value; none = λ none. c.get_with_version.ensures.none (c.in-Ok.is ∙ ap Ok none); only = only } in (
      is,
      record {
        outcome = Missing;
        vain = refl;
        sets = sets_chosen cache key c.args.kind c.args.time c.args.deadline stored c.deref.result.now c.put.new.into.items c.deref-2.result.now c.in-Ok.found c.condition_of.result c.set_if.result (Ok Missing) c.args.worker.now between c.set_if.new.self
            c.deref.ensures.value (c.put.ensures.puts (c.in-Ok-true.is ∙ ap Ok c.in-Ok-true.field-0-test)) got c.deref-2.ensures.value c.condition_of.ensures (c.in-Ok-Missing.is ∙ ap Ok c.in-Ok-Missing.field-0-is) (c.set_if.ensures.acts is);
      },
    )
