use Rattle.std.proofs.Common.{◌∙◌, ℕ, List, None, Ok, Some, ap, refl, subst, sym}
use Rattle.mc_cache.specs.Shards.{IsKey}
use Rattle.mc_cache.proofs.Acts.{is_key}
use Rattle.mc_update.specs.Updates.{OnlyGets}
use Rattle.mc_expiry.specs.Looking.{FoundUnexpired}
use Rattle.mc_expiry.proofs.Looks.{GetsBehind, gets_unexpired, looked, stored_none}
use Rattle.mc_expiry.proofs.expiry.Expiry.get.Goals as goal

pub returns-in_default-clause-none : goal.returns-in_default-clause-none
returns-in_default-clause-none g c = λ missed.
    let cache = c.args.cache.now in
    let key = c.args.key.now in
    let stored = c.get_with_version.new.into.items in
    let between = c.get_with_version.new.self in
    let is : IsKey key = is_key key (λ no. let wrong = sym c.in-Ok.is ∙ c.get_with_version.ensures.key.1 no in absurd (cc)) in
    let only : OnlyGets cache key c.args.worker.now between = record { calls = c.get_with_version.ensures.calls is; untouched = c.get_with_version.ensures.untouched is } in
    let got : GetsBehind cache key stored c.in-Ok.found c.args.worker.now between = record { old = c.clear.new.self.items; empty = c.clear.ensures.items; gives = c.in-Ok.ensures.value; none = λ none. c.get_with_version.ensures.none (c.in-Ok.is ∙ ap Ok none); only = only } in
    record {
      found = c.in-Ok.found;
      between = between;
      looks = looked cache key c.args.time stored c.args.worker.now between c.in-Ok.found None (subst (λ (bytes : List ℕ). FoundUnexpired c.args.time c.in-Ok.found bytes None) c.deref.ensures.value (c.in_default.ensures.none refl)) got;
      deleted = c.delete_found-deleted.result;
      deletes = c.delete_found-deleted.ensures.deletes is;
      counted = c.count_with-self.ensures;
    }

pub returns-in-Ok-extend_from_slice-clause-value : goal.returns-in-Ok-extend_from_slice-clause-value
returns-in-Ok-extend_from_slice-clause-value g c = λ found.
    let cache = c.args.cache.now in
    let key = c.args.key.now in
    let stored = c.get_with_version.new.into.items in
    let between = c.get_with_version.new.self in
    let is : IsKey key = is_key key (λ no. let wrong = sym c.in-Ok.is ∙ c.get_with_version.ensures.key.1 no in absurd (cc)) in
    let only : OnlyGets cache key c.args.worker.now between = record { calls = c.get_with_version.ensures.calls is; untouched = c.get_with_version.ensures.untouched is } in
    let got : GetsBehind cache key stored c.in-Ok.found c.args.worker.now between = record { old = c.clear.new.self.items; empty = c.clear.ensures.items; gives = c.in-Ok.ensures.value; none = λ none. c.get_with_version.ensures.none (c.in-Ok.is ∙ ap Ok none); only = only } in
    let value = c.in-Some.value.now in
    let has = subst (λ (bytes : List ℕ). FoundUnexpired c.args.time c.in-Ok.found bytes (Some value)) c.deref.ensures.value c.in-Some.ensures.some in
    gets_unexpired cache key c.args.time value c.args.into.now.items c.extend_from_slice.new.list.items c.args.worker.now between c.in-Ok.found
    (looked cache key c.args.time stored c.args.worker.now between c.in-Ok.found (Some value) has got) c.in-Ok-extend_from_slice.ensures.items

pub returns-in-Err-extend_from_slice-clause-refused : goal.returns-in-Err-extend_from_slice-clause-refused
returns-in-Err-extend_from_slice-clause-refused g c = λ is.
    let cache = c.args.cache.now in
    let key = c.args.key.now in
    let stored = c.get_with_version.new.into.items in
    let between = c.get_with_version.new.self in
    let only : OnlyGets cache key c.args.worker.now between = record { calls = c.get_with_version.ensures.calls is; untouched = c.get_with_version.ensures.untouched is } in
    let got : GetsBehind cache key stored c.in-Ok.found c.args.worker.now between = record { old = c.clear.new.self.items; empty = c.clear.ensures.items; gives = c.in-Ok.ensures.value; none = λ none. c.get_with_version.ensures.none (c.in-Ok.is ∙ ap Ok none); only = only } in
    stored_none cache key stored c.args.worker.now between c.in-Ok.found got
