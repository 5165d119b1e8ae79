use Rattle.std.proofs.Common.{◌∙◌, ◌≡◌, ◌≤◌, Bool, List, Ok, ap, false, inl, inr, length, subst, sym, true, ℕ}
use Rattle.mc_cache.proofs.Acts.{no_none}
use Rattle.mc_update.specs.Updates.{EndsWithoutMemory, FindsNoValue}
use Rattle.mc_large.specs.Dropping.{DeletesLarge, DeletesRoot, FailsAtRoot}
use Rattle.mc_large.specs.Keys.{root_key}
use Rattle.mc_large.specs.Parts.{DropsParts}
use Rattle.mc_large.specs.Roots.{most_large_value}
use Rattle.mc_large.proofs.Drops.{few_versions, has_versions, is_large}
use Rattle.mc_large.proofs.Gets.{got_root, root_taken}
use Rattle.mc_large.proofs.large.Large.delete.Goals as goal

pub drop_parts-requires-clause-few : goal.drop_parts-requires-clause-few
drop_parts-requires-clause-few g c =
    let versions = c.read_root.new.versions.items in
    subst (λ (vs : List ℕ). length vs ≤ most_large_value) (sym c.deref-in-Ok-delete.ensures.value) (few_versions c.deref.result.now versions (has_versions c.deref.result.now versions c.in-Ok._content c.in-Ok.ensures))

pub returns-in-Ok-false-clause-none : goal.returns-in-Ok-false-clause-none
returns-in-Ok-false-clause-none g c = λ is.
    let cache = c.args.cache.now in
    let key = c.args.key.now in
    let before = c.args.worker.now in
    let looked = c.look.new.worker in
    let place = c.as_slice.result.now in
    let at : place ≡ root_key key = c.as_slice.ensures.value ∙ c.in-Some.ensures.bytes in
    inl (subst (λ (p : List ℕ). FindsNoValue cache p before looked) at (c.in-Ok-false.ensures.none (ap Ok c.in-Ok-false.field-0-test)))

pub returns-in-Ok-delete-clause-deletes : goal.returns-in-Ok-delete-clause-deletes
returns-in-Ok-delete-clause-deletes g c = λ is.
    let cache = c.args.cache.now in
    let key = c.args.key.now in
    let before = c.args.worker.now in
    let looked = c.look.new.worker in
    let place = c.as_slice.result.now in
    let at : place ≡ root_key key = c.as_slice.ensures.value ∙ c.in-Some.ensures.bytes in
    let here : c.as_slice-2.result.now ≡ root_key key = c.as_slice-2.ensures.value ∙ c.in-Some.ensures.bytes in
    let large = is_large key (λ isnt. no_none c.in-Some.place (c.in-Some.ensures.key.1 isnt)) in
    let is_key = root_taken key c.as_slice-2.result.now large here in
    let bytes : c.look.new.self.root.items ≡ c.deref.result.now = sym c.deref.ensures.value in
    let gets = got_root cache key place c.look.new.self.root.items c.deref.result.now before looked at bytes (c.in-Ok-true.ensures.found (ap Ok c.in-Ok-true.field-0-test)) in
    let versions = c.read_root.new.versions.items in
    let there : c.in-Ok-delete.there ≡ true = cc in
    let did : DeletesRoot cache c.as_slice-2.result.now c.in-Ok-delete.there looked c.delete.new.self = record {
      deleted = λ is_there. c.in-Ok-delete.ensures.deletes (ap Ok is_there);
      gone = λ isnt. c.in-Ok-delete.ensures.none (ap Ok isnt);
      calls = c.delete.ensures.calls is_key;
      untouched = c.delete.ensures.untouched is_key;
    } in
    let at_root = subst (λ (p : List ℕ). DeletesRoot cache p c.in-Ok-delete.there looked c.delete.new.self) here did in
    let deletes : DeletesLarge cache key true before c.drop_parts.new.worker = record {
      root = c.deref.result.now;
      versions = versions;
      has = has_versions c.deref.result.now versions c.in-Ok._content c.in-Ok.ensures;
      looked = looked;
      gets_root = gets;
      between = c.delete.new.self;
      deletes = subst (λ (b : Bool). DeletesRoot cache (root_key key) b looked c.delete.new.self) there at_root;
      parts = subst (λ (vs : List ℕ). DropsParts cache key 0 vs c.delete.new.self c.drop_parts.new.worker) c.deref-in-Ok-delete.ensures.value c.drop_parts.ensures.drops;
    } in
    deletes

pub returns-in-Ok-delete-clause-none : goal.returns-in-Ok-delete-clause-none
returns-in-Ok-delete-clause-none g c = λ is.
    let cache = c.args.cache.now in
    let key = c.args.key.now in
    let before = c.args.worker.now in
    let looked = c.look.new.worker in
    let place = c.as_slice.result.now in
    let at : place ≡ root_key key = c.as_slice.ensures.value ∙ c.in-Some.ensures.bytes in
    let here : c.as_slice-2.result.now ≡ root_key key = c.as_slice-2.ensures.value ∙ c.in-Some.ensures.bytes in
    let large = is_large key (λ isnt. no_none c.in-Some.place (c.in-Some.ensures.key.1 isnt)) in
    let is_key = root_taken key c.as_slice-2.result.now large here in
    let bytes : c.look.new.self.root.items ≡ c.deref.result.now = sym c.deref.ensures.value in
    let gets = got_root cache key place c.look.new.self.root.items c.deref.result.now before looked at bytes (c.in-Ok-true.ensures.found (ap Ok c.in-Ok-true.field-0-test)) in
    let versions = c.read_root.new.versions.items in
    let there : c.in-Ok-delete.there ≡ false = cc in
    let did : DeletesRoot cache c.as_slice-2.result.now c.in-Ok-delete.there looked c.delete.new.self = record {
      deleted = λ is_there. c.in-Ok-delete.ensures.deletes (ap Ok is_there);
      gone = λ isnt. c.in-Ok-delete.ensures.none (ap Ok isnt);
      calls = c.delete.ensures.calls is_key;
      untouched = c.delete.ensures.untouched is_key;
    } in
    let at_root = subst (λ (p : List ℕ). DeletesRoot cache p c.in-Ok-delete.there looked c.delete.new.self) here did in
    let deletes : DeletesLarge cache key false before c.drop_parts.new.worker = record {
      root = c.deref.result.now;
      versions = versions;
      has = has_versions c.deref.result.now versions c.in-Ok._content c.in-Ok.ensures;
      looked = looked;
      gets_root = gets;
      between = c.delete.new.self;
      deletes = subst (λ (b : Bool). DeletesRoot cache (root_key key) b looked c.delete.new.self) there at_root;
      parts = subst (λ (vs : List ℕ). DropsParts cache key 0 vs c.delete.new.self c.drop_parts.new.worker) c.deref-in-Ok-delete.ensures.value c.drop_parts.ensures.drops;
    } in
    inr deletes

pub returns-in-Err-NoMemory-clause-refused : goal.returns-in-Err-NoMemory-clause-refused
returns-in-Err-NoMemory-clause-refused g c = λ large.
    let cache = c.args.cache.now in
    let key = c.args.key.now in
    let before = c.args.worker.now in
    let looked = c.look.new.worker in
    let place = c.as_slice.result.now in
    let at : place ≡ root_key key = c.as_slice.ensures.value ∙ c.in-Some.ensures.bytes in
    let here : c.as_slice-2.result.now ≡ root_key key = c.as_slice-2.ensures.value ∙ c.in-Some.ensures.bytes in
    let is_key = root_taken key c.as_slice-2.result.now large here in
    let fails : FailsAtRoot cache c.as_slice-2.result.now looked c.delete.new.self = record { looks = c.in-Err-NoMemory.ensures.refused is_key; calls = c.delete.ensures.calls is_key; untouched = c.delete.ensures.untouched is_key } in
    inr (looked, subst (λ (p : List ℕ). EndsWithoutMemory cache p before looked) at c.look.ensures.only, subst (λ (p : List ℕ). FailsAtRoot cache p looked c.delete.new.self) here fails)
