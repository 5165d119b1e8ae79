use Rattle.std.proofs.Common.{◌∙◌, ◌≡◌, List, Ok, ap, false, inl, inr, refl, subst, sym, true, ℕ}
use Rattle.mc_update.specs.Updates.{FindsNoValue}
use Rattle.mc_large.specs.Getting.{AddsWhole, GetsRoot, MissesParts}
use Rattle.mc_large.specs.Keys.{root_key}
use Rattle.mc_large.specs.Reading.{HasContent}
use Rattle.mc_large.specs.Roots.{IsLargeRoot}
use Rattle.mc_large.specs.declared.roots.Content.{Content}
use Rattle.mc_large.proofs.Gets.{got_root, only_large}
use Rattle.mc_large.proofs.large.Large.get.Goals as goal

pub returns-in-Ok-false-clause-none : goal.returns-in-Ok-false-clause-none
returns-in-Ok-false-clause-none g c = λ is.
    let cache = c.args.cache.now in
    let key = c.args.key.now in
    let before = c.args.worker.now in
    let looked = c.look.new.worker in
    let place = c.as_slice.result.now in
    let at : place ≡ root_key key = c.as_slice.ensures.value ∙ c.in-Some.ensures.bytes in
    inl (subst (λ (p : List ℕ). FindsNoValue cache p before looked) at (c.in-Ok-false.ensures.none (ap Ok c.in-Ok-false.field-0-test)))

pub returns-in-Ok-clause-value : goal.returns-in-Ok-clause-value
returns-in-Ok-clause-value g c = λ is.
    let cache = c.args.cache.now in
    let key = c.args.key.now in
    let before = c.args.worker.now in
    let looked = c.look.new.worker in
    let place = c.as_slice.result.now in
    let at : place ≡ root_key key = c.as_slice.ensures.value ∙ c.in-Some.ensures.bytes in
    let bytes : c.look.new.self.root.items ≡ c.deref.result.now = sym c.deref.ensures.value in
    let gets = got_root cache key place c.look.new.self.root.items c.deref.result.now before looked at bytes (c.in-Ok-true.ensures.found (ap Ok c.in-Ok-true.field-0-test)) in
    let content = subst (λ (content : Content). HasContent c.deref.result.now c.read_root.new.versions.items content) c.in-Ok-Small.field-0-is c.in-Ok-Small.ensures in
    inl (record { value = c.in-Ok-Small.value.now; root = subst (λ (b : List ℕ). GetsRoot cache key b before looked) content.0 gets; added = c.in-Ok.ensures.items })

pub returns-in-Ok-get_parts-clause-value : goal.returns-in-Ok-get_parts-clause-value
returns-in-Ok-get_parts-clause-value g c = λ is.
    let cache = c.args.cache.now in
    let key = c.args.key.now in
    let before = c.args.worker.now in
    let looked = c.look.new.worker in
    let place = c.as_slice.result.now in
    let at : place ≡ root_key key = c.as_slice.ensures.value ∙ c.in-Some.ensures.bytes in
    let bytes : c.look.new.self.root.items ≡ c.deref.result.now = sym c.deref.ensures.value in
    let gets = got_root cache key place c.look.new.self.root.items c.deref.result.now before looked at bytes (c.in-Ok-true.ensures.found (ap Ok c.in-Ok-true.field-0-test)) in
    let versions = c.read_root.new.versions.items in
    let is_root : IsLargeRoot c.deref.result.now c.in-Ok-Large.len versions = subst (λ (content : Content). HasContent c.deref.result.now versions content) c.in-Ok-Large.field-0-is c.in-Ok-Large.ensures in
    let found : c.in-Ok-get_parts.found ≡ true = cc in
    let adds = subst (λ (vs : List ℕ). AddsWhole cache key vs c.in-Ok-Large.len c.args.into.now.items c.get_parts.new.into.items looked c.get_parts.new.worker) c.deref-in-Ok-Large.ensures.value (c.in-Ok-get_parts.ensures.value (ap Ok found)) in
    inr (record { root = c.deref.result.now; len = c.in-Ok-Large.len; versions = versions; is_root = is_root; looked = looked; gets_root = gets; parts = adds })

pub returns-in-Ok-get_parts-clause-none : goal.returns-in-Ok-get_parts-clause-none
returns-in-Ok-get_parts-clause-none g c = λ is.
    let cache = c.args.cache.now in
    let key = c.args.key.now in
    let before = c.args.worker.now in
    let looked = c.look.new.worker in
    let place = c.as_slice.result.now in
    let at : place ≡ root_key key = c.as_slice.ensures.value ∙ c.in-Some.ensures.bytes in
    let bytes : c.look.new.self.root.items ≡ c.deref.result.now = sym c.deref.ensures.value in
    let gets = got_root cache key place c.look.new.self.root.items c.deref.result.now before looked at bytes (c.in-Ok-true.ensures.found (ap Ok c.in-Ok-true.field-0-test)) in
    let versions = c.read_root.new.versions.items in
    let is_root : IsLargeRoot c.deref.result.now c.in-Ok-Large.len versions = subst (λ (content : Content). HasContent c.deref.result.now versions content) c.in-Ok-Large.field-0-is c.in-Ok-Large.ensures in
    let found : c.in-Ok-get_parts.found ≡ false = cc in
    let misses = subst (λ (vs : List ℕ). MissesParts cache key vs c.in-Ok-Large.len looked c.get_parts.new.worker) c.deref-in-Ok-Large.ensures.value (c.in-Ok-get_parts.ensures.none (ap Ok found)) in
    inr (inr (record { root = c.deref.result.now; len = c.in-Ok-Large.len; versions = versions; is_root = is_root; looked = looked; gets_root = gets; misses = misses }))

pub returns-in-Ok-Nothing-clause-none : goal.returns-in-Ok-Nothing-clause-none
returns-in-Ok-Nothing-clause-none g c = λ is.
    let cache = c.args.cache.now in
    let key = c.args.key.now in
    let before = c.args.worker.now in
    let looked = c.look.new.worker in
    let place = c.as_slice.result.now in
    let at : place ≡ root_key key = c.as_slice.ensures.value ∙ c.in-Some.ensures.bytes in
    let bytes : c.look.new.self.root.items ≡ c.deref.result.now = sym c.deref.ensures.value in
    let gets = got_root cache key place c.look.new.self.root.items c.deref.result.now before looked at bytes (c.in-Ok-true.ensures.found (ap Ok c.in-Ok-true.field-0-test)) in
    let content = subst (λ (content : Content). HasContent c.deref.result.now c.read_root.new.versions.items content) c.in-Ok-Nothing.field-0-is c.in-Ok-Nothing.ensures in
    inr (inl (record { bytes = c.deref.result.now; gets = gets; none = content.0 }))

pub returns-in-Ok-false-clause-only : goal.returns-in-Ok-false-clause-only
returns-in-Ok-false-clause-only g c = λ is.
    let cache = c.args.cache.now in
    let key = c.args.key.now in
    let before = c.args.worker.now in
    let looked = c.look.new.worker in
    let place = c.as_slice.result.now in
    let at : place ≡ root_key key = c.as_slice.ensures.value ∙ c.in-Some.ensures.bytes in
    only_large cache key place before looked looked at c.look.ensures.only (0, refl)

pub returns-in-Err-clause-only : goal.returns-in-Err-clause-only
returns-in-Err-clause-only g c = λ is.
    let cache = c.args.cache.now in
    let key = c.args.key.now in
    let before = c.args.worker.now in
    let looked = c.look.new.worker in
    let place = c.as_slice.result.now in
    let at : place ≡ root_key key = c.as_slice.ensures.value ∙ c.in-Some.ensures.bytes in
    only_large cache key place before looked looked at c.look.ensures.only (0, refl)

pub returns-in-Ok-clause-only : goal.returns-in-Ok-clause-only
returns-in-Ok-clause-only g c = λ is.
    let cache = c.args.cache.now in
    let key = c.args.key.now in
    let before = c.args.worker.now in
    let looked = c.look.new.worker in
    let place = c.as_slice.result.now in
    let at : place ≡ root_key key = c.as_slice.ensures.value ∙ c.in-Some.ensures.bytes in
    only_large cache key place before looked looked at c.look.ensures.only (0, refl)

pub returns-in-Err-extend_from_slice-clause-only : goal.returns-in-Err-extend_from_slice-clause-only
returns-in-Err-extend_from_slice-clause-only g c = λ is.
    let cache = c.args.cache.now in
    let key = c.args.key.now in
    let before = c.args.worker.now in
    let looked = c.look.new.worker in
    let place = c.as_slice.result.now in
    let at : place ≡ root_key key = c.as_slice.ensures.value ∙ c.in-Some.ensures.bytes in
    only_large cache key place before looked looked at c.look.ensures.only (0, refl)

pub returns-in-Ok-Nothing-clause-only : goal.returns-in-Ok-Nothing-clause-only
returns-in-Ok-Nothing-clause-only g c = λ is.
    let cache = c.args.cache.now in
    let key = c.args.key.now in
    let before = c.args.worker.now in
    let looked = c.look.new.worker in
    let place = c.as_slice.result.now in
    let at : place ≡ root_key key = c.as_slice.ensures.value ∙ c.in-Some.ensures.bytes in
    only_large cache key place before looked looked at c.look.ensures.only (0, refl)

pub returns-in-Err-read_root-clause-only : goal.returns-in-Err-read_root-clause-only
returns-in-Err-read_root-clause-only g c = λ is.
    let cache = c.args.cache.now in
    let key = c.args.key.now in
    let before = c.args.worker.now in
    let looked = c.look.new.worker in
    let place = c.as_slice.result.now in
    let at : place ≡ root_key key = c.as_slice.ensures.value ∙ c.in-Some.ensures.bytes in
    only_large cache key place before looked looked at c.look.ensures.only (0, refl)

pub returns-in-Ok-get_parts-clause-only : goal.returns-in-Ok-get_parts-clause-only
returns-in-Ok-get_parts-clause-only g c = λ is.
    let cache = c.args.cache.now in
    let key = c.args.key.now in
    let before = c.args.worker.now in
    let looked = c.look.new.worker in
    let place = c.as_slice.result.now in
    let at : place ≡ root_key key = c.as_slice.ensures.value ∙ c.in-Some.ensures.bytes in
    only_large cache key place before looked c.get_parts.new.worker at c.look.ensures.only c.get_parts.ensures.only

pub returns-in-Err-get_parts-clause-only : goal.returns-in-Err-get_parts-clause-only
returns-in-Err-get_parts-clause-only g c = λ is.
    let cache = c.args.cache.now in
    let key = c.args.key.now in
    let before = c.args.worker.now in
    let looked = c.look.new.worker in
    let place = c.as_slice.result.now in
    let at : place ≡ root_key key = c.as_slice.ensures.value ∙ c.in-Some.ensures.bytes in
    only_large cache key place before looked c.get_parts.new.worker at c.look.ensures.only c.get_parts.ensures.only
