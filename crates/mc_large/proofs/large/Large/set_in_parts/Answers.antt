use Rattle.std.proofs.Common.{◌∙◌, ◌≡◌, List, ap, inl, inr, length, refl, subst, sym, ℕ}
use Rattle.mc_large.specs.Roots.{IsLargeRoot, large_root}
use Rattle.mc_large.proofs.Wholes.{whole_refused, whole_stored}
use Rattle.mc_large.proofs.large.Large.set_in_parts.Goals as goal

pub returns-in-Err-clause-refused : goal.returns-in-Err-clause-refused
returns-in-Err-clause-refused g c = inl (record { between = c.store_parts.new.worker; parts = c.in-Err.ensures.refused; drops = c.drop_root.ensures.drops })

pub returns-in-Err-put_large_root-clause-refused : goal.returns-in-Err-put_large_root-clause-refused
returns-in-Err-put_large_root-clause-refused g c =
    inr (record { versions = c.store_parts.new.versions.items; between = c.store_parts.new.worker; parts = c.in_default.ensures.stores; root = inr (refl, c.drop_root-in-Err-put_large_root.ensures.drops) })

pub returns-clause-stores : goal.returns-clause-stores
returns-clause-stores g c =
    let value = c.args.value.now in
    let versions = c.store_parts.new.versions.items in
    let root : c.deref-2.result.now ≡ large_root (length value) versions = c.deref-2.ensures.value ∙ (c.in_default-put_large_root.ensures ∙ ap (large_root (length value)) c.deref.ensures.value) in
    whole_stored c.args.cache.now c.args.key.now c.args.place.now c.args.room value versions c.deref-2.result.now c.args.worker.now c.store_parts.new.worker c.store_root.new.worker c.in_default.ensures.stores c.store_root.result
    (subst (λ (bytes : List ℕ). IsLargeRoot bytes (length value) versions) (sym root) c.in_default.ensures.root) c.store_root.ensures.stores

pub returns-clause-refused : goal.returns-clause-refused
returns-clause-refused g c =
    let value = c.args.value.now in
    let versions = c.store_parts.new.versions.items in
    let root : c.deref-2.result.now ≡ large_root (length value) versions = c.deref-2.ensures.value ∙ (c.in_default-put_large_root.ensures ∙ ap (large_root (length value)) c.deref.ensures.value) in
    whole_refused c.args.cache.now c.args.key.now c.args.place.now c.args.room value versions c.deref-2.result.now c.args.worker.now c.store_parts.new.worker c.store_root.new.worker c.in_default.ensures.stores c.store_root.result root c.store_root.ensures.refused
