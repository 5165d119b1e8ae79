use Rattle.std.proofs.Common.{◌∙◌, ◌≡◌, List, Some, inl, inr, length, subst, ℕ}
use Rattle.mc_items.specs.declared.setting.SetError as items
use Rattle.mc_large.specs.Keys.{root_key}
use Rattle.mc_large.specs.Rooms.{IsStorageOf}
use Rattle.mc_large.specs.Roots.{small_root}
use Rattle.mc_large.specs.Setting.{RefusesRoot, StoresWhole}
use Rattle.mc_large.specs.declared.storage.Storage.{Storage}
use Rattle.mc_large.proofs.Rooms.{has_storage}
use Rattle.mc_large.proofs.large.Large.set.Goals as goal

pub returns-in-Ok-clause-too_large : goal.returns-in-Ok-clause-too_large
returns-in-Ok-clause-too_large g c =
    (λ is. absurd (cc), λ lacks. absurd (has_storage c.args.cache.now (length c.args.key.now) (length c.args.value.now) c.in-Some-storage_of.storage c.in-Some-storage_of.ensures lacks.1))

pub returns-in-Err-clause-too_large : goal.returns-in-Err-clause-too_large
returns-in-Err-clause-too_large g c =
    (λ is. absurd (cc), λ lacks. absurd (has_storage c.args.cache.now (length c.args.key.now) (length c.args.value.now) c.in-Some-storage_of.storage c.in-Some-storage_of.ensures lacks.1))

pub returns-in-Ok-set_in_parts-clause-too_large : goal.returns-in-Ok-set_in_parts-clause-too_large
returns-in-Ok-set_in_parts-clause-too_large g c =
    (λ is. absurd (cc), λ lacks. absurd (has_storage c.args.cache.now (length c.args.key.now) (length c.args.value.now) c.in-Some-storage_of.storage c.in-Some-storage_of.ensures lacks.1))

pub returns-in-Err-set_in_parts-clause-too_large : goal.returns-in-Err-set_in_parts-clause-too_large
returns-in-Err-set_in_parts-clause-too_large g c =
    (λ is. absurd (cc), λ lacks. absurd (has_storage c.args.cache.now (length c.args.key.now) (length c.args.value.now) c.in-Some-storage_of.storage c.in-Some-storage_of.ensures lacks.1))

pub returns-in-Err-clause-refused : goal.returns-in-Err-clause-refused
returns-in-Err-clause-refused g c = λ error is.
    let cache = c.args.cache.now in
    let key = c.args.key.now in
    let value = c.args.value.now in
    let same : c.in-Err.error ≡ error = cc in
    let place : c.as_slice.result.now ≡ root_key key = c.as_slice.ensures.value ∙ c.in-Some.ensures.bytes in
    let fits = subst (λ (s : Storage). IsStorageOf cache (length key) (length value) (Some s)) c.in-InRoot.is c.in-Some-storage_of.ensures in
    let refuses = subst (λ (p : List ℕ). RefusesRoot cache p (small_root value) c.in-Err.error c.args.worker.now c.set_in_root.new.worker) place c.in-Err.ensures.refused in
    inl (record { fits = fits.1; root = subst (λ (e : items.SetError). RefusesRoot cache (root_key key) (small_root value) e c.args.worker.now c.set_in_root.new.worker) same refuses })

pub returns-in-Ok-set_in_parts-clause-stores : goal.returns-in-Ok-set_in_parts-clause-stores
returns-in-Ok-set_in_parts-clause-stores g c =
    let cache = c.args.cache.now in
    let key = c.args.key.now in
    let value = c.args.value.now in
    let place : c.as_slice-in-InParts.result.now ≡ root_key key = c.as_slice-in-InParts.ensures.value ∙ c.in-Some.ensures.bytes in
    let fits = subst (λ (s : Storage). IsStorageOf cache (length key) (length value) (Some s)) c.in-InParts.is c.in-Some-storage_of.ensures in
    let stores = subst (λ (p : List ℕ). StoresWhole cache key p c.in-InParts.room value c.args.worker.now c.set_in_parts.new.worker) place c.in-Ok-set_in_parts.ensures.stores in
    inr (record { large = fits.1; room = c.in-InParts.room; fits = fits.2; whole = stores })
