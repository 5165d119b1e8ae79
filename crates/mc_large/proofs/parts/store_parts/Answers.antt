use Rattle.std.proofs.Common.{◌∙◌, ◌++◌, ◌∷◌, [], ◌≡◌, ◌≤◌, Err, List, Ok, ap, arith, inr, length, refl, subst, sym, ℕ}
use Rattle.mc_shard.specs.declared.conditions.Outcome.TheVariants.{Stored}
use Rattle.mc_cache.specs.declared.working.SetError.TheVariants as set_error
use Rattle.mc_large.specs.Keys.{part_key}
use Rattle.mc_large.specs.Parts.{SetsPiece}
use Rattle.mc_large.proofs.Stores.{AreStored, next_refused, one_stored}
use Rattle.mc_large.proofs.Words.{some_left}
use Rattle.mc_large.proofs.parts.store_parts.Goals as goal

pub returns-in-Err-clause-refused : goal.returns-in-Err-clause-refused
returns-in-Err-clause-refused g c =
    let cache = c.args.cache.now in
    let key = c.args.key.now in
    let room = c.args.room in
    let value = c.args.value.now in
    let rest = c.loop-rest.rest.now in
    let versions = c.loop-rest.versions.items in
    let before = c.args.worker.now in
    let between = c.loop-rest.worker in
    let now = c.store_part.new.worker in
    let piece = c.split_at.result.0.now in
    let count : c.len.result ≡ length versions = omega (arith, c.len.ensures) in
    let at : c.as_slice.result.now ≡ part_key key (length versions) = c.as_slice.ensures.value ∙ (c.part_key-part.ensures ∙ ap (part_key key) count) in
    let refuses = subst (λ (p : List ℕ). SetsPiece cache p piece (Err (set_error.Item c.in-Err.error)) between now) at c.in-Err.ensures.refused in
    next_refused cache key room value rest versions piece c.min.result c.in-Err.error before between now c.min.ensures c.split_at.ensures.front c.loop-rest.invariant.1 refuses

pub loop-rest-preserved : goal.loop-rest-preserved
loop-rest-preserved g c =
    let cache = c.args.cache.now in
    let key = c.args.key.now in
    let room = c.args.room in
    let value = c.args.value.now in
    let rest = c.loop-rest.rest.now in
    let versions = c.loop-rest.versions.items in
    let before = c.args.worker.now in
    let between = c.loop-rest.worker in
    let now = c.store_part.new.worker in
    let piece = c.split_at.result.0.now in
    let count : c.len.result ≡ length versions = omega (arith, c.len.ensures) in
    let at : c.as_slice.result.now ≡ part_key key (length versions) = c.as_slice.ensures.value ∙ (c.part_key-part.ensures ∙ ap (part_key key) count) in
    let left : 1 ≤ length rest = some_left rest c.is_empty.result c.is_empty.ensures c.loop-rest-test.true in
    let stores = subst (λ (p : List ℕ). SetsPiece cache p piece (Ok (Stored c.in-Ok.version)) between now) at c.in-Ok.ensures.stores in
    let stored : AreStored cache key room value c.split_at.result.1.now (versions ++ c.in-Ok.version ∷ []) before now =
    one_stored cache key room value rest versions piece c.split_at.result.1.now c.in-Ok.version c.min.result before between now c.in-Ok.ensures.word c.requires.room left c.min.ensures c.split_at.ensures.front c.split_at.ensures.back c.loop-rest.invariant.1 stores in
    (c.store_part.ensures.belongs, subst (λ (vs : List ℕ). AreStored cache key room value c.split_at.result.1.now vs before now) (sym c.in-Ok-push.ensures.items) stored)

pub returns-in-Err-push-clause-refused : goal.returns-in-Err-push-clause-refused
returns-in-Err-push-clause-refused g c =
    let cache = c.args.cache.now in
    let key = c.args.key.now in
    let room = c.args.room in
    let value = c.args.value.now in
    let rest = c.loop-rest.rest.now in
    let versions = c.loop-rest.versions.items in
    let before = c.args.worker.now in
    let between = c.loop-rest.worker in
    let now = c.store_part.new.worker in
    let piece = c.split_at.result.0.now in
    let count : c.len.result ≡ length versions = omega (arith, c.len.ensures) in
    let at : c.as_slice.result.now ≡ part_key key (length versions) = c.as_slice.ensures.value ∙ (c.part_key-part.ensures ∙ ap (part_key key) count) in
    let left : 1 ≤ length rest = some_left rest c.is_empty.result c.is_empty.ensures c.loop-rest-test.true in
    let stores = subst (λ (p : List ℕ). SetsPiece cache p piece (Ok (Stored c.in-Ok.version)) between now) at c.in-Ok.ensures.stores in
    let stored : AreStored cache key room value c.split_at.result.1.now (versions ++ c.in-Ok.version ∷ []) before now =
    one_stored cache key room value rest versions piece c.split_at.result.1.now c.in-Ok.version c.min.result before between now c.in-Ok.ensures.word c.requires.room left c.min.ensures c.split_at.ensures.front c.split_at.ensures.back c.loop-rest.invariant.1 stores in
    record {
      pieces = stored.pieces;
      rest = c.split_at.result.1.now;
      cut = stored.cut;
      versions = versions ++ c.in-Ok.version ∷ [];
      between = now;
      stores = stored.stores;
      refuses = inr (refl, refl);
    }
