use Rattle.std.proofs.Common.{Bool, ℕ, Option, refl, subst, sym}
use Rattle.mc_expiry.specs.Getting.{DeletesLapsed, DeletesThisVersion}
use Rattle.mc_expiry.proofs.Looks.{deleted_this}
use Rattle.mc_expiry.proofs.expiry.delete_found.Goals as goal

pub returns-in-Some-clause-deletes : goal.returns-in-Some-clause-deletes
returns-in-Some-clause-deletes g c = λ is.
    let cache = c.args.cache.now in
    let key = c.args.key.now in
    let did = c.delete_version-deletion in
    let deletes = deleted_this cache key c.in-Some.version c.args.worker.now did.new.self did.result is did.ensures.deletes did.ensures.exists did.ensures.missing did.ensures.refused did.ensures.calls did.ensures.looks (did.ensures.untouched is) in
    subst (λ (o : Option ℕ). DeletesLapsed cache key o c.is_deleted.result c.args.worker.now did.new.self) (sym c.in-Some.is)
    (subst (λ (b : Bool). DeletesThisVersion cache key c.in-Some.version b c.args.worker.now did.new.self) (sym c.is_deleted.ensures) deletes)
