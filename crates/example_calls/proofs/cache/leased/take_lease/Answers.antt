use Rattle.std.proofs.Common.{◌∙◌, ℕ, Ok, Option, Result, ap, subst}
use Rattle.mc_expiry.specs.Storing.{StoresUntil}
use Rattle.mc_expiry.specs.declared.kinds.StoreKind.TheVariants.{Add}
use Rattle.mc_expiry.specs.declared.storing.ExpiryError.{ExpiryError}
use Rattle.example_calls.proofs.Leased.{takes_lease}
use Rattle.example_calls.proofs.cache.leased.take_lease.Goals as goal

pub returns-in-Ok-Some-clause-takes : goal.returns-in-Ok-Some-clause-takes
returns-in-Ok-Some-clause-takes g c = λ is.
    let cache = c.args.cache.now in
    let key = c.args.key.now in
    takes_lease cache key c.args.time c.args.deadline c.in-Ok-Some._version c.add_until.new.worker c.args.owner c.args.worker.now
    (subst (λ (r : Result (Option ℕ) ExpiryError). StoresUntil cache key (Add c.args.owner) c.args.time c.args.deadline r c.args.worker.now c.add_until.new.worker) (c.in-Ok-Some.is ∙ ap Ok c.in-Ok-Some.field-0-is) (c.add_until.ensures.stores c.requires.key))
