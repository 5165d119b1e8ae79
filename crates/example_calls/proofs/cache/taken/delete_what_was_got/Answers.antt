use Rattle.std.proofs.Common.{ℕ, IfSome, Option, subst}
use Rattle.mc_cache.specs.Versions.{GivesVersionOf}
use Rattle.example_calls.proofs.cache.taken.delete_what_was_got.Goals as goal

pub returns-clause-deletes : goal.returns-clause-deletes
returns-clause-deletes g c = λ is.
    let found = subst (λ (o : Option ℕ). IfSome o (λ version. GivesVersionOf c.args.cache.now c.args.key.now version c.args.into.now.items c.get_with_version.new.into.items c.args.worker.now c.get_with_version.new.self)) c.in-Some.is c.in-Ok.ensures.value in
    record {
      found = found.0;
      added = found.2;
      version = c.in-Some.version;
      between = c.get_with_version.new.self;
      finds = found.1;
      deletes = c.delete_version.ensures.deletes is;
    }
