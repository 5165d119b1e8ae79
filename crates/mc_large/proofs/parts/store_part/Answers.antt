use Rattle.std.proofs.Common.{◌∙◌, Err, Ok, Result, ap, subst, suc, sym}
use Rattle.mc_shard.specs.declared.conditions.Outcome.{Outcome}
use Rattle.mc_cache.specs.declared.working.SetError.{SetError}
use Rattle.mc_cache.specs.Belonging.{ActsOnKey, hash_in}
use Rattle.mc_cache.specs.Conditional.{SetsValueIf}
use Rattle.mc_update.proofs.Acts.{is_stored}
use Rattle.mc_large.proofs.parts.store_part.Goals as goal

pub returns-in-Err-Item-clause-refused : goal.returns-in-Err-Item-clause-refused
returns-in-Err-Item-clause-refused g c =
    let cache = c.args.cache.now in
    let part = c.args.part.now in
    record {
      times = c.loop.invariant.1.0;
      between = c.loop.worker;
      vain = c.loop.invariant.1.1;
      when = c.loop.when;
      sets = subst (λ (r : Result Outcome SetError). ActsOnKey cache part (SetsValueIf (hash_in cache part) part c.args.piece.now c.loop.when r) c.loop.worker c.set_if.new.self) (c.in-Err-Item.is ∙ ap Err c.in-Err-Item.field-0-is) (c.set_if.ensures.acts c.requires.key);
    }

pub returns-in-Some-version_of-clause-stores : goal.returns-in-Some-version_of-clause-stores
returns-in-Some-version_of-clause-stores g c =
    let cache = c.args.cache.now in
    let part = c.args.part.now in
    let is = c.in-Ok.is ∙ ap Ok (is_stored c.in-Ok.outcome c.in-Some-version_of.version (sym c.version_of.ensures.version ∙ c.in-Some-version_of.is)) in
    record {
      times = c.loop.invariant.1.0;
      between = c.loop.worker;
      vain = c.loop.invariant.1.1;
      when = c.loop.when;
      sets = subst (λ (r : Result Outcome SetError). ActsOnKey cache part (SetsValueIf (hash_in cache part) part c.args.piece.now c.loop.when r) c.loop.worker c.set_if.new.self) is (c.set_if.ensures.acts c.requires.key);
    }

pub loop-preserved : goal.loop-preserved
loop-preserved g c =
    let cache = c.args.cache.now in
    let part = c.args.part.now in (
      c.set_if.ensures.belongs,
      (
        suc c.loop.invariant.1.0,
        (
          c.loop.worker,
          c.loop.invariant.1.1,
          record {
            when = c.loop.when;
            outcome = c.in-Ok.outcome;
            vain = sym c.version_of.ensures.version ∙ c.in_default.is;
            sets = subst (λ (r : Result Outcome SetError). ActsOnKey cache part (SetsValueIf (hash_in cache part) part c.args.piece.now c.loop.when r) c.loop.worker c.set_if.new.self) c.in-Ok.is (c.set_if.ensures.acts c.requires.key);
          },
        ),
      ),
    )
