use Rattle.std.proofs.Common.{Err, inr, subst}
use Rattle.mc_cache.specs.declared.working_within.SetWithinError.{SetWithinError}
use Rattle.mc_cache.specs.Resting.{ActsAgain}
use Rattle.mc_cache.specs.WorkingWithin.{SetsWithin}
use Rattle.mc_cache.proofs.cache.Worker.set_within.Goals as goal

pub returns-in-Err-Item-clause-acts : goal.returns-in-Err-Item-clause-acts
returns-in-Err-Item-clause-acts c = λ is_key. inr (record {
  error = c.in-Err-Item.error;
  between = c.set_or_keep_within.new.self;
  refuses = subst (λ (e : SetWithinError). ActsAgain c.args.cache.now c.args.key.now (λ hash. SetsWithin c.args.tries hash c.args.key.now c.args.value.now (Err e)) c.args.self.now c.set_or_keep_within.new.self) c.in-Err-Item.field-0-is (c.in-Err-Item.ensures.acts is_key);
  deleted = c.delete_within-deleted.result;
  deletes = c.delete_within-deleted.ensures.acts is_key;
  result_is = c.refusal_behind.ensures;
})
