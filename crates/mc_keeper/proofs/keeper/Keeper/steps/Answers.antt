use Rattle.std.proofs.Common.{◌≡◌, ◌*◌, ◌+◌, ◌-◌, suc, Contains, subst, Ok, arith, sym, ap, ap₂, ◌∙◌}
use Rattle.mc_serial_spec.specs.declared.turn.Counts.{Counts}
use Rattle.mc_serial_spec.specs.Machine.{Machine}
use Rattle.mc_serial_spec.specs.Mover.{MoverCount}
use Rattle.mc_serial_spec.proofs.MoverTurns.{at_most_more, chunks_done, chunks_more, counts_now}
use Rattle.std.proofs.lemmas.Result.{err_from_is_err_and}
use Rattle.mc_keeper.specs.Stages.{look_stages}
use Rattle.mc_keeper.proofs.StageSteps.{look_stage}
use Rattle.mc_keeper.proofs.keeper.Keeper.steps.Goals as goal

pub step-requires : goal.step-requires
step-requires c =
    at_most_more _ _ c.loop.counts (counts_now c.loop.counter (256 * 999999) _ _ c.loop.invariant c.requires) (omega (arith, c.loop-test.true, c.self.invariant.bulk))

pub loop-preserved : goal.loop-preserved
loop-preserved c = chunks_more c.loop.counter _ _ _ c.loop.invariant c.in_ok-step.ensures.looked

-- nothing is left to look at
pub returns-then-not-branch-clause-done : goal.returns-then-not-branch-clause-done
returns-then-not-branch-clause-done c =
    let counted : Machine → Counts → MoverCount = λ machine counts. record { machine = machine; counts = counts } in
    let nothing = c.in_ok-step.ensures.nothing (ap Ok c.if-not-branch.true) in
    let same : counted c.step.new.self c.step.new.counts ≡ counted c.loop.self c.loop.counts = ap₂ counted nothing.0 nothing.1 in
    chunks_done c.args.self.now.bulk c.loop.counter _ (counted c.loop.self c.loop.counts) (omega (arith, c.loop-test.true, ap (λ (m : Machine). m.bulk) c.self.view_is)) c.loop.invariant
    (c.in_ok-step.ensures.looked ∙ same)
    ∙ sym same

pub returns-in_err-step-clause-refused : goal.returns-in_err-step-clause-refused
returns-in_err-step-clause-refused c =
    let p = err_from_is_err_and c.from_residual.result c.from_residual.ensures.1 in
    let split : c.loop.counter + suc (c.args.self.now.bulk - (c.loop.counter + 1)) ≡ c.args.self.now.bulk
    = omega (arith, c.loop-test.true, ap (λ (m : Machine). m.bulk) c.self.view_is) in
    rw p.1 (subst (λ n. Contains (look_stages n (record { machine = c.args.self.now; counts = c.args.counts.now })) c.step.new.self) split
    (look_stage c.loop.counter (c.args.self.now.bulk - (c.loop.counter + 1)) _ (record { machine = c.loop.self; counts = c.loop.counts }) c.step.new.self
    c.loop.invariant c.in_err-step.ensures.refused))
