use Rattle.std.proofs.Common.{◌≡◌, ap, sym, subst, ◌∙◌, Err}
use Rattle.std.proofs.lemmas.Result.{err_from_is_err_and}
use Rattle.mc_driver.specs.declared.fault.RunFault.{RunFault}
use Rattle.mc_driver.specs.declared.fault.RunFault.TheVariants.{Config, Turns}
use Rattle.mc_driver.specs.Reading.{IsReadFault, since}
use Rattle.mc_driver.proofs.Outcomes.{Unbuilt, no_memory_refusal, since_is, unbuilt_refused}
use Rattle.mc_driver.proofs.ThreadOutcomes.{config_unturned, refused_known, refused_threads, threads_known, threads_outcome}
use Rattle.mc_driver.proofs.threads.run_threads.Goals as goal

-- the configuration is refused
pub returns-in-Err-clause-refused : goal.returns-in-Err-clause-refused
returns-in-Err-clause-refused g c =
    let is = c.in-Err.ensures.refused in
    let ends : Unbuilt c.args.run.now c.in-Err.error = unbuilt_refused c.args.run.now c.in-Err.error is (λ memory. no_memory_refusal c.args.run.now.config (rw memory at is)) in
    λ number. (
      (λ h. let same : c.fault_of.result ≡ Config number = cc in ends.told number (sym c.fault_of.ensures ∙ same)),
      (λ h. ap (λ (fault : RunFault). Err fault) (c.fault_of.ensures ∙ ends.tells number h)),
    )

pub returns-in-Err-clause-outcome : goal.returns-in-Err-clause-outcome
returns-in-Err-clause-outcome g c = rw c.fault_of.ensures (refused_known c.args.run.now _ _ c.in-Err.error c.in-Err.ensures.refused)

pub returns-in-Err-clause-answered : goal.returns-in-Err-clause-answered
returns-in-Err-clause-answered g c =
    let given = g.R.Source.given c.args.reader.now in
    rw c.fault_of.ensures (refused_threads c.args.run.now (since given given) (g.W.Sink.contents c.args.writer.now) c.in-Err.error c.in-Err.ensures.refused)

-- the threads were started, or the script was refused
pub returns-clause-outcome : goal.returns-clause-outcome
returns-clause-outcome g c =
    threads_known c.args.run.now _ c.in_ok-bytes.bytes.items _ _ _ c.in_default.ensures.accepted c.in_ok-bytes.ensures.bytes
    (rw c.deref.ensures.value at c.run_by_threads.ensures.outcome)

pub returns-clause-answered : goal.returns-clause-answered
returns-clause-answered g c =
    rw (since_is _ _ c.in_ok-bytes.bytes.items c.in_ok-bytes.ensures.given)
    (threads_outcome c.args.run.now c.in_ok-bytes.bytes.items _ _ _ c.in_default.ensures.accepted (rw c.deref.ensures.value at c.run_by_threads.ensures.outcome))

pub returns-clause-passed : goal.returns-clause-passed
returns-clause-passed g c = rw (since_is _ _ c.in_ok-bytes.bytes.items c.in_ok-bytes.ensures.given) (rw c.deref.ensures.value at c.run_by_threads.ensures.passed)

pub returns-clause-stopped : goal.returns-clause-stopped
returns-clause-stopped g c = λ is. rw (since_is _ _ c.in_ok-bytes.bytes.items c.in_ok-bytes.ensures.given) (rw c.deref.ensures.value at (c.run_by_threads.ensures.stopped is))

-- what is refused is out of no turns
pub returns-in-Err-clause-stopped : goal.returns-in-Err-clause-stopped
returns-in-Err-clause-stopped g c = λ is. absurd (config_unturned c.in-Err.error (let same : c.fault_of.result ≡ Turns = cc in sym c.fault_of.ensures ∙ same))

pub returns-in_err-bytes-clause-stopped : goal.returns-in_err-bytes-clause-stopped
returns-in_err-bytes-clause-stopped g c =
    let p = err_from_is_err_and c.from_residual.result c.from_residual.ensures.1 in
    λ is.
    let turns : c.in_err-bytes.field-0.0 ≡ Turns = cc (p.1, p.2, is) in
    absurd (subst (IsReadFault (g.R.Source.failures c.args.reader.now) (g.R.Source.failures c.read_script.new.reader)) turns c.in_err-bytes.ensures.fault)
