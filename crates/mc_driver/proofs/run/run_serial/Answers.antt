use Rattle.std.proofs.Common.{◌≡◌, ap, sym, ◌∙◌, Some, Err}
use Rattle.std.proofs.lemmas.Result.{err_from_is_err_and}
use Rattle.mc_driver.specs.declared.fault.RunFault.{RunFault}
use Rattle.mc_driver.specs.declared.fault.RunFault.TheVariants.{Config}
use Rattle.mc_driver.specs.Reading.{since}
use Rattle.mc_driver.proofs.Outcomes.{Unbuilt, unbuilt, unbuilt_whole, unread_outcome, unread_whole, outcome_known, outcome_of, since_is, whole_where_short}
use Rattle.mc_driver.proofs.run.run_serial.Goals as goal

pub returns-in-Err-clause-refused : goal.returns-in-Err-clause-refused
returns-in-Err-clause-refused g c =
    let ends : Unbuilt c.args.run.now c.in-Err.error = unbuilt c.args.run.now c.in-Err.error c.in-Err.ensures.refused in
    λ number. (
      (λ h. let same : c.fault_of.result ≡ Config number = cc in ends.told number (sym c.fault_of.ensures ∙ same)),
      (λ h. ap (λ (fault : RunFault). Err fault) (c.fault_of.ensures ∙ ends.tells number h)),
    )

pub returns-in-Err-clause-outcome : goal.returns-in-Err-clause-outcome
returns-in-Err-clause-outcome g c = rw c.fault_of.ensures ((unbuilt c.args.run.now c.in-Err.error c.in-Err.ensures.refused).outcome _ _)

pub returns-in-Err-clause-answered : goal.returns-in-Err-clause-answered
returns-in-Err-clause-answered g c =
    let given = g.R.Source.given c.args.reader.now in
    rw c.fault_of.ensures ((unbuilt c.args.run.now c.in-Err.error c.in-Err.ensures.refused).outcome (Some (since given given)) (g.W.Sink.contents c.args.writer.now))

pub returns-in-Err-clause-whole : goal.returns-in-Err-clause-whole
returns-in-Err-clause-whole g c = rw c.fault_of.ensures (unbuilt_whole _ (g.W.Sink.contents c.args.writer.now) c.in-Err.error)

-- the reading ended early
pub returns-in_err-bytes-clause-answered : goal.returns-in_err-bytes-clause-answered
returns-in_err-bytes-clause-answered g c =
    let p = err_from_is_err_and c.from_residual.result c.from_residual.ensures.1 in
    rw (p.1, p.2) (unread_outcome c.args.run.now (since (g.R.Source.given c.args.reader.now) (g.R.Source.given c.read_script.new.reader)) (g.W.Sink.contents c.args.writer.now) _ _ c.in_err-bytes.field-0.0 c.in_err-bytes.ensures.fault)

pub returns-in_err-bytes-clause-whole : goal.returns-in_err-bytes-clause-whole
returns-in_err-bytes-clause-whole g c =
    let p = err_from_is_err_and c.from_residual.result c.from_residual.ensures.1 in
    rw (p.1, p.2) (unread_whole _ (g.W.Sink.contents c.args.writer.now) _ _ c.in_err-bytes.field-0.0 c.in_err-bytes.ensures.fault)

pub returns-clause-outcome : goal.returns-clause-outcome
returns-clause-outcome g c =
    outcome_known _ c.in-Ok.table _ c.in_ok-bytes.bytes.items _ _ _ c.in-Ok.ensures.table c.in_ok-bytes.ensures.bytes
    (rw c.deref.ensures.value at c.run_script.ensures.outcome)

pub returns-clause-answered : goal.returns-clause-answered
returns-clause-answered g c =
    rw (since_is _ _ c.in_ok-bytes.bytes.items c.in_ok-bytes.ensures.given)
    (outcome_of _ c.in-Ok.table _ _ _ _ c.in-Ok.ensures.table (rw c.deref.ensures.value at c.run_script.ensures.outcome))

pub returns-clause-whole : goal.returns-clause-whole
returns-clause-whole g c =
    whole_where_short c.in_ok-bytes.bytes.items _ _ _ _ _ (rw c.deref.ensures.value at c.run_script.ensures.outcome) c.in_ok-bytes.ensures.ended
