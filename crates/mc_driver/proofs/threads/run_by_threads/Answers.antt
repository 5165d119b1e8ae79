use Rattle.std.proofs.Common.{◌≡◌, List, Err, ap, subst}
use Rattle.std.proofs.lemmas.Result.{err_from_is_err_and}
use Rattle.std.specs.Io.KnownBytes.{Appends}
use Rattle.mc_script.specs.declared.command.Command.{Command}
use Rattle.mc_workers.specs.Script.{ServesScript}
use Rattle.mc_workers.specs.Ends.{RunPasses, RunStops}
use Rattle.mc_workers.specs.declared.ended.Ended.{Ended}
use Rattle.mc_driver.specs.declared.fault.RunFault.TheVariants.{Turns}
use Rattle.mc_driver.specs.Run.{IsScriptFault}
use Rattle.mc_driver.specs.Threads.{ended_fault}
use Rattle.mc_driver.proofs.ThreadOutcomes.{ended_by_turns}
use Rattle.mc_driver.proofs.threads.run_by_threads.Goals as goal

pub returns-in-Ok-clause-outcome : goal.returns-in-Ok-clause-outcome
returns-in-Ok-clause-outcome g c = (
  c.in_ok-commands.commands.items,
  c.in_ok-commands.ensures.script,
  (
    c.in_ok-text.text.items,
    subst (λ (commands : List Command). ServesScript c.args.run.now.config c.args.run.now.automove commands c.in_ok-text.text.items) c.deref.ensures.value c.in_ok-text.ensures.serves,
    subst (Appends (g.W.Sink.contents c.args.writer.now) (g.W.Sink.contents c.write_all.new.self)) c.deref-2.ensures.value c.in-Ok.ensures.bytes,
  ),
)

pub returns-clause-outcome : goal.returns-clause-outcome
returns-clause-outcome g c = (
  c.in_ok-commands.commands.items,
  c.in_ok-commands.ensures.script,
  (
    c.in_ok-text.text.items,
    subst (λ (commands : List Command). ServesScript c.args.run.now.config c.args.run.now.automove commands c.in_ok-text.text.items) c.deref.ensures.value c.in_ok-text.ensures.serves,
    c.in-Err.ensures.kept,
  ),
)

pub returns-in-Ok-clause-passed : goal.returns-in-Ok-clause-passed
returns-in-Ok-clause-passed g c =
    (c.in_ok-commands.commands.items, c.in_ok-commands.ensures.script, subst (λ (commands : List Command). RunPasses (g.G.Gate.LetsOn c.args.gate.now) commands) c.deref.ensures.value c.in_ok-text.ensures.passed)

-- a thread was stopped
pub returns-in_err-text-clause-stopped : goal.returns-in_err-text-clause-stopped
returns-in_err-text-clause-stopped g c =
    let p = err_from_is_err_and c.from_residual-in_err-text.result c.from_residual-in_err-text.ensures.1 in
    let lets_on = g.G.Gate.LetsOn c.args.gate.now in
    let stops = g.G.Gate.Stops c.args.gate.now in
    λ is.
    let turns : ended_fault c.in_err-text.field-0.0 ≡ Turns = cc (p.1, p.2, is) in
    let end = ended_by_turns c.in_err-text.field-0.0 turns in (
      c.in_ok-commands.commands.items,
      c.in_ok-commands.ensures.script,
      subst (λ (commands : List Command). RunStops lets_on stops commands) c.deref.ensures.value (c.in_err-text.ensures.stopped (ap (λ (e : Ended). Err e) end)),
    )

-- a script that is refused is out of no turns
pub returns-in_err-commands-clause-stopped : goal.returns-in_err-commands-clause-stopped
returns-in_err-commands-clause-stopped g c =
    let p = err_from_is_err_and c.from_residual.result c.from_residual.ensures.1 in
    λ is.
    let turns : c.in_err-commands.field-0.0 ≡ Turns = cc (p.1, p.2, is) in
    absurd (subst (IsScriptFault c.args.bytes.now) turns c.in_err-commands.ensures.fault)
