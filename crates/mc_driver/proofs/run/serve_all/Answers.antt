use Rattle.std.proofs.Common.{◌≡◌, ℕ, Some, ◌∙◌, ap, sym, get_or, take}
use Rattle.std.proofs.lemmas.Result.{err_from_is_err_and}
use Rattle.std.proofs.KnownBytes.{Appends-trans}
use Rattle.mc_script.specs.declared.command.Command.{Command}
use Rattle.mc_script.specs.declared.command.Command.TheVariants.{Set}
use Rattle.mc_serial_spec.specs.Machine.{Machine}
use Rattle.mc_serial_spec.specs.Lines.{Outcome, serve, after_all}
use Rattle.mc_driver.proofs.Replies.{replies_more, after_more, ends_there}
use Rattle.mc_driver.proofs.run.serve_all.Goals as goal

pub loop-command-preserved : goal.loop-command-preserved
loop-command-preserved g c =
    let other : Command = Set 0 0 0 0 in
    let i : ℕ = c.loop-command.command-index in
    let served : Outcome = c.in_ok-serve_one.ensures.written.served in
    let is : serve c.loop-command.keeper (get_or c.args.commands.now i other) ≡ Some served = c.in_ok-serve_one.ensures.written.is in
    let so_far : after_all c.args.keeper.now (take i c.args.commands.now) ≡ Some c.loop-command.keeper = c.loop-command.invariant.machine in
    record {
      written = rw (replies_more c.args.keeper.now c.loop-command.keeper c.args.commands.now i other c.loop-command-test.true so_far served is)
          (Appends-trans _ _ _ _ _ c.loop-command.invariant.written c.in_ok-serve_one.ensures.written.written);
      machine = after_more c.args.keeper.now c.loop-command.keeper c.args.commands.now i other c.loop-command-test.true so_far
          ∙ rw is (ap (λ (m : Machine). Some m) (sym c.in_ok-serve_one.ensures.written.after));
      quiet = c.in_ok-serve_one.ensures.quiet ∙ c.loop-command.invariant.quiet;
    }

-- a command that ended without its reply
pub returns-in_err-serve_one-clause-fault : goal.returns-in_err-serve_one-clause-fault
returns-in_err-serve_one-clause-fault g c =
    let p = err_from_is_err_and c.from_residual.result c.from_residual.ensures.1 in
    rw (p.1, p.2) (ends_there _ c.loop-command.keeper _ c.loop-command.command-index (Set 0 0 0 0) c.loop-command-test.true c.loop-command.invariant.machine
    _ _ _ _ _ _ c.in_err-serve_one.field-0.0 c.loop-command.invariant.written c.loop-command.invariant.quiet c.in_err-serve_one.ensures.fault)
