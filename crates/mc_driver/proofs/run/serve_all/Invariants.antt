use Rattle.std.proofs.Common.{◌≡◌, take, Some}
use Rattle.std.specs.Io.KnownBytes.{Appends}
use Rattle.mc_serial_spec.specs.Lines.{replies_to, after_all}
use Rattle.mc_driver.proofs.run.serve_all.Given as goal

-- the commands so far are done, and their replies written
abbrev pub invariant-loop-command : goal.invariant-loop-command
invariant-loop-command g l = record {
  written : Appends (g.W.Sink.contents l.initial.writer) (g.W.Sink.contents l.writer) (replies_to l.initial.keeper (take l.command-index l.commands));
  machine : after_all l.initial.keeper (take l.command-index l.commands) ≡ Some l.keeper;
  quiet : g.W.Sink.failures l.writer ≡ g.W.Sink.failures l.initial.writer;
}
