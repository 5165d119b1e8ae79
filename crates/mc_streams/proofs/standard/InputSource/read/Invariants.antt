use Rattle.std.proofs.Common.{◌≡◌, ◌+◌, length}
use Rattle.std.specs.Io.KnownBytes.{Keeps}
use Rattle.mc_streams.proofs.standard.InputSource.read.Given as goal

-- all reads so far were interrupted, and took nothing
abbrev pub invariant-loop-tries : goal.invariant-loop-tries
invariant-loop-tries g l = record {
  buf : length l.buf ≡ length l.initial.buf;
  kept : Keeps (g.R.Read.remaining l.initial.self.reader.inner) (g.R.Read.remaining l.self.reader.inner);
  quiet : l.self.failed_reads ≡ l.initial.self.failed_reads;
  none : l.self.reader.given.bytes ≡ l.initial.self.reader.given.bytes;
  calm : l.self.reader.errors.total ≡ l.initial.self.reader.errors.total;
  tries : l.self.reader.interruptions.total ≡ l.initial.self.reader.interruptions.total + l._tries;
}
