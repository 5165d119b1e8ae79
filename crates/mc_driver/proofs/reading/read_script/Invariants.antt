use Rattle.std.proofs.Common.{◌≡◌, ◌-◌, ◌≤◌, ◌++◌, vec_len}
use Rattle.std.specs.Io.KnownBytes.{Consumes}
use Rattle.mc_driver.proofs.reading.read_script.Given as goal

-- the reader lost what was read so far, and did not fail
abbrev pub invariant-loop-bytes : goal.invariant-loop-bytes
invariant-loop-bytes g l = record {
  taken : Consumes (g.R.Source.remaining l.initial.reader) (g.R.Source.remaining l.reader) l.bytes.items;
  given : g.R.Source.given l.reader ≡ g.R.Source.given l.initial.reader ++ l.bytes.items;
  most : vec_len l.bytes ≤ 1048577;
  quiet : g.R.Source.failures l.reader ≡ g.R.Source.failures l.initial.reader;
  piece : vec_len l.piece ≡ 65536;
}

abbrev pub decreases-loop-bytes : goal.decreases-loop-bytes
decreases-loop-bytes g l = 1048577 - vec_len l.bytes
