use Rattle.std.proofs.Common.{◌≡◌, ◌++◌, vec_len}
use Rattle.mc_replay.proofs.read.input.read_all.Given as goal

-- what was given so far was read
abbrev pub invariant-loop : goal.invariant-loop
invariant-loop g l = record {
  given : g.R.Source.given l.reader ≡ g.R.Source.given l.initial.reader ++ l.bytes.items;
  piece : vec_len l.piece ≡ 65536;
}
