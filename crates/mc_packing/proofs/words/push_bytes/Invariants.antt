use Rattle.std.proofs.Common.{◌+◌, ◌≤◌, vec_capacity, vec_len}
use Rattle.mc_packing.proofs.Loops.{ArePut}
use Rattle.mc_packing.proofs.words.push_bytes.Given as goal

abbrev pub invariant-loop-word : goal.invariant-loop-word
invariant-loop-word l = record {
  put : ArePut l.initial.into.items l.count l.words l.into.items l.left l.word-index;
  room : vec_len l.into + l.left ≤ vec_capacity l.into;
}
