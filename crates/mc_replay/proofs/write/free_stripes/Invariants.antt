use Rattle.std.proofs.Common.{◌≡◌, ◌++◌, string_bytes}
use Rattle.mc_replay.specs.Written.{stripes_text}
use Rattle.mc_replay.proofs.write.free_stripes.Given as goal

-- what stands behind the locks so far
abbrev pub invariant-loop-number : goal.invariant-loop-number
invariant-loop-number l = string_bytes l.text ≡ string_bytes l.initial.text ++ stripes_text l.number l.state
