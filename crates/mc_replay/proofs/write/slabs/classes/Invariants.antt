use Rattle.std.proofs.Common.{◌≡◌, ◌++◌, string_bytes}
use Rattle.mc_replay.specs.Written.{class_states_text}
use Rattle.mc_replay.proofs.write.slabs.classes.Given as goal

-- the lines of the classes so far
abbrev pub invariant-loop-place : goal.invariant-loop-place
invariant-loop-place l = string_bytes l.text ≡ string_bytes l.initial.text ++ class_states_text l.place l.slabs.state
