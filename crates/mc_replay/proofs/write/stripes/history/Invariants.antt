use Rattle.std.proofs.Common.{◌≡◌, ◌++◌, drop, flat_map, string_bytes}
use Rattle.mc_replay.specs.Written.{call_line}
use Rattle.mc_replay.proofs.write.stripes.history.Given as goal

-- the lines so far, and those that are left
abbrev pub invariant-loop-call : goal.invariant-loop-call
invariant-loop-call l =
    string_bytes l.text ++ flat_map (call_line l.number) (drop l.call-index l.calls) ≡ string_bytes l.initial.text ++ flat_map (call_line l.number) l.calls
