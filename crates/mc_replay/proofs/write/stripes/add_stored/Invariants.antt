use Rattle.std.proofs.Common.{◌≡◌, drop}
use Rattle.mc_replay.specs.Written.{keys_with_stored}
use Rattle.mc_replay.proofs.write.stripes.add_stored.Given as goal

-- the keys so far, with those of the calls that are left
abbrev pub invariant-loop-call : goal.invariant-loop-call
invariant-loop-call l = keys_with_stored l.keys.keys (drop l.call-index l.history) ≡ keys_with_stored l.initial.keys.keys l.history
