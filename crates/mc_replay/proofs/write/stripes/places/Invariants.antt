use Rattle.std.proofs.Common.{◌≡◌, ◌++◌, drop, string_bytes}
use Rattle.mc_replay.specs.Written.{keys_text}
use Rattle.mc_replay.proofs.write.stripes.places.Given as goal

-- the lines so far, and those that are left
abbrev pub invariant-loop-key : goal.invariant-loop-key
invariant-loop-key l =
    string_bytes l.text ++ keys_text l.number l.stripe.state (drop l.key-index l.keys) ≡ string_bytes l.initial.text ++ keys_text l.number l.stripe.state l.keys
