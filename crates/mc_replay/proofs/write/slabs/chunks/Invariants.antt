use Rattle.std.proofs.Common.{◌≡◌, ◌++◌, codes, drop, flat_map, string_bytes}
use Rattle.mc_replay.specs.Written.{chunk_text}
use Rattle.mc_replay.proofs.write.slabs.chunks.Given as goal

-- the chunks so far, and those that are left
abbrev pub invariant-loop-other : goal.invariant-loop-other
invariant-loop-other l =
    string_bytes l.text ++ flat_map (λ other. codes " " ++ chunk_text other) (drop l.other-index l.others)
    ≡ string_bytes l.initial.text ++ flat_map (λ other. codes " " ++ chunk_text other) l.others
