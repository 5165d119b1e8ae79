use Rattle.std.proofs.Common.{◌≡◌, drop, map}
use Rattle.mc_replay.specs.Changes.{changes_in}
use Rattle.mc_replay.proofs.Fronts.{after_front}
use Rattle.mc_replay.proofs.read.changes.changes_in.Given as goal

-- the changes so far, before those of the parts that are left
abbrev pub invariant-loop-part : goal.invariant-loop-part
invariant-loop-part l =
    after_front l.changes (changes_in (map (λ part. part.now) (drop l.part-index l.parts))) ≡ changes_in (map (λ part. part.now) l.parts)
