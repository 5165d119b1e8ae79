use Rattle.std.proofs.Common.{◌≡◌, ◌≤◌, drop, length, map}
use Rattle.mc_stripe.specs.Entries.{by_key}
use Rattle.mc_replay.proofs.write.stripes.add_left.Given as goal

-- the keys of the entries from this place on
abbrev pub invariant-loop-place : goal.invariant-loop-place
invariant-loop-place l = (l.keys.keys ≡ map (λ entry. entry.0) (by_key (drop l.place l.base))) × (l.place ≤ length l.base)

-- the entries before it
abbrev pub decreases-loop-place : goal.decreases-loop-place
decreases-loop-place l = l.place
