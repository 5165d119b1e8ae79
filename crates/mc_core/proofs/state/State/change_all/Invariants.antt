use Rattle.std.proofs.Common.{◌≡◌, length, drop}
use Rattle.mc_core.specs.run.Silent.{allows_changes, after_changes}
use Rattle.mc_core.proofs.state.State.change_all.Given as goal

-- the changes that are left are allowed, and lead on, as all of them did at first
abbrev pub invariant-loop-change : goal.invariant-loop-change
invariant-loop-change l =
    (length l.self.ids ≡ length l.initial.self.ids)
    × (allows_changes l.self l.hand (drop l.change-index l.changes) ≡ allows_changes l.initial.self l.hand l.changes)
    × (after_changes l.self l.hand (drop l.change-index l.changes) ≡ after_changes l.initial.self l.hand l.changes)
