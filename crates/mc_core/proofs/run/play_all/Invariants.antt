use Rattle.std.proofs.Common.{◌≡◌, drop}
use Rattle.mc_core.specs.run.Run.{state_after_all, play_from}
use Rattle.mc_core.proofs.run.play_all.Given as goal

-- the events that are left lead on as all of them did at first
abbrev pub invariant-loop-place : goal.invariant-loop-place
invariant-loop-place l = play_from l.place l.state (drop l.place l.events) ≡ state_after_all l.initial.state l.events
