use Rattle.std.proofs.Common.{◌≡◌, Some}
use Rattle.std.specs.Prelude.{map}
use Rattle.mc_map.specs.Replays.{replayed_owners}
use Rattle.mc_map.proofs.replay.columns.Given as goal

-- so many columns are there
abbrev pub invariant-loop-count : goal.invariant-loop-count
invariant-loop-count l = map (λ column. Some column.items) l.columns.items ≡ replayed_owners l.pages l.entries l.count
