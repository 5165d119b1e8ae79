use Rattle.std.proofs.Common.{◌≡◌, take}
use Rattle.std.specs.Prelude.{map}
use Rattle.serde_json.specs.View.{view}
use Rattle.mcmap.specs.Json.{blocker_json}
use Rattle.mcmap.proofs.json.blockers_value.Given as goal

-- the row so far is that of those which are done
abbrev pub invariant-loop-blocker : goal.invariant-loop-blocker
invariant-loop-blocker l = map view l.list.items ≡ map blocker_json (take l.blocker-index l.blockers)
