use Rattle.std.proofs.Common.{◌≡◌, take}
use Rattle.std.specs.Prelude.{map}
use Rattle.serde_json.specs.View.{view}
use Rattle.mcmap.specs.Json.{owner_json}
use Rattle.mcmap.proofs.json.owners_value.Given as goal

-- the row so far is that of those which are done
abbrev pub invariant-loop-owner : goal.invariant-loop-owner
invariant-loop-owner l = map view l.list.items ≡ map owner_json (take l.owner-index l.owners)
