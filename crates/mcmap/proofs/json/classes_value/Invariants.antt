use Rattle.std.proofs.Common.{◌≡◌, take}
use Rattle.std.specs.Prelude.{map}
use Rattle.serde_json.specs.View.{view}
use Rattle.mcmap.specs.Json.{class_json}
use Rattle.mcmap.proofs.json.classes_value.Given as goal

-- the row so far is that of those which are done
abbrev pub invariant-loop-line : goal.invariant-loop-line
invariant-loop-line l = map view l.list.items ≡ map class_json (take l.line-index l.lines)
