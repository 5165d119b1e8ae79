use Rattle.std.proofs.Common.{◌≡◌, take}
use Rattle.std.specs.Prelude.{map}
use Rattle.serde_json.specs.View.{view}
use Rattle.mcmap.specs.Json.{number_json}
use Rattle.mcmap.proofs.json.numbers_value.Given as goal

-- the row so far is that of those which are done
abbrev pub invariant-loop-number : goal.invariant-loop-number
invariant-loop-number l = map view l.list.items ≡ map number_json (take l.number-index l.numbers)
