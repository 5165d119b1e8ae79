use Rattle.std.proofs.Common.{◌≡◌, take}
use Rattle.std.specs.Prelude.{map}
use Rattle.serde_json.specs.View.{view}
use Rattle.mcmap.specs.Json.{entry_json}
use Rattle.mcmap.proofs.json.ledger_value.Given as goal

-- the row so far is that of those which are done
abbrev pub invariant-loop-entry : goal.invariant-loop-entry
invariant-loop-entry l = map view l.list.items ≡ map entry_json (take l.entry-index l.ledger)
