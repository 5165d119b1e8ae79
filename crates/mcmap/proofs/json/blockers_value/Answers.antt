use Rattle.mcmap.specs.Json.{blocker_json}
use Rattle.mcmap.proofs.RowsMore.{row_done}
use Rattle.mcmap.proofs.json.blockers_value.Goals as goal

pub returns : goal.returns
returns c = row_done blocker_json c.args.blockers.now c.loop-blocker.blocker-index c.loop-blocker.list c.loop-blocker.invariant c.loop-blocker-test.false
