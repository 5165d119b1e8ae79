use Rattle.std.proofs.Common.{refl}
use Rattle.mcmap.specs.Json.{owner_json}
use Rattle.mcmap.proofs.RowsMore.{row_done, row_more}
use Rattle.mcmap.proofs.json.owners_value.Goals as goal

pub loop-owner-preserved : goal.loop-owner-preserved
loop-owner-preserved c =
    row_more owner_json c.args.owners.now c.loop-owner.owner-index _ _ _ _ _ c.loop-owner.invariant c.in_ok-push.ensures.items c.loop-owner-test.true refl c.in_ok-owner_value.ensures

pub returns : goal.returns
returns c = row_done owner_json c.args.owners.now c.loop-owner.owner-index c.loop-owner.list c.loop-owner.invariant c.loop-owner-test.false
