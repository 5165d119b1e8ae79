use Rattle.std.proofs.Common.{refl}
use Rattle.mcmap.specs.Json.{entry_json}
use Rattle.mcmap.proofs.RowsMore.{row_done, row_more}
use Rattle.mcmap.proofs.json.ledger_value.Goals as goal

pub loop-entry-preserved : goal.loop-entry-preserved
loop-entry-preserved c =
    row_more entry_json c.args.ledger.now c.loop-entry.entry-index _ _ _ _ _ c.loop-entry.invariant c.in_ok-push.ensures.items c.loop-entry-test.true refl c.in_ok-entry_value.ensures

pub returns : goal.returns
returns c = row_done entry_json c.args.ledger.now c.loop-entry.entry-index c.loop-entry.list c.loop-entry.invariant c.loop-entry-test.false
