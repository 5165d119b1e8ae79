use Rattle.std.proofs.Common.{refl}
use Rattle.mcmap.specs.Json.{number_json}
use Rattle.mcmap.proofs.RowsMore.{row_done, row_more}
use Rattle.mcmap.proofs.json.numbers_value.Goals as goal

pub loop-number-preserved : goal.loop-number-preserved
loop-number-preserved c =
    row_more number_json c.args.numbers.now c.loop-number.number-index _ _ _ _ _ c.loop-number.invariant c.in_ok-push.ensures.items c.loop-number-test.true refl c.from.ensures

pub returns : goal.returns
returns c = row_done number_json c.args.numbers.now c.loop-number.number-index c.loop-number.list c.loop-number.invariant c.loop-number-test.false
