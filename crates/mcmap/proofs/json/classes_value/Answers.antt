use Rattle.std.proofs.Common.{refl}
use Rattle.mcmap.specs.Json.{class_json}
use Rattle.mcmap.proofs.RowsMore.{row_done, row_more}
use Rattle.mcmap.proofs.json.classes_value.Goals as goal

pub loop-line-preserved : goal.loop-line-preserved
loop-line-preserved c =
    row_more class_json c.args.lines.now c.loop-line.line-index _ _ _ _ _ c.loop-line.invariant c.in_ok-push.ensures.items c.loop-line-test.true refl c.in_ok-class_value.ensures

pub returns : goal.returns
returns c = row_done class_json c.args.lines.now c.loop-line.line-index c.loop-line.list c.loop-line.invariant c.loop-line-test.false
