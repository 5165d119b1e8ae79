use Rattle.std.specs.Prelude.{map}
use Rattle.mc_picture.proofs.Extends.{drawn}
use Rattle.mc_picture.proofs.chart.draw.Goals as goal

pub returns : goal.returns
returns c = record {
  drawn = drawn (map (λ column. column.items) c.args.columns.now) c.args.sheet.now.pages _ _ _ _ c.in_ok-write_front.ensures c.in_ok-write_cells.ensures.cells c.in_ok-write_back.ensures;
}
