use Rattle.mc_picture.proofs.Extends.{chart}
use Rattle.mc_picture.proofs.chart.write_chart.Goals as goal

pub returns-clause-chart : goal.returns-clause-chart
returns-clause-chart c =
    chart (λ column. column.items) c.in_ok-shown.shown.items c.deref.result.now c.args.pages c.args.ledger.now _ _ c.deref.ensures.value c.in_ok-shown.ensures.columns c.in_ok-draw.ensures.drawn
