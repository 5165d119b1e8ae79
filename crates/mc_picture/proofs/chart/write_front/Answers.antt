use Rattle.mc_picture.proofs.Extends.{ends_on, extends_on}
use Rattle.mc_picture.proofs.chart.write_front.Goals as goal

pub returns : goal.returns
returns c =
    ends_on _ _ _ _ (extends_on _ _ _ c.in_ok-write_head.ensures c.in_ok-write_title.ensures) c.write_names.ensures
