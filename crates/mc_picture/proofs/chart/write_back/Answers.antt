use Rattle.mc_picture.proofs.Extends.{ends_pushing, extends_on}
use Rattle.mc_picture.proofs.chart.write_back.Goals as goal

pub returns : goal.returns
returns c =
    ends_pushing _ _ _ _ _ (extends_on _ _ _ (extends_on _ _ _ (extends_on _ _ _ c.in_ok-write_labels.ensures c.in_ok-write_ends.ensures) c.in_ok-write_axis.ensures) c.in_ok-write_legend.ensures) c.push_str.ensures.bytes
