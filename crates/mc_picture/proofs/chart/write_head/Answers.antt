use Rattle.mc_picture.proofs.Extends.{ends_pushing, extends}
use Rattle.mc_picture.proofs.chart.write_head.Goals as goal

pub returns : goal.returns
returns c =
    ends_pushing _ _ _ _ _ (extends _ _ _ c.in_ok-writeln.ensures.bytes) c.push_str.ensures.bytes
