use Rattle.mc_picture.proofs.Extends.{ends_writing}
use Rattle.mc_picture.proofs.chart.write_tick.Goals as goal

pub returns : goal.returns
returns c =
    ends_writing _ _ _ _ _ c.in_ok-write_number.ensures c.writeln.ensures.bytes
