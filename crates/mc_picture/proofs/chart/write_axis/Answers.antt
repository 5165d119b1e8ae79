use Rattle.mc_picture.proofs.Extends.{ends_writing, extends_on}
use Rattle.mc_picture.proofs.chart.write_axis.Goals as goal

pub loop-place-preserved : goal.loop-place-preserved
loop-place-preserved c = extends_on _ _ _ c.loop-place.invariant c.in_ok-write_tick.ensures

pub returns : goal.returns
returns c = ends_writing _ _ _ _ _ c.loop-place.invariant c.writeln.ensures.bytes
