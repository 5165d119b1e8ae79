use Rattle.mc_picture.proofs.Extends.{ends_writing, extends, writes}
use Rattle.mc_picture.proofs.legend.write_class_key.Goals as goal

pub returns : goal.returns
returns c =
    ends_writing _ _ _ _ _ (writes _ _ _ _ (extends _ _ _ c.in_ok-write_class_box.ensures) c.in_ok-writeln.ensures.bytes) c.writeln-2.ensures.bytes
