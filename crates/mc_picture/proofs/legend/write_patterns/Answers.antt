use Rattle.mc_picture.proofs.Extends.{ends_on, extends_on}
use Rattle.mc_picture.proofs.legend.write_patterns.Goals as goal

pub returns : goal.returns
returns c =
    ends_on _ _ _ _ (extends_on _ _ _ c.in_ok-write_key.ensures c.in_ok-write_key-2.ensures) c.write_key-3.ensures
