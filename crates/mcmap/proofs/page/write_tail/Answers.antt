use Rattle.mc_picture.proofs.Extends.{ends_on, extends_on}
use Rattle.mcmap.proofs.page.write_tail.Goals as goal

pub returns : goal.returns
returns c =
    ends_on _ _ _ _ (extends_on _ _ _ (extends_on _ _ _ c.in_ok-write_piece.ensures c.in_ok-write_piece-2.ensures) c.in_ok-write_piece-3.ensures) c.write_piece-4.ensures
