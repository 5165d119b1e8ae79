use Rattle.std.specs.Hash.DefaultHasher.{round}
use Rattle.mc_cache.proofs.sip.Lanes.round.Goals as goal

pub returns : goal.returns
unfolding round
returns c tail count = simp (c.rotate_left-6.ensures, c.rotate_left-5.ensures, c.rotate_left-4.ensures, c.rotate_left-3.ensures, c.rotate_left-2.ensures, c.rotate_left.ensures)
