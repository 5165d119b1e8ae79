use Rattle.mc_replay.proofs.Taken.{gave_piece}
use Rattle.mc_replay.proofs.read.input.read_all.Goals as goal

pub returns-then-count-eq0-clause-given : goal.returns-then-count-eq0-clause-given
returns-then-count-eq0-clause-given g c = gave_piece _ _ _ _ _ c.loop.invariant.given c.in_ok-count.ensures.given
