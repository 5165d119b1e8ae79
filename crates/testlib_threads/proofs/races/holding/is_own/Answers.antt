use Rattle.mc_words.specs.hand.Arenas.{view}
use Rattle.testlib_threads.proofs.KeptRefs.{kept_beside}
use Rattle.testlib_threads.proofs.races.holding.is_own.Goals as goal

pub returns : goal.returns
returns c = record {
  keeper = ((c.read.ensures.hand.arena, c.read.ensures.hand.ready), kept_beside (view c.args.hand.now) (view c.read.new.hand) c.args.kept.now c.requires.keeper.1 c.read.ensures.holdings);
}
