use Rattle.mc_words.specs.hand.Arenas.{view}
use Rattle.testlib_threads.proofs.KeptRefs.{kept_beside, kept_stay}
use Rattle.testlib_threads.proofs.races.workers.change.Goals as goal

pub returns-in-0 : goal.returns-in-0
returns-in-0 g c = record {
  keeper = (c.delete_key.ensures.arena, kept_beside (view c.args.hand.now) (view c.delete_key.new.hand) c.args._kept.now c.requires.keeper.1 c.delete_key.ensures.holdings);
}

pub returns-in-1-to-4 : goal.returns-in-1-to-4
returns-in-1-to-4 g c = record {
  keeper = (c.touch_key.ensures.arena, kept_stay (view c.args.hand.now) (view c.touch_key.new.hand) c.args._kept.now c.requires.keeper.1 c.touch_key.ensures.holdings);
}

pub returns-in_default : goal.returns-in_default
returns-in_default g c = record {
  keeper = (c.set_key.ensures.arena, kept_beside (view c.args.hand.now) (view c.set_key.new.hand) c.args._kept.now c.requires.keeper.1 c.set_key.ensures.holdings);
}
