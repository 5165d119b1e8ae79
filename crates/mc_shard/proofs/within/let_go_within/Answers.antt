use Rattle.std.proofs.Common.{◌∙◌}
use Rattle.mc_words.specs.hand.Arenas.{view}
use Rattle.mc_words.specs.hand.Observers.{hand_number}
use Rattle.mc_items.specs.ItemRefs.{item_chunk}
use Rattle.mc_shard.proofs.Idle.{none_left}
use Rattle.mc_shard.proofs.Slabs.{bumped_once, released_leaves, slabs_missed_leaves, still_left}
use Rattle.mc_shard.proofs.within.let_go_within.Goals as goal

pub returns-in-Ok-clause-once : goal.returns-in-Ok-clause-once
returns-in-Ok-clause-once c =
    released_leaves (item_chunk c.args.item) (view c.bump_within.new.hand) (view c.release.new.hand) c.release.ensures.dropped
    ∙ bumped_once (hand_number c.args.hand.now) (item_chunk c.args.item) (view c.args.hand.now) (view c.bump_within.new.hand) c.in-Ok.ensures.bumps

pub returns-in-Ok-clause-idle : goal.returns-in-Ok-clause-idle
returns-in-Ok-clause-idle c = record {
  of_arena = c.release.ensures.hand.arena;
  ready = c.release.ensures.hand.ready;
  none = none_left (view c.args.hand.now) (view c.bump_within.new.hand) (view c.release.new.hand) c.args.item c.requires.alone c.bump_within.ensures.holdings.same c.release.ensures.holdings;
}

pub returns-in-Err-clause-slabs : goal.returns-in-Err-clause-slabs
returns-in-Err-clause-slabs c =
    still_left (view c.args.hand.now) (view c.bump_within.new.hand) (view c.release-in-Err.new.hand) (slabs_missed_leaves c.args.tries (view c.args.hand.now) (view c.bump_within.new.hand) c.in-Err.ensures.held)
    (released_leaves (item_chunk c.args.item) (view c.bump_within.new.hand) (view c.release-in-Err.new.hand) c.release-in-Err.ensures.dropped)

pub returns-in-Err-clause-idle : goal.returns-in-Err-clause-idle
returns-in-Err-clause-idle c = record {
  of_arena = c.release-in-Err.ensures.hand.arena;
  ready = c.release-in-Err.ensures.hand.ready;
  none = none_left (view c.args.hand.now) (view c.bump_within.new.hand) (view c.release-in-Err.new.hand) c.args.item c.requires.alone c.bump_within.ensures.holdings.same c.release-in-Err.ensures.holdings;
}
