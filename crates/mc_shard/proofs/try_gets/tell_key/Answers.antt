use Rattle.mc_words.specs.hand.Arenas.{view}
use Rattle.mc_items.specs.ItemRefs.{item_chunk}
use Rattle.mc_shard.proofs.Slabs.{released_leaves, still_left}
use Rattle.mc_shard.proofs.Recorded.{released_records, still_none}
use Rattle.mc_shard.proofs.try_gets.tell_key.Goals as goal

pub returns-clause-slabs : goal.returns-clause-slabs
returns-clause-slabs c =
    still_left (view c.args.hand.now) (view c.is_of-own.new.hand) (view c.release.new.hand) c.is_of-own.ensures.reads.slabs
    (released_leaves (item_chunk c.args.item) (view c.is_of-own.new.hand) (view c.release.new.hand) c.release.ensures.dropped)

pub returns-clause-calls : goal.returns-clause-calls
returns-clause-calls c =
    still_none (view c.args.hand.now) (view c.is_of-own.new.hand) (view c.release.new.hand) c.is_of-own.ensures.reads.calls
    (released_records (item_chunk c.args.item) (view c.is_of-own.new.hand) (view c.release.new.hand) c.release.ensures.dropped)
