use Rattle.std.proofs.Common.{◌∙◌}
use Rattle.mc_words.specs.hand.Arenas.{view}
use Rattle.mc_words.specs.hand.Observers.{hand_number}
use Rattle.mc_items.specs.ItemRefs.{item_chunk}
use Rattle.mc_shard.proofs.Slabs.{bumped_once, released_leaves}
use Rattle.mc_shard.proofs.gets.let_go.Goals as goal

pub returns-then-touches-clause-once : goal.returns-then-touches-clause-once
returns-then-touches-clause-once g c = λ is.
    released_leaves (item_chunk c.args.item) (view c.bump.new.hand) (view c.release.new.hand) c.release.ensures.dropped
    ∙ bumped_once (hand_number c.args.hand.now) (item_chunk c.args.item) (view c.args.hand.now) (view c.bump.new.hand) c.bump.ensures.bumps
