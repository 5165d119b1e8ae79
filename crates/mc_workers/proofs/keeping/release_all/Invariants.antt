use Rattle.std.proofs.Common.{◌≡◌, vec_len}
use Rattle.mc_words.specs.hand.Arenas.{view}
use Rattle.mc_words.specs.hand.Ready.{StaysReady}
use Rattle.mc_items.specs.ItemRefs.{RefersToEach}
use Rattle.mc_workers.specs.Lines.{all_released}
use Rattle.mc_workers.proofs.keeping.release_all.Given as goal

-- what is still kept, and that what was given back were the last ones
abbrev pub invariant-loop-item : goal.invariant-loop-item
invariant-loop-item l = record {
  hand : StaysReady l.arena l.initial.hand l.hand;
  kept : RefersToEach (view l.hand) l.kept.items;
  released : all_released l.initial.kept.items (view l.initial.hand) ≡ all_released l.kept.items (view l.hand);
}

abbrev pub decreases-loop-item : goal.decreases-loop-item
decreases-loop-item l = vec_len l.kept
