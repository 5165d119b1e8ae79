use Rattle.std.proofs.Common.{◌≡◌, ◌∷◌, length, take}
use Rattle.mc_words.specs.hand.Arenas.{IsHandOf, view}
use Rattle.mc_words.specs.item.Fresh.{IsFreshOf}
use Rattle.mc_items.specs.Storing.{item_filled}
use Rattle.mc_items.proofs.filling.fill_item.Given as goal

abbrev pub invariant-loop-place : goal.invariant-loop-place
invariant-loop-place l =
    IsHandOf l.arena l.hand × (l.hand.locks ≡ l.fn.hand.locks) × (l.fresh.chunk ≡ l.fn.fresh.chunk) × (l.fresh.room ≡ l.fn.fresh.room) × (l.fresh.key ≡ l.key) × (l.fresh.stamp ≡ l.stamp)
    × IsFreshOf (view l.hand) l.fresh.chunk l.fresh.room × (view l.hand ≡ item_filled l.fn.fresh.chunk (l.key ∷ l.stamp ∷ length l.words ∷ take l.place l.words) (view l.fn.hand))
