use Rattle.std.proofs.Common.{◌≡◌, ℕ, ◌+◌, ◌≤◌, ◌∷◌, List, true, Some, IfSome, length}
use Rattle.mc_core.specs.model.Looks.{was_linked}
use Rattle.mc_words.specs.hand.Arenas.{IsHandOf, view}
use Rattle.mc_words.specs.item.Removal.{key_read}
use Rattle.mc_words.specs.item.Fresh.{IsFreshOf}
use Rattle.mc_mover.specs.Copying.{words_copied}
use Rattle.mc_mover.proofs.copying.copy_item.Given as goal

abbrev pub invariant-loop-place : goal.invariant-loop-place
invariant-loop-place l =
    IsHandOf l.arena l.hand × (l.hand.locks ≡ l.fn.hand.locks) × ((view l.hand).slabs ≡ Some l.held.shared) × (was_linked (view l.hand).row.looks l.chunk ≡ true)
    × (l.fresh.chunk ≡ l.fn.fresh.chunk) × (l.fresh.room ≡ l.fn.fresh.room) × IsFreshOf (view l.hand) l.fresh.chunk l.fresh.room
    × (3 + l.words ≤ l.fn.fresh.room) × (l.place ≤ 3 + l.words) × IfSome (key_read (view l.fn.hand) l.chunk) (λ before. l.fresh.key ≡ before)
    × ((words : List ℕ) × (l.place ≡ 3 + length words) × (view l.hand ≡ words_copied l.chunk l.fn.fresh.chunk 0 (l.fresh.key ∷ l.fresh.stamp ∷ l.words ∷ words) (view l.fn.hand)))
