-- Hands that keep references, and hints of items that they knew.
use Rattle.std.specs.Prelude.{◌≡◌, ℕ, List, true, All, Option, IfSome}
use Rattle.mc_core.specs.model.State.{has_chunk}
use Rattle.mc_words.specs.declared.arena.Arena.{Arena}
use Rattle.mc_words.specs.declared.hand.Hand.{Hand}
use Rattle.mc_words.specs.declared.item.refs.Hint.{Hint}
use Rattle.mc_words.specs.hand.Arenas.{setup_of, view}
use Rattle.mc_words.specs.hand.Observers.{hint_chunk}
use Rattle.mc_items.specs.declared.refs.Ref.{Ref}
use Rattle.mc_items.specs.ItemRefs.{RefersToEach}
use Rattle.mc_words.specs.hand.Ready.{IsReadyHandOf}

-- the hand may make any call, and keeps these references and no others
abbrev pub IsKeeperOf : Arena → Hand → List Ref → Type 0
IsKeeperOf arena hand kept = IsReadyHandOf arena hand × RefersToEach (view hand) kept

-- the hint is of one of the arena's chunks
abbrev pub IsNear : Arena → Hint → Type 0
IsNear arena hint = has_chunk (setup_of arena).table (hint_chunk hint) ≡ true

-- each of these hints that is there is of one of the arena's chunks; beside each is the stamp of its item
abbrev pub AreNear : Arena → List (Option (Hint × ℕ)) → Type 0
AreNear arena hints = All (λ hint. IfSome hint (λ note. IsNear arena note.0)) hints
