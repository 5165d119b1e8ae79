-- Hands that are kept in a list, of which the first leaves; and stripes with nothing aside.
use Rattle.std.proofs.Common.{◌≡◌, ℕ, ◌+◌, ◌==◌, false, List, [], ◌∷◌, Option, None, ap}
use Rattle.std.specs.List.{AllByRecursion}
use Rattle.std.proofs.lemmas.List.Elements.{All-from_recursion}
use Rattle.std.specs.Option.{option_map, option_map_or}
use Rattle.mc_pages.specs.declared.ids.ChunkId.{ChunkId}
use Rattle.mc_stripe.specs.StripeState.{StripeState}
use Rattle.mc_core.specs.run.Silent.{is_aside}
use Rattle.mc_words.specs.declared.arena.Arena.{Arena}
use Rattle.mc_words.specs.declared.hand.Hand.{Hand}
use Rattle.mc_words.specs.hand.Arenas.{IsHandOf}
use Rattle.mc_words.specs.hand.Hands.{AreHandsFrom, AreNewHands}
use Rattle.test_arena.specs.Hands.{AreHandsOf}

hands_from : (arena : Arena) (number : ℕ) (hands : List Hand) → AreHandsFrom arena number hands → AllByRecursion (IsHandOf arena) hands
hands_from arena number [] are = record {}
hands_from arena number (hand ∷ hands) are = (are.0.of_arena, hands_from arena (1 + number) hands are.1)

pub all_hands : (arena : Arena) (hands : List Hand) → AreNewHands arena hands → AreHandsOf arena hands
all_hands arena hands are = All-from_recursion (IsHandOf arena) hands (hands_from arena 0 hands are.1)

pub not_aside : (stripe : StripeState) (key : ℕ) → stripe.aside ≡ None → is_aside stripe key ≡ false
not_aside stripe key none = ap (λ (o : Option (ℕ × (ChunkId × ℕ))). option_map_or (λ other. other == key) (option_map (λ entry. entry.0) o) false) none
