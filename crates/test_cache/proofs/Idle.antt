-- A new hand holds nothing.
use Rattle.std.proofs.Common.{ℕ, ap}
use Rattle.mc_words.specs.declared.arena.Arena.{Arena}
use Rattle.mc_words.specs.declared.hand.Hand.{Hand}
use Rattle.mc_words.specs.hand.Hands.{IsNewHand}
use Rattle.mc_words.specs.hand.View.{View}
use Rattle.mc_shard.specs.Hands.{IsIdleHandOf}

pub idle : (arena : Arena) (number : ℕ) (hand : Hand) → IsNewHand arena number hand → IsIdleHandOf arena hand
idle arena number hand new = record { of_arena = new.of_arena; ready = new.ready; none = ap (λ (v : View). v.row.holdings) new.new }
