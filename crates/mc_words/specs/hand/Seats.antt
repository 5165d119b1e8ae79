-- What is known of a hand that lies in a struct between calls: propositions only, as a fact of a struct is.
use Rattle.std.specs.Prelude.{◌≡◌, None}
use Rattle.mc_words.specs.declared.arena.Arena.{Arena}
use Rattle.mc_words.specs.declared.hand.Hand.{Hand}
use Rattle.mc_words.specs.hand.Arenas.{IsHandOf, setup_of, view}

-- the hand uses the arena's table, and knows what it was made of: what is left of `IsHandOf` without a moment
pub record IsSeatedAt (arena : Arena) (hand : Hand) : Type 0 where
  pub same_table : hand.seat.table_id ≡ arena.table.shared.table_id
  pub setup : (view hand).setup ≡ setup_of arena
  pub told : (view hand).made_of ≡ None

-- each hand of an arena sits at its table
abbrev pub HandsAreSeated : Type 0
HandsAreSeated = (arena : Arena) (hand : Hand) → IsHandOf arena hand → IsSeatedAt arena hand
