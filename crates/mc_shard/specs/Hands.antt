-- Hands between two calls, and what hands of the arena stored.
use Rattle.std.specs.Prelude.{◌≡◌, ℕ, List, [], ◌∷◌, replicate}
use Rattle.mc_core.specs.past.Past.{StoredItem}
use Rattle.mc_words.specs.declared.arena.Arena.{Arena}
use Rattle.mc_words.specs.declared.hand.Hand.{Hand}
use Rattle.mc_words.specs.hand.Arenas.{IsHandOf, view}
use Rattle.mc_words.specs.rule.Happens.{LawfulView}
use Rattle.mc_words.specs.hand.Ready.{IsReady}
use Rattle.mc_words.specs.hand.View.{Setup, View}
use Rattle.mc_items.specs.Keeping.{WordsWereStored}

-- the hand is one of the arena's, may make any call, and holds nothing
pub record IsIdleHandOf (arena : Arena) (hand : Hand) : Type 0 where
  pub of_arena : IsHandOf arena hand
  pub ready : IsReady (view hand)
  pub none : (view hand).row.holdings ≡ []

-- the hand stored no words yet, and made no call on a key
pub record IsUnused (view : View) : Type 0 where
  pub stored : view.row.knows.stored ≡ []
  pub number : ℕ
  pub calls : view.row.knows.mine ≡ record { number = number; calls = replicate view.setup.config.stripes [] } ∷ []

-- the hand is an idle one of the arena's, which stored no words yet, and made no call on a key
pub record IsUnusedHandOf (arena : Arena) (hand : Hand) : Type 0 where
  pub idle : IsIdleHandOf arena hand
  pub unused : IsUnused (view hand)

-- the words that the hand stored so far, with their stamps
abbrev pub items_stored_by : Hand → List StoredItem
items_stored_by hand = (view hand).row.knows.stored

-- a hand that had stored this much saw, in a lawful moment of such an arena, that these words were stored with the stamp
pub record WereStored (setup : Setup) (own : List StoredItem) (stamp : ℕ) (words : List ℕ) : Type 0 where
  pub seen : View
  pub setup_is : seen.setup ≡ setup
  pub lawful : LawfulView seen
  pub own_is : seen.row.knows.stored ≡ own
  pub stored : WordsWereStored seen stamp words
