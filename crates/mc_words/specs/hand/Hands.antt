-- The hands of a new arena.
use Rattle.std.specs.Prelude.{◌≡◌, ℕ, ◌+◌, List, [], ◌∷◌, length, ⊤}
use Rattle.mc_classes.specs.declared.config.Config.{Config}
use Rattle.mc_classes.specs.Classes.{IsTableOf}
use Rattle.mc_words.specs.declared.arena.Arena.{Arena}
use Rattle.mc_words.specs.declared.hand.Hand.{Hand}
use Rattle.mc_words.specs.hand.View.{Setup, new_view}
use Rattle.mc_words.specs.hand.Arenas.{IsHandOf, setup_of, view}
use Rattle.mc_words.specs.hand.Ready.{IsReady}

-- the setup is of an arena with this configuration, its classes, n hands, and this issue number at first
pub record IsMadeWith (config : Config) (hands start : ℕ) (setup : Setup) : Type 0 where
  pub config_is : setup.config ≡ config
  pub table : IsTableOf config setup.table
  pub hands_are : setup.hands ≡ hands
  pub start_is : setup.start ≡ start

-- a hand of the arena, of this number, that did nothing yet and may make any call
pub record IsNewHand (arena : Arena) (number : ℕ) (hand : Hand) : Type 0 where
  pub of_arena : IsHandOf arena hand
  pub new : view hand ≡ new_view (setup_of arena) number 0
  pub ready : IsReady (view hand)

-- the list has new hands of the arena, numbered on from this number
abbrev pub AreHandsFrom : Arena → ℕ → List Hand → Type 0
AreHandsFrom arena number [] = ⊤
AreHandsFrom arena number (hand ∷ hands) = IsNewHand arena number hand × AreHandsFrom arena (1 + number) hands

-- all hands of a new arena, numbered from 0
abbrev pub AreNewHands : Arena → List Hand → Type 0
AreNewHands arena hands = (length hands ≡ (setup_of arena).hands) × AreHandsFrom arena 0 hands
