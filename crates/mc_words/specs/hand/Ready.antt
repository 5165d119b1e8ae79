-- Hands that may make any call on items and pages, and what such a call leaves of its hand.
use Rattle.std.specs.Prelude.{◌≡◌, ◌≤◌, true, false, length}
use Rattle.mc_classes.specs.Limits.{most_refs}
use Rattle.mc_core.specs.model.Holdings.{has_fresh}
use Rattle.mc_words.specs.declared.arena.Arena.{Arena}
use Rattle.mc_words.specs.declared.hand.Hand.{Hand}
use Rattle.mc_words.specs.hand.Arenas.{IsHandOf, view}
use Rattle.mc_words.specs.hand.Idle.{is_unlocked}
use Rattle.mc_words.specs.hand.Observers.{hand_number, locks_of}
use Rattle.mc_words.specs.hand.View.{View}

-- the hand has no lock, fills no chunk, and holds few enough chunks for one more under a lock
pub record IsReady (view : View) : Type 0 where
  pub unlocked : is_unlocked view ≡ true
  pub unfilled : has_fresh view.row.holdings ≡ false
  pub within_limit : length view.row.holdings ≤ most_refs

-- the hand is one of the arena's, and may make any call
abbrev pub IsReadyHandOf : Arena → Hand → Type 0
IsReadyHandOf arena hand = IsHandOf arena hand × IsReady (view hand)

-- the hand is one of the arena's still, may make any call, and has the locks and the number that it had
pub record StaysReady (of : Arena) (before now : Hand) : Type 0 where
  pub arena : IsHandOf of now
  pub ready : IsReady (view now)
  pub locks : locks_of now ≡ locks_of before
  pub number : hand_number now ≡ hand_number before
