-- The promise at the end of an arena.
use Rattle.mc_words.specs.Headline.{HeadlineOf}
use Rattle.mc_words.specs.hand.View.{View}
use Rattle.mc_words.specs.rule.End.{Closes, ArenaEnd}

-- a hand closed the arena, this is left of it, and the promise holds of the arena's last moment
pub record EndsWithPromise (left : ArenaEnd) : Type 0 where
  pub view : View
  pub closes : Closes view left
  pub promise : HeadlineOf view closes.was
