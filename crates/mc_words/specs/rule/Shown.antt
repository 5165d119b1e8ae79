-- Loads that are no events.
use Rattle.std.specs.Prelude.{◌≡◌, ℕ, slice_index}
use Rattle.mc_words.specs.hand.View.{View}
use Rattle.mc_words.specs.rule.Happens.{LawfulView}
use Rattle.mc_words.specs.rule.Told.{Sits, At}

-- in a lawful moment in which a hand knew this view, this word was at this place
abbrev pub IsShown : ℕ → ℕ → View → Type 0
IsShown place word view = (was : LawfulView view) × (slice_index was.words place ≡ word)

-- the step changed nothing, and found this word
abbrev pub ShowsWord : At → Sits → ℕ → Sits → Type 0
ShowsWord at me found now = (now ≡ me) × IsShown at.word found me.0
