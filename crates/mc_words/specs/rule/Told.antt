-- What a step on the table shows the hand that makes it.
use Rattle.std.specs.Prelude.{◌≡◌, ◌≢◌, ℕ, [], ◌∷◌}
use Rattle.atomic_table.specs.Table as table
use Rattle.mc_core.specs.declared.event.Change.{Change}
use Rattle.mc_core.specs.declared.event.Step.{Step}
use Rattle.mc_words.specs.declared.lock.slot.Slot.{Slot}
use Rattle.mc_words.specs.hand.View.{View}
use Rattle.mc_words.specs.rule.Happens.{LawfulView, Happens, HappensAt, IsSameHand}

-- what a hand knows, and the values that are out with it, each with its lock
abbrev pub Sits : Type 0
Sits = table.Me Slot View

-- a step on the table: the word that it is on, its two operands, and the value that it announces, if it announces one
abbrev pub At : Type 0
At = table.Step Slot

-- no value came or went, and the view is of the same hand, and of a lawful moment
abbrev pub StaysOut : Sits → Sits → Type 0
StaysOut me now = (now.1 ≡ me.1) × IsSameHand me.0 now.0 × LawfulView now.0

-- the step on the table was this event, and found this word
abbrev pub HappensFinding : Step → At → Sits → ℕ → Sits → Type 0
HappensFinding step at me found now = StaysOut me now × HappensAt at.word found me.0 [] step now.0

-- the step on the table was this event
abbrev pub HappensAs : Step → At → Sits → ℕ → Sits → Type 0
HappensAs step at me written now = StaysOut me now × Happens me.0 [] step now.0

-- the step on the table was the first event where it found its word as expected, and else the second, which looks at the word
abbrev pub HappensAsExchange : Step → Step → At → Sits → ℕ → Sits → Type 0
HappensAsExchange step look at me found now =
    StaysOut me now × (found ≡ at.first → HappensAt at.word found me.0 [] step now.0) × (found ≢ at.first → HappensAt at.word found me.0 [] look now.0)

-- the step on the table was this event, before which the change was made
abbrev pub HappensAfterChange : Change → Step → Sits → Sits → Type 0
HappensAfterChange change step me now = StaysOut me now × Happens me.0 (change ∷ []) step now.0
