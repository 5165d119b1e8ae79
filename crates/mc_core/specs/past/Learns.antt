-- What hands know changes row by row: a hand's knowledge after a step follows from what it knew and from the step alone.
use Rattle.std.specs.Prelude.{◌≡◌, ◌≢◌, ℕ, [], ◌++◌}
use Rattle.mc_core.specs.declared.event.Change.{Change}
use Rattle.mc_core.specs.declared.event.Step.{Step}
use Rattle.mc_core.specs.declared.event.Step.TheVariants.{Join}
use Rattle.mc_core.specs.past.Past.{Moment, Knowledge, no_hold, longer_each, knowledge_at, knowledge_after, own_calls_after, moment_changed, moment_stepped}
use Rattle.mc_core.specs.law.Laws.{MayChange, MayStep}

-- the knowledge of the first of two hands, after it took the second over
abbrev pub both_know : Knowledge → Knowledge → Knowledge
both_know a b = record a { mine = a.mine ++ b.mine; seen = longer_each a.seen b.seen; stored = a.stored ++ b.stored; known = a.known ++ b.known }

-- the knowledge of a hand that is gone
abbrev pub knows_nothing : Knowledge
knows_nothing = record { seen_words = []; hold = no_hold; mine = []; seen = []; stored = []; known = [] }

-- a change adds to the hand's own calls alone, a step adds what it teaches, and a join gives one hand the knowledge of both
pub record AreLearned : Type 0 where
  pub changes : (moment : Moment) (hand : ℕ) (change : Change) → MayChange moment hand change →
      let now = moment_changed moment hand change in
      let knew = knowledge_at moment.past hand in
      knowledge_at now.past hand ≡ record knew { mine = own_calls_after moment.state now.state hand knew.mine }
  pub steps : (moment : Moment) (hand : ℕ) (step : Step) → MayStep moment hand step → ((kept spent : ℕ) → step ≢ Join kept spent) →
      let now = moment_stepped moment hand step in
      knowledge_at now.past hand ≡ knowledge_after moment.state now.state hand step (knowledge_at moment.past hand)
  pub joins : (moment : Moment) (kept spent : ℕ) → MayStep moment kept (Join kept spent) →
      let now = moment_stepped moment kept (Join kept spent) in
      (knowledge_at now.past kept ≡ both_know (knowledge_at moment.past kept) (knowledge_at moment.past spent)) × (knowledge_at now.past spent ≡ knows_nothing)
