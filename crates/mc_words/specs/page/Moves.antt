-- Moves that begin: what is done under the lock of the slabs.
use Rattle.std.specs.Prelude.{◌≡◌, ℕ, ◌+◌, [], ◌∷◌, Option, Result, Ok, Err}
use Rattle.mc_pages.specs.declared.moves.Reassign.{Reassign}
use Rattle.mc_pages.specs.Answer.{MayAnswer, answer_of}
use Rattle.mc_pages.specs.Moves.{after_begin}
use Rattle.mc_pages.specs.SlabState.{SlabState}
use Rattle.mc_core.specs.declared.event.Change.{Change}
use Rattle.mc_core.specs.declared.event.Change.TheVariants as change
use Rattle.mc_core.specs.declared.event.Step.TheVariants as step
use Rattle.mc_words.specs.hand.View.{View}
use Rattle.mc_words.specs.lock.Doing.{SlabsDoing}
use Rattle.mc_words.specs.rule.Happens.{Happens}
use Rattle.mc_words.specs.hand.Views.{slabs_changed}

-- the hand of this number made this change of pages and lists, and recorded it by a look at the word of their lock
abbrev pub ChangesOnce : ℕ → Change → View → SlabState → View → Type 0
ChangesOnce number change view slabs now = Happens view (change ∷ []) step.MissSlabs now × (now ≡ slabs_changed slabs change (number + 1) view)

-- the first page of the class that is the answer began to move to the destination
pub record BeginsMove (number : ℕ) (src : Option ℕ) (dst : ℕ) (view : View) (slabs : SlabState) (now : View) (left : SlabState) : Type 0 where
  pub source : ℕ
  pub answer : answer_of slabs src dst ≡ Ok source
  pub changes : ChangesOnce number (change.BeginMove src dst) view slabs now
  pub left_is : left ≡ after_begin slabs src source dst

-- what is done by the call's answer: a move begins; or it is refused, and nothing is changed
abbrev pub Reassigns : ℕ → Option ℕ → ℕ → Result (Unit {0}) Reassign → SlabsDoing
Reassigns number src dst (Ok done) view slabs now left = BeginsMove number src dst view slabs now left
Reassigns number src dst (Err refusal) view slabs now left = MayAnswer (answer_of slabs src dst) (Err refusal) × (now ≡ view) × (left ≡ slabs)
