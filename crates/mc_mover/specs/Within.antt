-- Calls that try for the slabs lock n times and then give up.
use Rattle.std.specs.Prelude.{◌<◌, ⊤, ℕ, length}
use Rattle.mc_words.specs.hand.View.{View}
use Rattle.mc_words.specs.lock.Doing.{HoldsSlabs, SlabsDoing}

-- anything is done under the slabs lock
abbrev pub DoesAnything : SlabsDoing
DoesAnything view slabs now left = ⊤

-- the hand took the slabs lock at one of this many tries, and gave the lock back
pub record HoldsSlabsWithin (tries : ℕ) (view now : View) : Type 0 where
  pub holds : HoldsSlabs DoesAnything view now
  pub within_limit : length holds.waits.words < tries
