-- Calls on bytes that try for each lock n times, and what is left where each try missed.
use Rattle.std.specs.Prelude.{◌≡◌, ◌⊎◌, ℕ, List}
use Rattle.mc_words.specs.hand.Arenas.{view}
use Rattle.mc_words.specs.lock.Wait.{MissesSlabsEachTime}
use Rattle.mc_items.specs.declared.within.SetWithinError.{SetWithinError}
use Rattle.mc_items.specs.declared.within.SetWithinError.TheVariants.{Refused, Held}
use Rattle.mc_items.specs.declared.comparing.Expected.{Expected}
use Rattle.mc_items.specs.declared.within.comparing.CompareWithinError.{CompareWithinError}
use Rattle.mc_items.specs.declared.within.comparing.CompareWithinError.TheVariants as compare
use Rattle.mc_items.specs.declared.setting.SetError.TheVariants.{NoRoom}
use Rattle.mc_shard.specs.Setting.{AsksForItem, DiffersBehindRoom, FindsClassFull, LacksRoom, MakesRoomFor, RefusesBytes}
use Rattle.mc_words.specs.declared.hand.Hand.{Hand}
use Rattle.mc_words.specs.hand.View.{Setup}
use Rattle.mc_items.specs.Within.{MissesKeyEachTime, RefusesWithin}
use Rattle.mc_shard.specs.Finding.{FindsKey, TriesHint}

-- the hand perhaps tried a hint in vain, and then each try for the lock of the hash's stripe missed
pub record MissesLock (setup : Setup) (tries hash : ℕ) (before now : Hand) : Type 0 where
  pub tried : Hand
  pub hint : TriesHint hash before tried
  pub missed : MissesKeyEachTime setup tries hash tried now

-- the key was found, and then each try for the lock of the hash's stripe missed, so nothing was deleted
pub record LeavesKey (setup : Setup) (tries hash : ℕ) (key : List ℕ) (before now : Hand) : Type 0 where
  pub finds : FindsKey setup hash key before
  pub between : Hand
  pub missed : MissesKeyEachTime setup tries hash between now

-- each try of a delete for the lock of the hash's stripe missed: at the look, or behind it
abbrev pub MissesDelete : Setup → ℕ → ℕ → List ℕ → Hand → Hand → Type 0
MissesDelete setup tries hash key before now = MissesLock setup tries hash before now ⊎ LeavesKey setup tries hash key before now

-- each try of a touch for the lock of the hash's stripe missed; or the key was found, each try for the slabs lock missed, and it wasn't touched
abbrev pub MissesKeyTouch : Setup → ℕ → ℕ → List ℕ → Hand → Hand → Type 0
MissesKeyTouch setup tries hash key before now = MissesLock setup tries hash before now ⊎ FindsKey setup hash key before

-- room was made in the class of these words, and then each try for a lock of the set missed
pub record MissesBehindRoom (number tries hash : ℕ) (words : List ℕ) (before now : Hand) : Type 0 where
  pub between : Hand
  pub makes : MakesRoomFor words before between
  pub misses : RefusesWithin number tries hash words Held (view between) (view now)

-- why a set of these words within this many tries was refused: as a set that waits; or each try for the slabs lock missed as room was wanted;
-- or one for a lock of the set behind it
abbrev pub RefusesBytesWithin : ℕ → ℕ → ℕ → List ℕ → SetWithinError → Hand → Hand → Type 0
RefusesBytesWithin number tries hash words (Refused error) before now = RefusesBytes number hash words error before now
RefusesBytesWithin number tries hash words Held before now = MissesSlabsEachTime tries (view before) (view now) ⊎ MissesBehindRoom number tries hash words before now

-- why a set that expects something got no room within this many tries: as one that waits, or each try for the slabs lock missed
abbrev pub LacksRoomWithin : Expected → ℕ → List ℕ → SetWithinError → Hand → Hand → Type 0
LacksRoomWithin expected tries words (Refused error) before now = LacksRoom expected words error before now
LacksRoomWithin expected tries words Held before now = MissesSlabsEachTime tries (view before) (view now)

-- why a set that expects something was refused within this many tries: as a set within them; where it expects an item, by a class with no
-- other room; or by what the hash had
abbrev pub RefusesCompareBytesWithin : Expected → ℕ → ℕ → ℕ → List ℕ → CompareWithinError → Hand → Hand → Type 0
RefusesCompareBytesWithin expected number tries hash words (compare.Refused error) before now =
    RefusesBytesWithin number tries hash words error before now ⊎ ((error ≡ Refused NoRoom) × AsksForItem expected × FindsClassFull words before now)
RefusesCompareBytesWithin expected number tries hash words (compare.Differs found) before now = DiffersBehindRoom expected found number hash words before now
