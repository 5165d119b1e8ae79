-- The automover's mode, set under the slabs lock.
use Rattle.std.specs.Prelude.{◌≡◌, ℕ}
use Rattle.mc_core.specs.declared.event.Change.TheVariants as change
use Rattle.mc_words.specs.lock.Doing.{SlabsDoing}
use Rattle.mc_words.specs.page.Moves.{ChangesOnce}

-- the automover's mode was set, and nothing else
abbrev pub SetsMode : ℕ → ℕ → SlabsDoing
SetsMode number mode view slabs now left = ChangesOnce number (change.SetAutomove mode) view slabs now × (left ≡ record slabs { automove = mode })
