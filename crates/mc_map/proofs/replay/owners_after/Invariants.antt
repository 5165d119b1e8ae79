use Rattle.std.proofs.Common.{◌≡◌, drop}
use Rattle.mc_pages.specs.Ledger.{all_untouched, replay}
use Rattle.mc_map.proofs.replay.owners_after.Given as goal

-- the entries that are left make of the owners so far what all make of untouched pages
abbrev pub invariant-loop-entry : goal.invariant-loop-entry
invariant-loop-entry l = replay l.owners.items (drop l.entry-index l.entries) ≡ replay (all_untouched l.pages) l.entries
