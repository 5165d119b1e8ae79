use Rattle.std.proofs.Common.{◌≡◌, drop, vec_len}
use Rattle.mc_pages.specs.Base.{pages_after_entries}
use Rattle.mc_pages.proofs.recorded.apply.Given as goal

-- the pages are as many, and the entries that are left make of the pages so far what all make of them
abbrev pub invariant-loop-entry : goal.invariant-loop-entry
invariant-loop-entry l =
    (pages_after_entries l.pages.items (drop l.entry-index l.entries) ≡ pages_after_entries l.initial.pages.items l.entries)
    × (vec_len l.pages ≡ vec_len l.initial.pages)
