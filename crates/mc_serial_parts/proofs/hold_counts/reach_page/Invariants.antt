use Rattle.std.proofs.Common.{◌+◌, ◌-◌, length}
use Rattle.mc_serial_parts.specs.CountsByPlace.{counts_by_page, CountAlike}
use Rattle.mc_serial_parts.proofs.hold_counts.reach_page.Given as goal

abbrev pub invariant-loop-alloc : goal.invariant-loop-alloc
invariant-loop-alloc l = CountAlike (counts_by_page l.initial.pages.items) (counts_by_page l.pages.items)

abbrev pub decreases-loop-alloc : goal.decreases-loop-alloc
decreases-loop-alloc l = l.page + 1 - length l.pages.items
