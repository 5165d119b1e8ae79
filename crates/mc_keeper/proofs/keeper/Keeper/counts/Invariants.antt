use Rattle.std.proofs.Common.{◌≡◌, take}
use Rattle.mc_serial_spec.specs.Automove.{eviction_counts, free_counts, class_page_counts}
use Rattle.mc_keeper.proofs.keeper.Keeper.counts.Given as goal

-- the numbers of the classes below
abbrev pub invariant-loop-place : goal.invariant-loop-place
invariant-loop-place l =
    (l.evictions.items ≡ take l.place (eviction_counts l.self.slabs))
    × (l.pages.items ≡ take l.place (class_page_counts l.self.slabs))
    × (l.free.items ≡ take l.place (free_counts l.self.slabs))
