use Rattle.std.proofs.Common.{ℕ, ◌*◌, ◌-◌, ◌≤◌, List, length, vec_capacity}
use Rattle.mc_classes.proofs.Begun.{IsBegun}
use Rattle.mc_classes.proofs.table.sizes_of.Given as goal

-- the raw size is small enough for the product, and the classes so far come from raw sizes that lead to it
abbrev pub invariant-loop-size : goal.invariant-loop-size
invariant-loop-size l =
    record {
      small : l.raw ≤ 16384 * 65535;
      room : 63 ≤ vec_capacity l.sizes;
      within_limit : length l.sizes.items ≤ 62;
      begun : (raws : List ℕ) × IsBegun l.config raws l.sizes.items l.raw;
    }

abbrev pub decreases-loop-size : goal.decreases-loop-size
decreases-loop-size l = 62 - length l.sizes.items
