use Rattle.std.proofs.Common.{◌≡◌, ◌+◌, ◌-◌, ◌*◌, ◌≤◌}
use Rattle.mc_cache.specs.Bytes.{class_count, classes_from}
use Rattle.mc_cache.proofs.bytes.class_count.Given as goal

-- so many classes are counted, and the others come from this raw size, which is small enough for the product
abbrev pub invariant-loop-count : goal.invariant-loop-count
invariant-loop-count l =
    record {
      small : l.raw ≤ 16384 * 65535;
      some : 1 ≤ l.count;
      within_limit : l.count ≤ 63;
      counted : class_count l.config ≡ classes_from (63 - l.count) l.config l.raw + (l.count - 1);
    }

abbrev pub decreases-loop-count : goal.decreases-loop-count
decreases-loop-count l = 63 - l.count
