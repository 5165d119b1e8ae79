use Rattle.std.proofs.Common.{ℕ, ◌+◌, ◌*◌, ◌<◌, ◌≤◌}
use Rattle.std.specs.Prelude.{slice_index}
use Rattle.mc_classes.specs.Classes.{per_page_of}
use Rattle.test_base.proofs.tests.statistics.assert_counts.Given as goal

-- the classes so far have few pages, and no more free chunks than these have
abbrev pub invariant-loop-place : goal.invariant-loop-place
invariant-loop-place g l = record {
  within_limit : (k : ℕ) → k < l.place → slice_index l.pages k ≤ 127;
  within : (k : ℕ) → k < l.place → slice_index l.free k ≤ slice_index l.pages k * per_page_of l.table (k + 1);
}
