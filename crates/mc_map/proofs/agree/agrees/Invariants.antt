use Rattle.std.proofs.Common.{◌≡◌, ℕ, ◌≤◌, length}
use Rattle.std.specs.Prelude.{count_by}
use Rattle.mc_pages.specs.Accounted.{is_of_class}
use Rattle.mc_pages.specs.SlabState.{class_at}
use Rattle.mc_map.proofs.agree.agrees.Given as goal

-- the classes so far have as many of the pages as the keeper says
abbrev pub invariant-loop-place : goal.invariant-loop-place
invariant-loop-place l = (class : ℕ) → 1 ≤ class → class ≤ l.place → count_by (is_of_class class) l.owners ≡ length (class_at l.keeper.slabs class).pages
