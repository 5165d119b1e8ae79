use Rattle.std.proofs.Common.{◌≡◌, ◌++◌, length, take, drop, false}
use Rattle.mc_watch.specs.Remembered.{all_noted, remembered_has_fallen}
use Rattle.mc_watch.proofs.watched.note_all.Given as goal

-- the classes so far are noted, and those that are left can be
abbrev pub invariant-loop-place : goal.invariant-loop-place
invariant-loop-place l = record {
  same_count : length l.classes ≡ length l.initial.classes;
  noted : take l.place l.classes ++ all_noted (drop l.place l.classes) (drop l.place l.evictions) (drop l.place l.pages) (drop l.place l.free)
      ≡ all_noted l.initial.classes l.evictions l.pages l.free;
  risen : remembered_has_fallen (drop l.place l.classes) (drop l.place l.evictions) ≡ false;
}
