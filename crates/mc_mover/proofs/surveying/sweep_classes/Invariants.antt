use Rattle.std.proofs.Common.{◌≡◌, Some}
use Rattle.std.specs.List.{range_with_len}
use Rattle.mc_words.specs.hand.Arenas.{IsHandOf, view}
use Rattle.mc_mover.specs.Surveying.{SweepsClasses}
use Rattle.mc_mover.proofs.surveying.sweep_classes.Given as goal

-- the classes so far are swept
abbrev pub invariant-loop-place : goal.invariant-loop-place
invariant-loop-place l = record {
  arena : IsHandOf l.fn.arena l.hand;
  locks : l.hand.locks ≡ l.fn.hand.locks;
  held : (view l.hand).slabs ≡ Some l.held.shared;
  so_far : SweepsClasses (range_with_len 1 l.place) (view l.fn.hand) l.fn.held.shared (view l.hand) l.held.shared;
}
