use Rattle.std.proofs.Common.{◌≤◌, ℕ, List, drop, length, string_bytes}
use Rattle.mcmap.specs.Played.{ShowsMaps}
use Rattle.mcmap.proofs.show.play_maps.Given as goal

-- no more commands are done than there are, and with the maps of the marks that are left all maps are shown
abbrev pub invariant-loop-mark : goal.invariant-loop-mark
invariant-loop-mark l =
    record {
      within_limit : l.done ≤ length l.commands;
      shown : (new : List ℕ) → ShowsMaps l.form l.commands l.done (drop l.mark-index l.marks) l.player.keeper l.player.books (string_bytes l.text) new
          → ShowsMaps l.form l.commands 0 l.marks l.initial.player.keeper l.initial.player.books (string_bytes l.initial.text) new;
    }
