use Rattle.std.proofs.Common.{drop}
use Rattle.mc_serial_spec.specs.Machine.{Machine}
use Rattle.mc_map.specs.Books.{Book}
use Rattle.mcmap.specs.Played.{LeadTo}
use Rattle.mcmap.proofs.show.play_all.Given as goal

-- where the commands that are left lead, all lead
abbrev pub invariant-loop-command : goal.invariant-loop-command
invariant-loop-command l =
    (after : Machine) (later : Book) → LeadTo (drop l.command-index l.commands) l.player.keeper l.player.books after later
    → LeadTo l.commands l.initial.player.keeper l.initial.player.books after later
