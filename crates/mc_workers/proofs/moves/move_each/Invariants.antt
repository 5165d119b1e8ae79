use Rattle.std.proofs.Common.{length, take}
use Rattle.mc_workers.specs.Asking.{lines_of_mover}
use Rattle.mc_workers.specs.Moving.{turns_of}
use Rattle.mc_workers.proofs.GatedLines.{AreCounted}
use Rattle.mc_workers.proofs.MovedLines.{MovedSoFar}
use Rattle.mc_workers.proofs.SpentTurns.{BeginsAtMost}
use Rattle.mc_workers.proofs.moves.move_each.Given as goal

-- the mover's lines so far are done, and their replies added; the gate let it on at each; and it began no more turns than they ask for
abbrev pub invariant-loop-command : goal.invariant-loop-command
invariant-loop-command g l =
    MovedSoFar l.shared.arena.now (take l.command-index l.shared.commands.now) l.initial.mover l.initial.hand l.initial.text.items l.mover l.hand l.text.items
    × AreCounted (g.G.Gate.LetsOn l.shared.gate.now) 0 l.command-index (length (lines_of_mover (take l.command-index l.shared.commands.now))) l.nth
    × BeginsAtMost (turns_of l.initial.mover) (take l.command-index l.shared.commands.now) l.mover
