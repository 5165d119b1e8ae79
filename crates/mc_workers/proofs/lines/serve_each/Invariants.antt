use Rattle.std.proofs.Common.{length, take}
use Rattle.mc_workers.specs.Asking.{lines_of}
use Rattle.mc_workers.proofs.GatedLines.{AreCounted}
use Rattle.mc_workers.proofs.ServedLines.{SoFar}
use Rattle.mc_workers.proofs.lines.serve_each.Given as goal

-- the worker's lines so far are done, and their replies added; and the gate let the worker on at each
abbrev pub invariant-loop-command : goal.invariant-loop-command
invariant-loop-command g l =
    SoFar l.shared.arena.now l.worker (take l.command-index l.shared.commands.now) l.initial.kept.items l.initial.hand l.initial.text.items l.hand l.kept.items l.text.items
    × AreCounted (g.G.Gate.LetsOn l.shared.gate.now) l.worker l.command-index (length (lines_of l.worker (take l.command-index l.shared.commands.now))) l.nth
