use Rattle.std.proofs.Common.{◌≡◌, ◌+◌, ◌++◌, List, ℕ, drop}
use Rattle.std.specs.Io.KnownBytes.{Appends}
use Rattle.mc_watch.specs.Texts.{classes_lines}
use Rattle.mc_watch.proofs.statistics.write_classes.Given as goal

-- the writer has the lines so far, which those of the classes that are left complete, and no write failed
abbrev pub invariant-loop-place : goal.invariant-loop-place
invariant-loop-place g l =
    (lines : List ℕ)
    × Appends (g.W.Sink.contents l.initial.writer) (g.W.Sink.contents l.writer) lines
    × (lines ++ classes_lines l.table (l.place + 1) (drop l.place l.pages) (drop l.place l.free) ≡ classes_lines l.table 1 l.pages l.free)
    × (g.W.Sink.failures l.writer ≡ g.W.Sink.failures l.initial.writer)
