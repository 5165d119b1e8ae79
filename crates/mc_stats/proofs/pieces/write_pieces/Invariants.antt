use Rattle.std.proofs.Common.{◌≡◌, take, flat_map}
use Rattle.std.specs.Io.KnownBytes.{Appends}
use Rattle.mc_stats.proofs.pieces.write_pieces.Given as goal

-- the writer has the pieces so far, and no write failed
abbrev pub invariant-loop-piece : goal.invariant-loop-piece
invariant-loop-piece g l = record {
  bytes : Appends (g.W.Sink.contents l.initial.writer) (g.W.Sink.contents l.writer) (flat_map (λ piece. piece.now) (take l.piece-index l.pieces));
  quiet : g.W.Sink.failures l.writer ≡ g.W.Sink.failures l.initial.writer;
}
