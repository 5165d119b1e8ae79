use Rattle.testlib_scripts.specs.declared.tests.seats.Seat.{Seat}
use Rattle.mc_workers.specs.Hands.{IsKeeping}
use Rattle.std.proofs.lemmas.List.Elements.{All-set}
use Rattle.testlib_scripts.proofs.tests.seats.serve_worker.Goals as goal

-- the seat of this worker is one still, and the others are as they were
pub returns-in-Some : goal.returns-in-Some
returns-in-Some g c = record {
  seats = All-set (λ (seat : Seat). IsKeeping c.args.arena.now seat.hand seat.kept.items) c.args.seats.now.items _ c.serve_at.new.seat c.serve_at.ensures.seat c.requires.seats;
}
