use native.Mathlib.Omega.{arith}
use Rattle.std.proofs.Common.{ℕ, All, sym, subst}
use Rattle.std.proofs.lemmas.List.Elements.{All-push}
use Rattle.mc_words.specs.hand.Hands.{AreHandsFrom}
use Rattle.testlib_scripts.specs.declared.tests.seats.Seat.{Seat}
use Rattle.mc_workers.specs.Hands.{IsKeeping}
use Rattle.testlib_scripts.proofs.tests.seats.seats_of.Goals as goal

-- one seat more, and one hand fewer
pub loop-worker-preserved : goal.loop-worker-preserved
loop-worker-preserved c =
    let arena = c.args.arena.now in (
      subst (λ (worker : ℕ). AreHandsFrom arena worker c.first_hand.new.hands.items) (omega arith) c.in-Some.ensures.others,
      subst (All (λ (seat : Seat). IsKeeping arena seat.hand seat.kept.items)) (sym c.in_ok-push.ensures.items)
          (All-push (λ (seat : Seat). IsKeeping arena seat.hand seat.kept.items) c.loop-worker.seats.items c.new_seat.result c.loop-worker.invariant.1 c.new_seat.ensures.seat),
    )
