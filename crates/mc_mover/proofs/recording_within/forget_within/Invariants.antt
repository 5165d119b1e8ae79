use Rattle.std.specs.List.{range_with_len}
use Rattle.mc_core.specs.declared.event.StripeChange.TheVariants.{Forget}
use Rattle.mc_words.specs.hand.Arenas.{view}
use Rattle.mc_words.specs.hand.Ready.{StaysReady}
use Rattle.mc_mover.specs.Recording.{ChangesEach}
use Rattle.mc_mover.proofs.recording_within.forget_within.Given as goal

-- the stripes so far changed
abbrev pub invariant-loop-stripe : goal.invariant-loop-stripe
invariant-loop-stripe l = record {
  hand : StaysReady l.arena l.fn.hand l.hand;
  so_far : ChangesEach Forget l.fn.hand.number (range_with_len 0 l.stripe) (view l.fn.hand) (view l.hand);
}
