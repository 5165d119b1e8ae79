use Rattle.std.proofs.Common.{◌<◌, ℕ}
use Rattle.std.specs.List.{range_with_len}
use Rattle.mc_core.specs.declared.event.StripeChange.TheVariants.{Trim}
use Rattle.mc_words.specs.hand.Arenas.{view}
use Rattle.mc_words.specs.hand.Ready.{StaysReady}
use Rattle.mc_mover.specs.Recording.{ChangesEach, TakesNotFull}
use Rattle.mc_mover.proofs.recording_within.trim_stripes_within.Given as goal

-- the stripes so far changed, of which none was full
abbrev pub invariant-loop-stripe : goal.invariant-loop-stripe
invariant-loop-stripe l = record {
  hand : StaysReady l.arena l.fn.hand l.hand;
  so_far : ChangesEach Trim l.fn.hand.number (range_with_len 0 l.stripe) (view l.fn.hand) (view l.hand);
  unfull : (below : ℕ) → below < l.stripe → TakesNotFull (view l.hand) below;
}
