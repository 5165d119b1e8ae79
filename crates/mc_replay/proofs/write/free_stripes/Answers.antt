use Rattle.std.proofs.Common.{refl}
use Rattle.mc_replay.specs.Written.{free_stripe_text}
use Rattle.mc_replay.proofs.Ranges.{written_next}
use Rattle.mc_replay.proofs.write.free_stripes.Goals as goal

pub loop-number-preserved : goal.loop-number-preserved
loop-number-preserved c = written_next (free_stripe_text c.args.state.now) c.loop-number.number _ _ _ _ c.loop-number.invariant c.in_ok-free_stripe.ensures refl
