use Rattle.mc_serial_spec.proofs.KeptBegin.{kept_reassign}
use Rattle.mc_keeper.proofs.Watched.{watched_begun}
use Rattle.mc_keeper.proofs.Counted.{counted_begun}
use Rattle.mc_keeper.proofs.keeper.Keeper.reassign.Goals as goal

pub invariant_of-self : goal.invariant_of-self
invariant_of-self c = record {
  kept = kept_reassign _ _ _ _ c.args.src c.args.dst c.self.invariant.kept c.begin_move.ensures.accounted
      c.begin_move.result c.begin_move.ensures.answer c.begin_move.ensures.began c.begin_move.ensures.refused;
  watched = watched_begun c.self.inside.slabs.state _ _ c.args.src c.args.dst c.self.invariant.watched
      c.begin_move.result c.begin_move.ensures.answer c.begin_move.ensures.began c.begin_move.ensures.refused;
  counted = counted_begun _ _ _ _ _ _ c.args.src c.args.dst c.self.invariant.kept c.begin_move.ensures.accounted c.self.invariant.counted
      c.begin_move.result c.begin_move.ensures.answer c.begin_move.ensures.began c.begin_move.ensures.refused;
  indexed = c.self.invariant.indexed;
  bulk = c.self.invariant.bulk;
}
