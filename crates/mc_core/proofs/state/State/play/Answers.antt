use Rattle.std.proofs.Common.{◌∙◌, sym}
use Rattle.mc_core.proofs.Steps.Changes.{still_there}
use Rattle.mc_core.proofs.Steps.Plays.{hand_there}
use Rattle.mc_core.proofs.state.State.play.Goals as goal

pub allows_step-requires : goal.allows_step-requires
allows_step-requires c =
    still_there c.args.self.now c.change_all.new.self c.args.event.now.hand c.as_slice.result.now c.in_ok-is_ready.is_ready c.in_ok-is_ready.ensures c.if-not-is_ready.false
    (hand_there c.args.self.now c.args.event.now.hand (sym c.is_hand-is_hand.ensures ∙ c.if-not-is_hand.false))

pub do_step-requires-clause-here : goal.do_step-requires-clause-here
do_step-requires-clause-here c =
    still_there c.args.self.now c.change_all.new.self c.args.event.now.hand c.as_slice.result.now c.in_ok-is_ready.is_ready c.in_ok-is_ready.ensures c.if-not-is_ready.false
    (hand_there c.args.self.now c.args.event.now.hand (sym c.is_hand-is_hand.ensures ∙ c.if-not-is_hand.false))
