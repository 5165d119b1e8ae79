use Rattle.std.proofs.Common.{subst}
use Rattle.mc_words.specs.hand.View.{View}
use Rattle.mc_mover.specs.Turning.{EndsTurn}
use Rattle.mc_words.proofs.Hands.HandNumbers.{number_stays}
use Rattle.mc_mover.proofs.Answered.{answers_end}
use Rattle.mc_mover.proofs.Refusals.{as_error, on_error}
use Rattle.mc_mover.proofs.Rounds.{turns_so}
use Rattle.mc_mover.proofs.turning.turn_held.Goals as goal

pub returns-in_err-counts-clause-lacks : goal.returns-in_err-counts-clause-lacks
returns-in_err-counts-clause-lacks c = as_error c.from_residual.result (on_error c.sections.result c.in_err-counts.field-0.0 c.in_err-counts.was c.sections.ensures.lacks)

pub returns-clause-turns : goal.returns-clause-turns
returns-clause-turns c =
    let hand = c.args.hand.now in
    let looked : View = c.sections.new.hand.seat.me.0 in
    let now : View = c.end_turn.new.hand.seat.me.0 in
    let number = number_stays hand c.sections.new.hand c.sections.ensures.ids in
    turns_so hand.number c.in_ok-counts.counts c.end_turn.result hand.seat.me.0 c.args.held.now.shared looked c.sections.new.held.shared now c.end_turn.new.held.shared c.in_ok-counts.ensures.looks
    (subst (λ n. EndsTurn n c.in_ok-counts.counts c.end_turn.result looked c.sections.new.held.shared now c.end_turn.new.held.shared) number c.end_turn.ensures.ends)

pub returns-clause-answers : goal.returns-clause-answers
returns-clause-answers c =
    answers_end c.sections.new.hand.number c.in_ok-counts.counts c.end_turn.result c.sections.new.hand.seat.me.0 c.sections.new.held.shared c.end_turn.new.hand.seat.me.0 c.end_turn.new.held.shared c.args.held.now.shared.moving
    c.end_turn.ensures.ends c.in_ok-counts.ensures.same_move
