use Rattle.std.proofs.Common.{◌≡◌, Some, refl, codes}
use Rattle.mc_serial_spec.specs.Texts.{turn_line}
use Rattle.mc_serial_spec.specs.declared.turn.Ending.TheVariants.{Idle}
use Rattle.mc_serial_spec.specs.Mover.{TurnsOfMover, after_turns, zero_counts}
use Rattle.mc_pages.specs.Answer.{answer_of}
use Rattle.mc_watch.specs.Texts.{line}
use Rattle.mc_serial_spec.specs.Machine.{all_swept, with_mode}
use Rattle.mc_serial_spec.specs.Lines.{slabs_text_of, general_text_of, reassign_outcome}
use Rattle.mc_keeper.proofs.StageSteps.{on_err, turns_done}
use Rattle.mc_keeper.proofs.keeper.Keeper.answer.Goals as goal

pub returns-in_ok-push_turn_line-in-Turn-clause-served :
    goal.returns-in_ok-push_turn_line-in-Turn-clause-served
returns-in_ok-push_turn_line-in-Turn-clause-served c =
    let turned : TurnsOfMover = record { machine = c.turns.new.self; counts = c.in_ok-ending-in-Turn.counts; ending = c.in_ok-ending-in-Turn.ending } in
    let done : after_turns c.args.self.now c.in-Turn.turns ≡ Some turned = c.in_ok-ending-in-Turn.ensures.done in
    record {
      served = record { reply = turn_line c.in_ok-ending-in-Turn.ending c.in_ok-ending-in-Turn.counts; machine = c.turns.new.self };
      is = rw (c.in-Turn.is, done) refl;
      reply = c.in_ok-push_turn_line-in-Turn.ensures.line;
      after = refl;
    }

pub returns-in_ok-push_totals-in-Stats-clause-served :
    goal.returns-in_ok-push_totals-in-Stats-clause-served
returns-in_ok-push_totals-in-Stats-clause-served c = record {
  served = record { reply = general_text_of c.args.self.now; machine = c.args.self.now };
  is = rw c.in-Stats.is refl;
  reply = c.in_ok-push_totals-in-Stats.ensures.reply;
  after = refl;
}

pub returns-in_ok-serve_classes-in-StatsSlabs-clause-served :
    goal.returns-in_ok-serve_classes-in-StatsSlabs-clause-served
returns-in_ok-serve_classes-in-StatsSlabs-clause-served c = record {
  served = record { reply = slabs_text_of (all_swept c.args.self.now); machine = all_swept c.args.self.now };
  is = rw c.in-StatsSlabs.is refl;
  reply = c.in_ok-serve_classes-in-StatsSlabs.ensures.reply;
  after = c.in_ok-serve_classes-in-StatsSlabs.ensures.after;
}

pub returns-in_ok-serve_reassign-in-Reassign-clause-served :
    goal.returns-in_ok-serve_reassign-in-Reassign-clause-served
returns-in_ok-serve_reassign-in-Reassign-clause-served c = record {
  served = reassign_outcome c.args.self.now c.in-Reassign.src c.in-Reassign.dst (answer_of c.args.self.now.slabs c.in-Reassign.src c.in-Reassign.dst);
  is = rw c.in-Reassign.is refl;
  reply = c.in_ok-serve_reassign-in-Reassign.ensures.reply;
  after = c.in_ok-serve_reassign-in-Reassign.ensures.after;
}

pub returns-in_ok-serve_automove-in-Automove-clause-served :
    goal.returns-in_ok-serve_automove-in-Automove-clause-served
returns-in_ok-serve_automove-in-Automove-clause-served c = record {
  served = record { reply = line (codes "OK"); machine = record c.args.self.now { slabs = with_mode c.args.self.now.slabs c.in-Automove.mode } };
  is = rw c.in-Automove.is refl;
  reply = c.in_ok-serve_automove-in-Automove.ensures.reply;
  after = c.in_ok-serve_automove-in-Automove.ensures.after;
}

-- all is done but the reply
pub returns-in_err-push_turn_line-in-Turn-clause-left :
    goal.returns-in_err-push_turn_line-in-Turn-clause-left
returns-in_err-push_turn_line-in-Turn-clause-left c =
    let first : TurnsOfMover = record { machine = c.args.self.now; counts = zero_counts; ending = Idle } in
    let turned : TurnsOfMover = record { machine = c.turns.new.self; counts = c.in_ok-ending-in-Turn.counts; ending = c.in_ok-ending-in-Turn.ending } in
    on_err _ c.from_residual-in_err-push_turn_line-in-Turn.result
    (rw c.in-Turn.is (turns_done c.in-Turn.turns first turned c.in_ok-ending-in-Turn.ensures.done))
