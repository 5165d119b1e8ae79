use Rattle.std.proofs.Common.{◌≡◌, Option, Some, ap, sym, ◌∙◌, subst}
use Rattle.std.specs.Prelude.{IfOk, OnOk}
use Rattle.mc_watch.specs.declared.decider.Decision.{Decision}
use Rattle.mc_serial_spec.specs.Automove.{decision, with_window}
use Rattle.mc_serial_spec.specs.Lines.{Outcome, decision_outcome}
use Rattle.mc_serial_spec.specs.Machine.{Machine, all_swept}
use Rattle.mc_keeper.specs.declared.keeper.automove.Acted.{Acted}
use Rattle.mc_keeper.specs.Calls.{acted_answer}
use Rattle.mc_keeper.proofs.StageSteps.{fed_stage, on_err_map}
use Rattle.mc_keeper.proofs.keeper.Keeper.window.Goals as goal

-- what was decided is acted on as it is where the window has ended
acted_so : (now fed : Machine) (found : Option Decision) → found ≡ decision now → now ≡ fed → decision_outcome now found ≡ decision_outcome fed (decision fed)
acted_so now fed found is same = ap (decision_outcome now) is ∙ ap (λ (m : Machine). decision_outcome m (decision m)) same

-- and what became of it is told so
answered_so : (now fed : Machine) (found : Option Decision) → found ≡ decision now → now ≡ fed → acted_answer now found ≡ acted_answer fed (decision fed)
answered_so now fed found is same = ap (acted_answer now) is ∙ ap (λ (m : Machine). acted_answer m (decision m)) same

pub returns-in-Some-clause-answer : goal.returns-in-Some-clause-answer
returns-in-Some-clause-answer c =
    subst (λ (a : Option Acted). IfOk c.act.result (λ (answer : Option Acted). answer ≡ a))
    (answered_so c.decide.new.self (with_window (all_swept c.args.self.now)) (Some c.in-Some.decision) (sym c.in-Some.is ∙ c.in_ok-decision.ensures.decided)
    (c.in_ok-decision.ensures.after ∙ ap with_window c.sweep.ensures.swept))
    c.act.ensures.answer

pub returns-in-Some-clause-after : goal.returns-in-Some-clause-after
returns-in-Some-clause-after c =
    subst (λ (s : Outcome). OnOk c.act.result (c.act.new.self ≡ s.machine))
    (acted_so c.decide.new.self (with_window (all_swept c.args.self.now)) (Some c.in-Some.decision) (sym c.in-Some.is ∙ c.in_ok-decision.ensures.decided)
    (c.in_ok-decision.ensures.after ∙ ap with_window c.sweep.ensures.swept))
    c.act.ensures.after

pub returns-in-Some-clause-refused : goal.returns-in-Some-clause-refused
returns-in-Some-clause-refused c =
    on_err_map _ _ c.act.result
    (λ same. fed_stage c.args.self.now c.decide.new.self c.act.new.self (c.in_ok-decision.ensures.after ∙ ap with_window c.sweep.ensures.swept) (sym same))
    c.act.ensures.refused
