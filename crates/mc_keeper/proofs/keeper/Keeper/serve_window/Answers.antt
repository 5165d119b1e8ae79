use Rattle.std.proofs.Common.{◌≡◌, ℕ, ◌++◌, List, Option, Some, None, codes, refl, sym, ◌∙◌, subst, arith}
use Rattle.std.specs.Prelude.{OnOk}
use Rattle.mc_watch.specs.declared.decider.Decision.{Decision}
use Rattle.mc_watch.specs.Texts.{line}
use Rattle.mc_serial_spec.specs.Automove.{decision, with_window}
use Rattle.mc_serial_spec.specs.Lines.{decision_outcome}
use Rattle.mc_serial_spec.specs.Machine.{Machine, all_swept}
use Rattle.mc_keeper.specs.Calls.{acted_answer}
use Rattle.mc_keeper.proofs.StageSteps.{on_err}
use Rattle.mc_keeper.proofs.keeper.Keeper.serve_window.Goals as goal

-- where nothing became of a decision there was none
none_acted : (m : Machine) (found : Option Decision) → None ≡ acted_answer m found → line (codes "WINDOW none") ≡ (decision_outcome m found).reply
none_acted m None is = refl
none_acted m (Some d) is = cc

-- all is done but the reply
pub returns-in-Some-clause-refused : goal.returns-in-Some-clause-refused
returns-in-Some-clause-refused c = on_err _ c.push_window_line.result (2, omega arith, sym c.in_ok-acted.ensures.after)

pub returns-in-None-clause-reply : goal.returns-in-None-clause-reply
returns-in-None-clause-reply c =
    let fed : Machine = with_window (all_swept c.args.self.now) in
    subst (λ (reply : List ℕ). OnOk c.push_answer.result (c.push_answer.new.text.items ≡ c.args.text.now.items ++ reply))
    (none_acted fed (decision fed) (sym c.in-None.is ∙ c.in_ok-acted.ensures.answer))
    c.push_answer.ensures.line
