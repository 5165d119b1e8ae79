use Rattle.std.proofs.Common.{Option, Some, None, refl, sym, subst}
use Rattle.mc_watch.specs.declared.decider.Decision.{Decision}
use Rattle.mc_workers.specs.declared.mover_reply.Acted.{Acted}
use Rattle.mc_workers.specs.Moving.{ActsOnDecisionInRun}
use Rattle.mc_workers.proofs.window.act_on.Goals as goal

pub returns-in_default-clause-acts : goal.returns-in_default-clause-acts
returns-in_default-clause-acts g c =
    subst (λ (d : Option Decision). ActsOnDecisionInRun d None c.args.hand.now c.args.hand.now) (sym c.in_default.is) refl

-- the page of the decision was asked for
pub returns-clause-acts : goal.returns-clause-acts
returns-clause-acts g c =
    let acted : Acted = record { decision = c.in-Some.decision; answer = c.in_ok-answer.answer } in
    subst (λ (d : Option Decision). ActsOnDecisionInRun d (Some acted) c.args.hand.now c.ask_for_page.new.hand) (sym c.in-Some.is) (refl, c.in_ok-answer.ensures.asks)
