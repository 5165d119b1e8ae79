use Rattle.std.proofs.Common.{Option, inl, inr, refl, subst}
use Rattle.std.proofs.lemmas.Result.{err_from_is_err_and}
use Rattle.mc_watch.specs.declared.decider.Decision.{Decision}
use Rattle.mc_workers.specs.Moving.{ActsOnDecisionInRun}
use Rattle.mc_workers.proofs.window.end_window.Goals as goal

pub returns-clause-ends : goal.returns-clause-ends
returns-clause-ends g c = record {
  decided = c.act_on.new.hand;
  acts = record {
    survey = c.in_ok-survey.survey;
    surveyed = c.survey.new.hand;
    surveys = c.in_ok-survey.ensures.surveys;
    feeds = λ k. record { decider = c.in_ok-decided.ensures.fed k; turns = c.in_ok-decided.ensures.turns k };
    acts = subst (λ (d : Option Decision). ActsOnDecisionInRun d c.in_ok-acted.acted c.survey.new.hand c.act_on.new.hand) c.in_ok-decided.ensures.decided c.in_ok-acted.ensures.acts;
  };
  trims = c.trim_all-trimmed.ensures.trims;
}

-- memory was refused behind the survey: to the decider, or to the page of its decision
pub returns-in_err-decided-clause-refused : goal.returns-in_err-decided-clause-refused
returns-in_err-decided-clause-refused g c =
    let p = err_from_is_err_and c.from_residual-in_err-decided.result c.from_residual-in_err-decided.ensures.1 in
    rw p.1 (inr (c.in_ok-survey.survey, c.survey.new.hand, c.in_ok-survey.ensures.surveys, inl refl))

pub returns-in_err-acted-clause-refused : goal.returns-in_err-acted-clause-refused
returns-in_err-acted-clause-refused g c =
    let p = err_from_is_err_and c.from_residual-in_err-acted.result c.from_residual-in_err-acted.ensures.1 in
    rw p.1 (inr (c.in_ok-survey.survey, c.survey.new.hand, c.in_ok-survey.ensures.surveys, inr c.in_err-acted.ensures.refused))
