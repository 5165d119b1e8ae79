use Rattle.std.proofs.Common.{refl, sym, ◌∙◌}
use Rattle.mc_cache.proofs.Decided.{acts_on_none, acts_on_some}
use Rattle.mc_cache.proofs.window.end_window.Goals as goal

pub returns-in_default-clause-ends : goal.returns-in_default-clause-ends
returns-in_default-clause-ends g c = record {
  survey = c.in_ok-survey.survey;
  surveyed = c.survey.new.hand;
  surveys = c.in_ok-survey.ensures.surveys;
  feeds = c.in_ok-decision.ensures.fed;
  shown = refl;
  acts = acts_on_none _ (sym c.in_default.is ∙ c.in_ok-decision.ensures.decided) c.survey.new.hand;
}

pub returns-clause-ends : goal.returns-clause-ends
returns-clause-ends g c = record {
  survey = c.in_ok-survey.survey;
  surveyed = c.survey.new.hand;
  surveys = c.in_ok-survey.ensures.surveys;
  feeds = c.in_ok-decision.ensures.fed;
  shown = refl;
  acts = acts_on_some c.in-Some.decision _ (sym c.in-Some.is ∙ c.in_ok-decision.ensures.decided) c.reassign-answer.result c.survey.new.hand c.reassign-answer.new.hand c.reassign-answer.ensures.reassigns;
}
