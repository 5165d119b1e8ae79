use Rattle.std.proofs.Common.{inr, refl, sym, ◌∙◌}
use Rattle.mc_cache.proofs.Decided.{acts_on_none, acts_on_some}
use Rattle.mc_cache.proofs.window_within.end_window_within.Goals as goal

pub returns-in_default-clause-ends : goal.returns-in_default-clause-ends
returns-in_default-clause-ends c = record {
  survey = c.in-Ok.survey;
  surveyed = c.survey_within.new.hand;
  surveys = c.in-Ok.ensures.surveys;
  feeds = c.in_ok-decision.ensures.fed;
  shown = refl;
  acts = acts_on_none _ (sym c.in_default.is ∙ c.in_ok-decision.ensures.decided) c.survey_within.new.hand;
}

pub returns-in-Ok-reassign_within-clause-ends : goal.returns-in-Ok-reassign_within-clause-ends
returns-in-Ok-reassign_within-clause-ends c = record {
  survey = c.in-Ok.survey;
  surveyed = c.survey_within.new.hand;
  surveys = c.in-Ok.ensures.surveys;
  feeds = c.in_ok-decision.ensures.fed;
  shown = refl;
  acts = acts_on_some c.in-Some.decision _ (sym c.in-Some.is ∙ c.in_ok-decision.ensures.decided) c.in-Ok-reassign_within.answer c.survey_within.new.hand c.reassign_within.new.hand c.in-Ok-reassign_within.ensures.reassigns;
}

pub returns-clause-ends : goal.returns-clause-ends
returns-clause-ends c = inr (record {
  survey = c.in-Ok.survey;
  surveyed = c.survey_within.new.hand;
  surveys = c.in-Ok.ensures.surveys;
  feeds = c.in_ok-decision.ensures.fed;
  decision = c.in-Some.decision;
  decided = sym c.in_ok-decision.ensures.decided ∙ c.in-Some.is;
  misses = c.in-Err.ensures.missed;
})
