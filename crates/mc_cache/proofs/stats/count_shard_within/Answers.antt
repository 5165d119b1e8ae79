use Rattle.std.proofs.Common.{false}
use Rattle.mc_mover.specs.Surveying.{Surveys}
use Rattle.mc_cache.proofs.Recalls.{acts_before}
use Rattle.mc_cache.proofs.stats.count_shard_within.Goals as goal

pub returns-in-Ok-add-clause-counts : goal.returns-in-Ok-add-clause-counts
returns-in-Ok-add-clause-counts c = record {
  survey = c.in-Ok.survey;
  surveys = acts_before c.args.hand.now c.recall.new.hand c.recall.ensures.same c.recall.ensures.number (λ number. Surveys false c.in-Ok.survey) c.survey_within.new.hand c.in-Ok.ensures.surveys;
  adds = c.in-Ok-add.ensures.added;
}
