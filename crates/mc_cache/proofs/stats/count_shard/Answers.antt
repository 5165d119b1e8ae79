use Rattle.std.proofs.lemmas.Result.{on_ok_weaker}
use Rattle.mc_cache.proofs.stats.count_shard.Goals as goal

pub returns-clause-counts : goal.returns-clause-counts
returns-clause-counts g c = on_ok_weaker c.add.result (λ adds. record { survey = c.in_ok-survey.survey; surveys = c.in_ok-survey.ensures.surveys; adds = adds }) c.add.ensures.added
