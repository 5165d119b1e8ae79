use Rattle.std.proofs.Common.{true}
use Rattle.mc_workers.proofs.Tellable.{survey_told}
use Rattle.mc_workers.proofs.mover_line.serve_mover_line.Goals as goal

-- what was surveyed can be told
pub returns-in_ok-survey-in-StatsSlabs-clause-tellable : goal.returns-in_ok-survey-in-StatsSlabs-clause-tellable
returns-in_ok-survey-in-StatsSlabs-clause-tellable g c =
    survey_told c.args.arena.now c.args.hand.now c.survey-in-StatsSlabs.new.hand true c.in_ok-survey-in-StatsSlabs.survey c.requires.ready.0 c.in_ok-survey-in-StatsSlabs.ensures.surveys
