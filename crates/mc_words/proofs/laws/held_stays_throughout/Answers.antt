use Rattle.mc_words.proofs.Rules.Headlines.{held_stays_throughout, views_stay_throughout}
use Rattle.mc_words.proofs.laws.held_stays_throughout.Goals as goal

pub returns-clause-rule : goal.returns-clause-rule
returns-clause-rule c = held_stays_throughout

pub returns-clause-views : goal.returns-clause-views
returns-clause-views c = views_stay_throughout
