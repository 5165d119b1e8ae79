use Rattle.mc_words.proofs.Rules.Headlines.{views_give_headline}
use Rattle.mc_words.proofs.laws.views_give_headline.Goals as goal

pub returns : goal.returns
returns c = views_give_headline
