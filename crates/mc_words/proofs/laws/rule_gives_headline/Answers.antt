use Rattle.mc_words.proofs.Rules.Headlines.{rule_gives_headline}
use Rattle.mc_words.proofs.laws.rule_gives_headline.Goals as goal

pub returns : goal.returns
returns c = rule_gives_headline
