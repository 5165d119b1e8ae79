use Rattle.mc_core.proofs.Seen.Judged.{all_are_judged}
use Rattle.mc_core.proofs.laws.what_is_seen_allows.Goals as goal

pub returns : goal.returns
returns c = all_are_judged
