use Rattle.mc_core.proofs.Histories.SeenGrows.{seen_grows}
use Rattle.mc_core.proofs.laws.what_is_seen_grows.Goals as goal

pub returns : goal.returns
returns c = seen_grows
