use Rattle.mc_cache.proofs.Conditions.{adds_find_none, replaces_find_one, versions_are_replaced}
use Rattle.mc_cache.proofs.laws.conditions_are_met.Goals as goal

pub returns : goal.returns
returns c = record { versions = versions_are_replaced; adds = adds_find_none; replaces = replaces_find_one }
