use Rattle.mc_large.proofs.OwnValues.{large_gets_keep_last, large_last_is_found, large_sets_are_last}
use Rattle.mc_large.proofs.laws.own_large_values_are_whole.Goals as goal

pub returns : goal.returns
returns c = record { sets = large_sets_are_last; gets = large_gets_keep_last; finds = large_last_is_found }
