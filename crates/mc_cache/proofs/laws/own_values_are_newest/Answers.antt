use Rattle.mc_cache.proofs.Lasts.{gets_keep_last, last_is_found, sets_are_last, unused_find_others}
use Rattle.mc_cache.proofs.laws.own_values_are_newest.Goals as goal

pub returns : goal.returns
returns c = record { sets = sets_are_last; gets = gets_keep_last; finds = last_is_found; unused = unused_find_others }
