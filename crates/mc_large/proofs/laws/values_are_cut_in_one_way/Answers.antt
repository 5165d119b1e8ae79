use Rattle.mc_large.proofs.Cuts.{cuts_are_unique, pieces_are_counted}
use Rattle.mc_large.proofs.laws.values_are_cut_in_one_way.Goals as goal

pub returns : goal.returns
returns c = record { unique = cuts_are_unique; counted = pieces_are_counted }
