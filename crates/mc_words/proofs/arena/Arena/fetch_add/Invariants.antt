use Rattle.mc_words.specs.rule.Told.{HappensFinding}
use Rattle.mc_words.proofs.arena.Arena.fetch_add.Given as goal

abbrev pub ghosts-fetch_add : goal.ghosts-fetch_add
ghosts-fetch_add g a = record { then = HappensFinding g.told }
