use Rattle.mc_words.specs.rule.Told.{HappensAs}
use Rattle.mc_words.proofs.arena.Arena.add.Given as goal

abbrev pub ghosts-fetch_add : goal.ghosts-fetch_add
ghosts-fetch_add g a = record { then = HappensAs g.told }
