use Rattle.mc_words.specs.rule.Told.{HappensAs}
use Rattle.mc_words.proofs.arena.Arena.subtract.Given as goal

abbrev pub ghosts-fetch_sub : goal.ghosts-fetch_sub
ghosts-fetch_sub g a = record { then = HappensAs g.told }
