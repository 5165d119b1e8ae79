use Rattle.mc_words.specs.rule.Told.{HappensAs}
use Rattle.mc_words.proofs.arena.Arena.write.Given as goal

abbrev pub ghosts-store : goal.ghosts-store
ghosts-store g a = record { then = HappensAs g.told }
