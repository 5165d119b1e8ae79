use Rattle.mc_words.specs.lock.Tries.{GivesValue}
use Rattle.mc_words.proofs.arena.Arena.give.Given as goal

abbrev pub ghosts-store : goal.ghosts-store
ghosts-store g a = record { then = λ at me written now. GivesValue g.told.0 me now }
