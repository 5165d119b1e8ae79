use Rattle.mc_words.specs.rule.Told.{HappensAfterChange}
use Rattle.mc_words.proofs.arena.Arena.tell.Given as goal

abbrev pub ghosts-load : goal.ghosts-load
ghosts-load g a = record { then = λ at me found now. HappensAfterChange g.told.0 g.told.1 me now }
