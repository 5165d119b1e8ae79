use Rattle.mc_words.specs.rule.Told.{HappensAfterChange}
use Rattle.mc_words.proofs.arena.Arena.tell_page.Given as goal

abbrev pub ghosts-store : goal.ghosts-store
ghosts-store g a = record { then = λ at me found now. HappensAfterChange g.told.0 g.told.1 me now }
