use Rattle.mc_words.specs.rule.Told.{HappensFinding}
use Rattle.mc_words.proofs.arena.Arena.look.Given as goal

abbrev pub ghosts-load : goal.ghosts-load
ghosts-load g a = record { then = HappensFinding g.told }
