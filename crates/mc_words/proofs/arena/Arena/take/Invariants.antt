use Rattle.mc_words.specs.lock.Tries.{Takes}
use Rattle.mc_words.proofs.arena.Arena.take.Given as goal

abbrev pub ghosts-compare_exchange : goal.ghosts-compare_exchange
ghosts-compare_exchange g a = record { then = Takes g.told }
