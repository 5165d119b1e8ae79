use Rattle.mc_words.specs.rule.Told.{HappensAsExchange}
use Rattle.mc_words.proofs.arena.Arena.exchange.Given as goal

abbrev pub ghosts-compare_exchange : goal.ghosts-compare_exchange
ghosts-compare_exchange g a = record { then = HappensAsExchange g.told.0 g.told.1 }
