use Rattle.std.specs.Prelude.{false}
use Rattle.mc_words.proofs.arena.Arena.refer_within.Given as goal

abbrev pub ghost-tell_none : goal.ghost-tell_none
ghost-tell_none a = false
