use Rattle.std.proofs.Common.{ap}
use Rattle.mc_words.specs.hand.View.{View}
use Rattle.mc_words.proofs.laws.hands_are_seated.Goals as goal

pub returns : goal.returns
returns c = λ arena hand is. record { same_table = is.same_table; setup = is.setup; told = ap (λ (v : View). v.made_of) is.lawful.is }
