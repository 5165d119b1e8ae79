-- What became of a decider's decision.
use Rattle.std.proofs.Common.{◌≡◌, Option, Result, Some, None, refl, subst}
use Rattle.mc_pages.specs.declared.moves.Reassign.{Reassign}
use Rattle.mc_watch.specs.declared.decider.Decision.{Decision}
use Rattle.mc_words.specs.declared.hand.Hand.{Hand}
use Rattle.mc_words.specs.page.Moves.{Reassigns}
use Rattle.mc_mover.specs.Acting.{ActsOnceByNumber}
use Rattle.mc_cache.specs.Windows.{ActsOnDecision}

-- no decision was found
pub acts_on_none : (decided : Option Decision) → None ≡ decided → (hand : Hand) → ActsOnDecision decided None hand hand
acts_on_none decided is hand = subst (λ (d : Option Decision). ActsOnDecision d None hand hand) is refl

-- this one was found
pub acts_on_some : (decision : Decision) (decided : Option Decision) → Some decision ≡ decided → (answer : Result (Unit {0}) Reassign) (before now : Hand)
    → ActsOnceByNumber (λ number. Reassigns number (Some decision.src) decision.dst answer) before now → ActsOnDecision decided (Some answer) before now
acts_on_some decision decided is answer before now asks = subst (λ (d : Option Decision). ActsOnDecision d (Some answer) before now) is asks
