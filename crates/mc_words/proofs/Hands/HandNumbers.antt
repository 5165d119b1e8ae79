-- The number of a hand stays as it is through the calls of the arena.
use Rattle.std.proofs.Common.{◌≡◌, ℕ, Some, sym, ap, ◌∙◌}
use Rattle.mc_core.specs.declared.ids.Ids.{Ids}
use Rattle.mc_words.specs.declared.hand.Hand.{Hand}
use Rattle.mc_words.specs.hand.Arenas.{view}

-- it stands in its view
pub number_stays : (before now : Hand) → (view now).row.ids ≡ (view before).row.ids → now.number ≡ before.number
number_stays before now ids = one (sym now.noted.0 ∙ (ap (λ (i : Ids). i.number) ids ∙ before.noted.0))
  where
    one : {a b : ℕ} → Some a ≡ Some b → a ≡ b
    one e = cc
