-- The places where the groups of words begin, as numbers.
use Rattle.std.specs.Prelude.{◌≡◌}
use Rattle.mc_words.specs.declared.arena.beginning.Places.{Places}
use Rattle.mc_words.specs.hand.View.{Setup}
use Rattle.mc_words.specs.rule.Layout.{pages_from, heads_from, data_from, config_from}

-- the places are those of the first word of pages, headers, data words and configuration
pub record ArePlaces (setup : Setup) (places : Places) : Type 0 where
  pub pages : places.pages ≡ pages_from setup
  pub heads : places.heads ≡ heads_from setup
  pub data_words : places.data ≡ data_from setup
  pub config : places.config ≡ config_from setup
