use Rattle.std.proofs.Common.{◌∙◌, ap, subst, sym}
use Rattle.mc_words.specs.hand.Ready.{IsReady}
use Rattle.mc_words.specs.hand.View.{View}
use Rattle.mc_cache.proofs.resting.recall.Goals as goal

pub returns-clause-idle : goal.returns-clause-idle
returns-clause-idle c = record {
  of_arena = c.recall.ensures.arena;
  ready = subst IsReady (sym c.recall.ensures.same) c.requires.ready;
  none = ap (λ (v : View). v.row.holdings) c.recall.ensures.same ∙ c.requires.none;
}
