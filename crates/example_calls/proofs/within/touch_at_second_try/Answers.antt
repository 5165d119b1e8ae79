use Rattle.std.proofs.Common.{◌∙◌}
use Rattle.mc_words.specs.hand.Arenas.{view}
use Rattle.mc_items.proofs.Chains.{keeping_goes_on}
use Rattle.example_calls.proofs.within.touch_at_second_try.Goals as goal

pub returns-in-Err-Held-clause-holdings : goal.returns-in-Err-Held-clause-holdings
returns-in-Err-Held-clause-holdings c =
    let first = c.touch_within.ensures.holdings in
    let second = c.touch_within-in-Err-Held.ensures.holdings in record {
      counts = λ chunk. second.counts chunk ∙ first.counts chunk;
      references = keeping_goes_on (view c.args.hand.now) (view c.touch_within.new.hand) (view c.touch_within-in-Err-Held.new.hand) first.references second.references;
    }
