use Rattle.mc_words.specs.hand.Arenas.{view}
use Rattle.mc_items.proofs.Chains.{keeping_holdings_goes_on}
use Rattle.example_calls.proofs.bounded.set_at_second_try.Goals as goal

pub returns-in-Err-Held-clause-holdings : goal.returns-in-Err-Held-clause-holdings
returns-in-Err-Held-clause-holdings c =
    keeping_holdings_goes_on (view c.args.hand.now) (view c.set_within.new.hand) (view c.set_within-in-Err-Held.new.hand) c.set_within.ensures.holdings c.set_within-in-Err-Held.ensures.holdings
