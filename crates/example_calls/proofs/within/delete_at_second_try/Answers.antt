use Rattle.mc_words.specs.hand.Arenas.{view}
use Rattle.mc_items.proofs.Chains.{keeping_holdings_goes_on}
use Rattle.example_calls.proofs.within.delete_at_second_try.Goals as goal

pub returns-in-Err-Held-clause-holdings : goal.returns-in-Err-Held-clause-holdings
returns-in-Err-Held-clause-holdings c =
    keeping_holdings_goes_on (view c.args.hand.now) (view c.delete_within.new.hand) (view c.delete_within-in-Err-Held.new.hand) c.delete_within.ensures.holdings c.delete_within-in-Err-Held.ensures.holdings
