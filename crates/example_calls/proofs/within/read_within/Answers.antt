use Rattle.std.proofs.Common.{Option, subst}
use Rattle.mc_words.specs.hand.Arenas.{view}
use Rattle.mc_items.specs.declared.refs.Ref.{Ref}
use Rattle.mc_items.specs.Keeping.{HoldsToo}
use Rattle.mc_items.proofs.Chains.{keeping_goes_on, keeping_holdings_goes_on, releasing_keeps_others}
use Rattle.example_calls.proofs.within.read_within.Goals as goal

pub returns-in-Ok-clause-keeps : goal.returns-in-Ok-clause-keeps
returns-in-Ok-clause-keeps c =
    let before = view c.args.hand.now in
    let got = view c.get_within.new.hand in
    let gained = subst (λ (o : Option Ref). HoldsToo o before got) c.in-Ok-Some.field-0-is c.in-Ok-Some.ensures.holdings in
    let kept = keeping_holdings_goes_on got (view c.bump_within.new.hand) (view c.read-words.new.hand) c.bump_within.ensures.holdings c.read-words.ensures.holdings in
    releasing_keeps_others before got (view c.read-words.new.hand) (view c.release.new.hand) c.in-Ok-Some.item (keeping_goes_on before got (view c.read-words.new.hand) c.get_within.ensures.keeps kept.references) gained kept.same c.release.ensures.keeps c.release.ensures.holdings

pub returns-in-Err-words-clause-keeps : goal.returns-in-Err-words-clause-keeps
returns-in-Err-words-clause-keeps c =
    let before = view c.args.hand.now in
    let got = view c.get_within.new.hand in
    let gained = subst (λ (o : Option Ref). HoldsToo o before got) c.in-Ok-Some.field-0-is c.in-Ok-Some.ensures.holdings in
    let kept = keeping_holdings_goes_on got (view c.bump_within.new.hand) (view c.read-words.new.hand) c.bump_within.ensures.holdings c.read-words.ensures.holdings in
    releasing_keeps_others before got (view c.read-words.new.hand) (view c.release.new.hand) c.in-Ok-Some.item (keeping_goes_on before got (view c.read-words.new.hand) c.get_within.ensures.keeps kept.references) gained kept.same c.release.ensures.keeps c.release.ensures.holdings
