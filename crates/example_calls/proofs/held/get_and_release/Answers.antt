use Rattle.std.proofs.Common.{Option, refl, subst}
use Rattle.mc_words.specs.hand.Arenas.{view}
use Rattle.mc_items.specs.declared.refs.Ref.{Ref}
use Rattle.mc_items.specs.Keeping.{HoldsToo}
use Rattle.mc_items.proofs.Chains.{releasing_keeps_others}
use Rattle.example_calls.proofs.held.get_and_release.Goals as goal

pub returns-in-Ok-Some-clause-keeps : goal.returns-in-Ok-Some-clause-keeps
returns-in-Ok-Some-clause-keeps g c =
    let before = view c.args.hand.now in
    let got = view c.get.new.hand in
    let gained = subst (λ (o : Option Ref). HoldsToo o before got) c.in-Ok-Some.field-0-is c.in-Ok-Some.ensures.holdings in
    releasing_keeps_others before got got (view c.release.new.hand) c.in-Ok-Some.other c.get.ensures.keeps gained refl c.release.ensures.keeps c.release.ensures.holdings
