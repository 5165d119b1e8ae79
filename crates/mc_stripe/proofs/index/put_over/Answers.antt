use Rattle.std.proofs.Common.{◌≡◌, Option, Some, None, IsSome, refl, sym, ◌∙◌, subst}
use Rattle.std.specs.Option.{option_copied_mut}
use Rattle.std.specs.Borrow.{MutBor}
use Rattle.mc_stripe.proofs.Entries.{at_by_key}
use Rattle.mc_stripe.proofs.Tables.{by_key_put}
use Rattle.mc_stripe.proofs.index.put_over.Goals as goal

-- what was lent has a value
lent : {X : Type 0} (found : Option (MutBor X)) (value : Option X) → option_copied_mut found ≡ value → IsSome value → IsSome found
lent None value is there = subst IsSome (sym is) there
lent (Some place) value is there = refl

pub unwrap-requires : goal.unwrap-requires
unwrap-requires c =
    lent c.get_mut.result _ (c.get_mut.ensures.value ∙ sym (at_by_key c.args.index.now.entries c.args.key)) c.requires.there

pub returns-clause-entries : goal.returns-clause-entries
returns-clause-entries c =
    by_key_put c.args.index.now.entries (c.get_mut.follows.lender c.args.place).entries c.args.key c.args.place
    (λ q. ((c.get_mut.follows.holds c.args.place).3 (subst IsSome (at_by_key c.args.index.now.entries c.args.key) c.requires.there)).0 q)
