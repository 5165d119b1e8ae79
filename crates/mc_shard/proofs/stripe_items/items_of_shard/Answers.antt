use Rattle.std.proofs.Common.{◌≡◌, ◌∙◌, ℕ, ap, arith, subst}
use Rattle.mc_classes.specs.declared.config.Config.{Config}
use Rattle.mc_words.specs.hand.Arenas.{setup_of}
use Rattle.mc_shard.specs.ClassItems.{AddsFound, FindsSizesBelow}
use Rattle.mc_shard.proofs.ByClass.{one_more_stripe, some_more}
use Rattle.mc_shard.proofs.Walks.{on_refusal}
use Rattle.mc_shard.proofs.stripe_items.items_of_shard.Goals as goal

pub loop-stripe-preserved : goal.loop-stripe-preserved
loop-stripe-preserved g c =
    let inv = c.loop-stripe.invariant in
    let counted = c.items_of_stripe.ensures in
    record {
      idle = counted.idle;
      number = counted.number ∙ inv.number;
      done = one_more_stripe (setup_of c.args.arena.now) c.loop-stripe.stripe c.args.rows.now c.loop-stripe.rows c.items_of_stripe.new.rows c.args.hand.now c.loop-stripe.hand c.items_of_stripe.new.hand inv.done c.in_ok-items_of_stripe.ensures.counts;
      stores_nothing = counted.stores_nothing ∙ inv.stores_nothing;
      slabs = counted.slabs ∙ inv.slabs;
    }

pub returns-clause-counts : goal.returns-clause-counts
returns-clause-counts g c =
    let same = ap (λ (f : Config). f.stripes) c.config.ensures.config in
    let ends : c.loop-stripe.stripe ≡ (setup_of c.args.arena.now).config.stripes = omega (arith, c.loop-stripe-test.false, c.loop-stripe.auto.stripe-end, same) in
    subst (λ (n : ℕ). AddsFound (λ sizes. FindsSizesBelow (setup_of c.args.arena.now) n sizes c.args.hand.now c.loop-stripe.hand) (setup_of c.args.arena.now).table c.args.rows.now c.loop-stripe.rows) ends c.loop-stripe.invariant.done

pub returns-in_err-items_of_stripe-clause-refused : goal.returns-in_err-items_of_stripe-clause-refused
returns-in_err-items_of_stripe-clause-refused g c =
    on_refusal c.from_residual.result
    (some_more (λ sizes. FindsSizesBelow (setup_of c.args.arena.now) c.loop-stripe.stripe sizes c.args.hand.now c.loop-stripe.hand) (setup_of c.args.arena.now).table c.args.rows.now c.loop-stripe.rows c.items_of_stripe.new.rows c.loop-stripe.invariant.done c.in_err-items_of_stripe.ensures.refused)
