use Rattle.std.proofs.Common.{◌≡◌, ◌<◌, ◌++◌, ◌∷◌, [], ◌∙◌, ℕ, Err, ap, subst, arith}
use Rattle.mc_classes.specs.declared.config.Config.{Config}
use Rattle.mc_words.specs.hand.Arenas.{setup_of, view}
use Rattle.mc_words.specs.hand.View.{View}
use Rattle.mc_items.specs.Clearing.{ClearsStripe}
use Rattle.mc_shard.specs.Walking.{DoesFirst}
use Rattle.mc_shard.proofs.Walks.{all_lost, empty_more, missed_clearing, one_more, stopped_clearing, sum_more, walked_all}
use Rattle.mc_shard.proofs.clearing.clear_within.Goals as goal

pub loop-stripe-preserved : goal.loop-stripe-preserved
loop-stripe-preserved c =
    let inv = c.loop-stripe.invariant in
    let cleared = c.clear_stripe_within.ensures in
    let number = c.args.hand.now.number in
    let stripe = c.loop-stripe.stripe in
    let first : View = c.args.hand.now.seat.me.0 in
    let before : View = c.loop-stripe.hand.seat.me.0 in
    let now : View = c.clear_stripe_within.new.hand.seat.me.0 in
    let here = c.in-Ok.here in
    let one : ClearsStripe number stripe here before now = subst (λ (n : ℕ). ClearsStripe n stripe here before now) inv.number c.in-Ok.ensures.clears in
    record {
      idle = record { of_arena = cleared.hand.arena; ready = cleared.hand.ready; none = cleared.holdings.same ∙ inv.idle.none };
      number = cleared.hand.number ∙ inv.number;
      done = (
        inv.done.0 ++ here ∷ [],
        one_more (ClearsStripe number) stripe here inv.done.0 first before now inv.done.1 one,
        sum_more inv.done.0 c.loop-stripe.count here c.saturating_add-count.result inv.done.2 c.saturating_add-count.ensures,
      );
      empty = empty_more number stripe here before now one inv.empty c.in-Ok.ensures.empty;
      stores_nothing = cleared.stores_nothing ∙ inv.stores_nothing;
      slabs = cleared.slabs ∙ inv.slabs;
    }

-- all stripes are behind the loop
pub returns-clause-clears : goal.returns-clause-clears
returns-clause-clears c =
    let inv = c.loop-stripe.invariant in
    let same = ap (λ (f : Config). f.stripes) c.config.ensures.config in
    let ends : c.loop-stripe.stripe ≡ (setup_of c.args.arena.now).config.stripes = omega (arith, c.loop-stripe-test.false, c.loop-stripe.auto.stripe-end, same) in
    walked_all (ClearsStripe c.args.hand.now.number) (setup_of c.args.arena.now) c.loop-stripe.stripe c.loop-stripe.count c.args.hand.now c.loop-stripe.hand inv.done.0 ends inv.done.1 inv.done.2

pub returns-clause-empty : goal.returns-clause-empty
returns-clause-empty c below in_range =
    let same = ap (λ (f : Config). f.stripes) c.config.ensures.config in
    c.loop-stripe.invariant.empty below (omega (arith, in_range, c.loop-stripe-test.false, same))

pub returns-clause-gone : goal.returns-clause-gone
returns-clause-gone c =
    let inv = c.loop-stripe.invariant in
    let before = c.args.hand.now in
    let now = c.loop-stripe.hand in
    let same = ap (λ (f : Config). f.stripes) c.config.ensures.config in
    let ends : c.loop-stripe.stripe ≡ (setup_of c.args.arena.now).config.stripes = omega (arith, c.loop-stripe-test.false, c.loop-stripe.auto.stripe-end, same) in
    all_lost c.args.arena.now before now inv.done.0 before.number c.requires.of_arena.setup (subst (λ (n : ℕ). DoesFirst (ClearsStripe before.number) n inv.done.0 (view before) (view now)) ends inv.done.1)

pub returns-in-Err-NoMemory-clause-stops : goal.returns-in-Err-NoMemory-clause-stops
returns-in-Err-NoMemory-clause-stops c =
    let inv = c.loop-stripe.invariant in
    let same = ap (λ (f : Config). f.stripes) c.config.ensures.config in
    let in_range : c.loop-stripe.stripe < (setup_of c.args.arena.now).config.stripes = omega (arith, c.loop-stripe-test.true, same) in
    stopped_clearing (setup_of c.args.arena.now) c.args.hand.now c.loop-stripe.hand c.clear_stripe_within.new.hand c.loop-stripe.stripe inv.done.0 inv.number in_range inv.done.1 (c.in-Err-NoMemory.ensures.stops (ap Err c.in-Err-NoMemory.field-0-is))

pub returns-in-Err-Held-clause-stops : goal.returns-in-Err-Held-clause-stops
returns-in-Err-Held-clause-stops c =
    let inv = c.loop-stripe.invariant in
    let same = ap (λ (f : Config). f.stripes) c.config.ensures.config in
    let in_range : c.loop-stripe.stripe < (setup_of c.args.arena.now).config.stripes = omega (arith, c.loop-stripe-test.true, same) in
    missed_clearing (setup_of c.args.arena.now) c.args.tries c.loop-stripe.count c.args.hand.now c.loop-stripe.hand c.clear_stripe_within.new.hand c.loop-stripe.stripe inv.done.0 in_range inv.done.1 (c.in-Err-Held.ensures.held (ap Err c.in-Err-Held.field-0-is)) inv.done.2
