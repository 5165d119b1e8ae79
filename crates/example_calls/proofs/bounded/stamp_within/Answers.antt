use Rattle.std.proofs.Common.{◌≡◌, ◌%◌, ℕ, [], ◌∷◌, ◌++◌, length, refl, ap, sym, subst, ◌∙◌, arith}
use Rattle.mc_classes.specs.declared.config.Config.{Config}
use Rattle.mc_stripe.specs.StripeState.{ReadyStripe, stamp_of_key}
use Rattle.mc_core.specs.declared.event.Step.TheVariants as step
use Rattle.mc_words.specs.hand.Arenas.{view}
use Rattle.mc_words.specs.hand.Observers.{last_given}
use Rattle.mc_words.specs.hand.View.{View, made}
use Rattle.mc_words.specs.lock.Lent.{BeginsWithSeen}
use Rattle.mc_words.specs.lock.Out.{without_stripe}
use Rattle.mc_words.proofs.Locks.Waited.{misses_keep}
use Rattle.mc_items.proofs.Chains.{ready_still}
use Rattle.mc_items.proofs.Locks.{locks_back, waits_keep}
use Rattle.example_calls.proofs.Misses.{given_last, misses_stripe, one_more, waits_stripe}
use Rattle.example_calls.proofs.bounded.stamp_within.Goals as goal

pub returns-in_default-clause-ready : goal.returns-in_default-clause-ready
returns-in_default-clause-ready c =
    let missed = c.in_default.ensures in
    let now = c.stripe_within.new.hand in
    let stripe = c.args.key % c.config.result.now.stripes in
    let same = misses_keep (λ (v : View). v.row.holdings) stripe (λ word v. refl) missed.missed.words (view c.args.hand.now) (view now) missed.missed.misses in
    (missed.arena, ready_still c.args.hand.now now missed.same same c.requires.1)

pub returns-in_default-clause-missed : goal.returns-in_default-clause-missed
returns-in_default-clause-missed c =
    let missed = c.in_default.ensures.missed in
    let more = misses_stripe (c.args.key % c.config.result.now.stripes) missed.words (view c.args.hand.now) (view c.stripe_within.new.hand) missed.misses in
    let count = missed.count in
    omega (arith, more, count)

pub returns-clause-ready : goal.returns-clause-ready
returns-clause-ready c =
    let hand = c.args.hand.now in
    let now = c.give_stripe.new.hand in
    let held = c.in-Ok in
    let stripe = c.args.key % c.config.result.now.stripes in
    let waited = waits_keep (λ (v : View). v.row.holdings) stripe (λ word v. refl) (λ value v. refl) (view hand) held.held.stripe (view c.stripe_within.new.hand) held.ensures.within.waits in (
      c.give_stripe.ensures.arena,
      ready_still hand now (c.give_stripe.ensures.locks ∙ (ap without_stripe held.ensures.locks ∙ locks_back hand stripe c.requires.1.unlocked))
          (ap (λ (v : View). v.row.holdings) c.give_stripe.ensures.left ∙ waited) c.requires.1,
    )

pub returns-clause-within_limit : goal.returns-clause-within_limit
returns-clause-within_limit c =
    let taken : View = view c.stripe_within.new.hand in
    let within = c.in-Ok.ensures.within in
    let within_limit = within.within_limit in
    let waits = waits_stripe (c.args.key % c.config.result.now.stripes) (view c.args.hand.now) c.in-Ok.held.stripe taken within.waits in
    let one = one_more taken.events (made [] (step.GiveStripe c.in-Ok.held.number)) in
    let given : length (view c.give_stripe.new.hand).events ≡ length (taken.events ++ made [] (step.GiveStripe c.in-Ok.held.number) ∷ []) = ap (λ (v : View). length v.events) c.give_stripe.ensures.left in
    omega (arith, within_limit, waits, one, given)

pub returns-clause-stamp : goal.returns-clause-stamp
returns-clause-stamp c =
    let held = c.in-Ok in
    let value = held.held.stripe in
    let hand : View = view c.args.hand.now in
    let stripe = c.args.key % c.args.arena.now.table.shared.key.config.stripes in
    let at : c.args.key % c.config.result.now.stripes ≡ stripe = ap (λ (f : Config). c.args.key % f.stripes) c.config.ensures.config in
    record {
      value = value;
      given = ap (λ (v : View). last_given v stripe) c.give_stripe.ensures.left ∙ given_last held.held.number stripe value (view c.stripe_within.new.hand) (held.ensures.number ∙ at);
      begins = subst (λ (n : ℕ). BeginsWithSeen hand n value) at held.ensures.within.waits.begins;
      is = ap (λ (value : ReadyStripe). stamp_of_key value.state c.args.key) (sym c.stripe.ensures.stripe) ∙ sym c.stamp_in-stamp.ensures;
    }
