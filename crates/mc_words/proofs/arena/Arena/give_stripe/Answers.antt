use Rattle.std.proofs.Common.{suc, ◌<◌, [], None, slice_index_or, is_none, refl, sym, ap, subst, arith, ◌∙◌}
use Rattle.mc_core.specs.declared.event.Step.TheVariants as core
use Rattle.mc_words.specs.hand.View.{View, Setup}
use Rattle.mc_words.specs.rule.Happens.{Happens, LawfulView}
use Rattle.mc_words.specs.lock.Out.{IsNoted, HasLocks, with_last, without_stripe}
use Rattle.mc_words.specs.hand.Views.{stripe_given}
use Rattle.mc_words.proofs.Locks.Locked.{has_stripe_lock, stripe_last, left_stripe, noted_gave_stripe}
use Rattle.mc_words.proofs.Locks.LockViews.{given_stripe}
use Rattle.mc_words.proofs.Hands.Tallies.{tallied_same}
use Rattle.mc_words.proofs.arena.Arena.give_stripe.Goals as goal

pub give-requires : goal.give-requires
give-requires c =
    let a = c.args.hand.now in
    let b = c.bring_forward.new.self in
    let view = c.bring_forward.ensures.view in
    let arena = c.requires.arena in
    let in_range : c.args.held.number < a.seat.me.0.setup.config.stripes = let same = ap (λ (s : Setup). s.config.stripes) arena.setup in let in_range = c.requires.in_range in omega arith in
    let has = has_stripe_lock a.seat.me.0 a.locks c.args.held.number c.args.held.stripe a.noted.4 in_range c.requires.held in
    let noted : IsNoted b.seat.me b.number b.chunks (with_last (suc c.args.held.number) a.locks) = subst (IsNoted b.seat.me b.number b.chunks) c.bring_forward.ensures.locks b.noted in
    (refl, (omega arith, (record { same_table = c.bring_forward.ensures.table ∙ arena.same_table; setup = ap (λ (v : View). v.setup) view ∙ arena.setup; lawful = subst LawfulView (sym view) arena.lawful }, ((_, noted.3 ∙ stripe_last a.locks c.args.held.number has), (ap (λ (v : View). slice_index_or v.stripes c.args.held.number None) view ∙ c.requires.held, (ap is_none c.requires.empty))))))

pub invariant_of-hand : goal.invariant_of-hand
invariant_of-hand c =
    let a = c.args.hand.now in
    let b = c.bring_forward.new.self in
    let view = c.bring_forward.ensures.view in
    let arena = c.requires.arena in
    let in_range : c.args.held.number < a.seat.me.0.setup.config.stripes = let same = ap (λ (s : Setup). s.config.stripes) arena.setup in let in_range = c.requires.in_range in omega arith in
    let has = has_stripe_lock a.seat.me.0 a.locks c.args.held.number c.args.held.stripe a.noted.4 in_range c.requires.held in
    let noted : IsNoted b.seat.me b.number b.chunks (with_last (suc c.args.held.number) a.locks) = subst (IsNoted b.seat.me b.number b.chunks) c.bring_forward.ensures.locks b.noted in
    let had : HasLocks b.seat.me.0 a.locks = subst (λ (v : View). HasLocks v a.locks) (sym view) a.noted.4 in
    let is = given_stripe b.seat.me.0 c.give.new.seat.me.0 c.args.held.number c.args.held.stripe (subst (λ (v : View). c.args.held.number < v.setup.config.stripes) (sym c.bring_forward.ensures.view) in_range) c.give.ensures.given (ap (λ (v : View). slice_index_or v.stripes c.args.held.number None) c.bring_forward.ensures.view ∙ c.requires.held) in
    let left = noted_gave_stripe b.seat.me c.give.new.seat.me b.number b.chunks a.locks c.give.ensures.hand (ap (λ (v : View). v.row.holdings) is) c.args.held.number noted had has c.give.ensures.loses c.give.ensures.out in
    record { noted = subst (IsNoted c.give.new.seat.me b.number b.chunks) (sym (c.without_stripe-hand.ensures.locks ∙ (ap without_stripe c.bring_forward.ensures.locks ∙ left_stripe a.locks c.args.held.number))) left; tallied = tallied_same b.seat.me c.give.new.seat.me b.stamps b.fresh b.tallied (ap (λ (v : View). v.row.ids) is) (ap (λ (v : View). v.row.holdings) is) }

pub returns-clause-given : goal.returns-clause-given
returns-clause-given c = subst (λ (v : View). Happens v [] (core.GiveStripe c.args.held.number) c.give.new.seat.me.0) c.bring_forward.ensures.view c.give.ensures.given

pub returns-clause-left : goal.returns-clause-left
returns-clause-left c =
    let a = c.args.hand.now in
    let b = c.bring_forward.new.self in
    let arena = c.requires.arena in
    let in_range : c.args.held.number < a.seat.me.0.setup.config.stripes = let same = ap (λ (s : Setup). s.config.stripes) arena.setup in let in_range = c.requires.in_range in omega arith in
    given_stripe b.seat.me.0 c.give.new.seat.me.0 c.args.held.number c.args.held.stripe (subst (λ (v : View). c.args.held.number < v.setup.config.stripes) (sym c.bring_forward.ensures.view) in_range) c.give.ensures.given (ap (λ (v : View). slice_index_or v.stripes c.args.held.number None) c.bring_forward.ensures.view ∙ c.requires.held) ∙ ap (stripe_given c.args.held.number c.args.held.stripe) c.bring_forward.ensures.view

pub returns-clause-locks : goal.returns-clause-locks
returns-clause-locks c = c.without_stripe-hand.ensures.locks ∙ (ap without_stripe c.bring_forward.ensures.locks ∙ left_stripe c.args.hand.now.locks c.args.held.number)
