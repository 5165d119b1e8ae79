use Rattle.std.proofs.Common.{zero, [], refl, sym, ap, subst, arith, ◌∙◌}
use Rattle.mc_core.specs.declared.event.Step.TheVariants as core
use Rattle.mc_words.specs.hand.View.{View}
use Rattle.mc_words.specs.rule.Happens.{Happens, LawfulView}
use Rattle.mc_words.specs.lock.Out.{IsNoted, HasLocks, with_last, without_slabs}
use Rattle.mc_words.specs.hand.Views.{slabs_given}
use Rattle.mc_words.proofs.Locks.Locked.{has_slabs_lock, slabs_last, left_slabs, noted_gave_slabs}
use Rattle.mc_words.proofs.Locks.LockViews.{given_slabs}
use Rattle.mc_words.proofs.Hands.Tallies.{tallied_same}
use Rattle.mc_words.proofs.arena.Arena.give_slabs.Goals as goal

pub give-requires : goal.give-requires
give-requires c =
    let a = c.args.hand.now in
    let b = c.bring_forward.new.self in
    let view = c.bring_forward.ensures.view in
    let arena = c.requires.arena in
    let has = has_slabs_lock a.seat.me.0 a.locks c.args.held.shared a.noted.4 c.requires.held in
    let noted : IsNoted b.seat.me b.number b.chunks (with_last zero a.locks) = subst (IsNoted b.seat.me b.number b.chunks) c.bring_forward.ensures.locks b.noted in
    (refl, (omega arith, (record { same_table = c.bring_forward.ensures.table ∙ arena.same_table; setup = ap (λ (v : View). v.setup) view ∙ arena.setup; lawful = subst LawfulView (sym view) arena.lawful }, ((_, noted.3 ∙ slabs_last a.locks has), (ap (λ (v : View). v.slabs) view ∙ c.requires.held, (c.requires.whole))))))

pub invariant_of-hand : goal.invariant_of-hand
invariant_of-hand c =
    let a = c.args.hand.now in
    let b = c.bring_forward.new.self in
    let view = c.bring_forward.ensures.view in
    let arena = c.requires.arena in
    let has = has_slabs_lock a.seat.me.0 a.locks c.args.held.shared a.noted.4 c.requires.held in
    let noted : IsNoted b.seat.me b.number b.chunks (with_last zero a.locks) = subst (IsNoted b.seat.me b.number b.chunks) c.bring_forward.ensures.locks b.noted in
    let had : HasLocks b.seat.me.0 a.locks = subst (λ (v : View). HasLocks v a.locks) (sym view) a.noted.4 in
    let is = given_slabs b.seat.me.0 c.give.new.seat.me.0 c.give.ensures.given c.args.held.shared (ap (λ (v : View). v.slabs) c.bring_forward.ensures.view ∙ c.requires.held) in
    let left = noted_gave_slabs b.seat.me c.give.new.seat.me b.number b.chunks a.locks c.give.ensures.hand (ap (λ (v : View). v.row.holdings) is) noted had has c.give.ensures.loses c.give.ensures.out in
    record { noted = subst (IsNoted c.give.new.seat.me b.number b.chunks) (sym (c.without_slabs-hand.ensures.locks ∙ (ap without_slabs c.bring_forward.ensures.locks ∙ left_slabs a.locks))) left; tallied = tallied_same b.seat.me c.give.new.seat.me b.stamps b.fresh b.tallied (ap (λ (v : View). v.row.ids) is) (ap (λ (v : View). v.row.holdings) is) }

pub returns-clause-given : goal.returns-clause-given
returns-clause-given c = subst (λ (v : View). Happens v [] core.GiveSlabs c.give.new.seat.me.0) c.bring_forward.ensures.view c.give.ensures.given

pub returns-clause-left : goal.returns-clause-left
returns-clause-left c =
    let a = c.args.hand.now in
    let b = c.bring_forward.new.self in
    let arena = c.requires.arena in
    given_slabs b.seat.me.0 c.give.new.seat.me.0 c.give.ensures.given c.args.held.shared (ap (λ (v : View). v.slabs) c.bring_forward.ensures.view ∙ c.requires.held) ∙ ap (slabs_given c.args.held.shared) c.bring_forward.ensures.view

pub returns-clause-locks : goal.returns-clause-locks
returns-clause-locks c = c.without_slabs-hand.ensures.locks ∙ (ap without_slabs c.bring_forward.ensures.locks ∙ left_slabs c.args.hand.now.locks)
