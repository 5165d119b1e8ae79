use Rattle.std.proofs.Common.{refl, ap, sym, ◌∙◌, length, arith}
use Rattle.mc_words.specs.hand.View.{View}
use Rattle.mc_words.proofs.Locks.Locked.{noted_same}
use Rattle.mc_words.proofs.Locks.LockViews.{missed_slabs}
use Rattle.mc_words.proofs.Hands.Tallies.{tallied_same}
use Rattle.mc_words.proofs.Locks.Waits.{may_look_at_slabs}
use Rattle.mc_words.proofs.arena.Arena.slabs_word.Goals as goal

pub look-requires : goal.look-requires
look-requires c =
    let count = c.args.self.now.words in
    (refl, (refl, ((omega arith), (c.requires.arena, may_look_at_slabs c.args.hand.now.seat.me.0))))

pub invariant_of-hand : goal.invariant_of-hand
invariant_of-hand c =
    let a = c.args.hand.now in
    let is = missed_slabs a.seat.me.0 c.look.new.seat.me.0 c.look.result c.look.ensures.happens in
    record { noted = noted_same a.seat.me c.look.new.seat.me a.number a.chunks a.chunks a.locks a.noted c.look.ensures.out c.look.ensures.hand (a.noted.2 ∙ ap (λ (v : View). length v.row.holdings) (sym is)); tallied = tallied_same a.seat.me c.look.new.seat.me a.stamps a.fresh a.tallied (ap (λ (v : View). v.row.ids) is) (ap (λ (v : View). v.row.holdings) is) }

pub returns-clause-happens : goal.returns-clause-happens
returns-clause-happens c = c.look.ensures.happens.0

pub returns-clause-seen : goal.returns-clause-seen
returns-clause-seen c = missed_slabs c.args.hand.now.seat.me.0 c.look.new.seat.me.0 c.look.result c.look.ensures.happens
