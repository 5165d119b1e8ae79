use Rattle.std.proofs.Common.{ap}
use Rattle.mc_words.specs.hand.View.{View}
use Rattle.mc_words.proofs.Hands.Joined.{agrees, noted_both, none_out}
use Rattle.mc_words.proofs.Hands.Tallies.{tallied_same}
use Rattle.mc_words.proofs.arena.Arena.join_hands.Goals as goal

pub unite-requires-clause-none : goal.unite-requires-clause-none
unite-requires-clause-none c =
    let o = c.args.other in
    none_out o.seat.me o.number o.chunks o.locks o.noted c.requires.idle.1

pub invariant_of-result : goal.invariant_of-result
invariant_of-result c =
    let h = c.args.hand in
    record { noted = noted_both h.seat.me c.unite.new.seat.me c.args.other.seat.me.0 h.number h.chunks h.locks h.noted c.requires.idle.0 c.unite.ensures.out c.unite.ensures.view; tallied = tallied_same h.seat.me c.unite.new.seat.me h.stamps h.fresh h.tallied (ap (λ (v : View). v.row.ids) c.unite.ensures.view) (ap (λ (v : View). v.row.holdings) c.unite.ensures.view) }

pub returns-clause-agree : goal.returns-clause-agree
returns-clause-agree c = agrees c.unite.new.seat.me.0 c.unite.ensures.seat.lawful
