use Rattle.std.proofs.Common.{◌≡◌, true, sym, subst}
use Rattle.mc_core.specs.model.State.{has_chunk}
use Rattle.mc_words.specs.hand.View.{Setup}
use Rattle.mc_words.proofs.Chunks.OwnDead.{recovers_one}
use Rattle.mc_words.proofs.Chunks.SweepViews.{swept_one}
use Rattle.mc_words.proofs.arena.Arena.recover_own.Goals as goal

pub returns-clause-recovers : goal.returns-clause-recovers
returns-clause-recovers c is =
    let view = c.args.hand.now.seat.me.0 in
    let yes = c.if-not-is_of_class.false in
    let in_range = subst (λ (s : Setup). has_chunk s.table c.in-Some.chunk ≡ true) (sym c.requires.arena.setup) (c.is_of_class.ensures.in_range yes) in
    recovers_one view c.args.held.now.shared c.requires.held c.args.class c.in-Some.chunk (c.is_of_class.ensures.own yes) in_range c.put_back.new.hand.seat.me.0 c.put_back.new.held.shared
    (swept_one c.put_back.result c.put_back.ensures.back c.put_back.ensures.moved)

pub returns-clause-one : goal.returns-clause-one
returns-clause-one c = λ is. (c.in-Some.chunk, c.is_of_class.ensures.own c.if-not-is_of_class.false, swept_one c.put_back.result c.put_back.ensures.back c.put_back.ensures.moved)
