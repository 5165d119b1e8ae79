use Rattle.std.proofs.Common.{◌∙◌, arith, refl, sym}
use Rattle.mc_cache.proofs.TurnsDone.{all_done, last_done, none_done, one_more}
use Rattle.mc_cache.proofs.window.do_turns.Goals as goal

pub loop-init : goal.loop-init
loop-init g c = record { idle = c.requires; stores_nothing = refl; done = none_done c.args.hand.now c.new-done.result c.new-done.ensures.none }

pub returns-then-not-is_under_way-clause-does : goal.returns-then-not-is_under_way-clause-does
returns-then-not-is_under_way-clause-does g c =
    last_done c.loop.counter c.args.hand.now c.loop.hand c.turn.new.hand c.loop.done c.count.new.self c.in_ok-turn.turn (omega (arith, c.loop-test.true)) c.loop.invariant.done (c.in_ok-turn.ensures.turns, c.in_ok-turn.ensures.records) c.count.ensures.counted
    (sym c.is_under_way.ensures.under_way ∙ c.if-not-is_under_way.true)

pub returns-clause-does : goal.returns-clause-does
returns-clause-does g c = all_done c.loop.counter c.args.hand.now c.loop.hand c.loop.done (omega arith) c.loop.invariant.done

pub loop-preserved : goal.loop-preserved
loop-preserved g c = record {
  idle = record { of_arena = c.turn.ensures.hand.arena; ready = c.turn.ensures.hand.ready; none = c.turn.ensures.holdings.same ∙ c.loop.invariant.idle.none };
  stores_nothing = c.turn.ensures.stores_nothing ∙ c.loop.invariant.stores_nothing;
  done = one_more c.loop.counter c.args.hand.now c.loop.hand c.turn.new.hand c.loop.done c.count.new.self c.in_ok-turn.turn c.loop.invariant.done (c.in_ok-turn.ensures.turns, c.in_ok-turn.ensures.records) c.count.ensures.counted (sym c.is_under_way.ensures.under_way ∙ c.if-not-is_under_way.false);
}
