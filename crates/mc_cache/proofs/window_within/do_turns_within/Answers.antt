use Rattle.std.proofs.Common.{Err, ap, arith, refl, sym, true≢false, ◌∙◌}
use Rattle.mc_cache.proofs.TurnsDone.{all_done, last_done, none_done, one_more}
use Rattle.mc_cache.proofs.window_within.do_turns_within.Goals as goal

pub loop-init : goal.loop-init
loop-init c = record { idle = c.requires; stores_nothing = refl; done = none_done c.args.hand.now c.new-done.result c.new-done.ensures.none }

pub returns-in-Err-Held-clause-does : goal.returns-in-Err-Held-clause-does
returns-in-Err-Held-clause-does c =
    let done = c.loop.invariant.done in record {
      whole = λ is. absurd (true≢false is);
      early = λ is. record {
        turns = done.0;
        fewer = omega (arith, done.1, c.loop-test.true);
        under_way = done.4;
        turned = c.loop.hand;
        does = done.2;
        counted = done.3;
        misses = c.in-Err-Held.ensures.missed (ap Err c.in-Err-Held.field-0-is);
      };
    }

pub returns-then-not-is_under_way-clause-does : goal.returns-then-not-is_under_way-clause-does
returns-then-not-is_under_way-clause-does c = record {
  whole = λ is. last_done c.loop.counter c.args.hand.now c.loop.hand c.turn_within.new.hand c.loop.done c.count.new.self c.in-Ok.turn (omega (arith, c.loop-test.true)) c.loop.invariant.done (c.in-Ok.ensures.turns, c.in-Ok.ensures.records) c.count.ensures.counted
      (sym c.is_under_way.ensures.under_way ∙ c.if-not-is_under_way.true);
  early = λ is. absurd (true≢false (sym is));
}

pub returns-clause-does : goal.returns-clause-does
returns-clause-does c = record {
  whole = λ is. all_done c.loop.counter c.args.hand.now c.loop.hand c.loop.done (omega arith) c.loop.invariant.done;
  early = λ is. absurd (true≢false (sym is));
}

pub loop-preserved : goal.loop-preserved
loop-preserved c = record {
  idle = record { of_arena = c.turn_within.ensures.hand.arena; ready = c.turn_within.ensures.hand.ready; none = c.turn_within.ensures.holdings.same ∙ c.loop.invariant.idle.none };
  stores_nothing = c.turn_within.ensures.stores_nothing ∙ c.loop.invariant.stores_nothing;
  done = one_more c.loop.counter c.args.hand.now c.loop.hand c.turn_within.new.hand c.loop.done c.count.new.self c.in-Ok.turn c.loop.invariant.done (c.in-Ok.ensures.turns, c.in-Ok.ensures.records) c.count.ensures.counted (sym c.is_under_way.ensures.under_way ∙ c.if-not-is_under_way.false);
}
