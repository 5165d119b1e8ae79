use Rattle.std.proofs.Common.{ℕ, ap, inl, inr, sym, true≢false, ◌∙◌}
use Rattle.mc_cache.specs.Windows.{found_by}
use Rattle.mc_cache.proofs.Recalls.{ended_before, held_before}
use Rattle.mc_cache.proofs.window_within.tend_shard_within.Goals as goal

pub returns-in-Held-clause-tends : goal.returns-in-Held-clause-tends
returns-in-Held-clause-tends c = record {
  whole = λ is. absurd (true≢false is);
  early = λ is. inl (held_before c.args.hand.now c.recall.new.hand c.recall.ensures.same c.recall.ensures.number c.args.tries c.in_ok-first.field-0 c.args.decider.now c.end_window_within.new.decider c.end_window_within.new.hand c.in-Held.is c.in_ok-first.ensures.ends, c.new.ensures.none);
}

pub returns-then-window-clause-tends : goal.returns-then-window-clause-tends
returns-then-window-clause-tends c = record {
  whole = λ is. absurd (true≢false (sym c.if-window.true ∙ is));
  early = λ is. inr (record {
    first = c.in-Ended.first;
    asked = c.end_window_within.new.hand;
    window = ended_before c.args.hand.now c.recall.new.hand c.recall.ensures.same c.recall.ensures.number c.args.tries c.in_ok-first.field-0 c.in-Ended.first c.args.decider.now c.end_window_within.new.decider c.end_window_within.new.hand c.in-Ended.is c.in_ok-first.ensures.ends;
    counts = c.in_ok-window.window.done;
    stops = inl (c.in_ok-window.ensures.does.early c.if-window.true);
    counted = ap (λ (n : ℕ). record c.in_ok-window.window.done { found = n; began = c.count_begun-window.result }) c.count_found-window.ensures.found ∙ ap (λ (n : ℕ). record c.in_ok-window.window.done { found = found_by c.in-Ended.first.running; began = n }) c.count_begun-window.ensures.begun;
  });
}

pub returns-in-Ok-clause-tends : goal.returns-in-Ok-clause-tends
returns-in-Ok-clause-tends c = record {
  whole = λ is. record {
    first = c.in-Ended.first;
    asked = c.end_window_within.new.hand;
    window = ended_before c.args.hand.now c.recall.new.hand c.recall.ensures.same c.recall.ensures.number c.args.tries c.in_ok-first.field-0 c.in-Ended.first c.args.decider.now c.end_window_within.new.decider c.end_window_within.new.hand c.in-Ended.is c.in_ok-first.ensures.ends;
    counts = c.in_ok-window.window.done;
    turned = c.do_turns_within.new.hand;
    turns = c.in_ok-window.ensures.does.whole c.if-window.false;
    trims = c.in-Ok.ensures.trims;
    counted = ap (λ (n : ℕ). record c.in_ok-window.window.done { found = n; began = c.count_begun-window.result }) c.count_found-window.ensures.found ∙ ap (λ (n : ℕ). record c.in_ok-window.window.done { found = found_by c.in-Ended.first.running; began = n }) c.count_begun-window.ensures.begun;
  };
  early = λ is. absurd (true≢false (sym is ∙ c.if-window.false));
}

pub returns-in-Err-clause-tends : goal.returns-in-Err-clause-tends
returns-in-Err-clause-tends c = record {
  whole = λ is. absurd (true≢false is);
  early = λ is. inr (record {
    first = c.in-Ended.first;
    asked = c.end_window_within.new.hand;
    window = ended_before c.args.hand.now c.recall.new.hand c.recall.ensures.same c.recall.ensures.number c.args.tries c.in_ok-first.field-0 c.in-Ended.first c.args.decider.now c.end_window_within.new.decider c.end_window_within.new.hand c.in-Ended.is c.in_ok-first.ensures.ends;
    counts = c.in_ok-window.window.done;
    stops = inr (record { turned = c.do_turns_within.new.hand; turns = c.in_ok-window.ensures.does.whole c.if-window.false; misses = c.in-Err.ensures.missed });
    counted = ap (λ (n : ℕ). record c.in_ok-window.window.done { found = n; began = c.count_begun-window.result }) c.count_found-window.ensures.found ∙ ap (λ (n : ℕ). record c.in_ok-window.window.done { found = found_by c.in-Ended.first.running; began = n }) c.count_begun-window.ensures.begun;
  });
}
