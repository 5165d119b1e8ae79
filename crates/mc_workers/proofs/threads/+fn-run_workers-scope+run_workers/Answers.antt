use Rattle.std.proofs.Common.{suc, ◌+◌, List, [], ◌∷◌, length, IfOk, OnOk, sym, subst}
use Rattle.std.proofs.lemmas.Result.{IfOk-at_ok, IfOk-weaker, err_from_is_err_and, on_ok_weaker}
use Rattle.mc_words.specs.declared.hand.Hand.{Hand}
use Rattle.mc_workers.specs.declared.threads.DoneBy.{DoneBy}
use Rattle.mc_workers.specs.Ends.{EndsServed, LetsAllOn, PassesLines, StopsSome}
use Rattle.mc_workers.specs.Threads.{AreDone, IsMoved, LinesAreServed, JoinsBoth}
use Rattle.mc_workers.proofs.DoneThreads.{all_done, moved_alone}
use Rattle.mc_workers.proofs.EndedThreads.{passes_alone, passes_with, stops_alone, stops_both}
use Rattle.mc_workers.proofs.threads.+fn-run_workers-scope+run_workers.Goals as goal

-- the thread keeps its promise
pub scope-start-child-requires-clause-keeps : goal.scope-start-child-requires-clause-keeps
scope-start-child-requires-clause-keeps g n c = λ lifetimes outlive r gives.
    subst (λ (h : Hand). EndsServed (g.G.Gate.LetsOn c.captures.gate.now) (g.G.Gate.Stops c.captures.gate.now) c.captures.arena.now c.captures.worker c.captures.commands.now h r) (sym c.of.ensures) gives

-- one of two threads was stopped
pub scope-returns-in_err-own-in-Ok : goal.scope-returns-in_err-own-in-Ok
scope-returns-in_err-own-in-Ok g n c =
    let p = err_from_is_err_and c.from_residual.result c.from_residual.ensures.1 in
    let lets_on = g.G.Gate.LetsOn c.captures.gate.now in
    let stops = g.G.Gate.Stops c.captures.gate.now in
    let arena = c.captures.arena.now in
    let commands = c.captures.commands.now in
    let worker = c.captures.worker in
    let own : EndsServed lets_on stops arena worker commands c.captures.hand c.join-own.result =
    subst (λ (h : Hand). EndsServed lets_on stops arena worker commands h c.join-own.result) c.of.ensures
    (subst (λ (p : DoneBy g.row.G.Denot). EndsServed (g.G.Gate.LetsOn p.gate.now) (g.G.Gate.Stops p.gate.now) p.arena.now p.worker p.commands.now p.hand.value c.join-own.result) c.in-Ok.ensures.ok c.join-own.ensures) in
    record {
      done = rw p.1 tt;
      passed = rw p.1 tt;
      stopped = λ is. stops_both lets_on stops commands worker arena c.captures.hand (length c.captures.hands.items) c.join-own.result c.run_workers-others.result
          (c.in_err-own-in-Ok.ensures.turns (cc (p.1, p.2, is))) own c.run_workers-others.ensures.passed c.run_workers-others.ensures.stopped;
    }

-- what it did stands with what the others did
pub scope-returns-in_ok-own-in-Ok : goal.scope-returns-in_ok-own-in-Ok
scope-returns-in_ok-own-in-Ok g n c =
    let lets_on = g.G.Gate.LetsOn c.captures.gate.now in
    let stops = g.G.Gate.Stops c.captures.gate.now in
    let arena = c.captures.arena.now in
    let commands = c.captures.commands.now in
    let worker = c.captures.worker in
    let count = length c.captures.hands.items in
    let own = c.in_ok-own-in-Ok.own in
    let others = c.in_ok-own-in-Ok.others in
    let both = c.in_ok-own-in-Ok.ensures.both in
    let done : AreDone arena (worker + 1) commands c.captures.hands.items c.captures.mover others = IfOk-at_ok (AreDone arena (worker + 1) commands c.captures.hands.items c.captures.mover) both.1 c.run_workers-others.ensures.done in
    let ended : EndsServed lets_on stops arena worker commands c.captures.hand c.join-own.result =
    subst (λ (h : Hand). EndsServed lets_on stops arena worker commands h c.join-own.result) c.of.ensures
    (subst (λ (p : DoneBy g.row.G.Denot). EndsServed (g.G.Gate.LetsOn p.gate.now) (g.G.Gate.Stops p.gate.now) p.arena.now p.worker p.commands.now p.hand.value c.join-own.result) c.in-Ok.ensures.ok c.join-own.ensures) in
    let served : LinesAreServed arena worker commands c.captures.hand own = IfOk-at_ok (LinesAreServed arena worker commands c.captures.hand) both.0 ended.served in
    let first : PassesLines lets_on commands worker = IfOk-at_ok (λ _. PassesLines lets_on commands worker) both.0 ended.passed in
    let passed : LetsAllOn lets_on commands (worker + 1) count = IfOk-at_ok (λ _. LetsAllOn lets_on commands (worker + 1) count) both.1 c.run_workers-others.ensures.passed in
    record {
      done = IfOk-weaker c.join_both.result (JoinsBoth arena own others) (AreDone arena worker commands (c.captures.hand ∷ c.captures.hands.items) c.captures.mover)
          (λ joined joins. all_done arena worker commands c.captures.hand c.captures.hands.items c.captures.mover own others joined served done joins) c.join_both.ensures.joins;
      passed = IfOk-weaker c.join_both.result (JoinsBoth arena own others) (λ _. LetsAllOn lets_on commands worker (suc count))
          (λ joined joins. passes_with lets_on stops commands worker count first passed) c.join_both.ensures.joins;
      stopped = λ is. absurd {A = StopsSome lets_on stops commands worker (suc count)} (c.join_both.ensures.unstopped is);
    }

pub returns-in_default : goal.returns-in_default
returns-in_default g n c =
    let lets_on = g.G.Gate.LetsOn c.args.gate.now in
    let stops = g.G.Gate.Stops c.args.gate.now in
    let commands = c.args.commands.now in
    let worker = c.args.worker in
    let none = sym (c.first_hand.ensures.none c.in_default.is) in
    record {
      done = subst (λ (hands : List Hand). IfOk c.move_alone.result (AreDone c.args.arena.now worker commands hands c.args.mover)) none
          (IfOk-weaker c.move_alone.result (IsMoved c.args.arena.now commands c.args.mover) (AreDone c.args.arena.now worker commands [] c.args.mover)
          (λ joined is. moved_alone c.args.arena.now worker commands c.args.mover joined is) c.move_alone.ensures.moved);
      passed = subst (λ (hands : List Hand). OnOk c.move_alone.result (LetsAllOn lets_on commands worker (length hands))) none
          (on_ok_weaker c.move_alone.result (passes_alone lets_on stops commands worker) c.move_alone.ensures.passed);
      stopped = λ is. subst (λ (hands : List Hand). StopsSome lets_on stops commands worker (length hands)) none (stops_alone lets_on stops commands worker (c.move_alone.ensures.stopped is));
    }

pub returns : goal.returns
returns g n c =
    let lets_on = g.G.Gate.LetsOn c.args.gate.now in
    let stops = g.G.Gate.Stops c.args.gate.now in
    let commands = c.args.commands.now in
    let worker = c.args.worker in
    let all = sym c.in-Some.ensures.all in
    let ended = c.scoped.ensures.1 in
    record {
      done = subst (λ (hands : List Hand). IfOk c.scoped.result (AreDone c.args.arena.now worker commands hands c.args.mover)) all ended.done;
      passed = subst (λ (hands : List Hand). OnOk c.scoped.result (LetsAllOn lets_on commands worker (length hands))) all ended.passed;
      stopped = λ is. subst (λ (hands : List Hand). StopsSome lets_on stops commands worker (length hands)) all (ended.stopped is);
    }
