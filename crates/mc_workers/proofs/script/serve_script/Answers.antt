use Rattle.std.proofs.Common.{◌≡◌, ℕ, ◌+◌, List, arith, length, subst}
use Rattle.std.proofs.lemmas.Result.{err_from_is_err_and}
use Rattle.mc_words.specs.declared.hand.Hand.{Hand}
use Rattle.mc_workers.specs.Ends.{LetsAllOn, StopsSome}
use Rattle.mc_workers.specs.Script.{IsOpened}
use Rattle.mc_workers.proofs.script.serve_script.Goals as goal

-- there are as many workers' hands as workers
counted : (hands : List Hand) (workers greatest : ℕ) → 1 + length hands ≡ 1 + workers → workers ≡ greatest → length hands ≡ greatest
counted hands workers greatest count is = omega (arith, count, is)

pub returns : goal.returns
returns g c =
    let opened = c.in_ok-arena in
    record {
      serves = record {
        arena = opened.arena;
        mover = opened.mover;
        workers = opened.hands.items;
        opened = subst (λ (greatest : ℕ). IsOpened c.args.config.now c.args.mode (1 + greatest) opened.arena opened.mover opened.hands.items) c.greatest_worker-workers.ensures.greatest opened.ensures.opened;
        joined = c.in_ok-joined.joined;
        done = c.in_ok-joined.ensures.done;
        tells = c.in_ok-tell_all.ensures.tells;
      };
      passed = subst (λ (count : ℕ). LetsAllOn (g.G.Gate.LetsOn c.args.gate.now) c.args.commands.now 1 count) (counted opened.hands.items c.greatest_worker-workers.result _ opened.ensures.opened.count c.greatest_worker-workers.ensures.greatest) c.in_ok-joined.ensures.passed;
      stopped = λ is. absurd (cc);
    }

-- a thread was stopped
pub returns-in_err-joined-clause-stopped : goal.returns-in_err-joined-clause-stopped
returns-in_err-joined-clause-stopped g c =
    let p = err_from_is_err_and c.from_residual-in_err-joined.result c.from_residual-in_err-joined.ensures.1 in
    let opened = c.in_ok-arena in
    λ is. subst (λ (count : ℕ). StopsSome (g.G.Gate.LetsOn c.args.gate.now) (g.G.Gate.Stops c.args.gate.now) c.args.commands.now 1 count)
    (counted opened.hands.items c.greatest_worker-workers.result _ opened.ensures.opened.count c.greatest_worker-workers.ensures.greatest) (c.in_err-joined.ensures.stopped (cc (p.1, p.2, is)))
