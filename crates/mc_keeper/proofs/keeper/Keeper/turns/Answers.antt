use Rattle.std.proofs.Common.{◌≡◌, ◌*◌, ◌+◌, ◌<◌, ◌≤◌, true, false, not, refl, ap, sym, ◌∙◌, arith}
use Rattle.std.proofs.lemmas.Bool.{not-true, not-false}
use denote.Enum.Bare.{sameb}
use Rattle.mc_serial_spec.specs.contracts.turn.Ending.{the_type}
use Rattle.mc_serial_spec.specs.declared.turn.Ending.{Ending}
use Rattle.mc_serial_spec.specs.declared.turn.Ending.TheVariants.{Idle, Went, Finished}
use Rattle.mc_serial_spec.specs.Machine.{Machine}
use Rattle.mc_serial_spec.specs.Mover.{TurnsOfMover, is_went}
use Rattle.mc_serial_spec.proofs.MoverTurns.{at_most_more, most_turned, turns_end, turns_on, turns_out}
use Rattle.std.proofs.lemmas.Result.{err_from_is_err_and}
use Rattle.mc_keeper.proofs.StageSteps.{turn_behind, turn_ends, turn_waits}
use Rattle.mc_keeper.proofs.keeper.Keeper.turns.Goals as goal

-- the test of an ending
went_same : (ending : Ending) → not (sameb the_type ending Went) ≡ not (is_went ending)
went_same Idle = refl
went_same Went = refl
went_same Finished = refl

pub returns-then-self-ge-MAX_TURNS-clause-stopped : goal.returns-then-self-ge-MAX_TURNS-clause-stopped
returns-then-self-ge-MAX_TURNS-clause-stopped c =
    let out : 1000000 ≤ c.loop.self.turns = rw (← ap (λ (m : Machine). m.turns) c.self.view_is) c.if-self-ge-MAX_TURNS.true in
    λ stopped. turns_out c.args.count c.loop.counter (record { machine = c.loop.self; counts = c.loop.counts; ending = c.loop.ending }) _ c.loop-test.true out c.loop.invariant.rest

pub returns-then-ne-clause-done : goal.returns-then-ne-clause-done
returns-then-ne-clause-done c =
    let left : c.loop.self.turns < 1000000 = rw (← ap (λ (m : Machine). m.turns) c.self.view_is) c.if-self-ge-MAX_TURNS.false in
    let ended : is_went c.in_ok-ending.ending ≡ false = not-true _ (sym (went_same c.in_ok-ending.ending) ∙ sym c.ne.ensures ∙ c.if-ne.true) in
    turns_end c.args.count c.loop.counter (record { machine = c.loop.self; counts = c.loop.counts; ending = c.loop.ending })
    (record { machine = c.turn_on.new.self; counts = c.turn_on.new.counts; ending = c.in_ok-ending.ending }) _ c.loop-test.true left c.in_ok-ending.ensures.done ended
    c.loop.invariant.rest

pub loop-preserved : goal.loop-preserved
loop-preserved c =
    let left : c.loop.self.turns < 1000000 = rw (← ap (λ (m : Machine). m.turns) c.self.view_is) c.if-self-ge-MAX_TURNS.false in
    let went : is_went c.in_ok-ending.ending ≡ true = not-false _ (sym (went_same c.in_ok-ending.ending) ∙ sym c.ne.ensures ∙ c.if-ne.false) in
    let within_limit : c.loop.self.bulk ≤ 256 = rw (← ap (λ (m : Machine). m.bulk) c.self.view_is) c.self.invariant.bulk in
    record {
      rest = turns_on c.args.count c.loop.counter (record { machine = c.loop.self; counts = c.loop.counts; ending = c.loop.ending })
          (record { machine = c.turn_on.new.self; counts = c.turn_on.new.counts; ending = c.in_ok-ending.ending }) _ c.loop-test.true left c.in_ok-ending.ensures.done went
          c.loop.invariant.rest;
      most = at_most_more (256 * c.loop.counter + 256) (256 * (c.loop.counter + 1)) c.turn_on.new.counts
          (rw (← ap (λ (t : TurnsOfMover). t.counts) c.in_ok-ending.ensures.done) (most_turned c.loop.self c.loop.counts (256 * c.loop.counter) within_limit c.loop.invariant.most))
          (omega arith);
      stages = λ m there. c.loop.invariant.stages m
          (turn_behind c.args.count c.loop.counter (record { machine = c.loop.self; counts = c.loop.counts; ending = c.loop.ending })
          (record { machine = c.turn_on.new.self; counts = c.turn_on.new.counts; ending = c.in_ok-ending.ending }) m c.loop-test.true c.in_ok-ending.ensures.done went there);
    }

pub returns-then-self-ge-MAX_TURNS-clause-refused :
    goal.returns-then-self-ge-MAX_TURNS-clause-refused
returns-then-self-ge-MAX_TURNS-clause-refused c =
    c.loop.invariant.stages c.loop.self
    (turn_waits c.args.count c.loop.counter (record { machine = c.loop.self; counts = c.loop.counts; ending = c.loop.ending }) c.loop.self c.loop-test.true refl)

pub returns-in_err-ending-clause-refused : goal.returns-in_err-ending-clause-refused
returns-in_err-ending-clause-refused c =
    let p = err_from_is_err_and c.from_residual.result c.from_residual.ensures.1 in
    rw p.1 (c.loop.invariant.stages c.turn_on.new.self
    (turn_ends c.args.count c.loop.counter (record { machine = c.loop.self; counts = c.loop.counts; ending = c.loop.ending }) c.turn_on.new.self c.loop-test.true
    c.in_err-ending.ensures.refused))
