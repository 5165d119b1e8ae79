use Rattle.std.proofs.Common.{◌≡◌, ◌+◌, true, false, not, refl, sym, subst, ◌∙◌, arith}
use denote.Enum.Bare.{sameb}
use Rattle.mc_serial_spec.specs.contracts.turn.Ending.{the_type}
use Rattle.mc_serial_spec.specs.declared.turn.Ending.{Ending}
use Rattle.mc_serial_spec.specs.declared.turn.Ending.TheVariants.{Idle, Went, Finished}
use Rattle.mc_workers.specs.declared.mover.Mover.{Mover}
use Rattle.mc_workers.specs.Moving.{DoesTurnsInRun, WentOn}
use Rattle.mc_workers.proofs.TurnCounts.{turn_few}
use Rattle.mc_workers.proofs.TurnsDone.{gone_all, gone_last, gone_more, gone_out}
use Rattle.mc_workers.proofs.turns.do_turns.Goals as goal

-- what the test of an ending says
is_went : (ending : Ending) → not (sameb the_type ending Went) ≡ false → ending ≡ Went
is_went Idle same = absurd (cc)
is_went Went same = refl
is_went Finished same = absurd (cc)

isnt_went : (ending : Ending) → not (sameb the_type ending Went) ≡ true → ending ≡ Went → ⊥
isnt_went Idle other is = absurd (cc)
isnt_went Went other is = absurd (cc)
isnt_went Finished other is = absurd (cc)

pub add_counts-requires-clause-within_limit : goal.add_counts-requires-clause-within_limit
add_counts-requires-clause-within_limit g c =
    turn_few c.loop.hand.number c.in-Ok.turn c.loop.hand.seat.me.0 c.turn.new.hand.seat.me.0 c.in-Ok.ensures.turns

pub returns-then-ne-clause-does : goal.returns-then-ne-clause-does
returns-then-ne-clause-does g c =
    let turn = c.in-Ok.turn in
    let ended : WentOn turn → ⊥ = λ on. isnt_went c.ending_of-ending.result (sym c.ne.ensures ∙ c.if-ne.true) (c.ending_of-ending.ensures.ending ∙ on) in
    let left : Mover = record c.loop.mover { turns = c.loop.mover.turns + 1 } in
    subst (λ (e : Ending). DoesTurnsInRun c.args.asked e c.add_counts.new.counts c.args.mover.now c.args.hand.now left c.turn.new.hand) (sym c.ending_of-ending.ensures.ending)
    (gone_last c.args.asked c.loop.counter c.loop.counts c.add_counts.new.counts turn c.args.mover.now c.args.hand.now c.loop.mover c.loop.hand left c.turn.new.hand
    c.loop.invariant.gone c.if-mover-ge-MAX_TURNS.false refl (c.in-Ok.ensures.turns, c.in-Ok.ensures.records) c.add_counts.ensures.added c.loop-test.true ended)

pub loop-preserved : goal.loop-preserved
loop-preserved g c =
    let turn = c.in-Ok.turn in
    let inv = c.loop.invariant in
    let went = is_went c.ending_of-ending.result (sym c.ne.ensures ∙ c.if-ne.false) in
    let left : Mover = record c.loop.mover { turns = c.loop.mover.turns + 1 } in
    record {
      arena = c.turn.ensures.hand.arena;
      ready = c.turn.ensures.hand.ready;
      number = c.turn.ensures.hand.number ∙ inv.number;
      holdings = c.turn.ensures.holdings.same ∙ inv.holdings;
      gone = gone_more c.args.asked c.loop.counter c.loop.counts c.add_counts.new.counts turn c.args.mover.now c.args.hand.now c.loop.mover c.loop.hand left c.turn.new.hand
          inv.gone c.if-mover-ge-MAX_TURNS.false refl (c.in-Ok.ensures.turns, c.in-Ok.ensures.records) c.add_counts.ensures.added (sym c.ending_of-ending.ensures.ending ∙ went);
      went = λ some. went;
    }

pub returns-clause-does : goal.returns-clause-does
returns-clause-does g c =
    let inv = c.loop.invariant in
    let most = c.loop.auto.counter-end in
    let over = c.loop-test.false in
    let asked = c.requires.asked in
    gone_all c.args.asked c.loop.counter c.loop.ending c.loop.counts c.args.mover.now c.args.hand.now c.loop.mover c.loop.hand inv.gone (omega (arith, asked.0)) (omega (arith, asked.0)) (inv.went (omega (arith, asked.0)))

pub returns-then-mover-ge-MAX_TURNS-clause-stopped : goal.returns-then-mover-ge-MAX_TURNS-clause-stopped
returns-then-mover-ge-MAX_TURNS-clause-stopped g c =
    λ out. gone_out c.args.asked c.loop.counter c.loop.counts c.args.mover.now c.args.hand.now c.loop.mover c.loop.hand c.loop.invariant.gone c.loop-test.true c.if-mover-ge-MAX_TURNS.true
