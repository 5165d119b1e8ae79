use Rattle.std.proofs.Common.{ℕ, ◌+◌, List, [], append-nil, arith, length, take, refl, sym, subst, ◌∙◌}
use Rattle.std.proofs.lemmas.Result.{err_from_is_err_and}
use Rattle.mc_words.specs.declared.hand.Hand.{Hand}
use Rattle.mc_script.specs.declared.command.Command.TheVariants.{Set}
use Rattle.mc_workers.specs.declared.mover.Mover.{Mover}
use Rattle.mc_workers.specs.Asking.{is_movers, lines_of_mover}
use Rattle.mc_workers.specs.Moving.{turns_of}
use Rattle.mc_workers.proofs.GatedLines.{AreCounted, all_passed, line_counted, line_uncounted, none_counted}
use Rattle.mc_workers.proofs.MovedLines.{MovedSoFar, move_done, move_passed, not_workers}
use Rattle.mc_workers.proofs.SpentTurns.{BeginsAtMost, begun_more, begun_same, move_stopped, none_begun}
use Rattle.mc_workers.proofs.moves.move_each.Goals as goal
use Rattle.mc_workers.proofs.moves.move_each.Goals.{then-is_line_of_mover+in_ok-move_gated, else-is_line_of_mover}

pub loop-command-init : goal.loop-command-init
loop-command-init g c = (
  record {
    hand = c.requires.ready.0;
    ready = c.requires.ready.1;
    number = refl;
    holdings = refl;
    moves = record { replies = []; moves = (refl, refl); added = sym (append-nil c.args.text.now.items) };
  },
  none_counted (g.G.Gate.LetsOn c.args.shared.now.gate.now) 0,
  none_begun c.args.mover.now,
)

pub move_gated-requires-clause-ready : goal.move_gated-requires-clause-ready
move_gated-requires-clause-ready g c = (c.loop-command.invariant.0.hand, c.loop-command.invariant.0.ready)

pub move_gated-requires-clause-mover : goal.move_gated-requires-clause-mover
move_gated-requires-clause-mover g c = not_workers _ (sym c.is_line_of_mover.ensures ∙ c.if-is_line_of_mover.true)

pub loop-command-preserved : goal.loop-command-preserved
loop-command-preserved g c =
    let arena = c.args.shared.now.arena.now in
    let commands = c.args.shared.now.commands.now in
    let i = c.loop-command.command-index in
    let before = c.args.hand.now in
    let mover = c.args.mover.now in
    let text = c.args.text.now.items in
    let lets_on = g.G.Gate.LetsOn c.args.shared.now.gate.now in
    let counted = λ (nth : ℕ). AreCounted lets_on 0 (i + 1) (length (lines_of_mover (take (i + 1) commands))) nth in
    let begun = λ (left : Mover). BeginsAtMost (turns_of mover) (take (i + 1) commands) left in
    let stands = λ (left : Mover) (hand : Hand) (longer : List ℕ). MovedSoFar arena (take (i + 1) commands) mover before text left hand longer in
    elim c.if-is_line_of_mover.branch [
      | then-is_line_of_mover+in_ok-move_gated w ↦ (
        subst (λ (m : Mover). stands m c.if-is_line_of_mover.hand c.if-is_line_of_mover.text.items) (sym w.mover-is)
            (subst (λ (h : Hand). stands w.move_gated.new.mover h c.if-is_line_of_mover.text.items) (sym w.hand-is)
            (subst (λ (t : List ℕ). stands w.move_gated.new.mover w.move_gated.new.hand t) (λ k. (sym w.text-is k).items)
            (move_done arena commands i (Set 0 0 0 0) c.loop-command-test.true mover before text c.loop-command.mover c.loop-command.hand c.loop-command.text.items c.loop-command.invariant.0
            w.move_gated.new.mover w.move_gated.new.hand w.move_gated.new.text.items (sym c.is_line_of_mover.ensures ∙ w.if-is_line_of_mover.true)
            w.in_ok-move_gated.ensures.stays.hand_is.0 w.in_ok-move_gated.ensures.stays.hand_is.1 w.in_ok-move_gated.ensures.stays.number w.in_ok-move_gated.ensures.stays.holdings w.in_ok-move_gated.ensures.adds))),
        subst counted (sym w.nth-is)
            (line_counted lets_on 0 is_movers commands i (Set 0 0 0 0) c.loop-command-test.true c.loop-command.nth c.loop-command.invariant.1 (sym c.is_line_of_mover.ensures ∙ w.if-is_line_of_mover.true) w.in_ok-move_gated.ensures.passed),
        subst begun (sym w.mover-is)
            (begun_more lets_on (turns_of mover) commands i (Set 0 0 0 0) c.loop-command-test.true c.loop-command.nth c.loop-command.invariant.1 c.loop-command.mover c.loop-command.invariant.2
            w.move_gated.new.mover (sym c.is_line_of_mover.ensures ∙ w.if-is_line_of_mover.true) w.in_ok-move_gated.ensures.begun),
      )
      | else-is_line_of_mover w ↦ (
        subst (λ (m : Mover). stands m c.if-is_line_of_mover.hand c.if-is_line_of_mover.text.items) (sym w.mover-is)
            (subst (λ (h : Hand). stands c.loop-command.mover h c.if-is_line_of_mover.text.items) (sym w.hand-is)
            (subst (λ (t : List ℕ). stands c.loop-command.mover c.loop-command.hand t) (λ k. (sym w.text-is k).items)
            (move_passed arena commands i (Set 0 0 0 0) c.loop-command-test.true mover before text c.loop-command.mover c.loop-command.hand c.loop-command.text.items c.loop-command.invariant.0 (sym c.is_line_of_mover.ensures ∙ w.if-is_line_of_mover.false)))),
        subst counted (sym w.nth-is)
            (line_uncounted lets_on 0 is_movers commands i (Set 0 0 0 0) c.loop-command-test.true c.loop-command.nth c.loop-command.invariant.1 (sym c.is_line_of_mover.ensures ∙ w.if-is_line_of_mover.false)),
        subst begun (sym w.mover-is)
            (begun_same lets_on (turns_of mover) commands i (Set 0 0 0 0) c.loop-command-test.true c.loop-command.nth c.loop-command.invariant.1 c.loop-command.mover c.loop-command.invariant.2
            (sym c.is_line_of_mover.ensures ∙ w.if-is_line_of_mover.false)),
      )
    ]

pub returns-clause-passed : goal.returns-clause-passed
returns-clause-passed g c =
    all_passed (g.G.Gate.LetsOn c.args.shared.now.gate.now) 0 (is_movers) c.args.shared.now.commands.now c.loop-command.command-index c.loop-command.nth c.loop-command.invariant.1 (omega arith)

-- the mover was stopped at this line
pub returns-in_err-move_gated-clause-stopped : goal.returns-in_err-move_gated-clause-stopped
returns-in_err-move_gated-clause-stopped g c =
    let p = err_from_is_err_and c.from_residual.result c.from_residual.ensures.1 in
    λ is. move_stopped (g.G.Gate.LetsOn c.args.shared.now.gate.now) (turns_of c.args.mover.now) c.args.shared.now.commands.now c.loop-command.command-index (Set 0 0 0 0) c.loop-command-test.true
    c.loop-command.nth c.loop-command.invariant.1 c.loop-command.mover c.loop-command.invariant.2 (g.G.Gate.Stops c.args.shared.now.gate.now)
    (sym c.is_line_of_mover.ensures ∙ c.if-is_line_of_mover.true) (c.in_err-move_gated.ensures.stopped (cc (p.1, p.2, is)))
