use Rattle.std.proofs.Common.{ℕ, ◌+◌, List, [], append-nil, arith, length, take, refl, sym, subst, ◌∙◌}
use Rattle.std.proofs.lemmas.Result.{err_from_is_err_and}
use Rattle.mc_words.specs.declared.hand.Hand.{Hand}
use Rattle.mc_items.specs.declared.refs.Ref.{Ref}
use Rattle.mc_script.specs.declared.command.Command.TheVariants.{Set}
use Rattle.mc_workers.specs.Asking.{is_asked_by, lines_of}
use Rattle.mc_workers.proofs.GatedLines.{AreCounted, all_passed, line_counted, line_stopped, line_uncounted, none_counted}
use Rattle.mc_workers.proofs.ServedLines.{SoFar, line_done, line_passed}
use Rattle.mc_workers.proofs.lines.serve_each.Goals as goal
use Rattle.mc_workers.proofs.lines.serve_each.Goals.{then-is_line_of+in_ok-serve_gated, else-is_line_of}

pub serve_gated-requires-clause-keeping : goal.serve_gated-requires-clause-keeping
serve_gated-requires-clause-keeping g c =
    let so_far = c.loop-command.invariant.0 in record { hand_is = (so_far.hand, so_far.ready); keeps = so_far.kept_are }

pub loop-command-init : goal.loop-command-init
loop-command-init g c = (
  record {
    hand = c.requires.keeping.hand_is.0;
    ready = c.requires.keeping.hand_is.1;
    kept_are = c.requires.keeping.keeps;
    number = refl;
    serves = record { replies = []; serves = (refl, refl); added = sym (append-nil c.args.text.now.items) };
  },
  none_counted (g.G.Gate.LetsOn c.args.shared.now.gate.now) c.args.worker,
)

pub loop-command-preserved : goal.loop-command-preserved
loop-command-preserved g c =
    let arena = c.args.shared.now.arena.now in
    let commands = c.args.shared.now.commands.now in
    let i = c.loop-command.command-index in
    let before = c.args.hand.now in
    let kept = c.args.kept.now.items in
    let text = c.args.text.now.items in
    let lets_on = g.G.Gate.LetsOn c.args.shared.now.gate.now in
    let counted = λ (nth : ℕ). AreCounted lets_on c.args.worker (i + 1) (length (lines_of c.args.worker (take (i + 1) commands))) nth in
    let stands = λ (hand : Hand) (left : List Ref) (longer : List ℕ). SoFar arena c.args.worker (take (i + 1) commands) kept before text hand left longer in
    elim c.if-is_line_of.branch [
      | then-is_line_of+in_ok-serve_gated w ↦ (
        subst (λ (h : Hand). stands h c.if-is_line_of.kept.items c.if-is_line_of.text.items) (sym w.hand-is)
            (subst (λ (k : List Ref). stands w.serve_gated.new.hand k c.if-is_line_of.text.items) (λ k. (sym w.kept-is k).items)
            (subst (λ (t : List ℕ). stands w.serve_gated.new.hand w.serve_gated.new.kept.items t) (λ k. (sym w.text-is k).items)
            (line_done arena c.args.worker commands i (Set 0 0 0 0) c.loop-command-test.true kept before text c.loop-command.hand c.loop-command.kept.items c.loop-command.text.items c.loop-command.invariant.0
            w.serve_gated.new.hand w.serve_gated.new.kept.items w.serve_gated.new.text.items (sym c.is_line_of.ensures ∙ w.if-is_line_of.true) w.in_ok-serve_gated.ensures.stays.hand_is.0 w.in_ok-serve_gated.ensures.stays.hand_is.1 w.in_ok-serve_gated.ensures.stays.keeps w.in_ok-serve_gated.ensures.stays.number w.in_ok-serve_gated.ensures.adds))),
        subst counted (sym w.nth-is)
            (line_counted lets_on c.args.worker (is_asked_by c.args.worker) commands i (Set 0 0 0 0) c.loop-command-test.true c.loop-command.nth c.loop-command.invariant.1 (sym c.is_line_of.ensures ∙ w.if-is_line_of.true) w.in_ok-serve_gated.ensures.passed),
      )
      | else-is_line_of w ↦ (
        subst (λ (h : Hand). stands h c.if-is_line_of.kept.items c.if-is_line_of.text.items) (sym w.hand-is)
            (subst (λ (k : List Ref). stands c.loop-command.hand k c.if-is_line_of.text.items) (λ k. (sym w.kept-is k).items)
            (subst (λ (t : List ℕ). stands c.loop-command.hand c.loop-command.kept.items t) (λ k. (sym w.text-is k).items)
            (line_passed arena c.args.worker commands i (Set 0 0 0 0) c.loop-command-test.true kept before text c.loop-command.hand c.loop-command.kept.items c.loop-command.text.items c.loop-command.invariant.0 (sym c.is_line_of.ensures ∙ w.if-is_line_of.false)))),
        subst counted (sym w.nth-is)
            (line_uncounted lets_on c.args.worker (is_asked_by c.args.worker) commands i (Set 0 0 0 0) c.loop-command-test.true c.loop-command.nth c.loop-command.invariant.1 (sym c.is_line_of.ensures ∙ w.if-is_line_of.false)),
      )
    ]

pub returns-clause-passed : goal.returns-clause-passed
returns-clause-passed g c =
    all_passed (g.G.Gate.LetsOn c.args.shared.now.gate.now) c.args.worker (is_asked_by c.args.worker) c.args.shared.now.commands.now c.loop-command.command-index c.loop-command.nth c.loop-command.invariant.1 (omega arith)

-- the gate stopped the worker at this line
pub returns-in_err-serve_gated-clause-stopped : goal.returns-in_err-serve_gated-clause-stopped
returns-in_err-serve_gated-clause-stopped g c =
    let p = err_from_is_err_and c.from_residual.result c.from_residual.ensures.1 in
    λ is. line_stopped (g.G.Gate.LetsOn c.args.shared.now.gate.now) c.args.worker (is_asked_by c.args.worker) c.args.shared.now.commands.now c.loop-command.command-index (Set 0 0 0 0) c.loop-command-test.true
    c.loop-command.nth c.loop-command.invariant.1 (g.G.Gate.Stops c.args.shared.now.gate.now) (sym c.is_line_of.ensures ∙ c.if-is_line_of.true) (c.in_err-serve_gated.ensures.stopped (cc (p.1, p.2, is)))
