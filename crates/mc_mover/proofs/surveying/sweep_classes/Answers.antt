use Rattle.std.proofs.Common.{◌≡◌, ◌+◌, ℕ, List, length, ap, sym, subst, ◌∙◌, arith}
use Rattle.std.specs.List.{range_with_len}
use Rattle.mc_classes.specs.Classes.{Classes}
use Rattle.mc_words.specs.hand.View.{Setup, View}
use Rattle.mc_mover.specs.Surveying.{SweepsClasses}
use Rattle.mc_mover.proofs.Surveys.{all_swept, class_more, classes_alone, classes_here, classes_uncut, none_swept, numbers_more}
use Rattle.mc_mover.proofs.surveying.sweep_classes.Goals as goal
use Rattle.mc_mover.proofs.surveying.sweep_classes.Goals.{then-sweep, else-sweep}

pub loop-place-preserved : goal.loop-place-preserved
loop-place-preserved c =
    let inv = c.loop-place.invariant in
    let place = c.loop-place.place in
    let view : View = c.args.hand.now.seat.me.0 in
    let now : View = c.loop-place.hand.seat.me.0 in
    let next : View = c.sweep.new.hand.seat.me.0 in
    let slabs = c.args.held.now.shared in
    let left = c.loop-place.held.shared in
    let between = c.sweep.new.held.shared in record {
      arena = c.sweep.ensures.arena;
      locks = c.sweep.ensures.locks ∙ inv.locks;
      held = c.sweep.ensures.held;
      so_far = subst (λ (classes : List ℕ). SweepsClasses classes view slabs next between) (sym (numbers_more place)) (class_more (place + 1) now next left between (range_with_len 1 place) view slabs inv.so_far c.sweep.ensures.swept);
    }

pub returns-clause-swept : goal.returns-clause-swept
returns-clause-swept c =
    let inv = c.loop-place.invariant in
    let place = c.loop-place.place in
    let view : View = c.args.hand.now.seat.me.0 in
    let slabs = c.args.held.now.shared in
    let end = c.loop-place.auto.place-end in
    let past = c.loop-place-test.false in
    let here = classes_here view c.requires.arena.lawful slabs c.requires.held ∙ ap (λ (s : Setup). length s.table.sizes) c.requires.arena.setup in
    let count : c.count-count.result ≡ length slabs.classes = c.count-count.ensures.count ∙ (ap (λ (t : Classes). length t.sizes) c.classes.ensures.classes ∙ sym here) in
    let is : range_with_len 1 place ≡ Rattle.mc_mover.specs.Surveying.classes_swept c.args.sweep slabs = elim c.if-sweep.branch [
      | then-sweep w ↦ (let most = w.most-is in all_swept c.args.sweep slabs place w.if-sweep.true (omega arith))
      | else-sweep w ↦ (let most = w.most-is in none_swept c.args.sweep slabs place w.if-sweep.false (omega arith))
    ] in
    subst (λ (classes : List ℕ). SweepsClasses classes view slabs c.loop-place.hand.seat.me.0 c.loop-place.held.shared) is inv.so_far

pub returns-clause-view : goal.returns-clause-view
returns-clause-view c =
    classes_alone (range_with_len 1 c.loop-place.place) c.args.hand.now.seat.me.0 c.args.held.now.shared c.loop-place.hand.seat.me.0 c.loop-place.held.shared c.loop-place.invariant.so_far

pub returns-clause-whole : goal.returns-clause-whole
returns-clause-whole c =
    classes_uncut (range_with_len 1 c.loop-place.place) c.args.hand.now.seat.me.0 c.args.held.now.shared c.loop-place.hand.seat.me.0 c.loop-place.held.shared c.loop-place.invariant.so_far
