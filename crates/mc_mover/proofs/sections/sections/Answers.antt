use Rattle.std.proofs.Common.{◌∙◌, ap, sym, subst, refl, arith}
use Rattle.mc_classes.specs.declared.config.Config.{Config}
use Rattle.mc_pages.specs.SlabState.{SlabState, HasClass, class_at}
use Rattle.mc_words.specs.hand.View.{Setup, View}
use Rattle.mc_words.specs.hand.Arenas.{setup_of}
use Rattle.mc_words.specs.lock.Out.{locks_have_no_stripe}
use Rattle.mc_words.proofs.Locks.Unlocked.{no_stripe_from, no_stripes_there}
use Rattle.mc_mover.specs.Turning.{Section}
use Rattle.mc_mover.proofs.Ends.{move_here}
use Rattle.mc_words.proofs.Hands.HandNumbers.{number_stays}
use Rattle.mc_mover.proofs.Refusals.{as_error, on_error}
use Rattle.mc_mover.proofs.Rounds.{all_of_bulk, all_of_page, counts_small, gone_more, gone_none, gone_runs, lacks_next, some_move}
use Rattle.mc_mover.proofs.sections.sections.Goals as goal

pub loop-init : goal.loop-init
loop-init c =
    let slabs = c.args.held.now.shared in
    let (move, runs) = some_move slabs.moving c.requires.runs in
    record {
      arena = c.requires.arena;
      locks = refl;
      held = c.requires.held;
      uncut = refl;
      holdings = refl;
      ids = refl;
      gone = gone_none c.args.hand.now.number c.args.hand.now.seat.me.0 slabs move runs c.new-counts.result c.new-counts.ensures.none;
    }

pub per_page-requires : goal.per_page-requires
per_page-requires c =
    let inv = c.loop.invariant in
    let move = c.in-Some.moving in
    subst (λ (s : SlabState). HasClass s move.src) (sym c.slabs.ensures.slabs) (move_here c.loop.hand.seat.me.0 inv.arena.lawful c.loop.held.shared inv.held move (sym c.in-Some.ensures.moving)).src

pub section-requires-clause-one : goal.section-requires-clause-one
section-requires-clause-one c =
    let inv = c.loop.invariant in
    let hand = c.args.hand.now in
    let now = c.loop.hand in
    no_stripes_there now.seat.me.0 now.locks now.noted.4 (ap locks_have_no_stripe inv.locks ∙ no_stripe_from hand.seat.me.0 hand.locks hand.noted.4 c.requires.one)

pub returns-in_err-found-clause-lacks : goal.returns-in_err-found-clause-lacks
returns-in_err-found-clause-lacks c =
    let inv = c.loop.invariant in
    let hand = c.args.hand.now in
    let before : View = c.loop.hand.seat.me.0 in
    let now : View = c.section.new.hand.seat.me.0 in
    let move = c.in-Some.moving in
    let bulk = ap (λ (f : Config). f.bulk) c.config.ensures.config ∙ ap (λ (s : Setup). s.config.bulk) (sym c.requires.arena.setup) in
    let within_limit = c.loop-test.true in
    let chunks = c.per_page.ensures.chunks ∙ ap (λ (s : SlabState). (class_at s move.src).per_page) c.slabs.ensures.slabs in
    let inside = c.if-moving-per_page.false in
    as_error c.from_residual.result
    (lacks_next hand.number c.loop.counter c.loop.counts c.loop.sweep move hand.seat.me.0 c.args.held.now.shared before c.loop.held.shared now c.section.new.held.shared inv.gone
    (omega arith) (sym c.in-Some.ensures.moving) (omega arith) (on_error c.section.result c.in_err-found.field-0.0 c.in_err-found.was c.section.ensures.lacks))

pub count-requires : goal.count-requires
count-requires c =
    let inv = c.loop.invariant in
    let hand = c.args.hand.now in
    record {
      below = counts_small (setup_of c.args.arena.now) hand.seat.me.0 c.requires.arena.lawful c.requires.arena.setup c.args.held.now.shared c.requires.held
          c.loop.hand.seat.me.0 inv.arena.lawful inv.arena.setup c.loop.held.shared inv.held hand.number c.loop.counter c.loop.counts c.loop.sweep inv.gone;
    }

pub loop-preserved : goal.loop-preserved
loop-preserved c =
    let inv = c.loop.invariant in
    let hand = c.args.hand.now in
    let before : View = c.loop.hand.seat.me.0 in
    let now : View = c.section.new.hand.seat.me.0 in
    let left = c.section.new.held.shared in
    let found = c.in_ok-found.found in
    record {
      arena = c.section.ensures.arena;
      locks = c.section.ensures.locks ∙ inv.locks;
      held = c.section.ensures.held;
      uncut = c.section.ensures.uncut ∙ inv.uncut;
      holdings = c.section.ensures.holdings ∙ inv.holdings;
      ids = c.section.ensures.ids ∙ inv.ids;
      gone = gone_more hand.number c.loop.counter c.loop.counts c.count.new.self c.loop.sweep found c.section.new.sweep c.in-Some.moving hand.seat.me.0 c.args.held.now.shared before c.loop.held.shared now left inv.gone
          (sym c.in-Some.ensures.moving) (subst (λ n. Section n c.loop.sweep found c.section.new.sweep before c.loop.held.shared now left) (number_stays hand c.loop.hand inv.ids) c.in_ok-found.ensures.section)
          c.in_ok-found.ensures.moves c.count.ensures.counted;
    }

pub returns-clause-looks : goal.returns-clause-looks
returns-clause-looks c =
    let inv = c.loop.invariant in
    let hand = c.args.hand.now in
    let bulk = ap (λ (f : Config). f.bulk) c.config.ensures.config ∙ ap (λ (s : Setup). s.config.bulk) (sym c.requires.arena.setup) in
    let most = c.loop.auto.counter-end in
    let over = c.loop-test.false in
    all_of_bulk (setup_of c.args.arena.now) hand.seat.me.0 c.requires.arena.lawful c.requires.arena.setup c.args.held.now.shared c.requires.held
    c.loop.hand.seat.me.0 inv.arena.lawful inv.arena.setup c.loop.held.shared inv.held hand.number c.loop.counter c.loop.counts c.loop.sweep inv.gone
    (omega arith) (omega arith)

pub returns-then-moving-per_page-clause-looks : goal.returns-then-moving-per_page-clause-looks
returns-then-moving-per_page-clause-looks c =
    let inv = c.loop.invariant in
    let hand = c.args.hand.now in
    let move = c.in-Some.moving in
    let bulk = ap (λ (f : Config). f.bulk) c.config.ensures.config ∙ ap (λ (s : Setup). s.config.bulk) (sym c.requires.arena.setup) in
    let within_limit = c.loop-test.true in
    let chunks = c.per_page.ensures.chunks ∙ ap (λ (s : SlabState). (class_at s move.src).per_page) c.slabs.ensures.slabs in
    let past = c.if-moving-per_page.true in
    all_of_page (setup_of c.args.arena.now) hand.seat.me.0 c.requires.arena.lawful c.requires.arena.setup c.args.held.now.shared c.requires.held
    c.loop.hand.seat.me.0 inv.arena.lawful inv.arena.setup c.loop.held.shared inv.held hand.number c.loop.counter c.loop.counts c.loop.sweep inv.gone
    (omega arith) move (sym c.in-Some.ensures.moving) (omega arith)

pub returns-clause-same_move : goal.returns-clause-same_move
returns-clause-same_move c =
    let hand = c.args.hand.now in
    gone_runs hand.number c.loop.counter c.loop.counts c.loop.sweep hand.seat.me.0 c.args.held.now.shared c.loop.hand.seat.me.0 c.loop.held.shared c.loop.invariant.gone

pub returns-then-moving-per_page-clause-same_move : goal.returns-then-moving-per_page-clause-same_move
returns-then-moving-per_page-clause-same_move c =
    let hand = c.args.hand.now in
    gone_runs hand.number c.loop.counter c.loop.counts c.loop.sweep hand.seat.me.0 c.args.held.now.shared c.loop.hand.seat.me.0 c.loop.held.shared c.loop.invariant.gone
