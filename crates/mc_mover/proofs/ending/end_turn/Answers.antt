use Rattle.std.proofs.Common.{◌≡◌, ◌∙◌, ap, sym, subst, refl, inr, arith, Some}
use Rattle.mc_pages.specs.SlabState.{SlabState, HasClass, class_at}
use Rattle.mc_mover.specs.Turning.{IsAtEnd}
use Rattle.mc_mover.proofs.Ends.{move_here}
use Rattle.mc_mover.proofs.ending.end_turn.Goals as goal

pub per_page-requires : goal.per_page-requires
per_page-requires c =
    let move = c.in-Some.moving in
    let slabs = c.args.held.now.shared in
    let runs : slabs.moving ≡ Some move = sym c.in-Some.ensures.moving in
    subst (λ (s : SlabState). HasClass s move.src) (sym c.slabs.ensures.slabs) (move_here c.args.hand.now.seat.me.0 c.requires.arena.lawful slabs c.requires.held move runs).src

pub returns-then-moving-gt0-clause-ends : goal.returns-then-moving-gt0-clause-ends
returns-then-moving-gt0-clause-ends c =
    let move = c.in-Some.moving in
    let slabs = c.args.held.now.shared in
    let runs : slabs.moving ≡ Some move = sym c.in-Some.ensures.moving in
    let within = (move_here c.args.hand.now.seat.me.0 c.requires.arena.lawful slabs c.requires.held move runs).within in
    let chunks : c.per_page.result ≡ (class_at slabs move.src).per_page = c.per_page.ensures.chunks ∙ ap (λ (s : SlabState). (class_at s move.src).per_page) c.slabs.ensures.slabs in
    let at_end : IsAtEnd slabs move = (runs, omega (arith, within, chunks, c.if-moving-per_page.false)) in
    (refl, inr (move, at_end, omega (arith, c.if-moving-gt0.true), c.wrap.ensures.happens, c.wrap.ensures.view, c.wrap.ensures.wrapped))

pub finish-requires-clause-at_end : goal.finish-requires-clause-at_end
finish-requires-clause-at_end c =
    let move = c.in-Some.moving in
    let slabs = c.args.held.now.shared in
    let runs : slabs.moving ≡ Some move = sym c.in-Some.ensures.moving in
    let within = (move_here c.args.hand.now.seat.me.0 c.requires.arena.lawful slabs c.requires.held move runs).within in
    let chunks : c.per_page.result ≡ (class_at slabs move.src).per_page = c.per_page.ensures.chunks ∙ ap (λ (s : SlabState). (class_at s move.src).per_page) c.slabs.ensures.slabs in
    (runs, omega (arith, within, chunks, c.if-moving-per_page.false))

pub wrap-requires-clause-busy : goal.wrap-requires-clause-busy
wrap-requires-clause-busy c =
    let move = c.in-Some.moving in
    let slabs = c.args.held.now.shared in
    let runs : slabs.moving ≡ Some move = sym c.in-Some.ensures.moving in
    let within = (move_here c.args.hand.now.seat.me.0 c.requires.arena.lawful slabs c.requires.held move runs).within in
    let chunks : c.per_page.result ≡ (class_at slabs move.src).per_page = c.per_page.ensures.chunks ∙ ap (λ (s : SlabState). (class_at s move.src).per_page) c.slabs.ensures.slabs in
    (move, record { runs = runs; at_end = omega (arith, within, chunks, c.if-moving-per_page.false); held_up = omega (arith, c.if-moving-gt0.true) })
