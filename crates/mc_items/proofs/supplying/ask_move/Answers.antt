use Rattle.std.proofs.Common.{◌≡◌, ◌==◌, None, sym, ap, ◌∙◌, inl}
use Rattle.mc_pages.specs.SlabState.{SlabState}
use Rattle.mc_words.specs.page.Moves.{Reassigns}
use Rattle.mc_words.proofs.Pages.BegunMoves.{reassigns_from, reassigns_holdings, reassigns_uncut}
use Rattle.mc_items.specs.declared.evicting.Supply.{Supply}
use Rattle.mc_items.specs.Sources.{asks_move}
use Rattle.mc_items.proofs.supplying.ask_move.Goals as goal

-- the move, by its answer
asked_here : (c : goal.After-begin_move) → Reassigns c.args.hand.now.number None c.args.class c.begin_move.result c.args.hand.now.seat.me.0 c.args.held.now.shared c.begin_move.new.hand.seat.me.0 c.begin_move.new.held.shared
asked_here c =
    let e = c.begin_move.ensures in
    reassigns_from c.args.hand.now.number None c.args.class c.args.hand.now.seat.me.0 c.begin_move.new.hand.seat.me.0 c.args.held.now.shared c.begin_move.new.held.shared c.begin_move.result e.answer e.began e.happens e.view e.refused

pub returns-then-automove-eq2-clause-asks : goal.returns-then-automove-eq2-clause-asks
returns-then-automove-eq2-clause-asks c =
    let mode : c.args.held.now.shared.automove ≡ 2 = ap (λ (s : SlabState). s.automove) (sym c.slabs.ensures.slabs) ∙ (sym c.automove.ensures.mode ∙ c.if-automove-eq2.true) in
    inl (ap (λ (s : Supply). asks_move s c.args.held.now.shared) c.in-Evicted.is ∙ ap (λ n. n == 2) mode, c.begin_move.result, asked_here c)

pub returns-then-automove-eq2-clause-holdings : goal.returns-then-automove-eq2-clause-holdings
returns-then-automove-eq2-clause-holdings c =
    reassigns_holdings c.args.hand.now.number None c.args.class c.args.hand.now.seat.me.0 c.begin_move.new.hand.seat.me.0 c.args.held.now.shared c.begin_move.new.held.shared c.begin_move.result (asked_here c)

pub returns-then-automove-eq2-clause-uncut : goal.returns-then-automove-eq2-clause-uncut
returns-then-automove-eq2-clause-uncut c =
    reassigns_uncut c.args.hand.now.number None c.args.class c.args.hand.now.seat.me.0 c.begin_move.new.hand.seat.me.0 c.args.held.now.shared c.begin_move.new.held.shared c.begin_move.result (asked_here c)
