use Rattle.std.proofs.Common.{◌≡◌, List, length, ap, ◌∙◌, arith}
use Rattle.mc_core.specs.declared.holding.Holding.{Holding}
use Rattle.mc_core.specs.model.Holdings.{has_fresh, is_of_chunk, without_first}
use Rattle.mc_core.proofs.Counts.Holders.{length-lose-le}
use Rattle.mc_words.specs.hand.View.{View}
use Rattle.mc_words.proofs.Hands.HandNumbers.{number_stays}
use Rattle.mc_items.proofs.Chains.{ready_less, refs_less}
use Rattle.mc_items.proofs.Rows.{fresh_less}
use Rattle.mc_items.proofs.reading.release.Goals as goal

pub returns-clause-hand : goal.returns-clause-hand
returns-clause-hand c =
    let before = c.args.hand.now in
    let now = c.release.new.hand in
    let hs : List Holding = before.seat.me.0.row.holdings in
    let chunk = c.args.item.reference.chunk in
    let holds : now.seat.me.0.row.holdings ≡ without_first (is_of_chunk chunk) hs = ap (λ (v : View). v.row.holdings) c.release.ensures.dropped in
    let same = ap (λ (l : List Holding). length l) holds in
    let less = length-lose-le (is_of_chunk chunk) hs in record {
      arena = c.release.ensures.arena;
      ready = ready_less before now c.release.ensures.locks (ap has_fresh holds ∙ fresh_less (is_of_chunk chunk) hs c.requires.ready.unfilled) (omega arith) c.requires.ready;
      locks = c.release.ensures.locks;
      number = number_stays before now (ap (λ (v : View). v.row.ids) c.release.ensures.dropped);
    }

pub returns-clause-keeps : goal.returns-clause-keeps
returns-clause-keeps c =
    let dropped = c.release.ensures.dropped in
    refs_less c.args.hand.now.seat.me.0 c.release.new.hand.seat.me.0 c.requires.arena.lawful c.requires.ready.unfilled c.args.item.reference.chunk (ap (λ (v : View). v.row.holdings) dropped) (ap (λ (v : View). v.row.knows.known) dropped)
