use Rattle.std.proofs.Common.{ℕ, sym, subst, ◌∙◌}
use Rattle.mc_words.specs.hand.View.{View}
use Rattle.mc_words.proofs.Hands.HandNumbers.{number_stays}
use Rattle.mc_items.specs.declared.evicting.Supply.{Supply}
use Rattle.mc_items.specs.declared.making_room.Room.{Room}
use Rattle.mc_items.specs.MakingRoom.{EvictsOldestFor}
use Rattle.mc_items.specs.Sources.{AsksMove}
use Rattle.mc_items.proofs.Rooms.{evicts_for}
use Rattle.mc_items.proofs.Visits.{lacking_deletes, oldest_deletes}
use Rattle.mc_items.proofs.making_room.evict_oldest.Goals as goal

pub returns-in-Err-clause-uncut : goal.returns-in-Err-clause-uncut
returns-in-Err-clause-uncut g c =
    (lacking_deletes c.args.hand.now.number c.args.class c.args.hand.now.seat.me.0 c.args.slabs.now.shared c.visit_oldest.new.hand.seat.me.0 c.visit_oldest.new.slabs.shared c.in-Err.ensures.no_memory).2

pub returns-clause-evicts : goal.returns-clause-evicts
returns-clause-evicts g c =
    let hand = c.args.hand.now in
    let class = c.args.class in
    let slabs = c.args.slabs.now.shared in
    let tally = c.in-Ok.tally in
    let next = c.visit_oldest.new in
    let visits = c.in-Ok.ensures.visits in
    let visited : View = next.hand.seat.me.0 in
    let now : View = c.ask_move.new.hand.seat.me.0 in
    let left = c.ask_move.new.held.shared in
    let number = number_stays hand next.hand (oldest_deletes hand.number class tally.evicted tally.freed hand.seat.me.0 slabs visited next.slabs.shared visits).0.ids in
    let asks = subst (λ (p : ℕ × Supply). AsksMove p.0 class p.1 visited next.slabs.shared now left) (λ k. (number k, c.supply_of.ensures.supply k)) c.ask_move.ensures.asks in
    subst (λ (room : Room). EvictsOldestFor hand.number class room hand.seat.me.0 slabs now left) (sym c.room_of.ensures.room)
    (evicts_for hand.number class tally.evicted tally.freed hand.seat.me.0 slabs visited next.slabs.shared now left visits asks)

pub returns-clause-uncut : goal.returns-clause-uncut
returns-clause-uncut g c =
    c.ask_move.ensures.uncut
    ∙ (oldest_deletes c.args.hand.now.number c.args.class c.in-Ok.tally.evicted c.in-Ok.tally.freed c.args.hand.now.seat.me.0 c.args.slabs.now.shared c.visit_oldest.new.hand.seat.me.0 c.visit_oldest.new.slabs.shared c.in-Ok.ensures.visits).1
