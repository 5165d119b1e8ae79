use Rattle.std.proofs.Common.{refl, ap, subst, ◌∙◌}
use Rattle.mc_core.specs.model.Holdings.{has_fresh}
use Rattle.mc_words.specs.hand.View.{View}
use Rattle.mc_words.specs.lock.Doing.{HoldsSlabs}
use Rattle.mc_words.specs.lock.Out.{locks_have_no_stripe, without_slabs}
use Rattle.mc_words.proofs.Hands.HandNumbers.{number_stays}
use Rattle.mc_words.proofs.Locks.Unlocked.{no_stripes_there}
use Rattle.mc_items.specs.declared.making_room.Room.{Room}
use Rattle.mc_items.specs.MakingRoom.{LacksRoomMemory, MakesRoom, evicted_for}
use Rattle.mc_items.specs.Visiting.{RecordsDeletes}
use Rattle.mc_items.proofs.Chains.{holdings_stay, ready_still}
use Rattle.mc_items.proofs.Deletes.{ok_map}
use Rattle.mc_items.proofs.Locks.{slabs_back, waits_slabs_keep}
use Rattle.mc_items.proofs.Made.{holds_so}
use Rattle.mc_items.proofs.Rooms.{held_refused, held_room, none_with_slabs, some_deletes}
use Rattle.mc_items.proofs.Supplies.{if_error}
use Rattle.mc_items.proofs.making_room.make_room.Goals as goal

pub make_room_held-made-requires-clause-one : goal.make_room_held-made-requires-clause-one
make_room_held-made-requires-clause-one g c =
    let now = c.lock_slabs-slabs.new.hand in
    no_stripes_there now.seat.me.0 now.locks now.noted.4 (ap locks_have_no_stripe c.lock_slabs-slabs.ensures.locks ∙ none_with_slabs c.args.hand.now c.requires.ready.unlocked)

pub make_room_held-made-requires-clause-fresh : goal.make_room_held-made-requires-clause-fresh
make_room_held-made-requires-clause-fresh g c =
    let held = c.lock_slabs-slabs in
    ap has_fresh (waits_slabs_keep (λ (v : View). v.row.holdings) (λ word v. refl) (λ slabs v. refl) c.args.hand.now.seat.me.0 held.result.shared held.new.hand.seat.me.0 held.ensures.waits) ∙ c.requires.ready.unfilled

pub returns-clause-makes : goal.returns-clause-makes
returns-clause-makes g c =
    let hand = c.args.hand.now in
    let held = c.lock_slabs-slabs in
    let taken : View = held.new.hand.seat.me.0 in
    let made = c.make_room_held-made in
    let last : View = made.new.hand.seat.me.0 in
    let now : View = c.give_slabs.new.hand.seat.me.0 in
    let number = number_stays hand held.new.hand (waits_slabs_keep (λ (v : View). v.row.ids) (λ word v. refl) (λ slabs v. refl) hand.seat.me.0 held.result.shared taken held.ensures.waits) in
    ok_map (λ (room : Room). MakesRoom held.new.hand.number c.args.class room taken held.result.shared last made.new.slabs.shared) (λ (room : Room). HoldsSlabs (MakesRoom hand.number c.args.class room) hand.seat.me.0 now) made.result
    (λ room does. holds_so (MakesRoom hand.number c.args.class room) hand.seat.me.0 taken last now held.result.shared made.new.slabs.shared held.ensures.waits
    (subst (λ n. MakesRoom n c.args.class room taken held.result.shared last made.new.slabs.shared) number does) c.give_slabs.ensures.left)
    made.ensures.makes

pub returns-clause-refused : goal.returns-clause-refused
returns-clause-refused g c =
    let hand = c.args.hand.now in
    let held = c.lock_slabs-slabs in
    let taken : View = held.new.hand.seat.me.0 in
    let made = c.make_room_held-made in
    let last : View = made.new.hand.seat.me.0 in
    let now : View = c.give_slabs.new.hand.seat.me.0 in
    let number = number_stays hand held.new.hand (waits_slabs_keep (λ (v : View). v.row.ids) (λ word v. refl) (λ slabs v. refl) hand.seat.me.0 held.result.shared taken held.ensures.waits) in
    if_error made.result
    (λ does. holds_so (LacksRoomMemory hand.number c.args.class) hand.seat.me.0 taken last now held.result.shared made.new.slabs.shared held.ensures.waits
    (subst (λ n. LacksRoomMemory n c.args.class taken held.result.shared last made.new.slabs.shared) number does) c.give_slabs.ensures.left)
    made.ensures.refused

pub returns-clause-calls : goal.returns-clause-calls
returns-clause-calls g c =
    let hand = c.args.hand.now in
    let now : View = c.give_slabs.new.hand.seat.me.0 in
    ok_map (λ (room : Room). HoldsSlabs (MakesRoom hand.number c.args.class room) hand.seat.me.0 now) (λ (room : Room). RecordsDeletes hand.number (evicted_for room) hand.seat.me.0 now) c.make_room_held-made.result
    (λ room holds. (held_room hand.number c.args.class room hand.seat.me.0 now holds).calls) (returns-clause-makes g c)

pub returns-clause-refused_calls : goal.returns-clause-refused_calls
returns-clause-refused_calls g c =
    let hand = c.args.hand.now in
    let now : View = c.give_slabs.new.hand.seat.me.0 in
    if_error c.make_room_held-made.result
    (λ holds. let (count, deletions) = held_refused hand.number c.args.class hand.seat.me.0 now holds in (count, deletions.calls)) (returns-clause-refused g c)

pub returns-clause-holdings : goal.returns-clause-holdings
returns-clause-holdings g c =
    let hand = c.args.hand.now in
    let now : View = c.give_slabs.new.hand.seat.me.0 in
    let deletions = (some_deletes hand.number c.args.class hand.seat.me.0 now c.make_room_held-made.result (returns-clause-makes g c) (returns-clause-refused g c)).1 in
    holdings_stay hand.seat.me.0 now deletions.holdings deletions.known

pub returns-clause-stores_nothing : goal.returns-clause-stores_nothing
returns-clause-stores_nothing g c =
    let hand = c.args.hand.now in
    let now : View = c.give_slabs.new.hand.seat.me.0 in
    (some_deletes hand.number c.args.class hand.seat.me.0 now c.make_room_held-made.result (returns-clause-makes g c) (returns-clause-refused g c)).1.stored

pub returns-clause-hand : goal.returns-clause-hand
returns-clause-hand g c =
    let hand = c.args.hand.now in
    let after = c.give_slabs.new.hand in
    let now : View = after.seat.me.0 in
    let deletions = (some_deletes hand.number c.args.class hand.seat.me.0 now c.make_room_held-made.result (returns-clause-makes g c) (returns-clause-refused g c)).1 in
    let locks = c.give_slabs.ensures.locks ∙ (ap without_slabs (c.make_room_held-made.ensures.locks ∙ c.lock_slabs-slabs.ensures.locks) ∙ slabs_back hand c.requires.ready.unlocked) in record {
      arena = c.give_slabs.ensures.arena;
      ready = ready_still hand after locks deletions.holdings c.requires.ready;
      locks = locks;
      number = number_stays hand after deletions.ids;
    }
