use Rattle.std.proofs.Common.{refl, ap, subst, ◌∙◌}
use Rattle.mc_core.specs.model.Holdings.{has_fresh}
use Rattle.mc_words.specs.hand.View.{View}
use Rattle.mc_words.specs.lock.Out.{locks_have_no_stripe, without_slabs}
use Rattle.mc_words.proofs.Hands.HandNumbers.{number_stays}
use Rattle.mc_words.proofs.Locks.Unlocked.{no_stripes_there}
use Rattle.mc_items.specs.MakingRoom.{LacksRoomMemory, MakesRoom}
use Rattle.mc_items.proofs.Chains.{hand_still, holdings_stay}
use Rattle.mc_items.proofs.Locks.{slabs_back, waits_slabs_keep}
use Rattle.mc_items.proofs.Made.{holds_so}
use Rattle.mc_items.proofs.Missed.{slabs_missed_deletes}
use Rattle.mc_items.proofs.Rooms.{held_refused, held_room, none_with_slabs}
use Rattle.mc_items.proofs.within.making_room.make_room_within.Goals as goal

pub make_room_held-made-requires-clause-one : goal.make_room_held-made-requires-clause-one
make_room_held-made-requires-clause-one g c =
    let now = c.slabs_within.new.hand in
    no_stripes_there now.seat.me.0 now.locks now.noted.4 (ap locks_have_no_stripe c.in-Ok.ensures.locks ∙ none_with_slabs c.args.hand.now c.requires.ready.unlocked)

pub make_room_held-made-requires-clause-fresh : goal.make_room_held-made-requires-clause-fresh
make_room_held-made-requires-clause-fresh g c =
    let held = c.in-Ok in
    ap has_fresh (waits_slabs_keep (λ (v : View). v.row.holdings) (λ word v. refl) (λ slabs v. refl) c.args.hand.now.seat.me.0 held.held.shared c.slabs_within.new.hand.seat.me.0 held.ensures.within.waits) ∙ c.requires.ready.unfilled

pub returns-in-Ok-made-clause-makes : goal.returns-in-Ok-made-clause-makes
returns-in-Ok-made-clause-makes g c =
    let hand = c.args.hand.now in
    let held = c.in-Ok in
    let taken : View = c.slabs_within.new.hand.seat.me.0 in
    let made = c.make_room_held-made in
    let last : View = made.new.hand.seat.me.0 in
    let number = number_stays hand c.slabs_within.new.hand (waits_slabs_keep (λ (v : View). v.row.ids) (λ word v. refl) (λ slabs v. refl) hand.seat.me.0 held.held.shared taken held.ensures.within.waits) in
    holds_so (MakesRoom hand.number c.args.class c.in-Ok-made.room) hand.seat.me.0 taken last c.give_slabs.new.hand.seat.me.0 held.held.shared made.new.slabs.shared held.ensures.within.waits
    (subst (λ n. MakesRoom n c.args.class c.in-Ok-made.room taken held.held.shared last made.new.slabs.shared) number c.in-Ok-made.ensures.makes) c.give_slabs.ensures.left

pub returns-in-Ok-made-clause-calls : goal.returns-in-Ok-made-clause-calls
returns-in-Ok-made-clause-calls g c = (held_room c.args.hand.now.number c.args.class c.in-Ok-made.room c.args.hand.now.seat.me.0 c.give_slabs.new.hand.seat.me.0 (returns-in-Ok-made-clause-makes g c)).calls

pub returns-in-Ok-made-clause-holdings : goal.returns-in-Ok-made-clause-holdings
returns-in-Ok-made-clause-holdings g c =
    let deletions = held_room c.args.hand.now.number c.args.class c.in-Ok-made.room c.args.hand.now.seat.me.0 c.give_slabs.new.hand.seat.me.0 (returns-in-Ok-made-clause-makes g c) in
    holdings_stay c.args.hand.now.seat.me.0 c.give_slabs.new.hand.seat.me.0 deletions.holdings deletions.known

pub returns-in-Ok-made-clause-stores_nothing : goal.returns-in-Ok-made-clause-stores_nothing
returns-in-Ok-made-clause-stores_nothing g c = (held_room c.args.hand.now.number c.args.class c.in-Ok-made.room c.args.hand.now.seat.me.0 c.give_slabs.new.hand.seat.me.0 (returns-in-Ok-made-clause-makes g c)).stored

pub returns-in-Ok-made-clause-hand : goal.returns-in-Ok-made-clause-hand
returns-in-Ok-made-clause-hand g c =
    let hand = c.args.hand.now in
    let now = c.give_slabs.new.hand in
    let deletions = held_room c.args.hand.now.number c.args.class c.in-Ok-made.room c.args.hand.now.seat.me.0 c.give_slabs.new.hand.seat.me.0 (returns-in-Ok-made-clause-makes g c) in
    hand_still c.args.arena.now hand now c.give_slabs.ensures.arena (c.give_slabs.ensures.locks ∙ (ap without_slabs (c.make_room_held-made.ensures.locks ∙ c.in-Ok.ensures.locks) ∙ slabs_back hand c.requires.ready.unlocked)) deletions.holdings deletions.ids c.requires.ready

pub returns-in-Err-clause-refused : goal.returns-in-Err-clause-refused
returns-in-Err-clause-refused g c _ =
    let hand = c.args.hand.now in
    let held = c.in-Ok in
    let taken : View = c.slabs_within.new.hand.seat.me.0 in
    let made = c.make_room_held-made in
    let last : View = made.new.hand.seat.me.0 in
    let number = number_stays hand c.slabs_within.new.hand (waits_slabs_keep (λ (v : View). v.row.ids) (λ word v. refl) (λ slabs v. refl) hand.seat.me.0 held.held.shared taken held.ensures.within.waits) in
    holds_so (LacksRoomMemory hand.number c.args.class) hand.seat.me.0 taken last c.give_slabs.new.hand.seat.me.0 held.held.shared made.new.slabs.shared held.ensures.within.waits
    (subst (λ n. LacksRoomMemory n c.args.class taken held.held.shared last made.new.slabs.shared) number c.in-Err.ensures.refused) c.give_slabs.ensures.left

pub returns-in-Err-clause-refused_calls : goal.returns-in-Err-clause-refused_calls
returns-in-Err-clause-refused_calls g c =
    let (count, deletions) = held_refused c.args.hand.now.number c.args.class c.args.hand.now.seat.me.0 c.give_slabs.new.hand.seat.me.0 (returns-in-Err-clause-refused g c refl) in
    (count, deletions.calls)

pub returns-in-Err-clause-holdings : goal.returns-in-Err-clause-holdings
returns-in-Err-clause-holdings g c =
    let deletions = (held_refused c.args.hand.now.number c.args.class c.args.hand.now.seat.me.0 c.give_slabs.new.hand.seat.me.0 (returns-in-Err-clause-refused g c refl)).1 in
    holdings_stay c.args.hand.now.seat.me.0 c.give_slabs.new.hand.seat.me.0 deletions.holdings deletions.known

pub returns-in-Err-clause-stores_nothing : goal.returns-in-Err-clause-stores_nothing
returns-in-Err-clause-stores_nothing g c = ((held_refused c.args.hand.now.number c.args.class c.args.hand.now.seat.me.0 c.give_slabs.new.hand.seat.me.0 (returns-in-Err-clause-refused g c refl)).1).stored

pub returns-in-Err-clause-hand : goal.returns-in-Err-clause-hand
returns-in-Err-clause-hand g c =
    let hand = c.args.hand.now in
    let now = c.give_slabs.new.hand in
    let deletions = (held_refused c.args.hand.now.number c.args.class c.args.hand.now.seat.me.0 c.give_slabs.new.hand.seat.me.0 (returns-in-Err-clause-refused g c refl)).1 in
    hand_still c.args.arena.now hand now c.give_slabs.ensures.arena (c.give_slabs.ensures.locks ∙ (ap without_slabs (c.make_room_held-made.ensures.locks ∙ c.in-Ok.ensures.locks) ∙ slabs_back hand c.requires.ready.unlocked)) deletions.holdings deletions.ids c.requires.ready

-- each try for the lock of the slabs missed
pub returns-in_default-clause-refused_calls : goal.returns-in_default-clause-refused_calls
returns-in_default-clause-refused_calls g c = (0, (slabs_missed_deletes c.args.hand.now.number c.args.tries c.args.hand.now.seat.me.0 c.slabs_within.new.hand.seat.me.0 c.in_default.ensures.missed).calls)

pub returns-in_default-clause-holdings : goal.returns-in_default-clause-holdings
returns-in_default-clause-holdings g c =
    let deletions = slabs_missed_deletes c.args.hand.now.number c.args.tries c.args.hand.now.seat.me.0 c.slabs_within.new.hand.seat.me.0 c.in_default.ensures.missed in
    holdings_stay c.args.hand.now.seat.me.0 c.slabs_within.new.hand.seat.me.0 deletions.holdings deletions.known

pub returns-in_default-clause-stores_nothing : goal.returns-in_default-clause-stores_nothing
returns-in_default-clause-stores_nothing g c = (slabs_missed_deletes c.args.hand.now.number c.args.tries c.args.hand.now.seat.me.0 c.slabs_within.new.hand.seat.me.0 c.in_default.ensures.missed).stored

pub returns-in_default-clause-hand : goal.returns-in_default-clause-hand
returns-in_default-clause-hand g c =
    let hand = c.args.hand.now in
    let now = c.slabs_within.new.hand in
    let deletions = slabs_missed_deletes c.args.hand.now.number c.args.tries c.args.hand.now.seat.me.0 c.slabs_within.new.hand.seat.me.0 c.in_default.ensures.missed in
    hand_still c.args.arena.now hand now c.in_default.ensures.arena c.in_default.ensures.same deletions.holdings deletions.ids c.requires.ready
