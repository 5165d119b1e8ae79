use Rattle.std.proofs.Common.{ap, subst, ◌∙◌}
use Rattle.mc_words.specs.lock.Out.{without_slabs}
use Rattle.mc_words.specs.hand.View.{View}
use Rattle.mc_mover.specs.Reassigning.{SetsMode}
use Rattle.mc_mover.proofs.HoldsSlabs.{held_for, wait_number}
use Rattle.mc_mover.proofs.Missed.{hand_so, holdings_so, missed_keeps, within_keeps, within_tries}
use Rattle.mc_mover.proofs.Recorded.{kept_of, hand_kept, mine_kept, said_kept}
use Rattle.mc_mover.proofs.within.set_mode_within.Goals as goal

pub returns-in_default-clause-stores_nothing : goal.returns-in_default-clause-stores_nothing
returns-in_default-clause-stores_nothing c =
    said_kept c.args.hand.now c.slabs_within.new.hand (missed_keeps c.args.tries c.args.hand.now.seat.me.0 c.slabs_within.new.hand.seat.me.0 c.in_default.ensures.missed)

pub returns-in_default-clause-records_nothing : goal.returns-in_default-clause-records_nothing
returns-in_default-clause-records_nothing c =
    mine_kept c.args.hand.now c.slabs_within.new.hand (missed_keeps c.args.tries c.args.hand.now.seat.me.0 c.slabs_within.new.hand.seat.me.0 c.in_default.ensures.missed)

pub returns-in_default-clause-holdings : goal.returns-in_default-clause-holdings
returns-in_default-clause-holdings c =
    holdings_so c.args.hand.now c.slabs_within.new.hand (missed_keeps c.args.tries c.args.hand.now.seat.me.0 c.slabs_within.new.hand.seat.me.0 c.in_default.ensures.missed)

pub returns-in_default-clause-hand : goal.returns-in_default-clause-hand
returns-in_default-clause-hand c =
    let same = missed_keeps c.args.tries c.args.hand.now.seat.me.0 c.slabs_within.new.hand.seat.me.0 c.in_default.ensures.missed in
    hand_kept c.args.hand.now c.slabs_within.new.hand same c.args.arena.now c.slabs_within.ensures.arena c.in_default.ensures.same c.requires.ready

pub returns-clause-sets : goal.returns-clause-sets
returns-clause-sets c =
    let hand = c.args.hand.now in
    let held = c.in-Ok in
    let found = held.held.shared in
    let taken : View = c.slabs_within.new.hand.seat.me.0 in
    let done = c.set_automove in
    let last : View = done.new.hand.seat.me.0 in
    let left = done.new.held.shared in
    let number = wait_number hand c.slabs_within.new.hand found held.ensures.within.waits in
    held_for (SetsMode hand.number c.args.mode) hand.seat.me.0 taken last c.give_slabs.new.hand.seat.me.0 found left held.ensures.within.waits
    (subst (λ n. SetsMode n c.args.mode taken found last left) number ((done.ensures.happens, done.ensures.view), done.ensures.set)) c.give_slabs.ensures.left

pub returns-clause-within : goal.returns-clause-within
returns-clause-within c =
    let held = c.in-Ok in
    let done = c.set_automove in
    within_tries c.args.tries c.args.hand.now.seat.me.0 c.slabs_within.new.hand.seat.me.0 done.new.hand.seat.me.0 c.give_slabs.new.hand.seat.me.0 held.held.shared done.new.held.shared held.ensures.within c.give_slabs.ensures.left

pub returns-clause-stores_nothing : goal.returns-clause-stores_nothing
returns-clause-stores_nothing c =
    let held = c.in-Ok in
    let found = held.held.shared in
    let taken : View = c.slabs_within.new.hand.seat.me.0 in
    let done = c.set_automove in
    let last : View = done.new.hand.seat.me.0 in
    let left = done.new.held.shared in
    let same = within_keeps c.args.tries c.args.hand.now.seat.me.0 taken last c.give_slabs.new.hand.seat.me.0 found left held.ensures.within c.give_slabs.ensures.left (ap kept_of done.ensures.view) in
    said_kept c.args.hand.now c.give_slabs.new.hand same

pub returns-clause-records_nothing : goal.returns-clause-records_nothing
returns-clause-records_nothing c =
    let held = c.in-Ok in
    let found = held.held.shared in
    let taken : View = c.slabs_within.new.hand.seat.me.0 in
    let done = c.set_automove in
    let last : View = done.new.hand.seat.me.0 in
    let left = done.new.held.shared in
    let same = within_keeps c.args.tries c.args.hand.now.seat.me.0 taken last c.give_slabs.new.hand.seat.me.0 found left held.ensures.within c.give_slabs.ensures.left (ap kept_of done.ensures.view) in
    mine_kept c.args.hand.now c.give_slabs.new.hand same

pub returns-clause-holdings : goal.returns-clause-holdings
returns-clause-holdings c =
    let held = c.in-Ok in
    let found = held.held.shared in
    let taken : View = c.slabs_within.new.hand.seat.me.0 in
    let done = c.set_automove in
    let last : View = done.new.hand.seat.me.0 in
    let left = done.new.held.shared in
    let same = within_keeps c.args.tries c.args.hand.now.seat.me.0 taken last c.give_slabs.new.hand.seat.me.0 found left held.ensures.within c.give_slabs.ensures.left (ap kept_of done.ensures.view) in
    holdings_so c.args.hand.now c.give_slabs.new.hand same

pub returns-clause-hand : goal.returns-clause-hand
returns-clause-hand c =
    let held = c.in-Ok in
    let found = held.held.shared in
    let taken : View = c.slabs_within.new.hand.seat.me.0 in
    let done = c.set_automove in
    let last : View = done.new.hand.seat.me.0 in
    let left = done.new.held.shared in
    let same = within_keeps c.args.tries c.args.hand.now.seat.me.0 taken last c.give_slabs.new.hand.seat.me.0 found left held.ensures.within c.give_slabs.ensures.left (ap kept_of done.ensures.view) in
    hand_so c.args.arena.now c.args.hand.now c.give_slabs.new.hand same c.give_slabs.ensures.arena (c.give_slabs.ensures.locks ∙ ap without_slabs (done.ensures.locks ∙ held.ensures.locks)) c.requires.ready
