use Rattle.std.proofs.Common.{ap, is_none, refl, subst, ◌∙◌}
use Rattle.mc_words.specs.lock.Out.{without_slabs}
use Rattle.mc_words.specs.hand.View.{View}
use Rattle.mc_words.specs.page.Moves.{Reassigns}
use Rattle.mc_words.proofs.Pages.BegunMoves.{reassigns_from}
use Rattle.mc_mover.proofs.Chains.{reassigns_keep}
use Rattle.mc_mover.proofs.HoldsSlabs.{held_for, wait_number}
use Rattle.mc_mover.proofs.Missed.{begun_uncut, hand_so, holdings_so, missed_keeps, within_keeps, within_tries}
use Rattle.mc_mover.proofs.Recorded.{kept_of, hand_kept, mine_kept, said_kept}
use Rattle.mc_mover.proofs.within.reassign_within.Goals as goal

pub returns-in_default-clause-stores_nothing : goal.returns-in_default-clause-stores_nothing
returns-in_default-clause-stores_nothing c =
    said_kept c.args.hand.now c.slabs_within.new.hand (missed_keeps c.args.tries c.args.hand.now.seat.me.0 c.slabs_within.new.hand.seat.me.0 c.in_default.ensures.missed)

pub returns-in_default-clause-records_nothing : goal.returns-in_default-clause-records_nothing
returns-in_default-clause-records_nothing c =
    mine_kept c.args.hand.now c.slabs_within.new.hand (missed_keeps c.args.tries c.args.hand.now.seat.me.0 c.slabs_within.new.hand.seat.me.0 c.in_default.ensures.missed)

pub returns-in_default-clause-holdings : goal.returns-in_default-clause-holdings
returns-in_default-clause-holdings c =
    holdings_so c.args.hand.now c.slabs_within.new.hand (missed_keeps c.args.tries c.args.hand.now.seat.me.0 c.slabs_within.new.hand.seat.me.0 c.in_default.ensures.missed)

pub returns-in_default-clause-hand : goal.returns-in_default-clause-hand
returns-in_default-clause-hand c =
    let same = missed_keeps c.args.tries c.args.hand.now.seat.me.0 c.slabs_within.new.hand.seat.me.0 c.in_default.ensures.missed in
    hand_kept c.args.hand.now c.slabs_within.new.hand same c.args.arena.now c.slabs_within.ensures.arena c.in_default.ensures.same c.requires.ready

pub returns-clause-reassigns : goal.returns-clause-reassigns
returns-clause-reassigns c =
    let hand = c.args.hand.now in
    let held = c.in-Ok in
    let found = held.held.shared in
    let taken : View = c.slabs_within.new.hand.seat.me.0 in
    let done = c.begin_move-answer in
    let last : View = done.new.hand.seat.me.0 in
    let left = done.new.held.shared in
    let number = wait_number hand c.slabs_within.new.hand found held.ensures.within.waits in
    held_for (Reassigns hand.number c.args.src c.args.dst done.result) hand.seat.me.0 taken last c.give_slabs.new.hand.seat.me.0 found left held.ensures.within.waits
    (subst (λ n. Reassigns n c.args.src c.args.dst done.result taken found last left) number (reassigns_from c.slabs_within.new.hand.number c.args.src c.args.dst taken last found left done.result done.ensures.answer done.ensures.began done.ensures.happens done.ensures.view done.ensures.refused)) c.give_slabs.ensures.left

pub returns-clause-within : goal.returns-clause-within
returns-clause-within c =
    let held = c.in-Ok in
    let done = c.begin_move-answer in
    within_tries c.args.tries c.args.hand.now.seat.me.0 c.slabs_within.new.hand.seat.me.0 done.new.hand.seat.me.0 c.give_slabs.new.hand.seat.me.0 held.held.shared done.new.held.shared held.ensures.within c.give_slabs.ensures.left

pub returns-clause-stores_nothing : goal.returns-clause-stores_nothing
returns-clause-stores_nothing c =
    let held = c.in-Ok in
    let found = held.held.shared in
    let taken : View = c.slabs_within.new.hand.seat.me.0 in
    let done = c.begin_move-answer in
    let last : View = done.new.hand.seat.me.0 in
    let left = done.new.held.shared in
    let same = within_keeps c.args.tries c.args.hand.now.seat.me.0 taken last c.give_slabs.new.hand.seat.me.0 found left held.ensures.within c.give_slabs.ensures.left (reassigns_keep kept_of (λ slabs one word v. refl) c.slabs_within.new.hand.number c.args.src c.args.dst taken last found left done.result (reassigns_from c.slabs_within.new.hand.number c.args.src c.args.dst taken last found left done.result done.ensures.answer done.ensures.began done.ensures.happens done.ensures.view done.ensures.refused)) in
    said_kept c.args.hand.now c.give_slabs.new.hand same

pub returns-clause-records_nothing : goal.returns-clause-records_nothing
returns-clause-records_nothing c =
    let held = c.in-Ok in
    let found = held.held.shared in
    let taken : View = c.slabs_within.new.hand.seat.me.0 in
    let done = c.begin_move-answer in
    let last : View = done.new.hand.seat.me.0 in
    let left = done.new.held.shared in
    let same = within_keeps c.args.tries c.args.hand.now.seat.me.0 taken last c.give_slabs.new.hand.seat.me.0 found left held.ensures.within c.give_slabs.ensures.left (reassigns_keep kept_of (λ slabs one word v. refl) c.slabs_within.new.hand.number c.args.src c.args.dst taken last found left done.result (reassigns_from c.slabs_within.new.hand.number c.args.src c.args.dst taken last found left done.result done.ensures.answer done.ensures.began done.ensures.happens done.ensures.view done.ensures.refused)) in
    mine_kept c.args.hand.now c.give_slabs.new.hand same

pub returns-clause-holdings : goal.returns-clause-holdings
returns-clause-holdings c =
    let held = c.in-Ok in
    let found = held.held.shared in
    let taken : View = c.slabs_within.new.hand.seat.me.0 in
    let done = c.begin_move-answer in
    let last : View = done.new.hand.seat.me.0 in
    let left = done.new.held.shared in
    let same = within_keeps c.args.tries c.args.hand.now.seat.me.0 taken last c.give_slabs.new.hand.seat.me.0 found left held.ensures.within c.give_slabs.ensures.left (reassigns_keep kept_of (λ slabs one word v. refl) c.slabs_within.new.hand.number c.args.src c.args.dst taken last found left done.result (reassigns_from c.slabs_within.new.hand.number c.args.src c.args.dst taken last found left done.result done.ensures.answer done.ensures.began done.ensures.happens done.ensures.view done.ensures.refused)) in
    holdings_so c.args.hand.now c.give_slabs.new.hand same

pub returns-clause-hand : goal.returns-clause-hand
returns-clause-hand c =
    let held = c.in-Ok in
    let found = held.held.shared in
    let taken : View = c.slabs_within.new.hand.seat.me.0 in
    let done = c.begin_move-answer in
    let last : View = done.new.hand.seat.me.0 in
    let left = done.new.held.shared in
    let same = within_keeps c.args.tries c.args.hand.now.seat.me.0 taken last c.give_slabs.new.hand.seat.me.0 found left held.ensures.within c.give_slabs.ensures.left (reassigns_keep kept_of (λ slabs one word v. refl) c.slabs_within.new.hand.number c.args.src c.args.dst taken last found left done.result (reassigns_from c.slabs_within.new.hand.number c.args.src c.args.dst taken last found left done.result done.ensures.answer done.ensures.began done.ensures.happens done.ensures.view done.ensures.refused)) in
    hand_so c.args.arena.now c.args.hand.now c.give_slabs.new.hand same c.give_slabs.ensures.arena (c.give_slabs.ensures.locks ∙ ap without_slabs (done.ensures.locks ∙ held.ensures.locks)) c.requires.ready

pub give_slabs-requires-clause-whole : goal.give_slabs-requires-clause-whole
give_slabs-requires-clause-whole c =
    let begun = c.begin_move-answer in
    let e = begun.ensures in
    let does = reassigns_from c.slabs_within.new.hand.number c.args.src c.args.dst c.slabs_within.new.hand.seat.me.0 begun.new.hand.seat.me.0 c.in-Ok.held.shared begun.new.held.shared begun.result e.answer e.began e.happens e.view e.refused in
    ap is_none (begun_uncut c.slabs_within.new.hand.number c.args.src c.args.dst c.slabs_within.new.hand.seat.me.0 begun.new.hand.seat.me.0 c.in-Ok.held.shared begun.new.held.shared begun.result does ∙ c.in-Ok.ensures.whole.whole)
