use Rattle.std.proofs.Common.{◌≤◌, length, List, ap, refl, sym, subst, ◌∙◌}
use Rattle.mc_classes.specs.Limits.{most_refs}
use Rattle.mc_core.specs.declared.holding.Holding.{Holding}
use Rattle.mc_core.specs.model.Holdings.{has_fresh}
use Rattle.mc_words.specs.lock.Out.{locks_have_no_stripe, without_slabs}
use Rattle.mc_words.specs.hand.View.{View}
use Rattle.mc_words.proofs.Locks.Unlocked.{no_stripes_there}
use Rattle.mc_mover.specs.Turning.{TurnLacksMemory, Turns}
use Rattle.mc_mover.proofs.Chains.{hand_still, held_answer, lacks_leaves, refs_kept, turn_leaves}
use Rattle.mc_mover.proofs.Grows.{turns_grow}
use Rattle.mc_mover.proofs.HoldsSlabs.{held_for, held_holdings, lock_back, wait_holdings, wait_number}
use Rattle.mc_mover.proofs.Locks.{none_with_slabs}
use Rattle.mc_mover.proofs.Missed.{holdings_so, missed_keeps, within_tries}
use Rattle.mc_mover.proofs.Recorded.{hand_kept, said_kept}
use Rattle.mc_mover.proofs.Tells.{fewer_told, turn_told}
use Rattle.mc_mover.proofs.within.turn_within.Goals as goal

pub turn_held-answer-requires-clause-one : goal.turn_held-answer-requires-clause-one
turn_held-answer-requires-clause-one c =
    let now = c.slabs_within.new.hand in
    no_stripes_there now.seat.me.0 now.locks now.noted.4 (ap locks_have_no_stripe c.in-Ok.ensures.locks ∙ none_with_slabs c.args.hand.now c.requires.ready.unlocked)

pub turn_held-answer-requires-clause-fresh : goal.turn_held-answer-requires-clause-fresh
turn_held-answer-requires-clause-fresh c =
    let held = c.in-Ok in
    ap has_fresh (wait_holdings c.args.hand.now.seat.me.0 held.slabs.shared c.slabs_within.new.hand.seat.me.0 held.ensures.within.waits) ∙ c.requires.ready.unfilled

pub turn_held-answer-requires-clause-within_limit : goal.turn_held-answer-requires-clause-within_limit
turn_held-answer-requires-clause-within_limit c =
    let held = c.in-Ok in
    subst (λ (hs : List Holding). length hs ≤ most_refs) (sym (wait_holdings c.args.hand.now.seat.me.0 held.slabs.shared c.slabs_within.new.hand.seat.me.0 held.ensures.within.waits)) c.requires.ready.within_limit

pub returns-in-Ok-answer-clause-turns : goal.returns-in-Ok-answer-clause-turns
returns-in-Ok-answer-clause-turns c =
    let hand = c.args.hand.now in
    let view : View = hand.seat.me.0 in
    let found = c.in-Ok.slabs.shared in
    let taken : View = c.slabs_within.new.hand.seat.me.0 in
    let last : View = c.turn_held-answer.new.hand.seat.me.0 in
    let left = c.turn_held-answer.new.held.shared in
    let number = wait_number hand c.slabs_within.new.hand found c.in-Ok.ensures.within.waits in
    held_for (Turns hand.number c.in-Ok-answer.turn) view taken last c.give_slabs.new.hand.seat.me.0 found left c.in-Ok.ensures.within.waits
    (subst (λ n. Turns n c.in-Ok-answer.turn taken found last left) number c.in-Ok-answer.ensures.turns) c.give_slabs.ensures.left

pub returns-in-Err-clause-lacks : goal.returns-in-Err-clause-lacks
returns-in-Err-clause-lacks c _ =
    let hand = c.args.hand.now in
    let view : View = hand.seat.me.0 in
    let found = c.in-Ok.slabs.shared in
    let taken : View = c.slabs_within.new.hand.seat.me.0 in
    let last : View = c.turn_held-answer.new.hand.seat.me.0 in
    let left = c.turn_held-answer.new.held.shared in
    let number = wait_number hand c.slabs_within.new.hand found c.in-Ok.ensures.within.waits in
    held_for (TurnLacksMemory hand.number) view taken last c.give_slabs.new.hand.seat.me.0 found left c.in-Ok.ensures.within.waits
    (subst (λ n. TurnLacksMemory n taken found last left) number c.in-Err.ensures.lacks) c.give_slabs.ensures.left

pub returns-in-Ok-answer-clause-records : goal.returns-in-Ok-answer-clause-records
returns-in-Ok-answer-clause-records c =
    let hand = c.args.hand.now in
    turn_told hand.number c.in-Ok-answer.turn hand.seat.me.0 c.give_slabs.new.hand.seat.me.0 c.requires.arena.lawful hand.noted.0 (returns-in-Ok-answer-clause-turns c)

pub returns-in-Err-clause-told_before : goal.returns-in-Err-clause-told_before
returns-in-Err-clause-told_before c is =
    let hand = c.args.hand.now in
    fewer_told hand.number hand.seat.me.0 c.give_slabs.new.hand.seat.me.0 c.requires.arena.lawful hand.noted.0 (returns-in-Err-clause-lacks c is)

pub returns-in-Ok-answer-clause-holdings : goal.returns-in-Ok-answer-clause-holdings
returns-in-Ok-answer-clause-holdings c =
    let hand = c.args.hand.now in
    let now = c.give_slabs.new.hand in
    let leaves = (turn_leaves hand.number c.in-Ok-answer.turn hand.seat.me.0 now.seat.me.0 (returns-in-Ok-answer-clause-turns c)) in
    let same = held_holdings hand.seat.me.0 c.slabs_within.new.hand.seat.me.0 c.turn_held-answer.new.hand.seat.me.0 now.seat.me.0 c.in-Ok.slabs.shared c.turn_held-answer.new.held.shared c.in-Ok.ensures.within.waits c.turn_held-answer.ensures.holdings c.give_slabs.ensures.left in
    record { same = same; references = refs_kept hand.seat.me.0 now.seat.me.0 leaves.more same leaves.known }

pub returns-in-Ok-answer-clause-hand : goal.returns-in-Ok-answer-clause-hand
returns-in-Ok-answer-clause-hand c =
    let hand = c.args.hand.now in
    let now = c.give_slabs.new.hand in
    let locks = c.give_slabs.ensures.locks ∙ (ap without_slabs (c.turn_held-answer.ensures.locks ∙ c.in-Ok.ensures.locks) ∙ lock_back c.args.hand.now c.requires.ready.unlocked) in
    hand_still c.args.arena.now hand now c.give_slabs.ensures.arena locks (returns-in-Ok-answer-clause-holdings c).same (turn_leaves hand.number c.in-Ok-answer.turn hand.seat.me.0 now.seat.me.0 (returns-in-Ok-answer-clause-turns c)).ids c.requires.ready

pub returns-in-Ok-answer-clause-stores_nothing : goal.returns-in-Ok-answer-clause-stores_nothing
returns-in-Ok-answer-clause-stores_nothing c =
    let hand = c.args.hand.now in
    let now = c.give_slabs.new.hand in
    (turn_leaves hand.number c.in-Ok-answer.turn hand.seat.me.0 now.seat.me.0 (returns-in-Ok-answer-clause-turns c)).stored

pub returns-in-Err-clause-holdings : goal.returns-in-Err-clause-holdings
returns-in-Err-clause-holdings c =
    let hand = c.args.hand.now in
    let now = c.give_slabs.new.hand in
    let leaves = (lacks_leaves hand.number hand.seat.me.0 now.seat.me.0 (returns-in-Err-clause-lacks c refl)) in
    let same = held_holdings hand.seat.me.0 c.slabs_within.new.hand.seat.me.0 c.turn_held-answer.new.hand.seat.me.0 now.seat.me.0 c.in-Ok.slabs.shared c.turn_held-answer.new.held.shared c.in-Ok.ensures.within.waits c.turn_held-answer.ensures.holdings c.give_slabs.ensures.left in
    record { same = same; references = refs_kept hand.seat.me.0 now.seat.me.0 leaves.more same leaves.known }

pub returns-in-Err-clause-hand : goal.returns-in-Err-clause-hand
returns-in-Err-clause-hand c =
    let hand = c.args.hand.now in
    let now = c.give_slabs.new.hand in
    let locks = c.give_slabs.ensures.locks ∙ (ap without_slabs (c.turn_held-answer.ensures.locks ∙ c.in-Ok.ensures.locks) ∙ lock_back c.args.hand.now c.requires.ready.unlocked) in
    hand_still c.args.arena.now hand now c.give_slabs.ensures.arena locks (returns-in-Err-clause-holdings c).same (lacks_leaves hand.number hand.seat.me.0 now.seat.me.0 (returns-in-Err-clause-lacks c refl)).ids c.requires.ready

pub returns-in-Err-clause-stores_nothing : goal.returns-in-Err-clause-stores_nothing
returns-in-Err-clause-stores_nothing c =
    let hand = c.args.hand.now in
    let now = c.give_slabs.new.hand in
    (lacks_leaves hand.number hand.seat.me.0 now.seat.me.0 (returns-in-Err-clause-lacks c refl)).stored

pub returns-in-Ok-answer-clause-answers : goal.returns-in-Ok-answer-clause-answers
returns-in-Ok-answer-clause-answers c =
    let hand = c.args.hand.now in
    let view : View = hand.seat.me.0 in
    let found = c.in-Ok.slabs.shared in
    let taken : View = c.slabs_within.new.hand.seat.me.0 in
    let last : View = c.turn_held-answer.new.hand.seat.me.0 in
    let left = c.turn_held-answer.new.held.shared in
    held_answer view taken last c.give_slabs.new.hand.seat.me.0 found left c.in-Ok.ensures.within.waits c.give_slabs.ensures.left c.in-Ok-answer.turn
    (turns_grow c.slabs_within.new.hand.number c.in-Ok-answer.turn taken found last left c.in-Ok-answer.ensures.turns) c.in-Ok-answer.ensures.answers

pub returns-in-Ok-answer-clause-within : goal.returns-in-Ok-answer-clause-within
returns-in-Ok-answer-clause-within c not =
    let held = c.in-Ok in
    let turned = c.turn_held-answer in
    within_tries c.args.tries c.args.hand.now.seat.me.0 c.slabs_within.new.hand.seat.me.0 turned.new.hand.seat.me.0 c.give_slabs.new.hand.seat.me.0 held.slabs.shared turned.new.held.shared held.ensures.within c.give_slabs.ensures.left

pub returns-in-Err-clause-within : goal.returns-in-Err-clause-within
returns-in-Err-clause-within c not =
    let held = c.in-Ok in
    let turned = c.turn_held-answer in
    within_tries c.args.tries c.args.hand.now.seat.me.0 c.slabs_within.new.hand.seat.me.0 turned.new.hand.seat.me.0 c.give_slabs.new.hand.seat.me.0 held.slabs.shared turned.new.held.shared held.ensures.within c.give_slabs.ensures.left

pub returns-in_default-clause-within : goal.returns-in_default-clause-within
returns-in_default-clause-within c not = absurd (not refl)

pub returns-in_default-clause-stores_nothing : goal.returns-in_default-clause-stores_nothing
returns-in_default-clause-stores_nothing c =
    said_kept c.args.hand.now c.slabs_within.new.hand (missed_keeps c.args.tries c.args.hand.now.seat.me.0 c.slabs_within.new.hand.seat.me.0 c.in_default.ensures.missed)

pub returns-in_default-clause-holdings : goal.returns-in_default-clause-holdings
returns-in_default-clause-holdings c =
    holdings_so c.args.hand.now c.slabs_within.new.hand (missed_keeps c.args.tries c.args.hand.now.seat.me.0 c.slabs_within.new.hand.seat.me.0 c.in_default.ensures.missed)

pub returns-in_default-clause-hand : goal.returns-in_default-clause-hand
returns-in_default-clause-hand c =
    let same = missed_keeps c.args.tries c.args.hand.now.seat.me.0 c.slabs_within.new.hand.seat.me.0 c.in_default.ensures.missed in
    hand_kept c.args.hand.now c.slabs_within.new.hand same c.args.arena.now c.slabs_within.ensures.arena c.in_default.ensures.same c.requires.ready
