use Rattle.std.proofs.Common.{◌≤◌, length, List, ap, sym, subst, ◌∙◌}
use Rattle.mc_classes.specs.Limits.{most_refs}
use Rattle.mc_core.specs.declared.holding.Holding.{Holding}
use Rattle.mc_core.specs.model.Holdings.{has_fresh}
use Rattle.mc_words.specs.lock.Doing.{HoldsSlabs}
use Rattle.mc_words.specs.lock.Out.{locks_have_no_stripe, without_slabs}
use Rattle.mc_words.specs.hand.View.{View}
use Rattle.mc_words.proofs.Locks.Unlocked.{no_stripes_there}
use Rattle.mc_mover.specs.declared.counts.Turn.{Turn}
use Rattle.mc_mover.specs.Answering.{AnswersMove, IsAnswerOf}
use Rattle.mc_mover.specs.Telling.{RecordsAsCounted, counts_in}
use Rattle.mc_mover.specs.Turning.{TurnLacksMemory, Turns}
use Rattle.mc_mover.proofs.Chains.{answer_leaves, hand_still, held_answer, refs_kept}
use Rattle.mc_mover.proofs.Grows.{turns_grow}
use Rattle.mc_mover.proofs.HoldsSlabs.{held_for, held_holdings, lock_back, wait_holdings, wait_number}
use Rattle.mc_mover.proofs.Locks.{none_with_slabs}
use Rattle.mc_mover.proofs.Refusals.{both_ok, if_ok, on_err}
use Rattle.mc_mover.proofs.Tells.{fewer_told, turn_told}
use Rattle.mc_mover.proofs.turning.turn.Goals as goal

pub turn_held-answer-requires-clause-one : goal.turn_held-answer-requires-clause-one
turn_held-answer-requires-clause-one g c =
    let now = c.lock_slabs-held.new.hand in
    no_stripes_there now.seat.me.0 now.locks now.noted.4 (ap locks_have_no_stripe c.lock_slabs-held.ensures.locks ∙ none_with_slabs c.args.hand.now c.requires.ready.unlocked)

pub turn_held-answer-requires-clause-fresh : goal.turn_held-answer-requires-clause-fresh
turn_held-answer-requires-clause-fresh g c =
    let held = c.lock_slabs-held in
    ap has_fresh (wait_holdings c.args.hand.now.seat.me.0 held.result.shared held.new.hand.seat.me.0 held.ensures.waits) ∙ c.requires.ready.unfilled

pub turn_held-answer-requires-clause-within_limit : goal.turn_held-answer-requires-clause-within_limit
turn_held-answer-requires-clause-within_limit g c =
    let held = c.lock_slabs-held in
    subst (λ (hs : List Holding). length hs ≤ most_refs) (sym (wait_holdings c.args.hand.now.seat.me.0 held.result.shared held.new.hand.seat.me.0 held.ensures.waits)) c.requires.ready.within_limit

pub returns-clause-turns : goal.returns-clause-turns
returns-clause-turns g c =
    let hand = c.args.hand.now in
    let view : View = hand.seat.me.0 in
    let held = c.lock_slabs-held in
    let found = held.result.shared in
    let taken : View = held.new.hand.seat.me.0 in
    let last : View = c.turn_held-answer.new.hand.seat.me.0 in
    let left = c.turn_held-answer.new.held.shared in
    let now : View = c.give_slabs.new.hand.seat.me.0 in
    let number = wait_number hand held.new.hand found held.ensures.waits in
    if_ok (λ (turn : Turn). Turns held.new.hand.number turn taken found last left) (λ (turn : Turn). HoldsSlabs (Turns hand.number turn) view now) c.turn_held-answer.result
    (λ turn does. held_for (Turns hand.number turn) view taken last now found left held.ensures.waits (subst (λ n. Turns n turn taken found last left) number does) c.give_slabs.ensures.left)
    c.turn_held-answer.ensures.turns

pub returns-clause-lacks : goal.returns-clause-lacks
returns-clause-lacks g c =
    let hand = c.args.hand.now in
    let view : View = hand.seat.me.0 in
    let held = c.lock_slabs-held in
    let found = held.result.shared in
    let taken : View = held.new.hand.seat.me.0 in
    let last : View = c.turn_held-answer.new.hand.seat.me.0 in
    let left = c.turn_held-answer.new.held.shared in
    let now : View = c.give_slabs.new.hand.seat.me.0 in
    let number = wait_number hand held.new.hand found held.ensures.waits in
    on_err c.turn_held-answer.result
    (λ does. held_for (TurnLacksMemory hand.number) view taken last now found left held.ensures.waits (subst (λ n. TurnLacksMemory n taken found last left) number does) c.give_slabs.ensures.left)
    c.turn_held-answer.ensures.lacks

pub returns-clause-records : goal.returns-clause-records
returns-clause-records g c =
    let hand = c.args.hand.now in
    let view : View = hand.seat.me.0 in
    let now : View = c.give_slabs.new.hand.seat.me.0 in
    if_ok (λ (turn : Turn). HoldsSlabs (Turns hand.number turn) view now) (λ (turn : Turn). RecordsAsCounted hand.number (counts_in turn) view now) c.turn_held-answer.result
    (λ turn holds. turn_told hand.number turn view now c.requires.arena.lawful hand.noted.0 holds) (returns-clause-turns g c)

pub returns-clause-told_before : goal.returns-clause-told_before
returns-clause-told_before g c =
    let hand = c.args.hand.now in
    on_err c.turn_held-answer.result (fewer_told hand.number hand.seat.me.0 c.give_slabs.new.hand.seat.me.0 c.requires.arena.lawful hand.noted.0) (returns-clause-lacks g c)

pub returns-clause-holdings : goal.returns-clause-holdings
returns-clause-holdings g c =
    let held = c.lock_slabs-held in
    let hand = c.args.hand.now in
    let view : View = hand.seat.me.0 in
    let now : View = c.give_slabs.new.hand.seat.me.0 in
    let leaves = answer_leaves hand.number c.turn_held-answer.result view now (returns-clause-turns g c) (returns-clause-lacks g c) in
    let same = held_holdings c.args.hand.now.seat.me.0 held.new.hand.seat.me.0 c.turn_held-answer.new.hand.seat.me.0 c.give_slabs.new.hand.seat.me.0 held.result.shared c.turn_held-answer.new.held.shared
    held.ensures.waits c.turn_held-answer.ensures.holdings c.give_slabs.ensures.left in
    record { same = same; references = refs_kept view now leaves.more same leaves.known }

pub returns-clause-hand : goal.returns-clause-hand
returns-clause-hand g c =
    let hand = c.args.hand.now in
    let now = c.give_slabs.new.hand in
    let locks = c.give_slabs.ensures.locks ∙ (ap without_slabs (c.turn_held-answer.ensures.locks ∙ c.lock_slabs-held.ensures.locks) ∙ lock_back c.args.hand.now c.requires.ready.unlocked) in
    hand_still c.args.arena.now hand now c.give_slabs.ensures.arena locks (returns-clause-holdings g c).same (answer_leaves hand.number c.turn_held-answer.result hand.seat.me.0 now.seat.me.0 (returns-clause-turns g c) (returns-clause-lacks g c)).ids c.requires.ready

pub returns-clause-answers : goal.returns-clause-answers
returns-clause-answers g c =
    let hand = c.args.hand.now in
    let held = c.lock_slabs-held in
    let found = held.result.shared in
    let taken : View = held.new.hand.seat.me.0 in
    let last : View = c.turn_held-answer.new.hand.seat.me.0 in
    let left = c.turn_held-answer.new.held.shared in
    let now : View = c.give_slabs.new.hand.seat.me.0 in
    if_ok (λ (turn : Turn). Turns held.new.hand.number turn taken found last left × IsAnswerOf turn found.moving left.moving) (λ (turn : Turn). AnswersMove now turn) c.turn_held-answer.result
    (λ turn does. held_answer hand.seat.me.0 taken last now found left held.ensures.waits c.give_slabs.ensures.left turn (turns_grow held.new.hand.number turn taken found last left does.0) does.1)
    (both_ok _ _ c.turn_held-answer.result c.turn_held-answer.ensures.turns c.turn_held-answer.ensures.answers)

pub returns-clause-stores_nothing : goal.returns-clause-stores_nothing
returns-clause-stores_nothing g c =
    (answer_leaves c.args.hand.now.number c.turn_held-answer.result c.args.hand.now.seat.me.0 c.give_slabs.new.hand.seat.me.0 (returns-clause-turns g c) (returns-clause-lacks g c)).stored
