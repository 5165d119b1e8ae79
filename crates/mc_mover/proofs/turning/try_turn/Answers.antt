use Rattle.std.proofs.Common.{ap, refl, subst, ◌∙◌}
use Rattle.mc_words.specs.lock.Out.{without_slabs}
use Rattle.mc_words.specs.hand.View.{View}
use Rattle.mc_mover.specs.Turning.{TurnLacksMemory, Turns}
use Rattle.mc_words.proofs.Hands.HandNumbers.{number_stays}
use Rattle.mc_mover.proofs.Chains.{hand_still, held_answer, lacks_leaves, refs_kept, turn_leaves}
use Rattle.mc_mover.proofs.Grows.{turns_grow}
use Rattle.mc_mover.proofs.HoldsSlabs.{held_for, lock_back}
use Rattle.mc_mover.proofs.Locks.{taken_at_once}
use Rattle.mc_mover.proofs.Tells.{fewer_told, turn_told}
use Rattle.mc_mover.proofs.turning.try_turn.Goals as goal

pub returns-in-Ok-answer-clause-turns : goal.returns-in-Ok-answer-clause-turns
returns-in-Ok-answer-clause-turns c =
    let hand = c.args.hand.now in
    let view : View = hand.seat.me.0 in
    let found = c.in-Ok.held.shared in
    let taken : View = c.try_slabs.new.hand.seat.me.0 in
    let last : View = c.turn_held-answer.new.hand.seat.me.0 in
    let left = c.turn_held-answer.new.held.shared in
    let number = number_stays hand c.try_slabs.new.hand (ap (λ (v : View). v.row.ids) c.in-Ok.ensures.lent) in
    held_for (Turns hand.number c.in-Ok-answer.turn) view taken last c.give_slabs.new.hand.seat.me.0 found left (taken_at_once found view taken c.in-Ok.ensures.taken c.in-Ok.ensures.lent)
    (subst (λ n. Turns n c.in-Ok-answer.turn taken found last left) number c.in-Ok-answer.ensures.turns) c.give_slabs.ensures.left

pub returns-in-Err-clause-lacks : goal.returns-in-Err-clause-lacks
returns-in-Err-clause-lacks c _ =
    let hand = c.args.hand.now in
    let view : View = hand.seat.me.0 in
    let found = c.in-Ok.held.shared in
    let taken : View = c.try_slabs.new.hand.seat.me.0 in
    let last : View = c.turn_held-answer.new.hand.seat.me.0 in
    let left = c.turn_held-answer.new.held.shared in
    let number = number_stays hand c.try_slabs.new.hand (ap (λ (v : View). v.row.ids) c.in-Ok.ensures.lent) in
    held_for (TurnLacksMemory hand.number) view taken last c.give_slabs.new.hand.seat.me.0 found left (taken_at_once found view taken c.in-Ok.ensures.taken c.in-Ok.ensures.lent)
    (subst (λ n. TurnLacksMemory n taken found last left) number c.in-Err.ensures.lacks) c.give_slabs.ensures.left

pub returns-in-Ok-answer-clause-records : goal.returns-in-Ok-answer-clause-records
returns-in-Ok-answer-clause-records c =
    let hand = c.args.hand.now in
    turn_told hand.number c.in-Ok-answer.turn hand.seat.me.0 c.give_slabs.new.hand.seat.me.0 c.requires.arena.lawful hand.noted.0 (returns-in-Ok-answer-clause-turns c)

pub returns-in-Err-clause-told_before : goal.returns-in-Err-clause-told_before
returns-in-Err-clause-told_before c is =
    let hand = c.args.hand.now in
    fewer_told hand.number hand.seat.me.0 c.give_slabs.new.hand.seat.me.0 c.requires.arena.lawful hand.noted.0 (returns-in-Err-clause-lacks c is)

pub returns-in-Ok-answer-clause-holdings : goal.returns-in-Ok-answer-clause-holdings
returns-in-Ok-answer-clause-holdings c =
    let hand = c.args.hand.now in
    let now = c.give_slabs.new.hand in
    let leaves = (turn_leaves hand.number c.in-Ok-answer.turn hand.seat.me.0 now.seat.me.0 (returns-in-Ok-answer-clause-turns c)) in
    let same = ap (λ (v : View). v.row.holdings) c.give_slabs.ensures.left ∙ (c.turn_held-answer.ensures.holdings ∙ ap (λ (v : View). v.row.holdings) c.in-Ok.ensures.lent) in
    record { same = same; references = refs_kept hand.seat.me.0 now.seat.me.0 leaves.more same leaves.known }

pub returns-in-Ok-answer-clause-hand : goal.returns-in-Ok-answer-clause-hand
returns-in-Ok-answer-clause-hand c =
    let hand = c.args.hand.now in
    let now = c.give_slabs.new.hand in
    let locks = c.give_slabs.ensures.locks ∙ (ap without_slabs (c.turn_held-answer.ensures.locks ∙ c.in-Ok.ensures.locks) ∙ lock_back c.args.hand.now c.requires.ready.unlocked) in
    hand_still c.args.arena.now hand now c.give_slabs.ensures.arena locks (returns-in-Ok-answer-clause-holdings c).same (turn_leaves hand.number c.in-Ok-answer.turn hand.seat.me.0 now.seat.me.0 (returns-in-Ok-answer-clause-turns c)).ids c.requires.ready

pub returns-in-Ok-answer-clause-stores_nothing : goal.returns-in-Ok-answer-clause-stores_nothing
returns-in-Ok-answer-clause-stores_nothing c =
    let hand = c.args.hand.now in
    let now = c.give_slabs.new.hand in
    (turn_leaves hand.number c.in-Ok-answer.turn hand.seat.me.0 now.seat.me.0 (returns-in-Ok-answer-clause-turns c)).stored

pub returns-in-Err-clause-holdings : goal.returns-in-Err-clause-holdings
returns-in-Err-clause-holdings c =
    let hand = c.args.hand.now in
    let now = c.give_slabs.new.hand in
    let leaves = (lacks_leaves hand.number hand.seat.me.0 now.seat.me.0 (returns-in-Err-clause-lacks c refl)) in
    let same = ap (λ (v : View). v.row.holdings) c.give_slabs.ensures.left ∙ (c.turn_held-answer.ensures.holdings ∙ ap (λ (v : View). v.row.holdings) c.in-Ok.ensures.lent) in
    record { same = same; references = refs_kept hand.seat.me.0 now.seat.me.0 leaves.more same leaves.known }

pub returns-in-Err-clause-hand : goal.returns-in-Err-clause-hand
returns-in-Err-clause-hand c =
    let hand = c.args.hand.now in
    let now = c.give_slabs.new.hand in
    let locks = c.give_slabs.ensures.locks ∙ (ap without_slabs (c.turn_held-answer.ensures.locks ∙ c.in-Ok.ensures.locks) ∙ lock_back c.args.hand.now c.requires.ready.unlocked) in
    hand_still c.args.arena.now hand now c.give_slabs.ensures.arena locks (returns-in-Err-clause-holdings c).same (lacks_leaves hand.number hand.seat.me.0 now.seat.me.0 (returns-in-Err-clause-lacks c refl)).ids c.requires.ready

pub returns-in-Err-clause-stores_nothing : goal.returns-in-Err-clause-stores_nothing
returns-in-Err-clause-stores_nothing c =
    let hand = c.args.hand.now in
    let now = c.give_slabs.new.hand in
    (lacks_leaves hand.number hand.seat.me.0 now.seat.me.0 (returns-in-Err-clause-lacks c refl)).stored

pub returns-in-Ok-answer-clause-answers : goal.returns-in-Ok-answer-clause-answers
returns-in-Ok-answer-clause-answers c =
    let hand = c.args.hand.now in
    let view : View = hand.seat.me.0 in
    let found = c.in-Ok.held.shared in
    let taken : View = c.try_slabs.new.hand.seat.me.0 in
    let last : View = c.turn_held-answer.new.hand.seat.me.0 in
    let left = c.turn_held-answer.new.held.shared in
    held_answer view taken last c.give_slabs.new.hand.seat.me.0 found left (taken_at_once found view taken c.in-Ok.ensures.taken c.in-Ok.ensures.lent) c.give_slabs.ensures.left c.in-Ok-answer.turn
    (turns_grow c.try_slabs.new.hand.number c.in-Ok-answer.turn taken found last left c.in-Ok-answer.ensures.turns) c.in-Ok-answer.ensures.answers
