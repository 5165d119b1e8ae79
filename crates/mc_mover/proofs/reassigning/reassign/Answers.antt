use Rattle.std.proofs.Common.{ap, refl, subst, ◌∙◌}
use Rattle.mc_words.specs.lock.Out.{without_slabs}
use Rattle.mc_words.specs.hand.View.{View}
use Rattle.mc_words.specs.page.Moves.{Reassigns}
use Rattle.mc_words.proofs.Pages.BegunMoves.{reassigns_from, reassigns_holdings}
use Rattle.mc_mover.proofs.Chains.{hand_still, held_ids, held_known_same, held_mine, held_said, reassigns_keep, refs_stay}
use Rattle.mc_mover.proofs.HoldsSlabs.{lock_back, held_for, held_holdings, wait_number}
use Rattle.mc_mover.proofs.reassigning.reassign.Goals as goal

pub returns-clause-reassigns : goal.returns-clause-reassigns
returns-clause-reassigns g c =
    let hand = c.args.hand.now in
    let held = c.lock_slabs-held in
    let taken : View = held.new.hand.seat.me.0 in
    let begun = c.begin_move-answer in
    let last : View = begun.new.hand.seat.me.0 in
    let now : View = c.give_slabs.new.hand.seat.me.0 in
    let number = wait_number hand held.new.hand held.result.shared held.ensures.waits in
    let e = begun.ensures in
    held_for (Reassigns hand.number c.args.src c.args.dst begun.result) hand.seat.me.0 taken last now held.result.shared begun.new.held.shared held.ensures.waits
    (subst (λ n. Reassigns n c.args.src c.args.dst begun.result taken held.result.shared last begun.new.held.shared) number
    (reassigns_from held.new.hand.number c.args.src c.args.dst taken last held.result.shared begun.new.held.shared begun.result e.answer e.began e.happens e.view e.refused)) c.give_slabs.ensures.left

pub returns-clause-holdings : goal.returns-clause-holdings
returns-clause-holdings g c =
    let held = c.lock_slabs-held in
    let taken : View = held.new.hand.seat.me.0 in
    let begun = c.begin_move-answer in
    let last : View = begun.new.hand.seat.me.0 in
    let e = begun.ensures in
    let left = begun.new.held.shared in
    let does = reassigns_from held.new.hand.number c.args.src c.args.dst taken last held.result.shared left begun.result e.answer e.began e.happens e.view e.refused in
    let same = held_holdings c.args.hand.now.seat.me.0 taken last c.give_slabs.new.hand.seat.me.0 held.result.shared begun.new.held.shared held.ensures.waits
    (reassigns_holdings held.new.hand.number c.args.src c.args.dst taken last held.result.shared begun.new.held.shared begun.result
    (reassigns_from held.new.hand.number c.args.src c.args.dst taken last held.result.shared begun.new.held.shared begun.result e.answer e.began e.happens e.view e.refused)) c.give_slabs.ensures.left in
    record {
      same = same;
      references = refs_stay c.args.hand.now.seat.me.0 c.give_slabs.new.hand.seat.me.0 same
          (held_known_same c.args.hand.now.seat.me.0 taken last c.give_slabs.new.hand.seat.me.0 held.result.shared left held.ensures.waits c.give_slabs.ensures.left (reassigns_keep (λ (v : View). v.row.knows.known) (λ slabs one word v. refl) held.new.hand.number c.args.src c.args.dst taken last held.result.shared left begun.result does));
    }

pub returns-clause-hand : goal.returns-clause-hand
returns-clause-hand g c =
    let held = c.lock_slabs-held in
    let taken : View = held.new.hand.seat.me.0 in
    let begun = c.begin_move-answer in
    let last : View = begun.new.hand.seat.me.0 in
    let left = begun.new.held.shared in
    let e = begun.ensures in
    let does = reassigns_from held.new.hand.number c.args.src c.args.dst taken last held.result.shared left begun.result e.answer e.began e.happens e.view e.refused in
    let locks = c.give_slabs.ensures.locks ∙ (ap without_slabs (c.begin_move-answer.ensures.locks ∙ c.lock_slabs-held.ensures.locks) ∙ lock_back c.args.hand.now c.requires.ready.unlocked) in
    hand_still c.args.arena.now c.args.hand.now c.give_slabs.new.hand c.give_slabs.ensures.arena locks (returns-clause-holdings g c).same (held_ids c.args.hand.now.seat.me.0 taken last c.give_slabs.new.hand.seat.me.0 held.result.shared left held.ensures.waits c.give_slabs.ensures.left (reassigns_keep (λ (v : View). v.row.ids) (λ slabs one word v. refl) held.new.hand.number c.args.src c.args.dst taken last held.result.shared left begun.result does)) c.requires.ready

pub returns-clause-stores_nothing : goal.returns-clause-stores_nothing
returns-clause-stores_nothing g c =
    let held = c.lock_slabs-held in
    let taken : View = held.new.hand.seat.me.0 in
    let begun = c.begin_move-answer in
    let last : View = begun.new.hand.seat.me.0 in
    let left = begun.new.held.shared in
    let e = begun.ensures in
    let does = reassigns_from held.new.hand.number c.args.src c.args.dst taken last held.result.shared left begun.result e.answer e.began e.happens e.view e.refused in
    held_said c.args.hand.now.seat.me.0 taken last c.give_slabs.new.hand.seat.me.0 held.result.shared left held.ensures.waits c.give_slabs.ensures.left (reassigns_keep (λ (v : View). v.row.knows.stored) (λ slabs one word v. refl) held.new.hand.number c.args.src c.args.dst taken last held.result.shared left begun.result does)

pub returns-clause-records_nothing : goal.returns-clause-records_nothing
returns-clause-records_nothing g c =
    let held = c.lock_slabs-held in
    let taken : View = held.new.hand.seat.me.0 in
    let begun = c.begin_move-answer in
    let last : View = begun.new.hand.seat.me.0 in
    let left = begun.new.held.shared in
    let e = begun.ensures in
    let does = reassigns_from held.new.hand.number c.args.src c.args.dst taken last held.result.shared left begun.result e.answer e.began e.happens e.view e.refused in
    held_mine c.args.hand.now.seat.me.0 taken last c.give_slabs.new.hand.seat.me.0 held.result.shared left held.ensures.waits c.give_slabs.ensures.left (reassigns_keep (λ (v : View). v.row.knows.mine) (λ slabs one word v. refl) held.new.hand.number c.args.src c.args.dst taken last held.result.shared left begun.result does)
