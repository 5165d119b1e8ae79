use Rattle.std.proofs.Common.{ap, subst, ◌∙◌}
use Rattle.mc_words.specs.lock.Out.{without_slabs}
use Rattle.mc_words.specs.hand.View.{View}
use Rattle.mc_mover.specs.Reassigning.{SetsMode}
use Rattle.mc_mover.proofs.Chains.{hand_still, held_ids, held_known_same, held_mine, held_said, refs_stay}
use Rattle.mc_mover.proofs.HoldsSlabs.{lock_back, held_for, held_holdings, wait_number}
use Rattle.mc_mover.proofs.reassigning.set_mode.Goals as goal

pub returns-clause-sets : goal.returns-clause-sets
returns-clause-sets g c =
    let hand = c.args.hand.now in
    let held = c.lock_slabs-held in
    let taken : View = held.new.hand.seat.me.0 in
    let set = c.set_automove in
    let last : View = set.new.hand.seat.me.0 in
    let now : View = c.give_slabs.new.hand.seat.me.0 in
    let number = wait_number hand held.new.hand held.result.shared held.ensures.waits in
    held_for (SetsMode hand.number c.args.mode) hand.seat.me.0 taken last now held.result.shared set.new.held.shared held.ensures.waits
    (subst (λ n. SetsMode n c.args.mode taken held.result.shared last set.new.held.shared) number ((set.ensures.happens, set.ensures.view), set.ensures.set)) c.give_slabs.ensures.left

pub returns-clause-holdings : goal.returns-clause-holdings
returns-clause-holdings g c =
    let held = c.lock_slabs-held in
    let set = c.set_automove in
    let taken : View = held.new.hand.seat.me.0 in
    let last : View = set.new.hand.seat.me.0 in
    let left = set.new.held.shared in
    let same = held_holdings c.args.hand.now.seat.me.0 held.new.hand.seat.me.0 set.new.hand.seat.me.0 c.give_slabs.new.hand.seat.me.0 held.result.shared set.new.held.shared held.ensures.waits
    (ap (λ (v : View). v.row.holdings) set.ensures.view) c.give_slabs.ensures.left in
    record {
      same = same;
      references = refs_stay c.args.hand.now.seat.me.0 c.give_slabs.new.hand.seat.me.0 same
          (held_known_same c.args.hand.now.seat.me.0 taken last c.give_slabs.new.hand.seat.me.0 held.result.shared left held.ensures.waits c.give_slabs.ensures.left (ap (λ (v : View). v.row.knows.known) set.ensures.view));
    }

pub returns-clause-hand : goal.returns-clause-hand
returns-clause-hand g c =
    let held = c.lock_slabs-held in
    let taken : View = held.new.hand.seat.me.0 in
    let set = c.set_automove in
    let last : View = set.new.hand.seat.me.0 in
    let left = set.new.held.shared in
    let locks = c.give_slabs.ensures.locks ∙ (ap without_slabs (c.set_automove.ensures.locks ∙ c.lock_slabs-held.ensures.locks) ∙ lock_back c.args.hand.now c.requires.ready.unlocked) in
    hand_still c.args.arena.now c.args.hand.now c.give_slabs.new.hand c.give_slabs.ensures.arena locks (returns-clause-holdings g c).same (held_ids c.args.hand.now.seat.me.0 taken last c.give_slabs.new.hand.seat.me.0 held.result.shared left held.ensures.waits c.give_slabs.ensures.left (ap (λ (v : View). v.row.ids) set.ensures.view)) c.requires.ready

pub returns-clause-stores_nothing : goal.returns-clause-stores_nothing
returns-clause-stores_nothing g c =
    let held = c.lock_slabs-held in
    let taken : View = held.new.hand.seat.me.0 in
    let set = c.set_automove in
    let last : View = set.new.hand.seat.me.0 in
    let left = set.new.held.shared in
    held_said c.args.hand.now.seat.me.0 taken last c.give_slabs.new.hand.seat.me.0 held.result.shared left held.ensures.waits c.give_slabs.ensures.left (ap (λ (v : View). v.row.knows.stored) set.ensures.view)

pub returns-clause-records_nothing : goal.returns-clause-records_nothing
returns-clause-records_nothing g c =
    let held = c.lock_slabs-held in
    let taken : View = held.new.hand.seat.me.0 in
    let set = c.set_automove in
    let last : View = set.new.hand.seat.me.0 in
    let left = set.new.held.shared in
    held_mine c.args.hand.now.seat.me.0 taken last c.give_slabs.new.hand.seat.me.0 held.result.shared left held.ensures.waits c.give_slabs.ensures.left (ap (λ (v : View). v.row.knows.mine) set.ensures.view)
