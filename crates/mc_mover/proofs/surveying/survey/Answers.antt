use Rattle.std.proofs.Common.{ap, ◌∙◌}
use Rattle.mc_words.specs.lock.Out.{without_slabs}
use Rattle.mc_words.specs.hand.View.{View}
use Rattle.mc_mover.proofs.Chains.{hand_still, held_ids, held_known_same, held_mine, held_said, refs_stay}
use Rattle.mc_mover.proofs.HoldsSlabs.{lock_back, held_holdings}
use Rattle.mc_mover.proofs.surveying.survey.Goals as goal

pub returns-clause-holdings : goal.returns-clause-holdings
returns-clause-holdings g c =
    let held = c.lock_slabs-held in
    let swept = c.survey_held-numbers in
    let taken : View = held.new.hand.seat.me.0 in
    let last : View = swept.new.hand.seat.me.0 in
    let left = swept.new.held.shared in
    let same = held_holdings c.args.hand.now.seat.me.0 held.new.hand.seat.me.0 swept.new.hand.seat.me.0 c.give_slabs.new.hand.seat.me.0 held.result.shared swept.new.held.shared held.ensures.waits
    (ap (λ (v : View). v.row.holdings) swept.ensures.view) c.give_slabs.ensures.left in
    record {
      same = same;
      references = refs_stay c.args.hand.now.seat.me.0 c.give_slabs.new.hand.seat.me.0 same
          (held_known_same c.args.hand.now.seat.me.0 taken last c.give_slabs.new.hand.seat.me.0 held.result.shared left held.ensures.waits c.give_slabs.ensures.left (ap (λ (v : View). v.row.knows.known) swept.ensures.view));
    }

pub returns-clause-hand : goal.returns-clause-hand
returns-clause-hand g c =
    let held = c.lock_slabs-held in
    let taken : View = held.new.hand.seat.me.0 in
    let swept = c.survey_held-numbers in
    let last : View = swept.new.hand.seat.me.0 in
    let left = swept.new.held.shared in
    let locks = c.give_slabs.ensures.locks ∙ (ap without_slabs (c.survey_held-numbers.ensures.locks ∙ c.lock_slabs-held.ensures.locks) ∙ lock_back c.args.hand.now c.requires.ready.unlocked) in
    hand_still c.args.arena.now c.args.hand.now c.give_slabs.new.hand c.give_slabs.ensures.arena locks (returns-clause-holdings g c).same (held_ids c.args.hand.now.seat.me.0 taken last c.give_slabs.new.hand.seat.me.0 held.result.shared left held.ensures.waits c.give_slabs.ensures.left (ap (λ (v : View). v.row.ids) swept.ensures.view)) c.requires.ready

pub returns-clause-stores_nothing : goal.returns-clause-stores_nothing
returns-clause-stores_nothing g c =
    let held = c.lock_slabs-held in
    let taken : View = held.new.hand.seat.me.0 in
    let swept = c.survey_held-numbers in
    let last : View = swept.new.hand.seat.me.0 in
    let left = swept.new.held.shared in
    held_said c.args.hand.now.seat.me.0 taken last c.give_slabs.new.hand.seat.me.0 held.result.shared left held.ensures.waits c.give_slabs.ensures.left (ap (λ (v : View). v.row.knows.stored) swept.ensures.view)

pub returns-clause-records_nothing : goal.returns-clause-records_nothing
returns-clause-records_nothing g c =
    let held = c.lock_slabs-held in
    let taken : View = held.new.hand.seat.me.0 in
    let swept = c.survey_held-numbers in
    let last : View = swept.new.hand.seat.me.0 in
    let left = swept.new.held.shared in
    held_mine c.args.hand.now.seat.me.0 taken last c.give_slabs.new.hand.seat.me.0 held.result.shared left held.ensures.waits c.give_slabs.ensures.left (ap (λ (v : View). v.row.knows.mine) swept.ensures.view)
