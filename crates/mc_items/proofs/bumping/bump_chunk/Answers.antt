use Rattle.std.proofs.Common.{◌+◌, refl, ap, ◌∙◌}
use Rattle.mc_pages.specs.Changes.{after_touch}
use Rattle.mc_core.specs.declared.event.Change.TheVariants.{Touch}
use Rattle.mc_core.specs.model.Holdings.{holding_of}
use Rattle.mc_core.specs.run.Silent.{is_handed_out}
use Rattle.mc_words.specs.hand.View.{View}
use Rattle.mc_words.specs.hand.Views.{slabs_changed}
use Rattle.mc_words.specs.lock.Out.{without_slabs}
use Rattle.mc_words.proofs.Chunks.HeldOut.{held_is_out}
use Rattle.mc_words.proofs.Hands.HandNumbers.{number_stays}
use Rattle.mc_items.proofs.Locks.{slabs_back, waits_slabs_keep}
use Rattle.mc_items.proofs.bumping.bump_chunk.Goals as goal

pub touch-requires-clause-out : goal.touch-requires-clause-out
touch-requires-clause-out g c =
    let reference = c.args.reference.now in
    let held = c.lock_slabs-slabs in
    let taken : View = held.new.hand.seat.me.0 in
    let slabs = held.result.shared in
    let holdings = waits_slabs_keep (λ (v : View). v.row.holdings) (λ word v. refl) (λ slabs v. refl) c.args.hand.now.seat.me.0 slabs taken held.ensures.waits in
    let ref = c.requires.reference in
    let found = ap (holding_of reference.chunk) holdings ∙ ref.found in
    ap (is_handed_out slabs) c.chunk.ensures.chunk ∙ held_is_out taken held.ensures.arena.lawful slabs held.ensures.whole.mine reference.chunk ref.holding found

pub returns-clause-bumps : goal.returns-clause-bumps
returns-clause-bumps g c =
    let hand = c.args.hand.now in
    let held = c.lock_slabs-slabs in
    let slabs = held.result.shared in
    let taken : View = held.new.hand.seat.me.0 in
    let number = number_stays hand held.new.hand (waits_slabs_keep (λ (v : View). v.row.ids) (λ word v. refl) (λ slabs v. refl) hand.seat.me.0 slabs taken held.ensures.waits) in
    let chunk = c.chunk.ensures.chunk in record {
      found = slabs;
      taken = taken;
      waits = held.ensures.waits;
      left = c.touch.new.held.shared;
      last = c.touch.new.hand.seat.me.0;
      does = (c.touch.ensures.touched ∙ ap (after_touch slabs) chunk, c.touch.ensures.view ∙ (λ k. slabs_changed slabs (Touch (chunk k)) (number k + 1) taken));
      given = c.give_slabs.ensures.left;
    }

pub returns-clause-locks : goal.returns-clause-locks
returns-clause-locks g c =
    c.give_slabs.ensures.locks ∙ (ap without_slabs (c.touch.ensures.locks ∙ c.lock_slabs-slabs.ensures.locks) ∙ slabs_back c.args.hand.now c.requires.unlocked)
