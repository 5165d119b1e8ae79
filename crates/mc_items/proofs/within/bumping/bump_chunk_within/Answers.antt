use Rattle.std.proofs.Common.{◌+◌, ap, refl, ◌∙◌}
use Rattle.mc_pages.specs.Changes.{after_touch}
use Rattle.mc_core.specs.declared.event.Change.TheVariants.{Touch}
use Rattle.mc_core.specs.model.Holdings.{holding_of}
use Rattle.mc_core.specs.run.Silent.{is_handed_out}
use Rattle.mc_words.specs.hand.View.{View}
use Rattle.mc_words.specs.hand.Views.{slabs_changed}
use Rattle.mc_words.specs.lock.Out.{without_slabs}
use Rattle.mc_words.proofs.Chunks.HeldOut.{held_is_out}
use Rattle.mc_words.proofs.Hands.HandNumbers.{number_stays}
use Rattle.mc_items.proofs.Locks.{slabs_back, waits_slabs_keep}
use Rattle.mc_items.proofs.within.bumping.bump_chunk_within.Goals as goal

pub touch-requires-clause-out : goal.touch-requires-clause-out
touch-requires-clause-out c =
    let reference = c.args.reference.now in
    let held = c.in-Ok in
    let taken : View = c.slabs_within.new.hand.seat.me.0 in
    let slabs = held.held.shared in
    let holdings = waits_slabs_keep (λ (v : View). v.row.holdings) (λ word v. refl) (λ slabs v. refl) c.args.hand.now.seat.me.0 slabs taken held.ensures.within.waits in
    let ref = c.requires.reference in
    let found = ap (holding_of reference.chunk) holdings ∙ ref.found in
    ap (is_handed_out slabs) c.chunk.ensures.chunk ∙ held_is_out taken held.ensures.arena.lawful slabs held.ensures.whole.mine reference.chunk ref.holding found

pub returns-clause-bumps : goal.returns-clause-bumps
returns-clause-bumps c =
    let hand = c.args.hand.now in
    let held = c.in-Ok in
    let slabs = held.held.shared in
    let taken : View = c.slabs_within.new.hand.seat.me.0 in
    let number = number_stays hand c.slabs_within.new.hand (waits_slabs_keep (λ (v : View). v.row.ids) (λ word v. refl) (λ slabs v. refl) hand.seat.me.0 slabs taken held.ensures.within.waits) in
    let chunk = c.chunk.ensures.chunk in record {
      found = slabs;
      taken = taken;
      waits = held.ensures.within.waits;
      left = c.touch.new.held.shared;
      last = c.touch.new.hand.seat.me.0;
      does = (c.touch.ensures.touched ∙ ap (after_touch slabs) chunk, c.touch.ensures.view ∙ (λ k. slabs_changed slabs (Touch (chunk k)) (number k + 1) taken));
      given = c.give_slabs.ensures.left;
    }

pub returns-clause-locks : goal.returns-clause-locks
returns-clause-locks c =
    c.give_slabs.ensures.locks ∙ (ap without_slabs (c.touch.ensures.locks ∙ c.in-Ok.ensures.locks) ∙ slabs_back c.args.hand.now c.requires.unlocked)
