use Rattle.std.proofs.Common.{◌≡◌, ℕ, refl, ap, subst, ◌∙◌}
use Rattle.mc_pages.specs.declared.ids.ChunkId.{ChunkId}
use Rattle.mc_pages.specs.SlabState.{SlabState}
use Rattle.mc_stripe.specs.StripeState.{ReadyStripe}
use Rattle.mc_words.specs.declared.hand.held.SlabsHeld.{SlabsHeld}
use Rattle.mc_words.specs.chunk.Sweeps.{SweepsOne}
use Rattle.mc_words.specs.hand.View.{View}
use Rattle.mc_words.specs.hand.Views.{stripe_given}
use Rattle.mc_words.proofs.Chunks.SweepViews.{swept_one}
use Rattle.mc_mover.proofs.Kept.{swept_keep}
use Rattle.mc_mover.proofs.saving.rescue.Goals as goal

pub returns-in-Ok-clause-rescues : goal.returns-in-Ok-clause-rescues
returns-in-Ok-clause-rescues c =
    let moved : View = c.move_item-moved.new.hand.seat.me.0 in
    let given : View = c.give_stripe.new.hand.seat.me.0 in
    let left : ReadyStripe = c.move_item-moved.new.stripe.stripe in
    (left, moved, c.in-Ok.ensures.moves, c.give_stripe.ensures.left ∙ ap (λ (n : ℕ). stripe_given n left moved) c.move_item-moved.ensures.number, ap (λ (s : SlabsHeld). s.shared) c.move_item-moved.ensures.same_slabs)

pub returns-in-Err-clause-rescues : goal.returns-in-Err-clause-rescues
returns-in-Err-clause-rescues c =
    let moved : View = c.move_item-moved.new.hand.seat.me.0 in
    let given : View = c.give_stripe.new.hand.seat.me.0 in
    let now : View = c.put_back.new.hand.seat.me.0 in
    let left : SlabState = c.put_back.new.held.shared in
    let slabs : SlabState = c.move_item-moved.new.slabs.shared in
    let sweeps : SweepsOne c.chunk-copy.result given slabs now left = swept_one c.put_back.result c.put_back.ensures.back c.put_back.ensures.moved in
    let (fails, same) = c.in-Err.ensures.fails in
    let given_is : given ≡ stripe_given c.args.stripe.number c.args.stripe.stripe moved = c.give_stripe.ensures.left ∙ (λ k. stripe_given (same k).number (same k).stripe moved) in
    let chunks : c.chunk-copy.result ≡ c.args.fresh.chunk = c.chunk-copy.ensures.chunk in
    let slabs_are : slabs ≡ c.args.slabs.now.shared = ap (λ (s : SlabsHeld). s.shared) c.move_item-moved.ensures.same_slabs in
    (moved, fails, subst (λ (p : ChunkId × View × SlabState). SweepsOne p.0 p.1 p.2 now left) (λ k. (chunks k, given_is k, slabs_are k)) sweeps)

pub returns-in-Err-clause-holdings : goal.returns-in-Err-clause-holdings
returns-in-Err-clause-holdings c =
    let moved : View = c.move_item-moved.new.hand.seat.me.0 in
    let given : View = c.give_stripe.new.hand.seat.me.0 in
    let now : View = c.put_back.new.hand.seat.me.0 in
    let left : SlabState = c.put_back.new.held.shared in
    let slabs : SlabState = c.move_item-moved.new.slabs.shared in
    let sweeps : SweepsOne c.chunk-copy.result given slabs now left = swept_one c.put_back.result c.put_back.ensures.back c.put_back.ensures.moved in
    swept_keep (λ (v : View). v.row.holdings) (λ one v. refl) (λ chunk head v. refl) (λ slabs chunk head v. refl) c.chunk-copy.result given slabs now left sweeps
    ∙ (ap (λ (v : View). v.row.holdings) c.give_stripe.ensures.left ∙ c.move_item-moved.ensures.holdings)

pub returns-in-Err-clause-ids : goal.returns-in-Err-clause-ids
returns-in-Err-clause-ids c =
    let moved : View = c.move_item-moved.new.hand.seat.me.0 in
    let given : View = c.give_stripe.new.hand.seat.me.0 in
    let now : View = c.put_back.new.hand.seat.me.0 in
    let left : SlabState = c.put_back.new.held.shared in
    let slabs : SlabState = c.move_item-moved.new.slabs.shared in
    let sweeps : SweepsOne c.chunk-copy.result given slabs now left = swept_one c.put_back.result c.put_back.ensures.back c.put_back.ensures.moved in
    swept_keep (λ (v : View). v.row.ids) (λ one v. refl) (λ chunk head v. refl) (λ slabs chunk head v. refl) c.chunk-copy.result given slabs now left sweeps
    ∙ (ap (λ (v : View). v.row.ids) c.give_stripe.ensures.left ∙ c.move_item-moved.ensures.ids)
