use Rattle.std.proofs.Common.{◌≡◌, ℕ, ◌%◌, List, Option, None, refl, sym, ap, subst, ◌∙◌, slice_index_or}
use Rattle.mc_pages.specs.declared.ids.ChunkId.{ChunkId}
use Rattle.mc_stripe.specs.Changes.{after_rescue, used_up}
use Rattle.mc_stripe.specs.StripeState.{ReadyStripe}
use Rattle.mc_core.specs.declared.holding.Holding.{Holding}
use Rattle.mc_core.specs.model.Holdings.{is_of_chunk, without_first}
use Rattle.mc_words.specs.item.Fresh.{IsFreshIn}
use Rattle.mc_words.specs.item.Items.{issue_in, known_words_in}
use Rattle.mc_words.specs.item.Links.{IsCopyFilled, copy_linked}
use Rattle.mc_words.specs.hand.View.{Setup, View}
use Rattle.mc_words.specs.hand.Views.{chunk_discarded, chunk_released}
use Rattle.mc_words.proofs.Hands.HandNumbers.{number_stays}
use Rattle.mc_mover.proofs.Kept.{finds_keep}
use Rattle.mc_mover.proofs.Moved.{copy_filled, copy_there, dropped_holdings, fresh_still, ids_now, ids_stay, leads_nowhere, length_fits, others_filled, reason_there, stripe_copied, stripes_stay}
use Rattle.mc_mover.proofs.saving.move_item.Goals as goal

pub condemn_original-requires-clause-copy : goal.condemn_original-requires-clause-copy
condemn_original-requires-clause-copy c =
    let view : View = c.args.hand.now.seat.me.0 in
    let filled : View = c.copy_item.new.hand.seat.me.0 in
    let chunk : ChunkId = c.args.chunk in
    let copy : ChunkId = c.args.fresh.chunk in
    let key : ℕ = c.copy_item.new.fresh.key in
    let stamp : ℕ = c.copy_item.new.fresh.stamp in
    let done = c.copy_item.ensures.copied in
    let words = done.words in
    copy_there chunk copy key stamp words view filled done.is c.requires.copy.0 c.args.fresh.room c.requires.copy.1

pub condemn_original-requires-clause-stripe : goal.condemn_original-requires-clause-stripe
condemn_original-requires-clause-stripe c =
    let view : View = c.args.hand.now.seat.me.0 in
    let filled : View = c.copy_item.new.hand.seat.me.0 in
    let chunk : ChunkId = c.args.chunk in
    let copy : ChunkId = c.args.fresh.chunk in
    let key : ℕ = c.copy_item.new.fresh.key in
    let stamp : ℕ = c.copy_item.new.fresh.stamp in
    let done = c.copy_item.ensures.copied in
    let words = done.words in
    ap (λ (all : List (Option ReadyStripe)). slice_index_or all c.args.stripe.now.number None) (stripes_stay chunk copy key stamp words view filled done.is) ∙ c.requires.stripe

pub condemn_original-requires-clause-key : goal.condemn_original-requires-clause-key
condemn_original-requires-clause-key c =
    let view : View = c.args.hand.now.seat.me.0 in
    let filled : View = c.copy_item.new.hand.seat.me.0 in
    let chunk : ChunkId = c.args.chunk in
    let copy : ChunkId = c.args.fresh.chunk in
    let key : ℕ = c.copy_item.new.fresh.key in
    let stamp : ℕ = c.copy_item.new.fresh.stamp in
    let done = c.copy_item.ensures.copied in
    let words = done.words in
    (stripe_copied chunk copy key stamp words view filled done.is c.args.stripe.now.number c.requires.key c.copy_item.ensures.key).1

pub condemn_original-requires-clause-reason : goal.condemn_original-requires-clause-reason
condemn_original-requires-clause-reason c =
    let view : View = c.args.hand.now.seat.me.0 in
    let filled : View = c.copy_item.new.hand.seat.me.0 in
    let chunk : ChunkId = c.args.chunk in
    let copy : ChunkId = c.args.fresh.chunk in
    let key : ℕ = c.copy_item.new.fresh.key in
    let stamp : ℕ = c.copy_item.new.fresh.stamp in
    let done = c.copy_item.ensures.copied in
    let words = done.words in
    reason_there chunk copy key stamp words view filled done.is c.requires.copy.0 c.args.fresh.room c.requires.copy.1 c.args.slabs.now.shared c.requires.moving

pub link_copy-reference-requires-clause-fresh : goal.link_copy-reference-requires-clause-fresh
link_copy-reference-requires-clause-fresh c =
    let view : View = c.args.hand.now.seat.me.0 in
    let filled : View = c.copy_item.new.hand.seat.me.0 in
    let chunk : ChunkId = c.args.chunk in
    let copy : ChunkId = c.args.fresh.chunk in
    let key : ℕ = c.copy_item.new.fresh.key in
    let stamp : ℕ = c.copy_item.new.fresh.stamp in
    let done = c.copy_item.ensures.copied in
    let words = done.words in
    let now : View = c.condemn_original.new.hand.seat.me.0 in
    let number : ℕ = c.args.stripe.now.number in
    let left : ReadyStripe = c.condemn_original.new.stripe.stripe in
    let fits = length_fits chunk copy key stamp words view filled done.is c.args.fresh.room c.copy_item.ensures.fits in
    let took = c.in-Ok.ensures.condemned in
    let (same, rooms) = c.copy_item.ensures.same in
    subst (λ (p : ChunkId × ℕ). IsFreshIn now.row.holdings p.0 p.1) (λ k. (sym same k, sym rooms k)) (fresh_still chunk copy key stamp words view filled done.is c.requires.copy.0 c.args.fresh.room c.requires.copy.1 fits number c.args.stripe.now.stripe left now took)

pub link_copy-reference-requires-clause-copy : goal.link_copy-reference-requires-clause-copy
link_copy-reference-requires-clause-copy c =
    let view : View = c.args.hand.now.seat.me.0 in
    let filled : View = c.copy_item.new.hand.seat.me.0 in
    let chunk : ChunkId = c.args.chunk in
    let copy : ChunkId = c.args.fresh.chunk in
    let key : ℕ = c.copy_item.new.fresh.key in
    let stamp : ℕ = c.copy_item.new.fresh.stamp in
    let done = c.copy_item.ensures.copied in
    let words = done.words in
    let now : View = c.condemn_original.new.hand.seat.me.0 in
    let number : ℕ = c.args.stripe.now.number in
    let left : ReadyStripe = c.condemn_original.new.stripe.stripe in
    let fits = length_fits chunk copy key stamp words view filled done.is c.args.fresh.room c.copy_item.ensures.fits in
    let took = c.in-Ok.ensures.condemned in
    let (same, rooms) = c.copy_item.ensures.same in
    subst (λ (at : ChunkId). IsCopyFilled now left.state at (issue_in now at) (known_words_in now at) key stamp) (sym same) (copy_filled chunk copy key stamp words view filled done.is c.requires.copy.0 c.args.fresh.room c.requires.copy.1 fits number c.args.stripe.now.stripe left now took)

pub link_copy-reference-requires-clause-stripe : goal.link_copy-reference-requires-clause-stripe
link_copy-reference-requires-clause-stripe c =
    let view : View = c.args.hand.now.seat.me.0 in
    let filled : View = c.copy_item.new.hand.seat.me.0 in
    let chunk : ChunkId = c.args.chunk in
    let copy : ChunkId = c.args.fresh.chunk in
    let key : ℕ = c.copy_item.new.fresh.key in
    let stamp : ℕ = c.copy_item.new.fresh.stamp in
    let done = c.copy_item.ensures.copied in
    let words = done.words in
    ap (λ (s : Setup). key % s.config.stripes) (sym c.requires.arena.setup) ∙ ((stripe_copied chunk copy key stamp words view filled done.is c.args.stripe.now.number c.requires.key c.copy_item.ensures.key).0 ∙ sym c.condemn_original.ensures.number)

pub link_copy-reference-requires-clause-new : goal.link_copy-reference-requires-clause-new
link_copy-reference-requires-clause-new c =
    let view : View = c.args.hand.now.seat.me.0 in
    let filled : View = c.copy_item.new.hand.seat.me.0 in
    let chunk : ChunkId = c.args.chunk in
    let copy : ChunkId = c.args.fresh.chunk in
    let key : ℕ = c.copy_item.new.fresh.key in
    let stamp : ℕ = c.copy_item.new.fresh.stamp in
    let done = c.copy_item.ensures.copied in
    let words = done.words in
    let now : View = c.condemn_original.new.hand.seat.me.0 in
    let number : ℕ = c.args.stripe.now.number in
    let left : ReadyStripe = c.condemn_original.new.stripe.stripe in
    let fits = length_fits chunk copy key stamp words view filled done.is c.args.fresh.room c.copy_item.ensures.fits in
    let took = c.in-Ok.ensures.condemned in
    let mine = ap (λ (all : List (Option ReadyStripe)). slice_index_or all number None) (stripes_stay chunk copy key stamp words view filled done.is) ∙ c.requires.stripe in
    leads_nowhere chunk copy key stamp words view filled done.is c.requires.copy.0 c.args.fresh.room c.requires.copy.1 fits number c.args.stripe.now.stripe left now took c.copy_item.ensures.arena.lawful mine

pub discard-requires-clause-fresh : goal.discard-requires-clause-fresh
discard-requires-clause-fresh c =
    let view : View = c.args.hand.now.seat.me.0 in
    let filled : View = c.copy_item.new.hand.seat.me.0 in
    let chunk : ChunkId = c.args.chunk in
    let copy : ChunkId = c.args.fresh.chunk in
    let key : ℕ = c.copy_item.new.fresh.key in
    let stamp : ℕ = c.copy_item.new.fresh.stamp in
    let done = c.copy_item.ensures.copied in
    let words = done.words in
    let now : View = c.condemn_original.new.hand.seat.me.0 in
    let finds = c.in-Err.ensures.moved.0 in
    subst (λ (hs : List Holding). IsFreshIn hs c.copy_item.new.fresh.chunk c.copy_item.new.fresh.room) (sym (finds_keep (λ (v : View). v.row.holdings) (λ one v. refl) (λ chunk head v. refl) chunk filled now finds)) c.copy_item.ensures.fresh

pub returns-in-Ok-clause-moves : goal.returns-in-Ok-clause-moves
returns-in-Ok-clause-moves c =
    let view : View = c.args.hand.now.seat.me.0 in
    let filled : View = c.copy_item.new.hand.seat.me.0 in
    let chunk : ChunkId = c.args.chunk in
    let copy : ChunkId = c.args.fresh.chunk in
    let key : ℕ = c.copy_item.new.fresh.key in
    let stamp : ℕ = c.copy_item.new.fresh.stamp in
    let done = c.copy_item.ensures.copied in
    let words = done.words in
    let now : View = c.condemn_original.new.hand.seat.me.0 in
    let number : ℕ = c.args.stripe.now.number in
    let left : ReadyStripe = c.condemn_original.new.stripe.stripe in
    let fits = length_fits chunk copy key stamp words view filled done.is c.args.fresh.room c.copy_item.ensures.fits in
    let took = c.in-Ok.ensures.condemned in
    let (same, rooms) = c.copy_item.ensures.same in
    let linked : View = c.link_copy-reference.new.hand.seat.me.0 in
    let last : View = c.release.new.hand.seat.me.0 in
    let numbers : c.condemn_original.new.hand.number ≡ c.args.hand.now.number = number_stays c.args.hand.now c.condemn_original.new.hand (ids_now chunk copy key stamp words view filled done.is c.requires.copy.0 c.args.fresh.room c.requires.copy.1 fits number c.args.stripe.now.stripe left now took ∙ ids_stay chunk copy key stamp words view filled done.is) in
    let linked_is : linked ≡ copy_linked c.args.hand.now.number number left key copy (issue_in now copy) (known_words_in now copy) c.args.fresh.room now =
    c.link_copy-reference.ensures.linked ∙ (λ k. copy_linked (numbers k) (c.condemn_original.ensures.number k) left key (same k) (issue_in now (same k)) (known_words_in now (same k)) (rooms k) now) in
    let last_is : last ≡ chunk_released copy linked = c.release.ensures.dropped ∙ ap (λ (at : ChunkId). chunk_released at linked) (c.link_copy-reference.ensures.same.0 ∙ same) in
    record {
      key = key;
      stamp = stamp;
      filled = filled;
      copies = done;
      fits = fits;
      condemned = now;
      lifted = left;
      condemns = took;
      is = last_is ∙ ap (chunk_released copy) linked_is;
      left_is = c.link_copy-reference.ensures.stored ∙ (λ k. used_up (after_rescue left.state (numbers k) key (same k)));
    }

pub returns-in-Ok-clause-holdings : goal.returns-in-Ok-clause-holdings
returns-in-Ok-clause-holdings c =
    let view : View = c.args.hand.now.seat.me.0 in
    let filled : View = c.copy_item.new.hand.seat.me.0 in
    let chunk : ChunkId = c.args.chunk in
    let copy : ChunkId = c.args.fresh.chunk in
    let key : ℕ = c.copy_item.new.fresh.key in
    let stamp : ℕ = c.copy_item.new.fresh.stamp in
    let done = c.copy_item.ensures.copied in
    let words = done.words in
    let now : View = c.condemn_original.new.hand.seat.me.0 in
    let number : ℕ = c.args.stripe.now.number in
    let left : ReadyStripe = c.condemn_original.new.stripe.stripe in
    let fits = length_fits chunk copy key stamp words view filled done.is c.args.fresh.room c.copy_item.ensures.fits in
    let took = c.in-Ok.ensures.condemned in
    let (same, rooms) = c.copy_item.ensures.same in
    let linked : View = c.link_copy-reference.new.hand.seat.me.0 in
    let last : View = c.release.new.hand.seat.me.0 in
    let numbers : c.condemn_original.new.hand.number ≡ c.args.hand.now.number = number_stays c.args.hand.now c.condemn_original.new.hand (ids_now chunk copy key stamp words view filled done.is c.requires.copy.0 c.args.fresh.room c.requires.copy.1 fits number c.args.stripe.now.stripe left now took ∙ ids_stay chunk copy key stamp words view filled done.is) in
    let linked_is : linked ≡ copy_linked c.args.hand.now.number number left key copy (issue_in now copy) (known_words_in now copy) c.args.fresh.room now =
    c.link_copy-reference.ensures.linked ∙ (λ k. copy_linked (numbers k) (c.condemn_original.ensures.number k) left key (same k) (issue_in now (same k)) (known_words_in now (same k)) (rooms k) now) in
    let last_is : last ≡ chunk_released copy linked = c.release.ensures.dropped ∙ ap (λ (at : ChunkId). chunk_released at linked) (c.link_copy-reference.ensures.same.0 ∙ same) in
    dropped_holdings chunk copy key stamp words view filled done.is c.requires.copy.0 c.args.fresh.room c.requires.copy.1 fits number c.args.stripe.now.stripe left now took c.args.hand.now.number linked last linked_is last_is c.requires.alone c.requires.only

pub returns-in-Ok-clause-ids : goal.returns-in-Ok-clause-ids
returns-in-Ok-clause-ids c =
    let view : View = c.args.hand.now.seat.me.0 in
    let filled : View = c.copy_item.new.hand.seat.me.0 in
    let chunk : ChunkId = c.args.chunk in
    let copy : ChunkId = c.args.fresh.chunk in
    let key : ℕ = c.copy_item.new.fresh.key in
    let stamp : ℕ = c.copy_item.new.fresh.stamp in
    let done = c.copy_item.ensures.copied in
    let words = done.words in
    let now : View = c.condemn_original.new.hand.seat.me.0 in
    let number : ℕ = c.args.stripe.now.number in
    let left : ReadyStripe = c.condemn_original.new.stripe.stripe in
    let fits = length_fits chunk copy key stamp words view filled done.is c.args.fresh.room c.copy_item.ensures.fits in
    let took = c.in-Ok.ensures.condemned in
    let (same, rooms) = c.copy_item.ensures.same in
    let linked : View = c.link_copy-reference.new.hand.seat.me.0 in
    let last : View = c.release.new.hand.seat.me.0 in
    let numbers : c.condemn_original.new.hand.number ≡ c.args.hand.now.number = number_stays c.args.hand.now c.condemn_original.new.hand (ids_now chunk copy key stamp words view filled done.is c.requires.copy.0 c.args.fresh.room c.requires.copy.1 fits number c.args.stripe.now.stripe left now took ∙ ids_stay chunk copy key stamp words view filled done.is) in
    let linked_is : linked ≡ copy_linked c.args.hand.now.number number left key copy (issue_in now copy) (known_words_in now copy) c.args.fresh.room now =
    c.link_copy-reference.ensures.linked ∙ (λ k. copy_linked (numbers k) (c.condemn_original.ensures.number k) left key (same k) (issue_in now (same k)) (known_words_in now (same k)) (rooms k) now) in
    let last_is : last ≡ chunk_released copy linked = c.release.ensures.dropped ∙ ap (λ (at : ChunkId). chunk_released at linked) (c.link_copy-reference.ensures.same.0 ∙ same) in
    ap (λ (v : View). v.row.ids) last_is ∙ (ap (λ (v : View). v.row.ids) linked_is ∙ (ids_now chunk copy key stamp words view filled done.is c.requires.copy.0 c.args.fresh.room c.requires.copy.1 fits number c.args.stripe.now.stripe left now took ∙ ids_stay chunk copy key stamp words view filled done.is))

pub returns-in-Err-clause-fails : goal.returns-in-Err-clause-fails
returns-in-Err-clause-fails c =
    let view : View = c.args.hand.now.seat.me.0 in
    let filled : View = c.copy_item.new.hand.seat.me.0 in
    let chunk : ChunkId = c.args.chunk in
    let copy : ChunkId = c.args.fresh.chunk in
    let key : ℕ = c.copy_item.new.fresh.key in
    let stamp : ℕ = c.copy_item.new.fresh.stamp in
    let done = c.copy_item.ensures.copied in
    let words = done.words in
    let now : View = c.condemn_original.new.hand.seat.me.0 in
    let finds = c.in-Err.ensures.moved.0 in
    let (same, rooms) = c.copy_item.ensures.same in (
      record {
        key = key;
        stamp = stamp;
        filled = filled;
        copies = done;
        found = now;
        finds = finds;
        dropped = c.discard.ensures.dropped ∙ ap (λ (at : ChunkId). chunk_discarded at now) same;
      },
      c.in-Err.ensures.moved.1,
    )

pub returns-in-Err-clause-holdings : goal.returns-in-Err-clause-holdings
returns-in-Err-clause-holdings c =
    let view : View = c.args.hand.now.seat.me.0 in
    let filled : View = c.copy_item.new.hand.seat.me.0 in
    let chunk : ChunkId = c.args.chunk in
    let copy : ChunkId = c.args.fresh.chunk in
    let key : ℕ = c.copy_item.new.fresh.key in
    let stamp : ℕ = c.copy_item.new.fresh.stamp in
    let done = c.copy_item.ensures.copied in
    let words = done.words in
    let now : View = c.condemn_original.new.hand.seat.me.0 in
    let finds = c.in-Err.ensures.moved.0 in
    let (same, rooms) = c.copy_item.ensures.same in
    let still = finds_keep (λ (v : View). v.row.holdings) (λ one v. refl) (λ chunk head v. refl) chunk filled now finds in
    ap (λ (v : View). v.row.holdings) c.discard.ensures.dropped ∙ ((λ k. without_first (is_of_chunk (same k)) (still k)) ∙ others_filled chunk copy key stamp words view filled done.is c.requires.alone)

pub returns-in-Err-clause-ids : goal.returns-in-Err-clause-ids
returns-in-Err-clause-ids c =
    let view : View = c.args.hand.now.seat.me.0 in
    let filled : View = c.copy_item.new.hand.seat.me.0 in
    let chunk : ChunkId = c.args.chunk in
    let copy : ChunkId = c.args.fresh.chunk in
    let key : ℕ = c.copy_item.new.fresh.key in
    let stamp : ℕ = c.copy_item.new.fresh.stamp in
    let done = c.copy_item.ensures.copied in
    let words = done.words in
    let now : View = c.condemn_original.new.hand.seat.me.0 in
    let finds = c.in-Err.ensures.moved.0 in
    let still = finds_keep (λ (v : View). v.row.ids) (λ one v. refl) (λ chunk head v. refl) chunk filled now finds in
    ap (λ (v : View). v.row.ids) c.discard.ensures.dropped ∙ (still ∙ ids_stay chunk copy key stamp words view filled done.is)
