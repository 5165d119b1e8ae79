use Rattle.std.proofs.Common.{◌≡◌, ℕ, ◌≤◌, length, None, Some, map, refl, sym, ap, subst, ◌∙◌, slice_index_or}
use Rattle.mc_classes.specs.Limits.{most_refs}
use Rattle.mc_pages.specs.ClassState.{ClassState}
use Rattle.mc_pages.specs.SlabState.{SlabState, class_at, class_of_page}
use Rattle.mc_pages.proofs.ClassChanges.{per_pages-with_class}
use Rattle.mc_pages.proofs.Cuts.{per_page-map}
use Rattle.mc_stripe.specs.StripeState.{ReadyStripe, chunk_and_stamp, can_store}
use Rattle.mc_words.specs.declared.hand.held.StripeHeld.{StripeHeld}
use Rattle.mc_words.specs.item.Items.{word_read}
use Rattle.mc_words.specs.hand.View.{View}
use Rattle.mc_words.proofs.Hands.HandNumbers.{number_stays}
use Rattle.mc_mover.specs.declared.sweep.Sweep.{Sweep}
use Rattle.mc_mover.specs.Linked.{SavesAs}
use Rattle.mc_mover.specs.Saving.{RescuesToTarget, SweepsAndSaves}
use Rattle.mc_mover.proofs.Leads.{Reaches, reaches_passed}
use Rattle.mc_mover.proofs.Refusals.{refused}
use Rattle.mc_mover.proofs.Saved.{saved_at_once, saved_first, saved_later, saved_slabs, there_slabs}
use Rattle.mc_mover.proofs.Saves.{made_reaches, stripe_reached}
use Rattle.mc_mover.proofs.linked.save.Goals as goal

pub sweep_and_save-requires-clause-leads : goal.sweep_and_save-requires-clause-leads
sweep_and_save-requires-clause-leads c =
    let view : View = c.args.hand.now.seat.me.0 in
    let made : View = c.reserve.new.hand.seat.me.0 in
    let slabs = c.args.slabs.now.shared in
    let chunk = c.args.chunk in
    let (key, stamp, leads) = c.requires.leads in
    let number = c.reserve.new.held.number in
    let value = c.reserve.new.held.stripe in
    let first = made_reaches view made slabs c.requires.slabs c.args.stripe.number _ c.args.stripe.stripe c.in_default.ensures.view key chunk stamp number value c.requires.lent leads c.requires.linked c.reserve.ensures.number (ap (λ (h : StripeHeld). h.stripe) c.in_default.ensures.reserved) c.reserve.ensures.held in
    (key, stamp, first.leads.leads, first.leads.of_key)

pub sweep_and_save-requires-clause-key : goal.sweep_and_save-requires-clause-key
sweep_and_save-requires-clause-key c =
    let view : View = c.args.hand.now.seat.me.0 in
    let made : View = c.reserve.new.hand.seat.me.0 in
    let slabs = c.args.slabs.now.shared in
    let chunk = c.args.chunk in
    let (key, stamp, leads) = c.requires.leads in
    let number = c.reserve.new.held.number in
    let value = c.reserve.new.held.stripe in
    let first = made_reaches view made slabs c.requires.slabs c.args.stripe.number _ c.args.stripe.stripe c.in_default.ensures.view key chunk stamp number value c.requires.lent leads c.requires.linked c.reserve.ensures.number (ap (λ (h : StripeHeld). h.stripe) c.in_default.ensures.reserved) c.reserve.ensures.held in
    stripe_reached view made slabs c.args.stripe.number number value key chunk stamp first (c.reserve.ensures.arena.setup ∙ sym c.requires.arena.setup) c.requires.key c.reserve.ensures.number

pub rescue_to_target-requires-clause-leads : goal.rescue_to_target-requires-clause-leads
rescue_to_target-requires-clause-leads c =
    let view : View = c.args.hand.now.seat.me.0 in
    let made : View = c.reserve.new.hand.seat.me.0 in
    let slabs = c.args.slabs.now.shared in
    let chunk = c.args.chunk in
    let (key, stamp, leads) = c.requires.leads in
    let number = c.reserve.new.held.number in
    let value = c.reserve.new.held.stripe in
    let first = made_reaches view made slabs c.requires.slabs c.args.stripe.number _ c.args.stripe.stripe c.in_default.ensures.view key chunk stamp number value c.requires.lent leads c.requires.linked c.reserve.ensures.number (ap (λ (h : StripeHeld). h.stripe) c.in_default.ensures.reserved) c.reserve.ensures.held in
    (key, stamp, first.leads.leads, first.leads.of_key)

pub rescue_to_target-requires-clause-key : goal.rescue_to_target-requires-clause-key
rescue_to_target-requires-clause-key c =
    let view : View = c.args.hand.now.seat.me.0 in
    let made : View = c.reserve.new.hand.seat.me.0 in
    let slabs = c.args.slabs.now.shared in
    let chunk = c.args.chunk in
    let (key, stamp, leads) = c.requires.leads in
    let number = c.reserve.new.held.number in
    let value = c.reserve.new.held.stripe in
    let first = made_reaches view made slabs c.requires.slabs c.args.stripe.number _ c.args.stripe.stripe c.in_default.ensures.view key chunk stamp number value c.requires.lent leads c.requires.linked c.reserve.ensures.number (ap (λ (h : StripeHeld). h.stripe) c.in_default.ensures.reserved) c.reserve.ensures.held in
    stripe_reached view made slabs c.args.stripe.number number value key chunk stamp first (c.reserve.ensures.arena.setup ∙ sym c.requires.arena.setup) c.requires.key c.reserve.ensures.number

pub sweep_and_save-requires-in-Err-rescue_to_target-clause-stripe : goal.sweep_and_save-requires-in-Err-rescue_to_target-clause-stripe
sweep_and_save-requires-in-Err-rescue_to_target-clause-stripe c =
    let view : View = c.args.hand.now.seat.me.0 in
    let made : View = c.reserve.new.hand.seat.me.0 in
    let slabs = c.args.slabs.now.shared in
    let chunk = c.args.chunk in
    let (key, stamp, leads) = c.requires.leads in
    let number = c.reserve.new.held.number in
    let value = c.reserve.new.held.stripe in
    let first = made_reaches view made slabs c.requires.slabs c.args.stripe.number _ c.args.stripe.stripe c.in_default.ensures.view key chunk stamp number value c.requires.lent leads c.requires.linked c.reserve.ensures.number (ap (λ (h : StripeHeld). h.stripe) c.in_default.ensures.reserved) c.reserve.ensures.held in
    let passed : View = c.rescue_to_target.new.hand.seat.me.0 in
    let read = word_read view chunk 0 in
    let last = reaches_passed number value key chunk stamp read chunk.page (class_at slabs (class_of_page slabs chunk.page)).free made passed slabs c.in-Err-rescue_to_target.ensures.lacks first in
    let back = c.in-Err-rescue_to_target.ensures.back in
    subst (λ (held : StripeHeld). slice_index_or passed.stripes held.number None ≡ Some held.stripe) (sym back) last.leads.mine

pub sweep_and_save-requires-in-Err-rescue_to_target-clause-leads : goal.sweep_and_save-requires-in-Err-rescue_to_target-clause-leads
sweep_and_save-requires-in-Err-rescue_to_target-clause-leads c =
    let view : View = c.args.hand.now.seat.me.0 in
    let made : View = c.reserve.new.hand.seat.me.0 in
    let slabs = c.args.slabs.now.shared in
    let chunk = c.args.chunk in
    let (key, stamp, leads) = c.requires.leads in
    let number = c.reserve.new.held.number in
    let value = c.reserve.new.held.stripe in
    let first = made_reaches view made slabs c.requires.slabs c.args.stripe.number _ c.args.stripe.stripe c.in_default.ensures.view key chunk stamp number value c.requires.lent leads c.requires.linked c.reserve.ensures.number (ap (λ (h : StripeHeld). h.stripe) c.in_default.ensures.reserved) c.reserve.ensures.held in
    let passed : View = c.rescue_to_target.new.hand.seat.me.0 in
    let read = word_read view chunk 0 in
    let last = reaches_passed number value key chunk stamp read chunk.page (class_at slabs (class_of_page slabs chunk.page)).free made passed slabs c.in-Err-rescue_to_target.ensures.lacks first in
    let back = c.in-Err-rescue_to_target.ensures.back in
    (key, stamp, ap (λ (held : StripeHeld). chunk_and_stamp held.stripe.state key) back ∙ last.leads.leads, last.leads.of_key ∙ ap (λ (held : StripeHeld). held.number) (sym back))

pub sweep_and_save-requires-in-Err-rescue_to_target-clause-key : goal.sweep_and_save-requires-in-Err-rescue_to_target-clause-key
sweep_and_save-requires-in-Err-rescue_to_target-clause-key c =
    let view : View = c.args.hand.now.seat.me.0 in
    let made : View = c.reserve.new.hand.seat.me.0 in
    let slabs = c.args.slabs.now.shared in
    let chunk = c.args.chunk in
    let (key, stamp, leads) = c.requires.leads in
    let number = c.reserve.new.held.number in
    let value = c.reserve.new.held.stripe in
    let first = made_reaches view made slabs c.requires.slabs c.args.stripe.number _ c.args.stripe.stripe c.in_default.ensures.view key chunk stamp number value c.requires.lent leads c.requires.linked c.reserve.ensures.number (ap (λ (h : StripeHeld). h.stripe) c.in_default.ensures.reserved) c.reserve.ensures.held in
    let passed : View = c.rescue_to_target.new.hand.seat.me.0 in
    let read = word_read view chunk 0 in
    let last = reaches_passed number value key chunk stamp read chunk.page (class_at slabs (class_of_page slabs chunk.page)).free made passed slabs c.in-Err-rescue_to_target.ensures.lacks first in
    let back = c.in-Err-rescue_to_target.ensures.back in
    let numbers = ap (λ (held : StripeHeld). held.number) back in
    stripe_reached view passed slabs c.args.stripe.number c.in-Err-rescue_to_target.stripe.number value key chunk stamp (subst (λ n. Reaches passed slabs n value key chunk stamp read) (sym numbers) last)
    (c.rescue_to_target.ensures.arena.setup ∙ sym c.requires.arena.setup) c.requires.key (numbers ∙ c.reserve.ensures.number)

pub sweep_and_save-requires-in-Err-rescue_to_target-clause-linked : goal.sweep_and_save-requires-in-Err-rescue_to_target-clause-linked
sweep_and_save-requires-in-Err-rescue_to_target-clause-linked c =
    let view : View = c.args.hand.now.seat.me.0 in
    let made : View = c.reserve.new.hand.seat.me.0 in
    let slabs = c.args.slabs.now.shared in
    let chunk = c.args.chunk in
    let (key, stamp, leads) = c.requires.leads in
    let number = c.reserve.new.held.number in
    let value = c.reserve.new.held.stripe in
    let first = made_reaches view made slabs c.requires.slabs c.args.stripe.number _ c.args.stripe.stripe c.in_default.ensures.view key chunk stamp number value c.requires.lent leads c.requires.linked c.reserve.ensures.number (ap (λ (h : StripeHeld). h.stripe) c.in_default.ensures.reserved) c.reserve.ensures.held in
    let passed : View = c.rescue_to_target.new.hand.seat.me.0 in
    let read = word_read view chunk 0 in
    let last = reaches_passed number value key chunk stamp read chunk.page (class_at slabs (class_of_page slabs chunk.page)).free made passed slabs c.in-Err-rescue_to_target.ensures.lacks first in
    let back = c.in-Err-rescue_to_target.ensures.back in
    last.linked

pub sweep_and_save-requires-clause-linked : goal.sweep_and_save-requires-clause-linked
sweep_and_save-requires-clause-linked c =
    let view : View = c.args.hand.now.seat.me.0 in
    let made : View = c.reserve.new.hand.seat.me.0 in
    let slabs = c.args.slabs.now.shared in
    let chunk = c.args.chunk in
    let (key, stamp, leads) = c.requires.leads in
    let number = c.reserve.new.held.number in
    let value = c.reserve.new.held.stripe in
    let first = made_reaches view made slabs c.requires.slabs c.args.stripe.number _ c.args.stripe.stripe c.in_default.ensures.view key chunk stamp number value c.requires.lent leads c.requires.linked c.reserve.ensures.number (ap (λ (h : StripeHeld). h.stripe) c.in_default.ensures.reserved) c.reserve.ensures.held in
    first.linked

pub sweep_and_save-requires-clause-within_limit : goal.sweep_and_save-requires-clause-within_limit
sweep_and_save-requires-clause-within_limit c = subst (λ (v : View). length v.row.holdings ≤ most_refs) (sym c.in_default.ensures.view) c.requires.within_limit

pub rescue_to_target-requires-clause-linked : goal.rescue_to_target-requires-clause-linked
rescue_to_target-requires-clause-linked c =
    let view : View = c.args.hand.now.seat.me.0 in
    let made : View = c.reserve.new.hand.seat.me.0 in
    let slabs = c.args.slabs.now.shared in
    let chunk = c.args.chunk in
    let (key, stamp, leads) = c.requires.leads in
    let number = c.reserve.new.held.number in
    let value = c.reserve.new.held.stripe in
    let first = made_reaches view made slabs c.requires.slabs c.args.stripe.number _ c.args.stripe.stripe c.in_default.ensures.view key chunk stamp number value c.requires.lent leads c.requires.linked c.reserve.ensures.number (ap (λ (h : StripeHeld). h.stripe) c.in_default.ensures.reserved) c.reserve.ensures.held in
    first.linked

pub rescue_to_target-requires-clause-within_limit : goal.rescue_to_target-requires-clause-within_limit
rescue_to_target-requires-clause-within_limit c = subst (λ (v : View). length v.row.holdings ≤ most_refs) (sym c.in_default.ensures.view) c.requires.within_limit

pub returns-in-Err-clause-unready : goal.returns-in-Err-clause-unready
returns-in-Err-clause-unready c = refused c.reserve.result c.in-Err.error c.in-Err.is (can_store c.args.stripe.stripe) c.reserve.ensures.succeeds

pub returns-in-Ok-clause-dead : goal.returns-in-Ok-clause-dead
returns-in-Ok-clause-dead c = c.in-Ok.ensures.dead

pub returns-in-Due-clause-saves : goal.returns-in-Due-clause-saves
returns-in-Due-clause-saves c =
    let view : View = c.args.hand.now.seat.me.0 in
    let made : View = c.reserve.new.hand.seat.me.0 in
    let slabs = c.args.slabs.now.shared in
    let chunk = c.args.chunk in
    let value = c.reserve.new.held.stripe in
    let ids = ap (λ (v : View). v.row.ids) c.in_default.ensures.view in
    let values = ap (λ (h : StripeHeld). h.stripe) c.in_default.ensures.reserved in
    let now : View = c.sweep_and_save.new.hand.seat.me.0 in
    let left = c.sweep_and_save.new.slabs.shared in
    let number = number_stays c.args.hand.now c.reserve.new.hand ids in
    let found = c.sweep_and_save.result in
    subst (λ (sweep : Sweep). SavesAs c.args.hand.now.number c.args.class chunk sweep found c.args.stripe.number c.args.stripe.stripe view slabs now left) (sym c.in-Due.is)
    (saved_first c.args.hand.now.number c.args.class chunk c.args.stripe.number c.args.stripe.stripe value view made slabs values c.in_default.ensures.view now left found
    (subst (λ (p : ℕ × ℕ). SweepsAndSaves p.0 c.args.class chunk found p.1 value made slabs now left) (λ k. (number k, c.reserve.ensures.number k)) c.sweep_and_save.ensures.saves))

pub returns-in-Ok-clause-saves : goal.returns-in-Ok-clause-saves
returns-in-Ok-clause-saves c =
    let view : View = c.args.hand.now.seat.me.0 in
    let made : View = c.reserve.new.hand.seat.me.0 in
    let slabs = c.args.slabs.now.shared in
    let chunk = c.args.chunk in
    let value = c.reserve.new.held.stripe in
    let ids = ap (λ (v : View). v.row.ids) c.in_default.ensures.view in
    let values = ap (λ (h : StripeHeld). h.stripe) c.in_default.ensures.reserved in
    let now : View = c.rescue_to_target.new.hand.seat.me.0 in
    let left = c.rescue_to_target.new.slabs.shared in
    let number = number_stays c.args.hand.now c.reserve.new.hand ids in
    let found = c.in-Ok.found in
    subst (λ (sweep : Sweep). SavesAs c.args.hand.now.number c.args.class chunk sweep found c.args.stripe.number c.args.stripe.stripe view slabs now left) (sym c.in-Done.is)
    (saved_at_once c.args.hand.now.number c.args.class chunk c.args.stripe.number c.args.stripe.stripe value view made slabs values c.in_default.ensures.view now left found
    (subst (λ (p : ℕ × ℕ). RescuesToTarget p.0 chunk found p.1 value made slabs now left) (λ k. (number k, c.reserve.ensures.number k)) c.in-Ok.ensures.rescues))

pub returns-in-Err-rescue_to_target-clause-saves : goal.returns-in-Err-rescue_to_target-clause-saves
returns-in-Err-rescue_to_target-clause-saves c =
    let view : View = c.args.hand.now.seat.me.0 in
    let made : View = c.reserve.new.hand.seat.me.0 in
    let slabs = c.args.slabs.now.shared in
    let chunk = c.args.chunk in
    let value = c.reserve.new.held.stripe in
    let ids = ap (λ (v : View). v.row.ids) c.in_default.ensures.view in
    let values = ap (λ (h : StripeHeld). h.stripe) c.in_default.ensures.reserved in
    let now : View = c.sweep_and_save-in-Err-rescue_to_target.new.hand.seat.me.0 in
    let left = c.sweep_and_save-in-Err-rescue_to_target.new.slabs.shared in
    let passed : View = c.rescue_to_target.new.hand.seat.me.0 in
    let number = number_stays c.args.hand.now c.rescue_to_target.new.hand (c.rescue_to_target.ensures.ids ∙ ids) in
    let found = c.sweep_and_save-in-Err-rescue_to_target.result in
    let back = c.in-Err-rescue_to_target.ensures.back in
    let stripe = ap (λ (held : StripeHeld). held.number) back ∙ c.reserve.ensures.number in
    subst (λ (sweep : Sweep). SavesAs c.args.hand.now.number c.args.class chunk sweep found c.args.stripe.number c.args.stripe.stripe view slabs now left) (sym c.in-Done.is)
    (saved_later c.args.hand.now.number c.args.class chunk c.args.stripe.number c.args.stripe.stripe value view made slabs values c.in_default.ensures.view now left found passed c.in-Err-rescue_to_target.ensures.lacks
    (subst (λ (p : ℕ × ℕ × ReadyStripe × SlabState). SweepsAndSaves p.0 c.args.class chunk found p.1 p.2 passed p.3 now left)
    (λ k. (number k, stripe k, (back k).stripe, c.in-Err-rescue_to_target.ensures.same_slabs k)) c.sweep_and_save-in-Err-rescue_to_target.ensures.saves))

pub returns-in-Due-clause-moving : goal.returns-in-Due-clause-moving
returns-in-Due-clause-moving c =
    let made : View = c.reserve.new.hand.seat.me.0 in
    let slabs = c.args.slabs.now.shared in
    let held = c.reserve.new.held in
    let now : View = c.sweep_and_save.new.hand.seat.me.0 in
    let left = c.sweep_and_save.new.slabs.shared in
    saved_slabs (λ (s : SlabState). s.moving) (λ s chunk. refl) (λ s copy chunk. refl) c.reserve.new.hand.number c.args.class held.number held.stripe c.args.chunk c.sweep_and_save.result made slabs now left c.sweep_and_save.ensures.saves

pub returns-in-Ok-clause-moving : goal.returns-in-Ok-clause-moving
returns-in-Ok-clause-moving c =
    let made : View = c.reserve.new.hand.seat.me.0 in
    let slabs = c.args.slabs.now.shared in
    let held = c.reserve.new.held in
    let now : View = c.rescue_to_target.new.hand.seat.me.0 in
    let left = c.rescue_to_target.new.slabs.shared in
    there_slabs (λ (s : SlabState). s.moving) (λ s chunk. refl) (λ s copy chunk. refl) c.reserve.new.hand.number held.number held.stripe c.args.chunk c.in-Ok.found made slabs now left c.in-Ok.ensures.rescues

pub returns-in-Err-rescue_to_target-clause-moving : goal.returns-in-Err-rescue_to_target-clause-moving
returns-in-Err-rescue_to_target-clause-moving c =
    let passed : View = c.rescue_to_target.new.hand.seat.me.0 in
    let kept = c.rescue_to_target.new.slabs.shared in
    let slabs = c.args.slabs.now.shared in
    let held = c.in-Err-rescue_to_target.stripe in
    let now : View = c.sweep_and_save-in-Err-rescue_to_target.new.hand.seat.me.0 in
    let left = c.sweep_and_save-in-Err-rescue_to_target.new.slabs.shared in
    saved_slabs (λ (s : SlabState). s.moving) (λ s chunk. refl) (λ s copy chunk. refl) c.rescue_to_target.new.hand.number c.args.class held.number held.stripe c.args.chunk c.sweep_and_save-in-Err-rescue_to_target.result passed kept now left c.sweep_and_save-in-Err-rescue_to_target.ensures.saves
    ∙ ap (λ (s : SlabState). s.moving) c.in-Err-rescue_to_target.ensures.same_slabs

pub returns-in-Due-clause-owners : goal.returns-in-Due-clause-owners
returns-in-Due-clause-owners c =
    let made : View = c.reserve.new.hand.seat.me.0 in
    let slabs = c.args.slabs.now.shared in
    let held = c.reserve.new.held in
    let now : View = c.sweep_and_save.new.hand.seat.me.0 in
    let left = c.sweep_and_save.new.slabs.shared in
    saved_slabs (λ (s : SlabState). s.owners) (λ s chunk. refl) (λ s copy chunk. refl) c.reserve.new.hand.number c.args.class held.number held.stripe c.args.chunk c.sweep_and_save.result made slabs now left c.sweep_and_save.ensures.saves

pub returns-in-Ok-clause-owners : goal.returns-in-Ok-clause-owners
returns-in-Ok-clause-owners c =
    let made : View = c.reserve.new.hand.seat.me.0 in
    let slabs = c.args.slabs.now.shared in
    let held = c.reserve.new.held in
    let now : View = c.rescue_to_target.new.hand.seat.me.0 in
    let left = c.rescue_to_target.new.slabs.shared in
    there_slabs (λ (s : SlabState). s.owners) (λ s chunk. refl) (λ s copy chunk. refl) c.reserve.new.hand.number held.number held.stripe c.args.chunk c.in-Ok.found made slabs now left c.in-Ok.ensures.rescues

pub returns-in-Err-rescue_to_target-clause-owners : goal.returns-in-Err-rescue_to_target-clause-owners
returns-in-Err-rescue_to_target-clause-owners c =
    let passed : View = c.rescue_to_target.new.hand.seat.me.0 in
    let kept = c.rescue_to_target.new.slabs.shared in
    let slabs = c.args.slabs.now.shared in
    let held = c.in-Err-rescue_to_target.stripe in
    let now : View = c.sweep_and_save-in-Err-rescue_to_target.new.hand.seat.me.0 in
    let left = c.sweep_and_save-in-Err-rescue_to_target.new.slabs.shared in
    saved_slabs (λ (s : SlabState). s.owners) (λ s chunk. refl) (λ s copy chunk. refl) c.rescue_to_target.new.hand.number c.args.class held.number held.stripe c.args.chunk c.sweep_and_save-in-Err-rescue_to_target.result passed kept now left c.sweep_and_save-in-Err-rescue_to_target.ensures.saves
    ∙ ap (λ (s : SlabState). s.owners) c.in-Err-rescue_to_target.ensures.same_slabs

pub returns-in-Due-clause-uncut : goal.returns-in-Due-clause-uncut
returns-in-Due-clause-uncut c =
    let made : View = c.reserve.new.hand.seat.me.0 in
    let slabs = c.args.slabs.now.shared in
    let held = c.reserve.new.held in
    let now : View = c.sweep_and_save.new.hand.seat.me.0 in
    let left = c.sweep_and_save.new.slabs.shared in
    saved_slabs (λ (s : SlabState). s.uncut) (λ s chunk. refl) (λ s copy chunk. refl) c.reserve.new.hand.number c.args.class held.number held.stripe c.args.chunk c.sweep_and_save.result made slabs now left c.sweep_and_save.ensures.saves

pub returns-in-Ok-clause-uncut : goal.returns-in-Ok-clause-uncut
returns-in-Ok-clause-uncut c =
    let made : View = c.reserve.new.hand.seat.me.0 in
    let slabs = c.args.slabs.now.shared in
    let held = c.reserve.new.held in
    let now : View = c.rescue_to_target.new.hand.seat.me.0 in
    let left = c.rescue_to_target.new.slabs.shared in
    there_slabs (λ (s : SlabState). s.uncut) (λ s chunk. refl) (λ s copy chunk. refl) c.reserve.new.hand.number held.number held.stripe c.args.chunk c.in-Ok.found made slabs now left c.in-Ok.ensures.rescues

pub returns-in-Err-rescue_to_target-clause-uncut : goal.returns-in-Err-rescue_to_target-clause-uncut
returns-in-Err-rescue_to_target-clause-uncut c =
    let passed : View = c.rescue_to_target.new.hand.seat.me.0 in
    let kept = c.rescue_to_target.new.slabs.shared in
    let slabs = c.args.slabs.now.shared in
    let held = c.in-Err-rescue_to_target.stripe in
    let now : View = c.sweep_and_save-in-Err-rescue_to_target.new.hand.seat.me.0 in
    let left = c.sweep_and_save-in-Err-rescue_to_target.new.slabs.shared in
    saved_slabs (λ (s : SlabState). s.uncut) (λ s chunk. refl) (λ s copy chunk. refl) c.rescue_to_target.new.hand.number c.args.class held.number held.stripe c.args.chunk c.sweep_and_save-in-Err-rescue_to_target.result passed kept now left c.sweep_and_save-in-Err-rescue_to_target.ensures.saves
    ∙ ap (λ (s : SlabState). s.uncut) c.in-Err-rescue_to_target.ensures.same_slabs

pub returns-in-Due-clause-per_page : goal.returns-in-Due-clause-per_page
returns-in-Due-clause-per_page c =
    let made : View = c.reserve.new.hand.seat.me.0 in
    let slabs = c.args.slabs.now.shared in
    let held = c.reserve.new.held in
    let now : View = c.sweep_and_save.new.hand.seat.me.0 in
    let left = c.sweep_and_save.new.slabs.shared in
    per_page-map slabs left c.args.class
    (saved_slabs (λ (s : SlabState). map (λ (x : ClassState). x.per_page) s.classes) (λ s chunk. per_pages-with_class s (class_of_page s chunk.page) _ refl) (λ s copy chunk. per_pages-with_class s (class_of_page s chunk.page) _ refl) c.reserve.new.hand.number c.args.class held.number held.stripe c.args.chunk c.sweep_and_save.result made slabs now left c.sweep_and_save.ensures.saves)

pub returns-in-Ok-clause-per_page : goal.returns-in-Ok-clause-per_page
returns-in-Ok-clause-per_page c =
    let made : View = c.reserve.new.hand.seat.me.0 in
    let slabs = c.args.slabs.now.shared in
    let held = c.reserve.new.held in
    let now : View = c.rescue_to_target.new.hand.seat.me.0 in
    let left = c.rescue_to_target.new.slabs.shared in
    per_page-map slabs left c.args.class
    (there_slabs (λ (s : SlabState). map (λ (x : ClassState). x.per_page) s.classes) (λ s chunk. per_pages-with_class s (class_of_page s chunk.page) _ refl) (λ s copy chunk. per_pages-with_class s (class_of_page s chunk.page) _ refl) c.reserve.new.hand.number held.number held.stripe c.args.chunk c.in-Ok.found made slabs now left c.in-Ok.ensures.rescues)

pub returns-in-Err-rescue_to_target-clause-per_page : goal.returns-in-Err-rescue_to_target-clause-per_page
returns-in-Err-rescue_to_target-clause-per_page c =
    let passed : View = c.rescue_to_target.new.hand.seat.me.0 in
    let kept = c.rescue_to_target.new.slabs.shared in
    let slabs = c.args.slabs.now.shared in
    let held = c.in-Err-rescue_to_target.stripe in
    let now : View = c.sweep_and_save-in-Err-rescue_to_target.new.hand.seat.me.0 in
    let left = c.sweep_and_save-in-Err-rescue_to_target.new.slabs.shared in
    per_page-map slabs left c.args.class
    (saved_slabs (λ (s : SlabState). map (λ (x : ClassState). x.per_page) s.classes) (λ s chunk. per_pages-with_class s (class_of_page s chunk.page) _ refl) (λ s copy chunk. per_pages-with_class s (class_of_page s chunk.page) _ refl) c.rescue_to_target.new.hand.number c.args.class held.number held.stripe c.args.chunk c.sweep_and_save-in-Err-rescue_to_target.result passed kept now left c.sweep_and_save-in-Err-rescue_to_target.ensures.saves
    ∙ ap (λ (s : SlabState). map (λ (x : ClassState). x.per_page) s.classes) c.in-Err-rescue_to_target.ensures.same_slabs)
