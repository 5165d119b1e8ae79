use Rattle.std.proofs.Common.{◌≡◌, ℕ, ◌%◌, ◌≤◌, ◌&&◌, ◌||◌, true, None, Some, refl, sym, ap, subst, ◌∙◌, inr, slice_index_or}
use Rattle.std.specs.List.{list_all}
use Rattle.std.proofs.lemmas.Bool.{and_from, or_left, or_right}
use Rattle.mc_pages.specs.declared.ids.ChunkId.{ChunkId}
use Rattle.mc_pages.specs.ClassState.{times_in}
use Rattle.mc_pages.specs.Pages.{is_on_the_move}
use Rattle.mc_pages.specs.SlabState.{HasClass, SlabState, class_at, class_of_page}
use Rattle.mc_core.specs.run.Evictions.{has_copy, lacks_room, none_dead}
use Rattle.mc_core.specs.law.Judged.{sees_no_target}
use Rattle.mc_core.specs.model.Looks.{is_found_alive}
use Rattle.mc_core.specs.model.State.{is_class}
use Rattle.mc_words.specs.declared.hand.held.SlabsHeld.{SlabsHeld}
use Rattle.mc_words.specs.declared.hand.held.StripeHeld.{StripeHeld}
use Rattle.mc_words.specs.item.Removal.{knows_reason}
use Rattle.mc_words.specs.item.Items.{word_read}
use Rattle.mc_words.specs.hand.View.{Setup, View}
use Rattle.mc_words.proofs.Hands.HandNumbers.{number_stays}
use Rattle.mc_words.proofs.Chunks.Judging.{class_of_slabs}
use Rattle.mc_mover.specs.Saving.{GivesEvicted}
use Rattle.mc_mover.proofs.Leads.{Reaches, reaches_passed, reaches_swept}
use Rattle.mc_mover.proofs.Saves.{alive_passed, free_apart, no_copies, stripe_reached, sweeps_slabs}
use Rattle.mc_mover.proofs.linked.sweep_and_save.Goals as goal

pub rescue_to_target-requires-clause-stripe : goal.rescue_to_target-requires-clause-stripe
rescue_to_target-requires-clause-stripe c =
    let view : View = c.args.hand.now.seat.me.0 in
    let slabs = c.args.slabs.now.shared in
    let chunk = c.args.chunk in
    let (key, stamp, leads, of_key) = c.requires.leads in
    let number = c.args.stripe.number in
    let value = c.args.stripe.stripe in
    let read = word_read view chunk 0 in
    let at : Reaches view slabs number value key chunk stamp read = record { mine = c.requires.slabs; leads = record { mine = c.requires.stripe; of_key = of_key; leads = leads }; linked = c.requires.linked; read_is = refl } in
    (reaches_swept number value key chunk stamp read (class_at slabs c.args.class).order view slabs c.sweep.new.hand.seat.me.0 c.sweep.new.held.shared c.sweep.ensures.swept at).leads.mine

pub rescue_to_target-requires-clause-leads : goal.rescue_to_target-requires-clause-leads
rescue_to_target-requires-clause-leads c =
    let view : View = c.args.hand.now.seat.me.0 in
    let slabs = c.args.slabs.now.shared in
    let chunk = c.args.chunk in
    let (key, stamp, leads, of_key) = c.requires.leads in
    (key, stamp, leads, ap (λ (s : Setup). key % s.config.stripes) (c.sweep.ensures.arena.setup ∙ sym c.requires.arena.setup) ∙ of_key)

pub rescue_to_target-requires-clause-key : goal.rescue_to_target-requires-clause-key
rescue_to_target-requires-clause-key c =
    let view : View = c.args.hand.now.seat.me.0 in
    let slabs = c.args.slabs.now.shared in
    let swept : View = c.sweep.new.hand.seat.me.0 in
    let kept = c.sweep.new.held.shared in
    let chunk = c.args.chunk in
    let (key, stamp, leads, of_key) = c.requires.leads in
    let number = c.args.stripe.number in
    let value = c.args.stripe.stripe in
    let read = word_read view chunk 0 in
    let at : Reaches view slabs number value key chunk stamp read = record { mine = c.requires.slabs; leads = record { mine = c.requires.stripe; of_key = of_key; leads = leads }; linked = c.requires.linked; read_is = refl } in
    let there = reaches_swept number value key chunk stamp read (class_at slabs c.args.class).order view slabs swept kept c.sweep.ensures.swept at in
    stripe_reached view swept kept number number value key chunk stamp there (c.sweep.ensures.arena.setup ∙ sym c.requires.arena.setup) c.requires.key refl

pub rescue_to_target-requires-clause-moving : goal.rescue_to_target-requires-clause-moving
rescue_to_target-requires-clause-moving c =
    let slabs = c.args.slabs.now.shared in
    sweeps_slabs (λ (s : SlabState). is_on_the_move s c.args.chunk.page) (λ s chunk. refl) (class_at slabs c.args.class).order c.args.hand.now.seat.me.0 slabs c.sweep.new.hand.seat.me.0 c.sweep.new.held.shared c.sweep.ensures.swept ∙ c.requires.moving

pub rescue_to_target-requires-clause-linked : goal.rescue_to_target-requires-clause-linked
rescue_to_target-requires-clause-linked c =
    let view : View = c.args.hand.now.seat.me.0 in
    let slabs = c.args.slabs.now.shared in
    let chunk = c.args.chunk in
    let (key, stamp, leads, of_key) = c.requires.leads in
    let number = c.args.stripe.number in
    let value = c.args.stripe.stripe in
    let read = word_read view chunk 0 in
    let at : Reaches view slabs number value key chunk stamp read = record { mine = c.requires.slabs; leads = record { mine = c.requires.stripe; of_key = of_key; leads = leads }; linked = c.requires.linked; read_is = refl } in
    (reaches_swept number value key chunk stamp read (class_at slabs c.args.class).order view slabs c.sweep.new.hand.seat.me.0 c.sweep.new.held.shared c.sweep.ensures.swept at).linked

pub evict-requires-clause-stripe : goal.evict-requires-clause-stripe
evict-requires-clause-stripe c =
    let view : View = c.args.hand.now.seat.me.0 in
    let slabs = c.args.slabs.now.shared in
    let swept : View = c.sweep.new.hand.seat.me.0 in
    let kept = c.sweep.new.held.shared in
    let passed : View = c.rescue_to_target.new.hand.seat.me.0 in
    let chunk = c.args.chunk in
    let (key, stamp, leads, of_key) = c.requires.leads in
    let number = c.args.stripe.number in
    let value = c.args.stripe.stripe in
    let read = word_read view chunk 0 in
    let at : Reaches view slabs number value key chunk stamp read = record { mine = c.requires.slabs; leads = record { mine = c.requires.stripe; of_key = of_key; leads = leads }; linked = c.requires.linked; read_is = refl } in
    let there = reaches_swept number value key chunk stamp read (class_at slabs c.args.class).order view slabs swept kept c.sweep.ensures.swept at in
    let last = reaches_passed number value key chunk stamp read chunk.page (class_at kept (class_of_page kept chunk.page)).free swept passed kept c.in-Err.ensures.lacks there in
    subst (λ (held : StripeHeld). slice_index_or passed.stripes held.number None ≡ Some held.stripe) (sym c.in-Err.ensures.back) last.leads.mine

pub evict-requires-clause-key : goal.evict-requires-clause-key
evict-requires-clause-key c =
    let view : View = c.args.hand.now.seat.me.0 in
    let slabs = c.args.slabs.now.shared in
    let swept : View = c.sweep.new.hand.seat.me.0 in
    let kept = c.sweep.new.held.shared in
    let passed : View = c.rescue_to_target.new.hand.seat.me.0 in
    let chunk = c.args.chunk in
    let (key, stamp, leads, of_key) = c.requires.leads in
    let number = c.args.stripe.number in
    let value = c.args.stripe.stripe in
    let read = word_read view chunk 0 in
    let at : Reaches view slabs number value key chunk stamp read = record { mine = c.requires.slabs; leads = record { mine = c.requires.stripe; of_key = of_key; leads = leads }; linked = c.requires.linked; read_is = refl } in
    let there = reaches_swept number value key chunk stamp read (class_at slabs c.args.class).order view slabs swept kept c.sweep.ensures.swept at in
    let last = reaches_passed number value key chunk stamp read chunk.page (class_at kept (class_of_page kept chunk.page)).free swept passed kept c.in-Err.ensures.lacks there in
    stripe_reached view passed kept number c.in-Err.stripe.number value key chunk stamp
    (subst (λ n. Reaches passed kept n value key chunk stamp read) (ap (λ (held : StripeHeld). held.number) (sym c.in-Err.ensures.back)) last) (c.rescue_to_target.ensures.arena.setup ∙ sym c.requires.arena.setup) c.requires.key
    (ap (λ (held : StripeHeld). held.number) c.in-Err.ensures.back)

pub evict-requires-clause-reason : goal.evict-requires-clause-reason
evict-requires-clause-reason c =
    let view : View = c.args.hand.now.seat.me.0 in
    let slabs = c.args.slabs.now.shared in
    let swept : View = c.sweep.new.hand.seat.me.0 in
    let kept = c.sweep.new.held.shared in
    let passed : View = c.rescue_to_target.new.hand.seat.me.0 in
    let chunk = c.args.chunk in
    let own = class_of_page kept chunk.page in
    let table = c.args.arena.now.table.shared.key.table in
    let order = (class_at slabs c.args.class).order in
    let owned : own ≡ c.args.class = sweeps_slabs (λ (s : SlabState). class_of_page s chunk.page) (λ s chunk. refl) order view slabs swept kept c.sweep.ensures.swept ∙ c.requires.own in
    let moving : is_on_the_move kept chunk.page ≡ true = sweeps_slabs (λ (s : SlabState). is_on_the_move s chunk.page) (λ s chunk. refl) order view slabs swept kept c.sweep.ensures.swept ∙ c.requires.moving in
    let is : is_class swept.setup.table c.args.class ≡ true = ap (λ (x : Setup). is_class x.table c.args.class) c.sweep.ensures.arena.setup ∙ c.requires.class in
    let valid = class_of_slabs swept c.sweep.ensures.arena.lawful kept c.args.class c.sweep.ensures.held is in
    let alive : list_all (is_found_alive swept.row.looks) (class_at kept own).order ≡ true = ap (λ n. list_all (is_found_alive swept.row.looks) (class_at kept n).order) owned ∙ c.sweep.ensures.alive in
    let apart : (other : ChunkId) → 1 ≤ times_in other (class_at kept own).free → times_in other (class_at kept own).order ≡ 0 = λ other there. free_apart swept c.sweep.ensures.arena.lawful kept c.sweep.ensures.held own (subst (λ n. HasClass kept n) (sym owned) valid) other there in
    let none = alive_passed chunk.page kept (class_at kept own).order (class_at kept own).free swept passed c.sweep.ensures.held apart alive c.in-Err.ensures.lacks in
    let target : sees_no_target kept passed.row.looks chunk.page ≡ true = c.in-Err.ensures.no_target in
    ap (λ (x : SlabState). knows_reason x passed.row.looks passed.row.holdings chunk) c.in-Err.ensures.same_slabs
    ∙ or_left (is_on_the_move kept chunk.page && has_copy passed.row.holdings chunk || is_on_the_move kept chunk.page && none_dead kept passed.row.looks chunk && sees_no_target kept passed.row.looks chunk.page) (lacks_room kept passed.row.looks chunk)
    (or_right (is_on_the_move kept chunk.page && has_copy passed.row.holdings chunk) (is_on_the_move kept chunk.page && none_dead kept passed.row.looks chunk && sees_no_target kept passed.row.looks chunk.page) (and_from _ _ (and_from _ _ moving none) target))

pub evict-requires-clause-no_copy : goal.evict-requires-clause-no_copy
evict-requires-clause-no_copy c =
    let view : View = c.args.hand.now.seat.me.0 in
    let passed : View = c.rescue_to_target.new.hand.seat.me.0 in
    let held : passed.row.holdings ≡ view.row.holdings = c.rescue_to_target.ensures.holdings ∙ ap (λ (v : View). v.row.holdings) c.sweep.ensures.view in
    ap (λ hs. has_copy hs c.args.chunk) held ∙ no_copies view.row.holdings c.args.chunk c.requires.fresh

pub returns-in-Err-clause-saves : goal.returns-in-Err-clause-saves
returns-in-Err-clause-saves c =
    let passed : View = c.rescue_to_target.new.hand.seat.me.0 in
    let ids = c.rescue_to_target.ensures.ids ∙ ap (λ (v : View). v.row.ids) c.sweep.ensures.view in
    let number = number_stays c.args.hand.now c.rescue_to_target.new.hand ids in
    record {
      swept = c.sweep.new.hand.seat.me.0;
      between = c.sweep.new.held.shared;
      sweeps = c.sweep.ensures.swept;
      saves = inr (record {
        passed = passed;
        passes = c.in-Err.ensures.lacks;
        gives = subst (λ (p : ℕ × StripeHeld). GivesEvicted p.0 p.1.number p.1.stripe c.args.chunk c.evict.result passed c.evict.new.hand.seat.me.0) (λ k. (number k, c.in-Err.ensures.back k)) c.evict.ensures.evicts;
        same = ap (λ (h : SlabsHeld). h.shared) c.evict.ensures.same_slabs ∙ c.in-Err.ensures.same_slabs;
      });
    }
