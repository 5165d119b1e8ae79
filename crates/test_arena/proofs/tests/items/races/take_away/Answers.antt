use Rattle.std.proofs.Common.{◌≡◌, ◌+◌, ◌≤◌, ◌&&◌, ◌||◌, true, false, List, [], ◌∷◌, ◌++◌, Some, refl, sym, ap, subst, ◌∙◌, rules}
use Rattle.std.specs.List.{list_all}
use Rattle.std.proofs.lemmas.Bool.{and_from, or_left, or_right}
use Rattle.mc_pages.specs.declared.ids.ChunkId.{ChunkId}
use Rattle.mc_pages.specs.ClassState.{times_in}
use Rattle.mc_pages.specs.Pages.{is_on_the_move}
use Rattle.mc_pages.specs.SlabState.{SlabState, class_at, class_of_page}
use Rattle.mc_core.specs.declared.holding.Holding.{Holding}
use Rattle.mc_core.specs.run.Evictions.{has_copy, lacks_room, none_dead}
use Rattle.mc_core.specs.model.Holdings.{has_fresh, holding_of}
use Rattle.mc_core.specs.law.Judged.{sees_no_target}
use Rattle.mc_core.specs.model.Looks.{is_found_alive}
use Rattle.mc_core.specs.model.State.{is_class, room_in}
use Rattle.mc_words.specs.hand.View.{Setup, View}
use Rattle.mc_words.specs.declared.hand.held.StripeHeld.{StripeHeld}
use Rattle.mc_words.specs.item.Fresh.{IsFreshIn}
use Rattle.mc_words.specs.item.Items.{word_read}
use Rattle.mc_words.specs.hand.Views.{copy_holding}
use Rattle.mc_words.proofs.Chunks.Judging.{class_of_slabs}
use Rattle.mc_mover.proofs.Kept.{passes_keep}
use Rattle.mc_mover.proofs.Leads.{out_now, reaches_passed, reaches_swept}
use Rattle.mc_mover.proofs.Saves.{alive_passed, free_apart, found_last, made_reaches, no_copies, popped_holds, popped_reaches, stripe_reached, sweeps_slabs}
use Rattle.test_arena.proofs.tests.items.races.take_away.Goals as goal

pub pop_off-requires-clause-moving : goal.pop_off-requires-clause-moving
pop_off-requires-clause-moving g c =
    let view : View = c.args.hand.now.seat.me.0 in
    let made : View = c.reserve.new.hand.seat.me.0 in
    let swept : View = c.sweep.new.hand.seat.me.0 in
    let slabs = c.args.slabs.now.shared in
    let kept = c.sweep.new.held.shared in
    let chunk = c.args.item.chunk in
    let (key, stamp, leads) = c.requires.leads.leads in
    let number = c.reserve.new.held.number in
    let value = c.reserve.new.held.stripe in
    sweeps_slabs (λ (s : SlabState). is_on_the_move s chunk.page) (λ s chunk. refl) (class_at slabs c.in_ok-class.class).order made slabs swept kept c.sweep.ensures.swept ∙ c.in_ok-class.ensures.moving

pub pop_off-requires-clause-out : goal.pop_off-requires-clause-out
pop_off-requires-clause-out g c =
    let view : View = c.args.hand.now.seat.me.0 in
    let made : View = c.reserve.new.hand.seat.me.0 in
    let swept : View = c.sweep.new.hand.seat.me.0 in
    let slabs = c.args.slabs.now.shared in
    let kept = c.sweep.new.held.shared in
    let chunk = c.args.item.chunk in
    let (key, stamp, leads) = c.requires.leads.leads in
    let number = c.reserve.new.held.number in
    let value = c.reserve.new.held.stripe in
    let read = word_read view chunk 0 in
    let first = made_reaches view made slabs c.requires.slabs c.args.item.stripe.number _ c.args.item.stripe.stripe c.in_default.ensures.view key chunk stamp number value c.requires.leads.lent leads c.requires.leads.linked c.reserve.ensures.number (ap (λ (h : StripeHeld). h.stripe) c.in_default.ensures.reserved) c.reserve.ensures.held in
    let at = reaches_swept number value key chunk stamp read (class_at slabs c.in_ok-class.class).order made slabs swept kept c.sweep.ensures.swept first in
    out_now swept number value key chunk stamp at.leads c.sweep.ensures.arena.lawful kept at.mine

pub rescue-requires-clause-item : goal.rescue-requires-clause-item
rescue-requires-clause-item g c =
    let view : View = c.args.hand.now.seat.me.0 in
    let made : View = c.reserve.new.hand.seat.me.0 in
    let swept : View = c.sweep.new.hand.seat.me.0 in
    let slabs = c.args.slabs.now.shared in
    let kept = c.sweep.new.held.shared in
    let chunk = c.args.item.chunk in
    let (key, stamp, leads) = c.requires.leads.leads in
    let number = c.reserve.new.held.number in
    let value = c.reserve.new.held.stripe in
    let read = word_read view chunk 0 in
    let first = made_reaches view made slabs c.requires.slabs c.args.item.stripe.number _ c.args.item.stripe.stripe c.in_default.ensures.view key chunk stamp number value c.requires.leads.lent leads c.requires.leads.linked c.reserve.ensures.number (ap (λ (h : StripeHeld). h.stripe) c.in_default.ensures.reserved) c.reserve.ensures.held in
    let at = reaches_swept number value key chunk stamp read (class_at slabs c.in_ok-class.class).order made slabs swept kept c.sweep.ensures.swept first in
    let popped : View = c.pop_off.new.hand.seat.me.0 in
    let copy = c.in-Some.fresh.chunk in
    let pops = c.in-Some.ensures.popped.0 in
    let there = popped_reaches swept popped kept chunk copy pops number value key stamp read at in
    record {
      of_key = record {
        in_range = c.requires.leads.of_key.in_range;
        inside = search rules;
        key = stripe_reached view popped (Rattle.mc_pages.specs.Changes.after_replace kept copy chunk) c.args.item.stripe.number number value key chunk stamp there (c.pop_off.ensures.arena.setup ∙ sym c.requires.arena.setup) c.requires.leads.of_key.key c.reserve.ensures.number;
      };
      mine = there.leads.mine;
      ready = search rules;
      empty = search rules;
    }

pub rescue-requires-clause-moving : goal.rescue-requires-clause-moving
rescue-requires-clause-moving g c =
    let view : View = c.args.hand.now.seat.me.0 in
    let made : View = c.reserve.new.hand.seat.me.0 in
    let swept : View = c.sweep.new.hand.seat.me.0 in
    let slabs = c.args.slabs.now.shared in
    let kept = c.sweep.new.held.shared in
    let chunk = c.args.item.chunk in
    let (key, stamp, leads) = c.requires.leads.leads in
    let number = c.reserve.new.held.number in
    let value = c.reserve.new.held.stripe in
    ap (λ (s : SlabState). is_on_the_move s chunk.page) c.in-Some.ensures.popped.1 ∙ (sweeps_slabs (λ (s : SlabState). is_on_the_move s chunk.page) (λ s chunk. refl) (class_at slabs c.in_ok-class.class).order made slabs swept kept c.sweep.ensures.swept ∙ c.in_ok-class.ensures.moving)

pub rescue-requires-clause-copy : goal.rescue-requires-clause-copy
rescue-requires-clause-copy g c =
    let view : View = c.args.hand.now.seat.me.0 in
    let made : View = c.reserve.new.hand.seat.me.0 in
    let swept : View = c.sweep.new.hand.seat.me.0 in
    let slabs = c.args.slabs.now.shared in
    let kept = c.sweep.new.held.shared in
    let chunk = c.args.item.chunk in
    let (key, stamp, leads) = c.requires.leads.leads in
    let number = c.reserve.new.held.number in
    let value = c.reserve.new.held.stripe in
    let popped : View = c.pop_off.new.hand.seat.me.0 in
    let copy = c.in-Some.fresh.chunk in
    let pops = c.in-Some.ensures.popped.0 in
    let held : swept.row.holdings ≡ view.row.holdings = ap (λ (v : View). v.row.holdings) c.sweep.ensures.view ∙ ap (λ (v : View). v.row.holdings) c.in_default.ensures.view in
    let none_fresh : has_fresh swept.row.holdings ≡ false = ap has_fresh held ∙ c.requires.fresh in
    let issue = pops.finds.fit.head.issue + 1 in
    let last : Holding = copy_holding chunk copy issue (room_in pops.seen.setup.table (class_of_page kept chunk.page)) in
    let all : popped.row.holdings ≡ swept.row.holdings ++ last ∷ [] = popped_holds swept popped kept chunk copy pops in
    let fresh = subst (λ (hs : List Holding). IsFreshIn hs copy c.in-Some.fresh.room) all c.in-Some.ensures.fresh.1 in
    let setup : pops.seen.setup ≡ c.args.arena.now.table.shared.key = sym (ap (λ (v : View). v.setup) pops.is) ∙ c.pop_off.ensures.arena.setup in
    let room : room_in pops.seen.setup.table (class_of_page kept chunk.page) ≡ c.in-Some.fresh.room = ap (λ (x : Setup). room_in x.table (class_of_page kept chunk.page)) setup ∙ sym c.in-Some.ensures.fresh.0 in
    (issue, ap (holding_of copy) all ∙ (found_last swept.row.holdings last none_fresh c.in-Some.fresh.room fresh ∙ ap (λ n. Some (copy_holding chunk copy issue n)) room))

pub evict-requires-clause-item : goal.evict-requires-clause-item
evict-requires-clause-item g c =
    let view : View = c.args.hand.now.seat.me.0 in
    let made : View = c.reserve.new.hand.seat.me.0 in
    let swept : View = c.sweep.new.hand.seat.me.0 in
    let slabs = c.args.slabs.now.shared in
    let kept = c.sweep.new.held.shared in
    let chunk = c.args.item.chunk in
    let (key, stamp, leads) = c.requires.leads.leads in
    let number = c.reserve.new.held.number in
    let value = c.reserve.new.held.stripe in
    let read = word_read view chunk 0 in
    let first = made_reaches view made slabs c.requires.slabs c.args.item.stripe.number _ c.args.item.stripe.stripe c.in_default.ensures.view key chunk stamp number value c.requires.leads.lent leads c.requires.leads.linked c.reserve.ensures.number (ap (λ (h : StripeHeld). h.stripe) c.in_default.ensures.reserved) c.reserve.ensures.held in
    let at = reaches_swept number value key chunk stamp read (class_at slabs c.in_ok-class.class).order made slabs swept kept c.sweep.ensures.swept first in
    let passed : View = c.pop_off.new.hand.seat.me.0 in
    let own = class_of_page kept chunk.page in
    let passes = (c.in-None.ensures.none refl).0 in
    let same = (c.in-None.ensures.none refl).1 in
    let there = reaches_passed number value key chunk stamp read chunk.page (class_at kept own).free swept passed kept passes at in
    record {
      of_key = record {
        in_range = c.requires.leads.of_key.in_range;
        inside = search rules;
        key = stripe_reached view passed kept c.args.item.stripe.number number value key chunk stamp there (c.pop_off.ensures.arena.setup ∙ sym c.requires.arena.setup) c.requires.leads.of_key.key c.reserve.ensures.number;
      };
      mine = there.leads.mine;
      ready = search rules;
      empty = search rules;
    }

pub evict-requires-clause-reason : goal.evict-requires-clause-reason
evict-requires-clause-reason g c =
    let view : View = c.args.hand.now.seat.me.0 in
    let made : View = c.reserve.new.hand.seat.me.0 in
    let swept : View = c.sweep.new.hand.seat.me.0 in
    let slabs = c.args.slabs.now.shared in
    let kept = c.sweep.new.held.shared in
    let chunk = c.args.item.chunk in
    let (key, stamp, leads) = c.requires.leads.leads in
    let number = c.reserve.new.held.number in
    let value = c.reserve.new.held.stripe in
    let passed : View = c.pop_off.new.hand.seat.me.0 in
    let own = class_of_page kept chunk.page in
    let passes = (c.in-None.ensures.none refl).0 in
    let same = (c.in-None.ensures.none refl).1 in
    let table = c.args.arena.now.table.shared.key.table in
    let owned : own ≡ c.in_ok-class.class = sweeps_slabs (λ (s : SlabState). class_of_page s chunk.page) (λ s chunk. refl) (class_at slabs c.in_ok-class.class).order made slabs swept kept c.sweep.ensures.swept ∙ c.in_ok-class.ensures.own in
    let moving : is_on_the_move kept chunk.page ≡ true = sweeps_slabs (λ (s : SlabState). is_on_the_move s chunk.page) (λ s chunk. refl) (class_at slabs c.in_ok-class.class).order made slabs swept kept c.sweep.ensures.swept ∙ c.in_ok-class.ensures.moving in
    let is : is_class swept.setup.table c.in_ok-class.class ≡ true = ap (λ (x : Setup). is_class x.table c.in_ok-class.class) c.sweep.ensures.arena.setup ∙ c.in_ok-class.ensures.class in
    let valid = class_of_slabs swept c.sweep.ensures.arena.lawful kept c.in_ok-class.class c.sweep.ensures.held is in
    let alive : list_all (is_found_alive swept.row.looks) (class_at kept own).order ≡ true = ap (λ n. list_all (is_found_alive swept.row.looks) (class_at kept n).order) owned ∙ c.sweep.ensures.alive in
    let apart : (other : ChunkId) → 1 ≤ times_in other (class_at kept own).free → times_in other (class_at kept own).order ≡ 0 = λ other there. free_apart swept c.sweep.ensures.arena.lawful kept c.sweep.ensures.held own (subst (λ n. Rattle.mc_pages.specs.SlabState.HasClass kept n) (sym owned) valid) other there in
    let none = alive_passed chunk.page kept (class_at kept own).order (class_at kept own).free swept passed c.sweep.ensures.held apart alive passes in
    let target : sees_no_target kept passed.row.looks chunk.page ≡ true = c.in-None.ensures.no_target refl in
    ap (λ (x : SlabState). Rattle.mc_words.specs.item.Removal.knows_reason x passed.row.looks passed.row.holdings chunk) same
    ∙ or_left (is_on_the_move kept chunk.page && has_copy passed.row.holdings chunk || is_on_the_move kept chunk.page && none_dead kept passed.row.looks chunk && sees_no_target kept passed.row.looks chunk.page) (lacks_room kept passed.row.looks chunk)
    (or_right (is_on_the_move kept chunk.page && has_copy passed.row.holdings chunk) (is_on_the_move kept chunk.page && none_dead kept passed.row.looks chunk && sees_no_target kept passed.row.looks chunk.page) (and_from _ _ (and_from _ _ moving none) target))

pub evict-requires-clause-no_copy : goal.evict-requires-clause-no_copy
evict-requires-clause-no_copy g c =
    let view : View = c.args.hand.now.seat.me.0 in
    let made : View = c.reserve.new.hand.seat.me.0 in
    let swept : View = c.sweep.new.hand.seat.me.0 in
    let slabs = c.args.slabs.now.shared in
    let kept = c.sweep.new.held.shared in
    let chunk = c.args.item.chunk in
    let (key, stamp, leads) = c.requires.leads.leads in
    let number = c.reserve.new.held.number in
    let value = c.reserve.new.held.stripe in
    let passed : View = c.pop_off.new.hand.seat.me.0 in
    let own = class_of_page kept chunk.page in
    let passes = (c.in-None.ensures.none refl).0 in
    let same = (c.in-None.ensures.none refl).1 in
    let held : swept.row.holdings ≡ view.row.holdings = ap (λ (v : View). v.row.holdings) c.sweep.ensures.view ∙ ap (λ (v : View). v.row.holdings) c.in_default.ensures.view in
    let still : passed.row.holdings ≡ view.row.holdings = passes_keep (λ (v : View). v.row.holdings) (λ one v. refl) (λ chunk one v. refl) chunk.page (class_at kept own).free swept passed passes ∙ held in
    ap (λ hs. has_copy hs chunk) still ∙ no_copies view.row.holdings chunk c.requires.fresh
