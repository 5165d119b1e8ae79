use Rattle.std.proofs.Common.{◌≡◌, ℕ, ◌+◌, List, [], ◌∷◌, ◌++◌, Some, refl, sym, ap, subst, ◌∙◌}
use Rattle.mc_pages.specs.Changes.{after_replace}
use Rattle.mc_pages.specs.SlabState.{SlabState, class_at, class_of_page}
use Rattle.mc_pages.proofs.Chunks.{is_chunk-same}
use Rattle.mc_pages.specs.Pages.{is_on_the_move}
use Rattle.mc_core.specs.declared.holding.Holding.{Holding}
use Rattle.mc_core.specs.run.Evictions.{has_copy}
use Rattle.mc_core.specs.model.Holdings.{holding_of, is_of_chunk, without_first}
use Rattle.mc_core.specs.model.State.{room_in}
use Rattle.mc_words.specs.hand.View.{Setup, View}
use Rattle.mc_words.specs.item.Fresh.{IsFreshIn}
use Rattle.mc_words.specs.item.Items.{word_read}
use Rattle.mc_words.specs.hand.Views.{copy_holding}
use Rattle.mc_words.proofs.Hands.HandNumbers.{number_stays}
use Rattle.mc_mover.specs.Saving.{GivesRescued}
use Rattle.mc_mover.proofs.Kept.{passes_keep}
use Rattle.mc_mover.proofs.Leads.{Reaches, out_now}
use Rattle.mc_mover.proofs.Saves.{found_last, no_copies, none_before, popped_holds, popped_ids, popped_reaches, stripe_reached}
use Rattle.mc_mover.proofs.Writes.{lose_last}
use Rattle.mc_mover.proofs.linked.rescue_to_target.Goals as goal

pub pop_off-requires-clause-out : goal.pop_off-requires-clause-out
pop_off-requires-clause-out c =
    let view : View = c.args.hand.now.seat.me.0 in
    let (key, stamp, leads, of_key) = c.requires.leads in
    out_now view c.args.stripe.number c.args.stripe.stripe key c.args.chunk stamp (record { mine = c.requires.stripe; of_key = of_key; leads = leads }) c.requires.arena.lawful c.args.slabs.now.shared c.requires.slabs

pub rescue-requires-clause-stripe : goal.rescue-requires-clause-stripe
rescue-requires-clause-stripe c =
    let view : View = c.args.hand.now.seat.me.0 in
    let slabs = c.args.slabs.now.shared in
    let chunk = c.args.chunk in
    let (key, stamp, leads, of_key) = c.requires.leads in
    let number = c.args.stripe.number in
    let value = c.args.stripe.stripe in
    let read = word_read view chunk 0 in
    let at : Reaches view slabs number value key chunk stamp read = record { mine = c.requires.slabs; leads = record { mine = c.requires.stripe; of_key = of_key; leads = leads }; linked = c.requires.linked; read_is = refl } in
    (popped_reaches view c.pop_off.new.hand.seat.me.0 slabs chunk c.in-Some.fresh.chunk c.in-Some.ensures.popped.0 number value key stamp read at).leads.mine

pub rescue-requires-clause-key : goal.rescue-requires-clause-key
rescue-requires-clause-key c =
    let view : View = c.args.hand.now.seat.me.0 in
    let popped : View = c.pop_off.new.hand.seat.me.0 in
    let slabs = c.args.slabs.now.shared in
    let chunk = c.args.chunk in
    let (key, stamp, leads, of_key) = c.requires.leads in
    let number = c.args.stripe.number in
    let value = c.args.stripe.stripe in
    let read = word_read view chunk 0 in
    let at : Reaches view slabs number value key chunk stamp read = record { mine = c.requires.slabs; leads = record { mine = c.requires.stripe; of_key = of_key; leads = leads }; linked = c.requires.linked; read_is = refl } in
    let copy = c.in-Some.fresh.chunk in
    let there = popped_reaches view popped slabs chunk copy c.in-Some.ensures.popped.0 number value key stamp read at in
    stripe_reached view popped (after_replace slabs copy chunk) number number value key chunk stamp there (c.pop_off.ensures.arena.setup ∙ sym c.requires.arena.setup) c.requires.key refl

pub rescue-requires-clause-moving : goal.rescue-requires-clause-moving
rescue-requires-clause-moving c = ap (λ (s : SlabState). is_on_the_move s c.args.chunk.page) c.in-Some.ensures.popped.1 ∙ c.requires.moving

pub rescue-requires-clause-linked : goal.rescue-requires-clause-linked
rescue-requires-clause-linked c =
    let view : View = c.args.hand.now.seat.me.0 in
    let slabs = c.args.slabs.now.shared in
    let chunk = c.args.chunk in
    let (key, stamp, leads, of_key) = c.requires.leads in
    let number = c.args.stripe.number in
    let value = c.args.stripe.stripe in
    let read = word_read view chunk 0 in
    let at : Reaches view slabs number value key chunk stamp read = record { mine = c.requires.slabs; leads = record { mine = c.requires.stripe; of_key = of_key; leads = leads }; linked = c.requires.linked; read_is = refl } in
    (popped_reaches view c.pop_off.new.hand.seat.me.0 slabs chunk c.in-Some.fresh.chunk c.in-Some.ensures.popped.0 number value key stamp read at).linked

pub rescue-requires-clause-copy : goal.rescue-requires-clause-copy
rescue-requires-clause-copy c =
    let view : View = c.args.hand.now.seat.me.0 in
    let popped : View = c.pop_off.new.hand.seat.me.0 in
    let slabs = c.args.slabs.now.shared in
    let chunk = c.args.chunk in
    let copy = c.in-Some.fresh.chunk in
    let pops = c.in-Some.ensures.popped.0 in
    let issue = pops.finds.fit.head.issue + 1 in
    let last : Holding = copy_holding chunk copy issue (room_in pops.seen.setup.table (class_of_page slabs chunk.page)) in
    let all : popped.row.holdings ≡ view.row.holdings ++ last ∷ [] = popped_holds view popped slabs chunk copy pops in
    let fresh = subst (λ (hs : List Holding). IsFreshIn hs copy c.in-Some.fresh.room) all c.in-Some.ensures.fresh.1 in
    let setup : pops.seen.setup ≡ c.args.arena.now.table.shared.key = sym (ap (λ (v : View). v.setup) pops.is) ∙ c.pop_off.ensures.arena.setup in
    let room : room_in pops.seen.setup.table (class_of_page slabs chunk.page) ≡ c.in-Some.fresh.room = ap (λ (x : Setup). room_in x.table (class_of_page slabs chunk.page)) setup ∙ sym c.in-Some.ensures.fresh.0 in
    (issue, ap (holding_of copy) all ∙ (found_last view.row.holdings last c.requires.fresh c.in-Some.fresh.room fresh ∙ ap (λ n. Some (copy_holding chunk copy issue n)) room))

pub rescue-requires-clause-alone : goal.rescue-requires-clause-alone
rescue-requires-clause-alone c =
    let view : View = c.args.hand.now.seat.me.0 in
    let popped : View = c.pop_off.new.hand.seat.me.0 in
    let slabs = c.args.slabs.now.shared in
    let chunk = c.args.chunk in
    let copy = c.in-Some.fresh.chunk in
    let pops = c.in-Some.ensures.popped.0 in
    let last : Holding = copy_holding chunk copy (pops.finds.fit.head.issue + 1) (room_in pops.seen.setup.table (class_of_page slabs chunk.page)) in
    let all : popped.row.holdings ≡ view.row.holdings ++ last ∷ [] = popped_holds view popped slabs chunk copy pops in
    let fresh = subst (λ (hs : List Holding). IsFreshIn hs copy c.in-Some.fresh.room) all c.in-Some.ensures.fresh.1 in
    let none = none_before view.row.holdings last c.requires.fresh c.in-Some.fresh.room fresh in
    ap (λ (hs : List Holding). holding_of copy (without_first (is_of_chunk copy) hs)) all ∙ (ap (holding_of copy) (lose_last copy view.row.holdings last none (is_chunk-same copy)) ∙ none)

pub rescue-requires-clause-only : goal.rescue-requires-clause-only
rescue-requires-clause-only c =
    let view : View = c.args.hand.now.seat.me.0 in
    let popped : View = c.pop_off.new.hand.seat.me.0 in
    let slabs = c.args.slabs.now.shared in
    let chunk = c.args.chunk in
    let copy = c.in-Some.fresh.chunk in
    let pops = c.in-Some.ensures.popped.0 in
    let last : Holding = copy_holding chunk copy (pops.finds.fit.head.issue + 1) (room_in pops.seen.setup.table (class_of_page slabs chunk.page)) in
    let all : popped.row.holdings ≡ view.row.holdings ++ last ∷ [] = popped_holds view popped slabs chunk copy pops in
    let fresh = subst (λ (hs : List Holding). IsFreshIn hs copy c.in-Some.fresh.room) all c.in-Some.ensures.fresh.1 in
    let none = none_before view.row.holdings last c.requires.fresh c.in-Some.fresh.room fresh in
    ap (λ (hs : List Holding). has_copy (without_first (is_of_chunk copy) hs) chunk) all ∙ (ap (λ (hs : List Holding). has_copy hs chunk) (lose_last copy view.row.holdings last none (is_chunk-same copy)) ∙ no_copies view.row.holdings chunk c.requires.fresh)

pub returns-in-Some-clause-rescues : goal.returns-in-Some-clause-rescues
returns-in-Some-clause-rescues c =
    let view : View = c.args.hand.now.seat.me.0 in
    let popped : View = c.pop_off.new.hand.seat.me.0 in
    let slabs = c.args.slabs.now.shared in
    let chunk = c.args.chunk in
    let copy = c.in-Some.fresh.chunk in
    let pops = c.in-Some.ensures.popped.0 in
    let number = number_stays c.args.hand.now c.pop_off.new.hand (popped_ids view popped slabs chunk copy pops) in
    let room : c.in-Some.fresh.room ≡ room_in view.setup.table (class_of_page slabs chunk.page) = c.in-Some.ensures.fresh.0 ∙ ap (λ (x : Setup). room_in x.table (class_of_page slabs chunk.page)) (sym c.requires.arena.setup) in
    record {
      copy = copy;
      popped = popped;
      pops = pops;
      gives = subst (λ (p : ℕ × ℕ × SlabState). GivesRescued p.0 c.args.stripe.number c.args.stripe.stripe chunk copy p.1 c.rescue.result popped p.2 c.rescue.new.hand.seat.me.0 c.rescue.new.slabs.shared)
          (λ k. (number k, room k, c.in-Some.ensures.popped.1 k)) c.rescue.ensures.rescues;
    }

pub returns-in-Some-clause-holdings : goal.returns-in-Some-clause-holdings
returns-in-Some-clause-holdings c =
    let view : View = c.args.hand.now.seat.me.0 in
    let popped : View = c.pop_off.new.hand.seat.me.0 in
    let slabs = c.args.slabs.now.shared in
    let chunk = c.args.chunk in
    let copy = c.in-Some.fresh.chunk in
    let pops = c.in-Some.ensures.popped.0 in
    let last : Holding = copy_holding chunk copy (pops.finds.fit.head.issue + 1) (room_in pops.seen.setup.table (class_of_page slabs chunk.page)) in
    let all : popped.row.holdings ≡ view.row.holdings ++ last ∷ [] = popped_holds view popped slabs chunk copy pops in
    let fresh = subst (λ (hs : List Holding). IsFreshIn hs copy c.in-Some.fresh.room) all c.in-Some.ensures.fresh.1 in
    let none = none_before view.row.holdings last c.requires.fresh c.in-Some.fresh.room fresh in
    c.rescue.ensures.holdings ∙ (ap (without_first (is_of_chunk copy)) all ∙ lose_last copy view.row.holdings last none (is_chunk-same copy))

pub returns-in-Some-clause-ids : goal.returns-in-Some-clause-ids
returns-in-Some-clause-ids c =
    c.rescue.ensures.ids ∙ popped_ids c.args.hand.now.seat.me.0 c.pop_off.new.hand.seat.me.0 c.args.slabs.now.shared c.args.chunk c.in-Some.fresh.chunk c.in-Some.ensures.popped.0

pub returns-in-None-clause-holdings : goal.returns-in-None-clause-holdings
returns-in-None-clause-holdings c =
    let slabs = c.args.slabs.now.shared in
    let page = c.args.chunk.page in
    passes_keep (λ (v : View). v.row.holdings) (λ one v. refl) (λ chunk one v. refl) page (class_at slabs (class_of_page slabs page)).free c.args.hand.now.seat.me.0 c.pop_off.new.hand.seat.me.0 (c.in-None.ensures.none refl).0

pub returns-in-None-clause-ids : goal.returns-in-None-clause-ids
returns-in-None-clause-ids c =
    let slabs = c.args.slabs.now.shared in
    let page = c.args.chunk.page in
    passes_keep (λ (v : View). v.row.ids) (λ one v. refl) (λ chunk one v. refl) page (class_at slabs (class_of_page slabs page)).free c.args.hand.now.seat.me.0 c.pop_off.new.hand.seat.me.0 (c.in-None.ensures.none refl).0
