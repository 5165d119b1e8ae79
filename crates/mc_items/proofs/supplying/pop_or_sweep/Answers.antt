use Rattle.std.proofs.Common.{◌≡◌, ◌∙◌, Ok, Option, IfSome, ap, refl, sym, subst}
use Rattle.mc_pages.specs.Changes.{after_pop}
use Rattle.mc_pages.specs.SlabState.{SlabState, class_at}
use Rattle.mc_core.specs.model.State.{is_class, room_in}
use Rattle.mc_words.specs.item.Fresh.{IsFreshOf}
use Rattle.mc_words.specs.page.Owner.{PopsFirst}
use Rattle.mc_words.specs.hand.View.{Setup, View}
use Rattle.mc_words.specs.declared.hand.held.Fresh.{Fresh}
use Rattle.mc_items.specs.Storing.{IsOwnItem}
use Rattle.mc_items.specs.Supplying.{GainsFresh, SuppliesFree}
use Rattle.mc_items.proofs.Made.{none_dead}
use Rattle.mc_items.proofs.Popped.{popped_own}
use Rattle.mc_items.proofs.Supplies.{at_once, both_if_some, by_recover, by_sweep, gains_fresh, if_error, if_some, none_by_sweep, seen_here, seen_recovered, worn_at_once, worn_by_recover, worn_by_sweep}
use Rattle.mc_items.proofs.Swept.{pop_uncut, recovers_uncut}
use Rattle.mc_items.proofs.supplying.pop_or_sweep.Goals as goal

-- a free chunk at once

pub returns-in-Ok-Some-clause-supplied : goal.returns-in-Ok-Some-clause-supplied
returns-in-Ok-Some-clause-supplied c =
    let view : View = c.args.hand.now.seat.me.0 in
    let now : View = c.pop.new.hand.seat.me.0 in
    let slabs = c.args.held.now.shared in
    let popped = subst (λ (o : Option Fresh). IfSome o (λ fresh. PopsFirst view slabs c.args.class fresh.chunk now × (c.pop.new.held.shared ≡ after_pop slabs c.args.class))) c.in-Ok-Some.field-0-is c.in-Ok-Some.ensures.popped in
    at_once c.args.class view slabs now c.pop.new.held.shared c.in-Ok-Some.fresh.chunk popped.0 popped.1

pub returns-in-Ok-Some-clause-gains : goal.returns-in-Ok-Some-clause-gains
returns-in-Ok-Some-clause-gains c =
    let view : View = c.args.hand.now.seat.me.0 in
    let now : View = c.pop.new.hand.seat.me.0 in
    let slabs = c.args.held.now.shared in
    let popped = subst (λ (o : Option Fresh). IfSome o (λ fresh. PopsFirst view slabs c.args.class fresh.chunk now × (c.pop.new.held.shared ≡ after_pop slabs c.args.class))) c.in-Ok-Some.field-0-is c.in-Ok-Some.ensures.popped in
    let fresh = subst (λ (o : Option Fresh). IfSome o (λ fresh. (fresh.room ≡ room_in c.args.arena.now.table.shared.key.table c.args.class) × IsFreshOf now fresh.chunk fresh.room)) c.in-Ok-Some.field-0-is c.in-Ok-Some.ensures.fresh in
    gains_fresh c.args.class view view now slabs c.in-Ok-Some.fresh.chunk c.in-Ok-Some.fresh.room refl popped.0 (fresh.0 ∙ ap (λ (s : Setup). room_in s.table c.args.class) (sym c.requires.arena.setup))

pub returns-in-Err-clause-worn : goal.returns-in-Err-clause-worn
returns-in-Err-clause-worn c =
    worn_at_once c.args.class c.args.hand.now.seat.me.0 c.args.held.now.shared c.pop.new.hand.seat.me.0 c.pop.new.held.shared c.in-Err.ensures.worn.0 c.in-Err.ensures.worn.1

pub returns-in-Ok-Some-clause-own : goal.returns-in-Ok-Some-clause-own
returns-in-Ok-Some-clause-own c =
    let view : View = c.args.hand.now.seat.me.0 in
    let now : View = c.pop.new.hand.seat.me.0 in
    let slabs = c.args.held.now.shared in
    let popped = subst (λ (o : Option Fresh). IfSome o (λ fresh. PopsFirst view slabs c.args.class fresh.chunk now × (c.pop.new.held.shared ≡ after_pop slabs c.args.class))) c.in-Ok-Some.field-0-is c.in-Ok-Some.ensures.popped in
    popped_own view now slabs c.args.class c.in-Ok-Some.fresh.chunk c.requires.arena.lawful c.requires.held (ap (λ (s : Setup). is_class s.table c.args.class) c.requires.arena.setup ∙ c.requires.class) popped.0

-- a dead one that a hint named

pub returns-in-Ok-Some-pop-clause-supplied : goal.returns-in-Ok-Some-pop-clause-supplied
returns-in-Ok-Some-pop-clause-supplied c =
    let class = c.args.class in
    let swept : View = c.recover.new.hand.seat.me.0 in
    let now : View = c.pop-2.new.hand.seat.me.0 in
    let between = c.recover.new.held.shared in
    let left = c.pop-2.new.held.shared in
    let popped = subst (λ (o : Option Fresh). IfSome o (λ fresh. PopsFirst swept between class fresh.chunk now × (left ≡ after_pop between class))) c.in-Ok-Some-pop.field-0-is c.in-Ok-Some-pop.ensures.popped in
    by_recover class c.args.hand.now.seat.me.0 c.pop.new.hand.seat.me.0 swept now c.args.held.now.shared c.pop.new.held.shared between left
    (c.pop.ensures.none (c.in-Ok-None.is ∙ ap (λ o. Ok o) c.in-Ok-None.field-0-is)) c.recover.ensures.recovers c.recover.ensures.view c.in-Ok-Some-pop.fresh.chunk popped.0 popped.1

pub returns-in-Ok-Some-pop-clause-gains : goal.returns-in-Ok-Some-pop-clause-gains
returns-in-Ok-Some-pop-clause-gains c =
    let class = c.args.class in
    let view : View = c.args.hand.now.seat.me.0 in
    let swept : View = c.recover.new.hand.seat.me.0 in
    let now : View = c.pop-2.new.hand.seat.me.0 in
    let between = c.recover.new.held.shared in
    let left = c.pop-2.new.held.shared in
    let seen = seen_recovered class view c.pop.new.hand.seat.me.0 swept now c.args.held.now.shared c.pop.new.held.shared between left (c.pop.ensures.none (c.in-Ok-None.is ∙ ap (λ o. Ok o) c.in-Ok-None.field-0-is)) c.recover.ensures.recovers c.recover.ensures.view in
    let popped = subst (λ (o : Option Fresh). IfSome o (λ fresh. PopsFirst swept between class fresh.chunk now × (left ≡ after_pop between class))) c.in-Ok-Some-pop.field-0-is c.in-Ok-Some-pop.ensures.popped in
    let fresh = subst (λ (o : Option Fresh). IfSome o (λ fresh. (fresh.room ≡ room_in c.args.arena.now.table.shared.key.table class) × IsFreshOf now fresh.chunk fresh.room)) c.in-Ok-Some-pop.field-0-is c.in-Ok-Some-pop.ensures.fresh in
    gains_fresh class view swept now between c.in-Ok-Some-pop.fresh.chunk c.in-Ok-Some-pop.fresh.room seen popped.0 (fresh.0 ∙ ap (λ (s : Setup). room_in s.table class) (sym c.requires.arena.setup))

pub returns-in-Err-pop-clause-worn : goal.returns-in-Err-pop-clause-worn
returns-in-Err-pop-clause-worn c =
    worn_by_recover c.args.class c.args.hand.now.seat.me.0 c.pop.new.hand.seat.me.0 c.recover.new.hand.seat.me.0 c.pop-2.new.hand.seat.me.0 c.args.held.now.shared c.pop.new.held.shared c.recover.new.held.shared c.pop-2.new.held.shared
    (c.pop.ensures.none (c.in-Ok-None.is ∙ ap (λ o. Ok o) c.in-Ok-None.field-0-is)) c.recover.ensures.recovers c.recover.ensures.view c.in-Err-pop.ensures.worn.0 c.in-Err-pop.ensures.worn.1

pub returns-in-Ok-Some-pop-clause-own : goal.returns-in-Ok-Some-pop-clause-own
returns-in-Ok-Some-pop-clause-own c =
    let class = c.args.class in
    let swept : View = c.recover.new.hand.seat.me.0 in
    let now : View = c.pop-2.new.hand.seat.me.0 in
    let between = c.recover.new.held.shared in
    let left = c.pop-2.new.held.shared in
    let popped = subst (λ (o : Option Fresh). IfSome o (λ fresh. PopsFirst swept between class fresh.chunk now × (left ≡ after_pop between class))) c.in-Ok-Some-pop.field-0-is c.in-Ok-Some-pop.ensures.popped in
    popped_own swept now between class c.in-Ok-Some-pop.fresh.chunk c.recover.ensures.arena.lawful c.recover.ensures.held (ap (λ (s : Setup). is_class s.table class) c.recover.ensures.arena.setup ∙ c.requires.class) popped.0

pub returns-in-Ok-Some-pop-clause-uncut : goal.returns-in-Ok-Some-pop-clause-uncut
returns-in-Ok-Some-pop-clause-uncut c =
    let class = c.args.class in
    let swept : View = c.recover.new.hand.seat.me.0 in
    let between = c.recover.new.held.shared in
    let before = c.pop.new.held.shared in
    pop_uncut c.pop-2.result (λ (fresh : Fresh). PopsFirst swept between class fresh.chunk c.pop-2.new.hand.seat.me.0) _ between c.pop-2.new.held.shared class (λ is. (c.pop-2.ensures.none is).1) c.pop-2.ensures.popped c.pop-2.ensures.worn
    ∙ (recovers_uncut (class_at before class).order c.pop.new.hand.seat.me.0 before swept between c.recover.ensures.recovers
    ∙ ap (λ (s : SlabState). s.uncut) (c.pop.ensures.none (c.in-Ok-None.is ∙ ap (λ o. Ok o) c.in-Ok-None.field-0-is)).1)

pub returns-in-Err-pop-clause-uncut : goal.returns-in-Err-pop-clause-uncut
returns-in-Err-pop-clause-uncut c =
    let class = c.args.class in
    let swept : View = c.recover.new.hand.seat.me.0 in
    let between = c.recover.new.held.shared in
    let before = c.pop.new.held.shared in
    pop_uncut c.pop-2.result (λ (fresh : Fresh). PopsFirst swept between class fresh.chunk c.pop-2.new.hand.seat.me.0) _ between c.pop-2.new.held.shared class (λ is. (c.pop-2.ensures.none is).1) c.pop-2.ensures.popped c.pop-2.ensures.worn
    ∙ (recovers_uncut (class_at before class).order c.pop.new.hand.seat.me.0 before swept between c.recover.ensures.recovers
    ∙ ap (λ (s : SlabState). s.uncut) (c.pop.ensures.none (c.in-Ok-None.is ∙ ap (λ o. Ok o) c.in-Ok-None.field-0-is)).1)

-- what a sweep gave

pub returns-clause-supplied : goal.returns-clause-supplied
returns-clause-supplied c =
    let class = c.args.class in
    let view : View = c.args.hand.now.seat.me.0 in
    let slabs = c.args.held.now.shared in
    let swept : View = c.sweep.new.hand.seat.me.0 in
    let now : View = c.pop-3.new.hand.seat.me.0 in
    let between = c.sweep.new.held.shared in
    let left = c.pop-3.new.held.shared in
    let none = none_dead view c.requires.arena.lawful slabs c.requires.held class (ap (λ (s : Setup). is_class s.table class) c.requires.arena.setup ∙ c.requires.class) c.pop.new.hand.seat.me.0 c.recover.new.hand.seat.me.0 c.pop-2.new.hand.seat.me.0 c.pop.new.held.shared c.recover.new.held.shared c.pop-2.new.held.shared
    (c.pop.ensures.none (c.in-Ok-None.is ∙ ap (λ o. Ok o) c.in-Ok-None.field-0-is)) c.recover.ensures.recovers c.recover.ensures.view (c.pop-2.ensures.none (c.in-Ok-None-pop.is ∙ ap (λ o. Ok o) c.in-Ok-None-pop.field-0-is)) in
    if_some (λ (fresh : Fresh). PopsFirst swept between class fresh.chunk now × (left ≡ after_pop between class)) (λ (fresh : Fresh). SuppliesFree class fresh.chunk view slabs now left) c.pop-3.result
    (λ fresh popped. by_sweep class view c.pop-2.new.hand.seat.me.0 swept now slabs c.pop-2.new.held.shared between left none c.sweep.ensures.swept c.sweep.ensures.view fresh.chunk popped.0 popped.1)
    c.pop-3.ensures.popped

pub returns-clause-gains : goal.returns-clause-gains
returns-clause-gains c =
    let class = c.args.class in
    let view : View = c.args.hand.now.seat.me.0 in
    let slabs = c.args.held.now.shared in
    let swept : View = c.sweep.new.hand.seat.me.0 in
    let now : View = c.pop-3.new.hand.seat.me.0 in
    let between = c.sweep.new.held.shared in
    let left = c.pop-3.new.held.shared in
    let none = none_dead view c.requires.arena.lawful slabs c.requires.held class (ap (λ (s : Setup). is_class s.table class) c.requires.arena.setup ∙ c.requires.class) c.pop.new.hand.seat.me.0 c.recover.new.hand.seat.me.0 c.pop-2.new.hand.seat.me.0 c.pop.new.held.shared c.recover.new.held.shared c.pop-2.new.held.shared
    (c.pop.ensures.none (c.in-Ok-None.is ∙ ap (λ o. Ok o) c.in-Ok-None.field-0-is)) c.recover.ensures.recovers c.recover.ensures.view (c.pop-2.ensures.none (c.in-Ok-None-pop.is ∙ ap (λ o. Ok o) c.in-Ok-None-pop.field-0-is)) in
    let seen = seen_here class view c.pop-2.new.hand.seat.me.0 swept now slabs c.pop-2.new.held.shared between left none c.sweep.ensures.swept c.sweep.ensures.view in
    if_some (λ (fresh : Fresh). (PopsFirst swept between class fresh.chunk now × (left ≡ after_pop between class)) × ((fresh.room ≡ room_in c.args.arena.now.table.shared.key.table class) × IsFreshOf now fresh.chunk fresh.room)) (λ (fresh : Fresh). GainsFresh view fresh.chunk fresh.room now) c.pop-3.result
    (λ fresh all. gains_fresh class view swept now between fresh.chunk fresh.room seen all.0.0 (all.1.0 ∙ ap (λ (s : Setup). room_in s.table class) (sym c.requires.arena.setup)))
    (both_if_some (λ (fresh : Fresh). PopsFirst swept between class fresh.chunk now × (left ≡ after_pop between class)) (λ (fresh : Fresh). (fresh.room ≡ room_in c.args.arena.now.table.shared.key.table class) × IsFreshOf now fresh.chunk fresh.room) c.pop-3.result c.pop-3.ensures.popped c.pop-3.ensures.fresh)

pub returns-clause-none : goal.returns-clause-none
returns-clause-none c is =
    let class = c.args.class in
    let view : View = c.args.hand.now.seat.me.0 in
    let slabs = c.args.held.now.shared in
    let none = none_dead view c.requires.arena.lawful slabs c.requires.held class (ap (λ (s : Setup). is_class s.table class) c.requires.arena.setup ∙ c.requires.class) c.pop.new.hand.seat.me.0 c.recover.new.hand.seat.me.0 c.pop-2.new.hand.seat.me.0 c.pop.new.held.shared c.recover.new.held.shared c.pop-2.new.held.shared
    (c.pop.ensures.none (c.in-Ok-None.is ∙ ap (λ o. Ok o) c.in-Ok-None.field-0-is)) c.recover.ensures.recovers c.recover.ensures.view (c.pop-2.ensures.none (c.in-Ok-None-pop.is ∙ ap (λ o. Ok o) c.in-Ok-None-pop.field-0-is)) in
    none_by_sweep class view c.pop-2.new.hand.seat.me.0 c.sweep.new.hand.seat.me.0 c.pop-3.new.hand.seat.me.0 slabs c.pop-2.new.held.shared c.sweep.new.held.shared c.pop-3.new.held.shared
    none c.sweep.ensures.swept c.sweep.ensures.view c.sweep.ensures.alive (c.pop-3.ensures.none is)

pub returns-clause-worn : goal.returns-clause-worn
returns-clause-worn c =
    let class = c.args.class in
    let view : View = c.args.hand.now.seat.me.0 in
    let slabs = c.args.held.now.shared in
    let none = none_dead view c.requires.arena.lawful slabs c.requires.held class (ap (λ (s : Setup). is_class s.table class) c.requires.arena.setup ∙ c.requires.class) c.pop.new.hand.seat.me.0 c.recover.new.hand.seat.me.0 c.pop-2.new.hand.seat.me.0 c.pop.new.held.shared c.recover.new.held.shared c.pop-2.new.held.shared
    (c.pop.ensures.none (c.in-Ok-None.is ∙ ap (λ o. Ok o) c.in-Ok-None.field-0-is)) c.recover.ensures.recovers c.recover.ensures.view (c.pop-2.ensures.none (c.in-Ok-None-pop.is ∙ ap (λ o. Ok o) c.in-Ok-None-pop.field-0-is)) in
    if_error c.pop-3.result
    (λ worn. worn_by_sweep class view c.pop-2.new.hand.seat.me.0 c.sweep.new.hand.seat.me.0 c.pop-3.new.hand.seat.me.0 slabs c.pop-2.new.held.shared c.sweep.new.held.shared c.pop-3.new.held.shared
    none c.sweep.ensures.swept c.sweep.ensures.view worn.0 worn.1)
    c.pop-3.ensures.worn

pub returns-clause-own : goal.returns-clause-own
returns-clause-own c =
    let class = c.args.class in
    let swept : View = c.sweep.new.hand.seat.me.0 in
    let now : View = c.pop-3.new.hand.seat.me.0 in
    let between = c.sweep.new.held.shared in
    let left = c.pop-3.new.held.shared in
    if_some (λ (fresh : Fresh). PopsFirst swept between class fresh.chunk now × (left ≡ after_pop between class)) (λ (fresh : Fresh). IsOwnItem now fresh.chunk) c.pop-3.result
    (λ fresh popped. popped_own swept now between class fresh.chunk c.sweep.ensures.arena.lawful c.sweep.ensures.held (ap (λ (s : Setup). is_class s.table class) c.sweep.ensures.arena.setup ∙ c.requires.class) popped.0) c.pop-3.ensures.popped

pub returns-clause-uncut : goal.returns-clause-uncut
returns-clause-uncut c =
    let class = c.args.class in
    let view : View = c.args.hand.now.seat.me.0 in
    let slabs = c.args.held.now.shared in
    let swept : View = c.sweep.new.hand.seat.me.0 in
    let between = c.sweep.new.held.shared in
    let before = c.pop-2.new.held.shared in
    let none = none_dead view c.requires.arena.lawful slabs c.requires.held class (ap (λ (s : Setup). is_class s.table class) c.requires.arena.setup ∙ c.requires.class) c.pop.new.hand.seat.me.0 c.recover.new.hand.seat.me.0 c.pop-2.new.hand.seat.me.0 c.pop.new.held.shared c.recover.new.held.shared c.pop-2.new.held.shared
    (c.pop.ensures.none (c.in-Ok-None.is ∙ ap (λ o. Ok o) c.in-Ok-None.field-0-is)) c.recover.ensures.recovers c.recover.ensures.view (c.pop-2.ensures.none (c.in-Ok-None-pop.is ∙ ap (λ o. Ok o) c.in-Ok-None-pop.field-0-is)) in
    pop_uncut c.pop-3.result (λ (fresh : Fresh). PopsFirst swept between class fresh.chunk c.pop-3.new.hand.seat.me.0) _ between c.pop-3.new.held.shared class (λ is. (c.pop-3.ensures.none is).1) c.pop-3.ensures.popped c.pop-3.ensures.worn
    ∙ (recovers_uncut (class_at before class).order c.pop-2.new.hand.seat.me.0 before swept between c.sweep.ensures.swept.recovers
    ∙ ap (λ (s : SlabState). s.uncut) none.same)
