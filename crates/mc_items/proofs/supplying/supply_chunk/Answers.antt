use Rattle.std.proofs.Common.{◌≡◌, ◌≤◌, ℕ, length, List, Option, Some, Ok, IfSome, ap, sym, subst, ◌∙◌, inr}
use Rattle.mc_classes.specs.Limits.{most_refs}
use Rattle.mc_pages.specs.Changes.{after_pop}
use Rattle.mc_pages.specs.ClassState.{first_free}
use Rattle.mc_pages.specs.SlabState.{SlabState, class_at}
use Rattle.mc_core.specs.declared.holding.Holding.{Holding}
use Rattle.mc_core.specs.run.Chunks.{most_issue}
use Rattle.mc_core.specs.model.State.{is_class, room_in}
use Rattle.mc_words.specs.item.Fresh.{IsFreshIn, IsFreshOf}
use Rattle.mc_words.specs.page.Owner.{PopsFirst, SeesOther}
use Rattle.mc_words.specs.hand.View.{Setup, View}
use Rattle.mc_words.specs.declared.hand.held.Fresh.{Fresh}
use Rattle.mc_items.specs.declared.evicting.Supply.{Supply}
use Rattle.mc_items.specs.Sources.{AsksMove, ComesToFree, LacksMore, MakesFree, MakesNone}
use Rattle.mc_items.specs.Supplying.{FindsNoFree}
use Rattle.mc_words.proofs.Hands.HandNumbers.{number_stays}
use Rattle.mc_items.proofs.Made.{comes_keep, comes_so, makes_keep, none_changed}
use Rattle.mc_items.proofs.Popped.{own_still, popped_own}
use Rattle.mc_items.proofs.supplying.supply_chunk.Goals as goal

pub returns-in-Ok-None-make_free-clause-none : goal.returns-in-Ok-None-make_free-clause-none
returns-in-Ok-None-make_free-clause-none c =
    let view : View = c.args.hand.now.seat.me.0 in
    let slabs = c.args.held.now.shared in
    let class = c.args.class in
    let none = c.pop_or_sweep.ensures.none (c.in-Ok-None.is ∙ ap (λ o. Ok o) c.in-Ok-None.field-0-is) in
    let swept : View = c.pop_or_sweep.new.hand.seat.me.0 in
    let between = c.pop_or_sweep.new.held.shared in
    let is = ap (λ (s : Setup). is_class s.table class) c.requires.arena.setup ∙ c.requires.class in
    let same = none_changed view c.requires.arena.lawful slabs c.requires.held class is swept between none.0 in
    let number = number_stays c.args.hand.now c.pop_or_sweep.new.hand (ap (λ (v : View). v.row.ids) none.1) in
    let makes = c.make_free.ensures.none (c.in-Ok-None-make_free.is ∙ ap (λ o. Ok o) c.in-Ok-None-make_free.field-0-is) in record {
      swept = swept;
      finds = subst (λ (s : SlabState). FindsNoFree class view slabs swept s) same none.0;
      makes = subst (λ (p : ℕ × SlabState). MakesNone p.0 class swept p.1 c.make_free.new.hand.seat.me.0 c.make_free.new.held.shared) (λ k. (number k, same k)) makes;
    }

pub returns-in-Err-make_free-clause-none : goal.returns-in-Err-make_free-clause-none
returns-in-Err-make_free-clause-none c =
    let none = c.pop_or_sweep.ensures.none (c.in-Ok-None.is ∙ ap (λ o. Ok o) c.in-Ok-None.field-0-is) in
    let number = number_stays c.args.hand.now c.pop_or_sweep.new.hand (ap (λ (v : View). v.row.ids) none.1) in
    let swept : View = c.pop_or_sweep.new.hand.seat.me.0 in
    let between = c.pop_or_sweep.new.held.shared in record {
      swept = swept;
      between = between;
      finds = none.0;
      lacks = subst (λ n. LacksMore n c.args.class swept between c.make_free.new.hand.seat.me.0 c.make_free.new.held.shared) number c.in-Err-make_free.ensures.no_memory;
    }

-- how the class came to a free chunk
made_here : (number class : ℕ) (view : View) (slabs : SlabState) (now : View) (left : SlabState) (supply : Supply) (made : Option Supply) → made ≡ Some supply → IfSome made (λ supply. MakesFree number class supply view slabs now left) → MakesFree number class supply view slabs now left
made_here number class view slabs now left supply made is makes = subst (λ (o : Option Supply). IfSome o (λ supply. MakesFree number class supply view slabs now left)) is makes

pub pop-requires-clause-room : goal.pop-requires-clause-room
pop-requires-clause-room c =
    let none = c.pop_or_sweep.ensures.none (c.in-Ok-None.is ∙ ap (λ o. Ok o) c.in-Ok-None.field-0-is) in
    let swept : View = c.pop_or_sweep.new.hand.seat.me.0 in
    let between = c.pop_or_sweep.new.held.shared in
    let made : View = c.make_free.new.hand.seat.me.0 in
    let with = c.make_free.new.held.shared in
    let makes = made_here c.pop_or_sweep.new.hand.number c.args.class swept between made with c.in-Ok-Some-make_free.supply _ c.in-Ok-Some-make_free.field-0-is c.in-Ok-Some-make_free.ensures.makes in
    let kept = (makes_keep c.pop_or_sweep.new.hand.number c.args.class c.in-Ok-Some-make_free.supply swept between made with makes).holdings in
    subst (λ (hs : List Holding). length hs ≤ most_refs) (sym (kept ∙ ap (λ (v : View). v.row.holdings) none.1)) c.requires.within_limit

-- the chunk was handed out, and a move asked for
popped_here : (c : goal.After-ask_move) → PopsFirst c.make_free.new.hand.seat.me.0 c.make_free.new.held.shared c.args.class c.in-Ok-Some-pop.fresh.chunk c.pop.new.hand.seat.me.0 × (c.pop.new.held.shared ≡ after_pop c.make_free.new.held.shared c.args.class)
popped_here c = subst (λ (o : Option Fresh). IfSome o (λ fresh. PopsFirst c.make_free.new.hand.seat.me.0 c.make_free.new.held.shared c.args.class fresh.chunk c.pop.new.hand.seat.me.0 × (c.pop.new.held.shared ≡ after_pop c.make_free.new.held.shared c.args.class))) c.in-Ok-Some-pop.field-0-is c.in-Ok-Some-pop.ensures.popped

pub returns-in-Ok-Some-pop-clause-supplies : goal.returns-in-Ok-Some-pop-clause-supplies
returns-in-Ok-Some-pop-clause-supplies c =
    let hand = c.args.hand.now in
    let class = c.args.class in
    let supply = c.in-Ok-Some-make_free.supply in
    let swept : View = c.pop_or_sweep.new.hand.seat.me.0 in
    let between = c.pop_or_sweep.new.held.shared in
    let made : View = c.make_free.new.hand.seat.me.0 in
    let with = c.make_free.new.held.shared in
    let popped : View = c.pop.new.hand.seat.me.0 in
    let pops = popped_here c in
    let none = c.pop_or_sweep.ensures.none (c.in-Ok-None.is ∙ ap (λ o. Ok o) c.in-Ok-None.field-0-is) in
    let makes = made_here c.pop_or_sweep.new.hand.number class swept between made with supply _ c.in-Ok-Some-make_free.field-0-is c.in-Ok-Some-make_free.ensures.makes in
    let comes = comes_so hand c.pop_or_sweep.new.hand class supply c.args.held.now.shared between made with none.0 none.1 makes in
    let kept = comes_keep hand.number class supply hand.seat.me.0 c.args.held.now.shared made with comes in
    let number = number_stays hand c.pop.new.hand (ap (λ (v : View). v.row.ids) pops.0.is ∙ kept.ids) in
    inr (record {
      supply = supply;
      made = made;
      with = with;
      comes = comes;
      popped = popped;
      pops = pops.0;
      asks = subst (λ (p : ℕ × SlabState). AsksMove p.0 class supply popped p.1 c.ask_move.new.hand.seat.me.0 c.ask_move.new.held.shared) (λ k. (number k, pops.1 k)) c.ask_move.ensures.asks;
    })

pub returns-in-Ok-Some-pop-clause-own : goal.returns-in-Ok-Some-pop-clause-own
returns-in-Ok-Some-pop-clause-own c =
    let made : View = c.make_free.new.hand.seat.me.0 in
    let own = popped_own made c.pop.new.hand.seat.me.0 c.make_free.new.held.shared c.args.class c.in-Ok-Some-pop.fresh.chunk c.make_free.ensures.arena.lawful c.make_free.ensures.held (ap (λ (s : Setup). is_class s.table c.args.class) c.make_free.ensures.arena.setup ∙ c.requires.class) (popped_here c).0 in
    own_still c.pop.new.hand.seat.me.0 c.ask_move.new.hand.seat.me.0 c.in-Ok-Some-pop.fresh.chunk c.ask_move.ensures.holdings own

pub returns-in-Ok-Some-pop-clause-fresh : goal.returns-in-Ok-Some-pop-clause-fresh
returns-in-Ok-Some-pop-clause-fresh c =
    let fresh = subst (λ (o : Option Fresh). IfSome o (λ fresh. (fresh.room ≡ room_in c.args.arena.now.table.shared.key.table c.args.class) × IsFreshOf c.pop.new.hand.seat.me.0 fresh.chunk fresh.room)) c.in-Ok-Some-pop.field-0-is c.in-Ok-Some-pop.ensures.fresh in
    (fresh.0, subst (λ (hs : List Holding). IsFreshIn hs c.in-Ok-Some-pop.fresh.chunk c.in-Ok-Some-pop.fresh.room) (sym c.ask_move.ensures.holdings) fresh.1)

pub returns-in-Ok-Some-pop-clause-whole : goal.returns-in-Ok-Some-pop-clause-whole
returns-in-Ok-Some-pop-clause-whole c = c.ask_move.ensures.uncut ∙ (ap (λ (s : SlabState). s.uncut) (popped_here c).1 ∙ c.make_free.ensures.whole)

pub returns-in-Err-pop-clause-none : goal.returns-in-Err-pop-clause-none
returns-in-Err-pop-clause-none c =
    let none = c.pop_or_sweep.ensures.none (c.in-Ok-None.is ∙ ap (λ o. Ok o) c.in-Ok-None.field-0-is) in
    let worn = c.in-Err-pop.ensures.worn in
    let supply = c.in-Ok-Some-make_free.supply in
    let made : View = c.make_free.new.hand.seat.me.0 in
    let makes = made_here c.pop_or_sweep.new.hand.number c.args.class c.pop_or_sweep.new.hand.seat.me.0 c.pop_or_sweep.new.held.shared made c.make_free.new.held.shared supply _ c.in-Ok-Some-make_free.field-0-is c.in-Ok-Some-make_free.ensures.makes in
    inr (record {
      supply = supply;
      made = made;
      comes = subst (λ (s : SlabState). ComesToFree c.args.hand.now.number c.args.class supply c.args.hand.now.seat.me.0 c.args.held.now.shared made s) (sym worn.1)
          (comes_so c.args.hand.now c.pop_or_sweep.new.hand c.args.class supply c.args.held.now.shared c.pop_or_sweep.new.held.shared made c.make_free.new.held.shared none.0 none.1 makes);
      worn = subst (λ (s : SlabState). SeesOther made (first_free (class_at s c.args.class)) (λ head. most_issue ≤ head.issue) c.pop.new.hand.seat.me.0) (sym worn.1) worn.0;
    })

pub returns-in-Err-pop-clause-whole : goal.returns-in-Err-pop-clause-whole
returns-in-Err-pop-clause-whole c = ap (λ (s : SlabState). s.uncut) c.in-Err-pop.ensures.worn.1 ∙ c.make_free.ensures.whole
