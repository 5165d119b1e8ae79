use Rattle.std.proofs.Common.{◌∙◌, inr, ap, subst, sym}
use Rattle.mc_pages.specs.ClassState.{first_free}
use Rattle.mc_pages.specs.SlabState.{HasClass, SlabState, class_at}
use Rattle.mc_core.specs.model.State.{is_class}
use Rattle.mc_words.specs.chunk.Sweeps.{Recovers}
use Rattle.mc_words.specs.hand.View.{Setup, View}
use Rattle.mc_words.proofs.Chunks.SweepViews.{class_here}
use Rattle.mc_items.proofs.Rooms.{none_before, none_from}
use Rattle.mc_items.proofs.Swept.{recovers_uncut}
use Rattle.mc_items.proofs.making_room.find_free.Goals as goal

pub first_free-requires : goal.first_free-requires
first_free-requires c =
    let own = c.recover_own in
    let is = ap (λ (s : Setup). is_class s.table c.args.class) own.ensures.arena.setup ∙ c.requires.class in
    subst (λ (s : SlabState). HasClass s c.args.class) (sym c.slabs.ensures.slabs) (class_here own.new.hand.seat.me.0 own.ensures.arena.lawful own.new.held.shared own.ensures.held c.args.class is)

pub first_free-requires-2 : goal.first_free-requires-2
first_free-requires-2 c =
    let own = c.recover_own in
    let is = ap (λ (s : Setup). is_class s.table c.args.class) own.ensures.arena.setup ∙ c.requires.class in
    subst (λ (s : SlabState). HasClass s c.args.class) (sym c.slabs-2.ensures.slabs) (class_here own.new.hand.seat.me.0 own.ensures.arena.lawful own.new.held.shared own.ensures.held c.args.class is)

pub first_free-requires-3 : goal.first_free-requires-3
first_free-requires-3 c =
    let is = ap (λ (s : Setup). is_class s.table c.args.class) c.recover.ensures.arena.setup ∙ c.requires.class in
    subst (λ (s : SlabState). HasClass s c.args.class) (sym c.slabs-3.ensures.slabs) (class_here c.recover.new.hand.seat.me.0 c.recover.ensures.arena.lawful c.recover.new.held.shared c.recover.ensures.held c.args.class is)

pub returns-then-recover_own-clause-puts_back : goal.returns-then-recover_own-clause-puts_back
returns-then-recover_own-clause-puts_back c =
    let view = c.args.hand.now.seat.me.0 in
    let slabs = c.args.slabs.now.shared in
    let class = c.args.class in
    let is = ap (λ (s : Setup). is_class s.table class) c.requires.arena.setup ∙ c.requires.class in
    let here = class_here view c.requires.arena.lawful slabs c.requires.slabs class is in
    inr (
      none_before class view slabs c.recover_own.new.hand.seat.me.0 c.recover_own.new.held.shared here (c.recover_own.ensures.one c.if-recover_own.true),
      c.recover_own.ensures.recovers c.if-recover_own.true,
    )

pub returns-clause-puts_back : goal.returns-clause-puts_back
returns-clause-puts_back c =
    let class = c.args.class in
    let same = c.recover_own.ensures.none c.if-recover_own.false in
    let now = c.recover.new in
    let found = c.first_free-2.ensures.chunk ∙ ap (λ (s : SlabState). first_free (class_at s class)) (c.slabs-2.ensures.slabs ∙ same.1) in
    let empty = sym found ∙ none_from c.first_free-2.result (sym c.is_some-2.ensures ∙ c.if-is_some.false) in
    inr (
      (λ none. empty),
      subst (λ (p : View × SlabState). Recovers (class_at p.1 class).order p.0 p.1 now.hand.seat.me.0 now.held.shared) (λ k. (same.0 k, same.1 k)) c.recover.ensures.recovers,
    )

pub returns-clause-uncut : goal.returns-clause-uncut
returns-clause-uncut c =
    let same = c.recover_own.ensures.none c.if-recover_own.false in
    recovers_uncut (class_at c.recover_own.new.held.shared c.args.class).order c.recover_own.new.hand.seat.me.0 c.recover_own.new.held.shared c.recover.new.hand.seat.me.0 c.recover.new.held.shared c.recover.ensures.recovers
    ∙ ap (λ (s : SlabState). s.uncut) same.1
