use Rattle.std.proofs.Common.{◌≡◌, ◌<◌, ℕ, true, Some, refl, ap, sym, subst, ◌∙◌, length}
use Rattle.mc_classes.specs.Classes.{arena_pages_of}
use Rattle.mc_pages.specs.SlabState.{SlabState, HasClass}
use Rattle.mc_pages.specs.Changes.{after_grow, next_page}
use Rattle.mc_core.specs.run.Silent.{after_growth}
use Rattle.mc_core.specs.model.State.{is_class}
use Rattle.mc_core.specs.declared.event.Change.TheVariants.{Grow}
use Rattle.mc_core.specs.declared.event.Step.TheVariants as core
use Rattle.mc_words.specs.hand.View.{View, Setup}
use Rattle.mc_words.specs.rule.Layout.{page_word}
use Rattle.mc_words.specs.rule.Happens.{AllowsStep}
use Rattle.mc_words.proofs.Chunks.Judging.{class_of_slabs}
use Rattle.mc_words.proofs.Pages.PageWords.{may_grow, next_near, can_grow_here}
use Rattle.mc_words.proofs.Locks.ChangeViews.{changed_slabs}
use Rattle.mc_words.proofs.Locks.Locked.{noted_same}
use Rattle.mc_words.proofs.Hands.Tallies.{tallied_same}
use Rattle.mc_words.proofs.arena.Arena.grow.Goals as goal

pub grow-requires : goal.grow-requires
grow-requires c =
    let slabs = c.args.held.now.shared in
    let class = c.args.class in
    let view = c.args.hand.now.seat.me.0 in
    let arena = c.requires.arena in
    let class_is = subst (λ (s : Setup). is_class s.table class ≡ true) (sym arena.setup) c.requires.class in
    record {
      class = subst (λ (x : SlabState). HasClass x class) (sym c.slabs_mut.ensures.slabs) (class_of_slabs view arena.lawful slabs class c.requires.held class_is);
      whole = ap (λ (x : SlabState). x.uncut) c.slabs_mut.ensures.slabs ∙ c.requires.whole;
    }

pub page_word-word-requires : goal.page_word-word-requires
page_word-word-requires c =
    let slabs = c.args.held.now.shared in
    let class = c.args.class in
    let view = c.args.hand.now.seat.me.0 in
    let arena = c.requires.arena in
    let class_is = subst (λ (s : Setup). is_class s.table class ≡ true) (sym arena.setup) c.requires.class in
    let page = c.in_ok-page.page in
    let next : next_page slabs class ≡ Some page = ap (λ (x : SlabState). next_page x class) (sym c.slabs_mut.ensures.slabs) ∙ c.in_ok-page.ensures.given.0 in
    let in_range = next_near view arena.lawful slabs class page c.requires.held next in
    record { in_range = subst (λ (s : Setup). page < arena_pages_of s.table) arena.setup in_range.0 }

pub tell_page-requires : goal.tell_page-requires
tell_page-requires c =
    let slabs = c.args.held.now.shared in
    let class = c.args.class in
    let view = c.args.hand.now.seat.me.0 in
    let arena = c.requires.arena in
    let class_is = subst (λ (s : Setup). is_class s.table class ≡ true) (sym arena.setup) c.requires.class in
    let page = c.in_ok-page.page in
    let next : next_page slabs class ≡ Some page = ap (λ (x : SlabState). next_page x class) (sym c.slabs_mut.ensures.slabs) ∙ c.in_ok-page.ensures.given.0 in
    let in_range = next_near view arena.lawful slabs class page c.requires.held next in
    let place : c.page_word-word.result ≡ page_word view.setup page = c.page_word-word.ensures.word ∙ ap (λ (s : Setup). page_word s page) (sym arena.setup) in
    let can = can_grow_here view.setup.table slabs class page class_is c.requires.whole next in
    (refl, (refl, (c.page_word-word.ensures.in_range, (arena, subst (λ (n : ℕ). AllowsStep view (Grow class) core.MissSlabs n (λ found. class)) (sym place) (may_grow view slabs class page c.requires.held can next in_range.0 in_range.1)))))

pub invariant_of-hand : goal.invariant_of-hand
invariant_of-hand c =
    let a = c.args.hand.now in
    let is = changed_slabs a.seat.me.0 c.tell_page.new.seat.me.0 c.args.held.now.shared (Grow c.args.class) a.number (λ s hand. refl) c.requires.held a.noted.0 c.tell_page.ensures.happens in
    record { noted = noted_same a.seat.me c.tell_page.new.seat.me a.number a.chunks a.chunks a.locks a.noted c.tell_page.ensures.out c.tell_page.ensures.hand (a.noted.2 ∙ ap (λ (v : View). length v.row.holdings) (sym is)); tallied = tallied_same a.seat.me c.tell_page.new.seat.me a.stamps a.fresh a.tallied (ap (λ (v : View). v.row.ids) is) (ap (λ (v : View). v.row.holdings) is) }

pub returns-clause-view : goal.returns-clause-view
returns-clause-view c = changed_slabs c.args.hand.now.seat.me.0 c.tell_page.new.seat.me.0 c.args.held.now.shared (Grow c.args.class) c.args.hand.now.number (λ s hand. refl) c.requires.held c.args.hand.now.noted.0 c.tell_page.ensures.happens

pub returns-clause-held : goal.returns-clause-held
returns-clause-held c =
    let slabs : SlabState = c.args.held.now.shared in
    let class = c.args.class in
    let next : next_page slabs class ≡ Some c.in_ok-page.page = ap (λ (x : SlabState). next_page x class) (sym c.slabs_mut.ensures.slabs) ∙ c.in_ok-page.ensures.given.0 in
    let is = changed_slabs c.args.hand.now.seat.me.0 c.tell_page.new.seat.me.0 slabs (Grow class) c.args.hand.now.number (λ s hand. refl) c.requires.held c.args.hand.now.noted.0 c.tell_page.ensures.happens in
    ap (λ (v : View). v.slabs) is ∙ ap Some (ap (after_growth slabs class) next ∙ (ap (λ (x : SlabState). after_grow x class c.in_ok-page.page) (sym c.slabs_mut.ensures.slabs) ∙ sym c.in_ok-page.ensures.given.1))
