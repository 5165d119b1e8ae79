use Rattle.std.proofs.Common.{◌≡◌, ℕ, ◌<◌, refl, ap, sym, subst, ◌∙◌, length}
use Rattle.mc_classes.specs.Classes.{arena_pages_of}
use Rattle.mc_pages.specs.declared.ids.Moving.{Moving}
use Rattle.mc_pages.specs.Moves.{CanFinish}
use Rattle.mc_pages.specs.SlabState.{SlabState}
use Rattle.mc_core.specs.declared.event.Change.TheVariants.{FinishMove}
use Rattle.mc_words.specs.hand.View.{View, Setup}
use Rattle.mc_words.proofs.Pages.MoveChanges.{can_finish_from, may_finish, move_near, of_table_here}
use Rattle.mc_words.proofs.Locks.ChangeViews.{changed_slabs}
use Rattle.mc_words.proofs.Locks.Locked.{noted_same}
use Rattle.mc_words.proofs.Hands.Tallies.{tallied_same}
use Rattle.mc_words.proofs.arena.Arena.finish_move.Goals as goal
use Rattle.mc_core.specs.declared.event.Step.TheVariants as core
use Rattle.mc_words.specs.rule.Happens.{AllowsStep}
use Rattle.mc_words.specs.rule.Layout.{page_word}

pub page_word-word-requires : goal.page_word-word-requires
page_word-word-requires c =
    let runs = sym c.moving.ensures.moving ∙ c.in-Some.is in
    let in_range = move_near c.args.hand.now.seat.me.0 c.requires.arena.lawful c.args.held.now.shared c.in-Some.moving c.requires.held runs in
    record { in_range = subst (λ (s : Setup). c.in-Some.moving.page < arena_pages_of s.table) c.requires.arena.setup in_range.0 }

pub finish_move-requires-clause-cleared : goal.finish_move-requires-clause-cleared
finish_move-requires-clause-cleared c = subst (λ (x : SlabState). (move : Moving) × CanFinish x move) (sym c.slabs_mut.ensures.slabs) c.requires.cleared

pub finish_move-requires-clause-whole : goal.finish_move-requires-clause-whole
finish_move-requires-clause-whole c = ap (λ (x : SlabState). x.uncut) c.slabs_mut.ensures.slabs ∙ c.requires.whole

pub tell_page-requires : goal.tell_page-requires
tell_page-requires c =
    let view = c.args.hand.now.seat.me.0 in
    let slabs = c.args.held.now.shared in
    let move = c.in-Some.moving in
    let runs = sym c.moving.ensures.moving ∙ c.in-Some.is in
    let in_range = move_near view c.requires.arena.lawful slabs move c.requires.held runs in
    let place : c.page_word-word.result ≡ page_word view.setup move.page = c.page_word-word.ensures.word ∙ ap (λ (s : Setup). page_word s move.page) (sym c.requires.arena.setup) in
    (refl, (refl, (c.page_word-word.ensures.in_range, (c.requires.arena, subst (λ (n : ℕ). AllowsStep view FinishMove core.MissSlabs n (λ found. move.dst)) (sym place) (may_finish view slabs move c.requires.held runs (can_finish_from slabs c.requires.cleared.0 (of_table_here view c.requires.arena.lawful slabs c.requires.held).accounted c.requires.whole c.requires.cleared.1) in_range.0 in_range.1)))))

pub invariant_of-hand : goal.invariant_of-hand
invariant_of-hand c =
    let a = c.args.hand.now in
    let is = changed_slabs a.seat.me.0 c.tell_page.new.seat.me.0 c.args.held.now.shared (FinishMove) a.number (λ s hand. refl) c.requires.held a.noted.0 c.tell_page.ensures.happens in
    record { noted = noted_same a.seat.me c.tell_page.new.seat.me a.number a.chunks a.chunks a.locks a.noted c.tell_page.ensures.out c.tell_page.ensures.hand (a.noted.2 ∙ ap (λ (v : View). length v.row.holdings) (sym is)); tallied = tallied_same a.seat.me c.tell_page.new.seat.me a.stamps a.fresh a.tallied (ap (λ (v : View). v.row.ids) is) (ap (λ (v : View). v.row.holdings) is) }

pub returns-clause-view : goal.returns-clause-view
returns-clause-view c = changed_slabs c.args.hand.now.seat.me.0 c.tell_page.new.seat.me.0 c.args.held.now.shared (FinishMove) c.args.hand.now.number (λ s hand. refl) c.requires.held c.args.hand.now.noted.0 c.tell_page.ensures.happens
