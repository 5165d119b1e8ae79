use Rattle.std.proofs.Common.{◌≤◌, ◌∙◌, Err, is_some, ap, sym, subst}
use Rattle.mc_pages.specs.ClassState.{first_free}
use Rattle.mc_pages.specs.Changes.{after_grow, next_page}
use Rattle.mc_pages.specs.SlabState.{SlabState, HasClass, class_at, class_of_chunk}
use Rattle.mc_pages.proofs.Cuts.{chunk_at}
use Rattle.mc_core.specs.model.State.{is_class}
use Rattle.mc_words.specs.hand.View.{Setup, View}
use Rattle.mc_words.proofs.Chunks.Judging.{class_of_slabs}
use Rattle.mc_items.proofs.Growing.{accounted_here, class_grown, free_after_cuts, given_own, grown_uncut, page_left, per_page_given, some_here}
use Rattle.mc_items.proofs.supplying.grow_for.Goals as goal

pub per_page-per_page-requires : goal.per_page-per_page-requires
per_page-per_page-requires c =
    let slabs = c.args.held.now.shared in
    let is = ap (λ (s : Setup). is_class s.table c.args.class) c.requires.arena.setup ∙ c.requires.class in
    subst (λ (s : SlabState). HasClass s c.args.class) (sym c.slabs.ensures.slabs) (class_of_slabs c.args.hand.now.seat.me.0 c.requires.arena.lawful slabs c.args.class c.requires.held is)

pub cut_page-requires-clause-first : goal.cut_page-requires-clause-first
cut_page-requires-clause-first c =
    ap (λ (s : SlabState). s.uncut) c.in-Ok.ensures.given.1 ∙ grown_uncut c.args.held.now.shared c.args.class c.in-Ok.page

pub cut_page-requires-clause-chunks : goal.cut_page-requires-clause-chunks
cut_page-requires-clause-chunks c =
    let view : View = c.args.hand.now.seat.me.0 in
    let slabs = c.args.held.now.shared in
    let class = c.args.class in
    let was = c.requires.arena.lawful in
    let is = class_of_slabs view was slabs class c.requires.held (ap (λ (s : Setup). is_class s.table class) c.requires.arena.setup ∙ c.requires.class) in
    ap (λ (s : SlabState). (class_of_chunk s (chunk_at c.in-Ok.page 0)).per_page) c.in-Ok.ensures.given.1
    ∙ (per_page_given slabs class c.in-Ok.page (accounted_here view was slabs c.requires.held) is c.in-Ok.ensures.given.0
    ∙ sym (c.per_page-per_page.ensures.chunks ∙ ap (λ (s : SlabState). (class_at s class).per_page) c.slabs.ensures.slabs))

pub cut_page-requires-clause-some : goal.cut_page-requires-clause-some
cut_page-requires-clause-some c =
    let view : View = c.args.hand.now.seat.me.0 in
    let slabs = c.args.held.now.shared in
    let class = c.args.class in
    let was = c.requires.arena.lawful in
    let is = class_of_slabs view was slabs class c.requires.held (ap (λ (s : Setup). is_class s.table class) c.requires.arena.setup ∙ c.requires.class) in
    subst (λ n. 1 ≤ n) (sym (c.per_page-per_page.ensures.chunks ∙ ap (λ (s : SlabState). (class_at s class).per_page) c.slabs.ensures.slabs)) (some_here view was slabs c.requires.held class is)

pub returns-in-Ok-clause-free : goal.returns-in-Ok-clause-free
returns-in-Ok-clause-free c _ =
    let view : View = c.args.hand.now.seat.me.0 in
    let slabs = c.args.held.now.shared in
    let class = c.args.class in
    let page = c.in-Ok.page in
    let was = c.requires.arena.lawful in
    let is = class_of_slabs view was slabs class c.requires.held (ap (λ (s : Setup). is_class s.table class) c.requires.arena.setup ∙ c.requires.class) in
    let grown = after_grow slabs class page in
    let count = c.per_page-per_page.result in
    let some = subst (λ n. 1 ≤ n) (sym (c.per_page-per_page.ensures.chunks ∙ ap (λ (s : SlabState). (class_at s class).per_page) c.slabs.ensures.slabs)) (some_here view was slabs c.requires.held class is) in
    ap (λ (s : SlabState). is_some (first_free (class_at s class)))
    (c.cut_page.ensures.shared ∙ ap (λ (s : SlabState). Rattle.std.specs.Prelude.fold Rattle.mc_pages.specs.Changes.after_cut s (Rattle.mc_pages.specs.Accounted.first_chunks page count)) c.in-Ok.ensures.given.1)
    ∙ free_after_cuts grown class page count (class_grown slabs class page is) (given_own slabs class page (accounted_here view was slabs c.requires.held) c.in-Ok.ensures.given.0) some

pub returns-in-Err-NoMemory-clause-page : goal.returns-in-Err-NoMemory-clause-page
returns-in-Err-NoMemory-clause-page c =
    let error = c.in-Err-NoMemory in
    page_left c.grow.result error.refused (error.is ∙ ap (λ e. Err e) error.field-0-is) (next_page c.args.held.now.shared c.args.class) c.grow.ensures.no_room
