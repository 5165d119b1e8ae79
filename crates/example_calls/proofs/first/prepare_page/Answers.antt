use Rattle.std.proofs.Common.{◌≤◌, ◌∙◌, ap, sym, subst, refl}
use Rattle.mc_pages.specs.Accounted.{first_chunks}
use Rattle.mc_pages.specs.Changes.{after_cut}
use Rattle.mc_pages.specs.ClassState.{first_free}
use Rattle.mc_pages.specs.SlabState.{SlabState, HasClass, class_at, class_of_chunk}
use Rattle.mc_pages.proofs.Cuts.{chunk_at}
use Rattle.mc_core.specs.model.State.{is_class}
use Rattle.mc_core.specs.declared.event.Change.TheVariants.{Grow}
use Rattle.mc_core.specs.declared.event.Step.TheVariants.{MissSlabs}
use Rattle.mc_words.specs.hand.View.{Setup, View, made}
use Rattle.mc_words.proofs.Chunks.Judging.{class_of_slabs}
use Rattle.example_calls.specs.Preparing.{has_prepared}
use Rattle.example_calls.proofs.Alone.{one_more}
use Rattle.example_calls.proofs.Granted.{accounted_here, cuts_prepare, free_granted, grown_uncut, per_page_given, some_here}
use Rattle.example_calls.proofs.first.prepare_page.Goals as goal
use Rattle.std.proofs.Common.{[], ◌∷◌, is_some}
use Rattle.std.specs.Prelude.{fold}

pub cut_page-requires-clause-first : goal.cut_page-requires-clause-first
cut_page-requires-clause-first c =
    ap (λ (s : SlabState). s.uncut) c.in-Ok.ensures.given.1 ∙ grown_uncut c.args.held.now.shared c.args.class c.in-Ok.page

pub cut_page-requires-clause-chunks : goal.cut_page-requires-clause-chunks
cut_page-requires-clause-chunks c =
    let view : View = c.args.hand.now.seat.me.0 in
    let slabs = c.args.held.now.shared in
    let class = c.args.class in
    let was = c.requires.arena.lawful in
    let is = class_of_slabs view was slabs class c.requires.held (ap (λ (s : Setup). is_class s.table class) c.requires.arena.setup ∙ c.requires.class) in
    ap (λ (s : SlabState). (class_of_chunk s (chunk_at c.in-Ok.page 0)).per_page) c.in-Ok.ensures.given.1
    ∙ (per_page_given slabs class c.in-Ok.page (accounted_here view was slabs c.requires.held) is c.in-Ok.ensures.given.0
    ∙ sym (c.per_page-per_page.ensures.chunks ∙ ap (λ (s : SlabState). (class_at s class).per_page) c.slabs.ensures.slabs))

pub cut_page-requires-clause-some : goal.cut_page-requires-clause-some
cut_page-requires-clause-some c =
    let view : View = c.args.hand.now.seat.me.0 in
    let slabs = c.args.held.now.shared in
    let class = c.args.class in
    let was = c.requires.arena.lawful in
    let is = class_of_slabs view was slabs class c.requires.held (ap (λ (s : Setup). is_class s.table class) c.requires.arena.setup ∙ c.requires.class) in
    subst (λ n. 1 ≤ n) (sym (c.per_page-per_page.ensures.chunks ∙ ap (λ (s : SlabState). (class_at s class).per_page) c.slabs.ensures.slabs)) (some_here view was slabs c.requires.held class is)

pub returns-in-Ok-clause-after : goal.returns-in-Ok-clause-after
returns-in-Ok-clause-after c =
    let view : View = c.args.hand.now.seat.me.0 in
    cuts_prepare (first_chunks c.in-Ok.page c.per_page-per_page.result) c.grow.new.hand.seat.me.0 c.grow.new.held.shared c.cut_page.new.hand.seat.me.0 c.cut_page.new.held.shared c.cut_page.ensures.cuts
    (ap has_prepared c.in-Ok.ensures.view ∙ one_more view.events (made (Grow c.args.class ∷ []) MissSlabs) c.requires.before refl)

pub per_page-per_page-requires : goal.per_page-per_page-requires
per_page-per_page-requires c =
    let view : View = c.args.hand.now.seat.me.0 in
    subst (λ (s : SlabState). HasClass s c.args.class) (sym c.slabs.ensures.slabs)
    (class_of_slabs view c.requires.arena.lawful c.args.held.now.shared c.args.class c.requires.held (ap (λ (s : Setup). is_class s.table c.args.class) c.requires.arena.setup ∙ c.requires.class))

pub returns-in-Ok-clause-free : goal.returns-in-Ok-clause-free
returns-in-Ok-clause-free c =
    let view : View = c.args.hand.now.seat.me.0 in
    let slabs = c.args.held.now.shared in
    let class = c.args.class in
    let was = c.requires.arena.lawful in
    let is = class_of_slabs view was slabs class c.requires.held (ap (λ (s : Setup). is_class s.table class) c.requires.arena.setup ∙ c.requires.class) in
    let count = c.per_page-per_page.result in
    let some = subst (λ n. 1 ≤ n) (sym (c.per_page-per_page.ensures.chunks ∙ ap (λ (s : SlabState). (class_at s class).per_page) c.slabs.ensures.slabs)) (some_here view was slabs c.requires.held class is) in
    ap (λ (s : SlabState). is_some (first_free (class_at s class)))
    (c.cut_page.ensures.shared ∙ ap (λ (s : SlabState). fold after_cut s (first_chunks c.in-Ok.page count)) c.in-Ok.ensures.given.1)
    ∙ free_granted slabs class c.in-Ok.page count (accounted_here view was slabs c.requires.held) is c.in-Ok.ensures.given.0 some
