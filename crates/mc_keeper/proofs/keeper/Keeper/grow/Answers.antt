use Rattle.std.proofs.Common.{ap, sym, ◌∙◌}
use Rattle.std.specs.Prelude.{fold}
use Rattle.mc_pages.specs.Accounted.{first_chunks}
use Rattle.mc_pages.specs.Changes.{after_cut}
use Rattle.mc_pages.specs.SlabState.{SlabState, HasClass}
use Rattle.mc_serial_spec.specs.Machine.{Machine}
use Rattle.mc_serial_spec.proofs.KeptChanges.{kept_grow}
use Rattle.mc_serial_spec.proofs.Grown.{per_page_kept, per_page_given, per_page_grown, new_page_view}
use Rattle.mc_keeper.proofs.Watched.{watched-grown}
use Rattle.mc_keeper.proofs.Counted.{counted_moved, classes_given, orders_given}
use Rattle.mc_keeper.proofs.keeper.Keeper.grow.Goals as goal

pub cut_page-requires-clause-chunks : goal.cut_page-requires-clause-chunks
cut_page-requires-clause-chunks c =
    let valid : HasClass c.self.inside.slabs.state c.args.class = rw (ap (λ (m : Machine). m.slabs) c.self.view_is) c.requires in
    rw c.in-Ok.ensures.given.1 (per_page_given c.self.inside.slabs.state c.args.class c.in-Ok.page c.self.invariant.kept.accounted valid c.in-Ok.ensures.given.0
    ∙ per_page_kept _ _ _ c.args.class c.self.invariant.kept valid ∙ sym c.per_page-per_page.ensures.chunks)

pub invariant_of-self : goal.invariant_of-self
invariant_of-self c =
    let valid : HasClass c.self.inside.slabs.state c.args.class = rw (ap (λ (m : Machine). m.slabs) c.self.view_is) c.requires in
    record {
      kept = rw (c.cut_page.ensures.cut, c.in-Ok.ensures.given.1)
          (kept_grow _ _ _ c.args.class c.in-Ok.page (first_chunks c.in-Ok.page c.per_page-per_page.result) c.self.invariant.kept valid
          c.in-Ok.ensures.given.0
          (rw (c.cut_page.ensures.cut, c.in-Ok.ensures.given.1) at c.cut_page.ensures.accounted)
          (rw (c.cut_page.ensures.cut, c.in-Ok.ensures.given.1) at c.cut_page.ensures.whole));
      watched = rw (c.cut_page.ensures.cut, c.in-Ok.ensures.given.1)
          (watched-grown c.self.inside.slabs.state _ c.self.invariant.watched c.args.class c.in-Ok.page (first_chunks c.in-Ok.page c.per_page-per_page.result));
      counted = rw (c.cut_page.ensures.cut, c.in-Ok.ensures.given.1)
          (counted_moved _ _ _ _ _ _ c.self.invariant.kept (rw (c.cut_page.ensures.cut, c.in-Ok.ensures.given.1) at c.cut_page.ensures.accounted)
          (classes_given c.self.inside.slabs.state c.args.class c.in-Ok.page (first_chunks c.in-Ok.page c.per_page-per_page.result))
          (orders_given c.self.inside.slabs.state c.args.class c.in-Ok.page (first_chunks c.in-Ok.page c.per_page-per_page.result)) c.self.invariant.counted);
      indexed = c.self.invariant.indexed;
      bulk = c.self.invariant.bulk;
    }

pub returns-in-Ok-clause-after : goal.returns-in-Ok-clause-after
returns-in-Ok-clause-after c =
    let valid : HasClass c.self.inside.slabs.state c.args.class = rw (ap (λ (m : Machine). m.slabs) c.self.view_is) c.requires in
    rw (← c.self.view_is)
    (new_page_view (record {
      table = c.self.inside.table;
      bulk = c.self.inside.bulk;
      slabs = c.self.inside.slabs.state;
      items = c.self.inside.items;
      holds = c.self.inside.holds;
      turns = c.self.inside.turns;
      decider = c.self.inside.decider;
    })
    c.cut_page.new.slabs.state c.args.class c.in-Ok.page c.per_page-per_page.result c.in-Ok.ensures.given.0
    (per_page_grown c.self.inside.slabs.state c.args.class c.in-Ok.page valid ∙ per_page_kept _ _ _ c.args.class c.self.invariant.kept valid ∙ sym c.per_page-per_page.ensures.chunks)
    (c.cut_page.ensures.cut ∙ ap (λ (s : SlabState). fold after_cut s (first_chunks c.in-Ok.page c.per_page-per_page.result)) c.in-Ok.ensures.given.1))
