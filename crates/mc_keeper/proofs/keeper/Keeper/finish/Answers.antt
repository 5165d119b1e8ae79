use Rattle.std.proofs.Common.{◌≡◌, ◌≢◌, ap, sym, ◌∙◌, arith}
use Rattle.std.specs.Prelude.{fold, Option}
use Rattle.mc_pages.specs.declared.ids.Moving.{Moving}
use Rattle.mc_pages.specs.Accounted.{IsMove, first_chunks}
use Rattle.mc_pages.specs.Changes.{after_cut}
use Rattle.mc_pages.specs.Moves.{CanFinish, after_finish, after_move_end}
use Rattle.mc_pages.specs.SlabState.{SlabState, HasClass}
use Rattle.mc_serial_spec.specs.Machine.{Machine}
use Rattle.mc_serial_spec.proofs.Grown.{per_page_kept}
use Rattle.mc_serial_spec.proofs.KeptMoverFinish.{Arrives, arrives, arrives_cut, finish_view, kept_pooled, kept_recut, per_page_finished, per_page_there}
use Rattle.mc_keeper.proofs.Watched.{watched-finished, watched-recut}
use Rattle.mc_keeper.proofs.Counted.{counted_moved}
use Rattle.mc_keeper.proofs.keeper.Keeper.finish.Goals as goal

pub cut_page-requires-clause-chunks : goal.cut_page-requires-clause-chunks
cut_page-requires-clause-chunks c =
    let can : CanFinish c.self.inside.slabs.state c.args.moving = rw (ap (λ (m : Machine). m.slabs) c.self.view_is) c.requires in
    let is : IsMove c.self.inside.slabs.state c.args.moving = c.self.invariant.kept.accounted.move c.args.moving can.runs in
    let after : c.finish_move.new.self.state ≡ after_move_end c.self.inside.slabs.state c.args.moving
    = c.finish_move.ensures.finished ∙ ap (λ (o : Option Moving). after_finish c.self.inside.slabs.state o) can.runs in
    let class : c.args.moving.dst ≢ 0 = c.if-moving-ne0.true in
    let valid : HasClass c.self.inside.slabs.state c.args.moving.dst = (omega (arith, class), is.dst) in
    rw after (per_page_there c.self.inside.slabs.state c.args.moving is class
    ∙ per_page_kept _ _ _ c.args.moving.dst c.self.invariant.kept valid ∙ sym c.per_page.ensures.chunks)

pub invariant_of-self : goal.invariant_of-self
invariant_of-self c =
    let can : CanFinish c.self.inside.slabs.state c.args.moving = rw (ap (λ (m : Machine). m.slabs) c.self.view_is) c.requires in
    let after : c.finish_move.new.self.state ≡ after_move_end c.self.inside.slabs.state c.args.moving
    = c.finish_move.ensures.finished ∙ ap (λ (o : Option Moving). after_finish c.self.inside.slabs.state o) can.runs in
    let cut : c.cut_page.new.slabs.state ≡ fold after_cut (after_move_end c.self.inside.slabs.state c.args.moving) (first_chunks c.args.moving.page c.per_page.result)
    = c.cut_page.ensures.cut ∙ ap (λ (s : SlabState). fold after_cut s (first_chunks c.args.moving.page c.per_page.result)) after in
    let come : Arrives c.self.inside.slabs.state (fold after_cut (after_move_end c.self.inside.slabs.state c.args.moving) (first_chunks c.args.moving.page c.per_page.result)) c.args.moving.page
    = arrives_cut _ _ _ (first_chunks c.args.moving.page c.per_page.result) (arrives c.self.inside.slabs.state c.args.moving) in
    record {
      kept = rw cut (kept_recut _ _ _ c.args.moving (first_chunks c.args.moving.page c.per_page.result) c.self.invariant.kept can
          (rw cut at c.cut_page.ensures.whole) (rw cut at c.cut_page.ensures.accounted));
      watched = rw cut (watched-recut c.self.inside.slabs.state _ c.self.invariant.watched c.args.moving (first_chunks c.args.moving.page c.per_page.result));
      counted = rw cut (counted_moved _ _ _ _ _ _ c.self.invariant.kept (rw cut at c.cut_page.ensures.accounted) come.classes come.order c.self.invariant.counted);
      indexed = c.self.invariant.indexed;
      bulk = c.self.invariant.bulk;
    }

pub invariant_of-self-else-moving-ne0 : goal.invariant_of-self-else-moving-ne0
invariant_of-self-else-moving-ne0 c =
    let can : CanFinish c.self.inside.slabs.state c.args.moving = rw (ap (λ (m : Machine). m.slabs) c.self.view_is) c.requires in
    let after : c.finish_move.new.self.state ≡ after_move_end c.self.inside.slabs.state c.args.moving
    = c.finish_move.ensures.finished ∙ ap (λ (o : Option Moving). after_finish c.self.inside.slabs.state o) can.runs in
    record {
      kept = rw after (kept_pooled _ _ _ c.args.moving c.self.invariant.kept can c.if-moving-ne0.false (rw after at c.finish_move.ensures.accounted));
      watched = rw after (watched-finished c.self.inside.slabs.state _ c.self.invariant.watched c.args.moving);
      counted = rw after (counted_moved _ _ _ _ _ _ c.self.invariant.kept (rw after at c.finish_move.ensures.accounted)
          (arrives c.self.inside.slabs.state c.args.moving).classes (arrives c.self.inside.slabs.state c.args.moving).order c.self.invariant.counted);
      indexed = c.self.invariant.indexed;
      bulk = c.self.invariant.bulk;
    }

pub returns-then-moving-ne0 : goal.returns-then-moving-ne0
returns-then-moving-ne0 c =
    let can : CanFinish c.self.inside.slabs.state c.args.moving = rw (ap (λ (m : Machine). m.slabs) c.self.view_is) c.requires in
    let is : IsMove c.self.inside.slabs.state c.args.moving = c.self.invariant.kept.accounted.move c.args.moving can.runs in
    let after : c.finish_move.new.self.state ≡ after_move_end c.self.inside.slabs.state c.args.moving
    = c.finish_move.ensures.finished ∙ ap (λ (o : Option Moving). after_finish c.self.inside.slabs.state o) can.runs in
    let cut : c.cut_page.new.slabs.state ≡ fold after_cut (after_move_end c.self.inside.slabs.state c.args.moving) (first_chunks c.args.moving.page c.per_page.result)
    = c.cut_page.ensures.cut ∙ ap (λ (s : SlabState). fold after_cut s (first_chunks c.args.moving.page c.per_page.result)) after in
    let class : c.args.moving.dst ≢ 0 = c.if-moving-ne0.true in
    let valid : HasClass c.self.inside.slabs.state c.args.moving.dst = (omega (arith, class), is.dst) in
    record {
      finished = rw (← c.self.view_is) (finish_view (record {
        table = c.self.inside.table;
        bulk = c.self.inside.bulk;
        slabs = c.self.inside.slabs.state;
        items = c.self.inside.items;
        holds = c.self.inside.holds;
        turns = c.self.inside.turns;
        decider = c.self.inside.decider;
      }) c.cut_page.new.slabs.state c.args.moving c.per_page.result class
          (per_page_finished c.self.inside.slabs.state c.args.moving c.args.moving.dst
          ∙ per_page_kept _ _ _ c.args.moving.dst c.self.invariant.kept valid ∙ sym c.per_page.ensures.chunks) cut);
    }
