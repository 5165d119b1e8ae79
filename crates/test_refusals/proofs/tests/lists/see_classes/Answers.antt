use Rattle.std.proofs.Common.{sym, ap, subst, ◌∙◌}
use Rattle.mc_pages.specs.SlabState.{SlabState, HasClass}
use Rattle.mc_core.specs.model.State.{is_class}
use Rattle.mc_words.specs.hand.View.{Setup}
use Rattle.mc_words.proofs.Chunks.Judging.{class_of_slabs}
use Rattle.test_refusals.proofs.tests.lists.see_classes.Goals as goal

pub see_class-requires : goal.see_class-requires
see_class-requires c =
    let arena = c.requires.arena in
    let is = c.if-is_class.ensures in
    record {
      class = subst (λ (x : SlabState). HasClass x c.loop-class.class) (sym c.slabs.ensures.slabs)
          (class_of_slabs c.args.looker.now.seat.me.0 arena.lawful c.args.held.now.shared c.loop-class.class c.requires.held (ap (λ (s : Setup). is_class s.table c.loop-class.class) arena.setup ∙ sym is));
    }
