use Rattle.std.proofs.Common.{sym, ap, subst, ◌∙◌}
use Rattle.mc_pages.specs.SlabState.{SlabState, HasClass}
use Rattle.mc_core.specs.model.State.{is_class}
use Rattle.mc_words.specs.hand.View.{Setup}
use Rattle.mc_words.proofs.Chunks.Judging.{class_of_slabs}
use Rattle.test_arena.proofs.tests.words.calls.numbers.Goals as goal

pub numbers-requires : goal.numbers-requires
numbers-requires c =
    let arena = c.requires.arena in
    let is = c.if-not-is_class.ensures in
    subst (λ (x : SlabState). HasClass x c.args.class) (sym c.slabs.ensures.slabs)
    (class_of_slabs c.args.hand.now.seat.me.0 arena.lawful c.args.held.now.shared c.args.class c.requires.held (ap (λ (s : Setup). is_class s.table c.args.class) arena.setup ∙ sym is))
