use Rattle.std.proofs.Common.{◌≡◌, ◌<◌, true, length, sym, subst}
use Rattle.mc_pages.specs.SlabState.{SlabState}
use Rattle.mc_core.specs.model.State.{has_chunk}
use Rattle.mc_words.specs.hand.View.{Setup}
use Rattle.mc_words.proofs.Items.HeldReads.{owner_near}
use Rattle.test_arena.proofs.tests.items.races.class_on_move.Goals as goal

pub owner-requires : goal.owner-requires
owner-requires c =
    let arena = c.requires.arena in
    let in_range = subst (λ (s : Setup). has_chunk s.table c.args.chunk ≡ true) (sym arena.setup) c.requires.in_range in
    subst (λ (x : SlabState). c.args.chunk.page < length x.owners) (sym c.slabs.ensures.slabs) (owner_near c.args._hand.now.seat.me.0 c.args.held.now.shared c.requires.held c.args.chunk in_range arena.lawful)
