use Rattle.std.proofs.Common.{◌≡◌, ◌&&◌, ◌||◌, List, true, refl, sym, subst}
use Rattle.mc_pages.proofs.Chunks.{is_chunk-same}
use Rattle.mc_pages.specs.Pages.{is_on_the_move}
use Rattle.mc_core.specs.declared.holding.Holding.{Holding}
use Rattle.mc_core.specs.run.Evictions.{has_copy, lacks_room, none_dead}
use Rattle.mc_core.specs.model.Holdings.{is_copy_of}
use Rattle.mc_core.specs.law.Judged.{sees_no_target}
use Rattle.mc_words.specs.item.Fresh.{IsFreshIn}
use Rattle.mc_words.specs.hand.View.{View}
use Rattle.mc_words.specs.hand.Views.{copy_holding}
use Rattle.mc_mover.proofs.Kept.{finds_keep}
use Rattle.mc_mover.proofs.Writes.{found_among}
use Rattle.test_arena.proofs.tests.items.races.rescue.Goals as goal

pub condemn_original-requires-clause-copy : goal.condemn_original-requires-clause-copy
condemn_original-requires-clause-copy g c =
    let view : View = c.args.hand.now.seat.me.0 in
    let one = copy_holding c.args.item.chunk c.args.fresh.chunk c.requires.copy.0 c.args.fresh.room in
    found_among c.args.fresh.chunk (is_copy_of c.args.item.chunk) view.row.holdings one c.requires.copy.1 (is_chunk-same c.args.item.chunk)

pub condemn_original-requires-clause-reason : goal.condemn_original-requires-clause-reason
condemn_original-requires-clause-reason g c =
    let view : View = c.args.hand.now.seat.me.0 in
    let chunk = c.args.item.chunk in
    let slabs = c.args.slabs.now.shared in
    let table = c.args.arena.now.table.shared.key.table in
    let one = copy_holding chunk c.args.fresh.chunk c.requires.copy.0 c.args.fresh.room in
    let copies : has_copy view.row.holdings chunk ≡ true = found_among c.args.fresh.chunk (is_copy_of chunk) view.row.holdings one c.requires.copy.1 (is_chunk-same chunk) in
    λ k. c.requires.moving k && copies k || is_on_the_move slabs chunk.page && none_dead slabs view.row.looks chunk && sees_no_target slabs view.row.looks chunk.page || lacks_room slabs view.row.looks chunk

pub discard-requires-clause-fresh : goal.discard-requires-clause-fresh
discard-requires-clause-fresh g c =
    let view : View = c.args.hand.now.seat.me.0 in
    let now : View = c.condemn_original.new.hand.seat.me.0 in
    let finds = c.in-Err.ensures.moved.0 in
    subst (λ (hs : List Holding). IsFreshIn hs c.args.fresh.chunk c.args.fresh.room) (sym (finds_keep (λ (v : View). v.row.holdings) (λ one v. refl) (λ chunk head v. refl) c.args.item.chunk view now finds)) c.requires.fresh
