use Rattle.std.proofs.Common.{◌-◌, ◌≤◌, refl, arith}
use Rattle.std.specs.Vec.{with_item}
use Rattle.mc_serial_parts.specs.CountsByPlace.{count_at, counts_by_page, IsReached}
use Rattle.mc_serial_parts.proofs.CountPlaces.{count_written, count_other, count_was, counted_less, reached_from_some}
use Rattle.mc_serial_parts.proofs.hold_counts.HoldCounts.decrement.Goals as goal

pub returns : goal.returns
returns c =
    let pages = c.self.inside.pages.items in
    let some : 1 ≤ count_at (counts_by_page pages) c.args.chunk = rw c.self.view_is c.requires in
    let there : IsReached (counts_by_page pages) c.args.chunk = reached_from_some (counts_by_page pages) c.args.chunk some in
    let new = with_item c.index_mut.result.now c.args.chunk.index (c.index_mut-2.result.now - 1) in
    let was = count_was pages c.args.chunk c.index_mut.result.now new (c.index_mut-2.result.now - 1) there c.index_mut.ensures.value refl c.index_mut-2.result.now c.index_mut-2.ensures.value in
    let written = count_written pages c.args.chunk c.index_mut.result.now new (c.index_mut-2.result.now - 1) there c.index_mut.ensures.value refl in
    rw (← c.self.view_is) (record {
      decremented = counted_less (counts_by_page pages) (counts_by_page (with_item c.self.inside.pages c.args.chunk.page new).items) c.args.chunk
          (count_other pages c.args.chunk c.index_mut.result.now new (c.index_mut-2.result.now - 1) there c.index_mut.ensures.value refl)
          (omega (arith, written, was, some));
    })
