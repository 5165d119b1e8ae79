-- What leads to a row has a number.
use Rattle.std.proofs.Common.{◌*◌, ◌≤◌, length, Option, Some, None, arith}
use Rattle.std.specs.Prelude.{IfSome}
use Rattle.std.proofs.Math.Nat.{mul-le-mul_left}
use Rattle.mc_classes.specs.Limits.{most_arena_pages, most_page_chunks}
use Rattle.mc_pages.specs.declared.ids.ChunkId.{ChunkId}
use Rattle.mc_pages.specs.Rows.{RowsState, IsRow}
use Rattle.mc_pages.specs.Links.{HasNumber}

pub numbered : (rows : RowsState) (link : Option ChunkId) → IfSome link (IsRow rows) → length rows.rows ≤ most_arena_pages * most_page_chunks → rows.most ≤ most_page_chunks → HasNumber link
numbered rows None row within_limit most = tt
numbered rows (Some chunk) row within_limit most =
    let some : 1 ≤ rows.most = omega (arith, row.0) in
    let wide : chunk.page * 1 ≤ chunk.page * rows.most = mul-le-mul_left chunk.page some in
    (omega (arith, row.1, within_limit, wide), omega (arith, row.0, most))
