use Rattle.std.proofs.Common.{◌*◌, ◌≤◌, length, arith}
use Rattle.mc_classes.specs.Limits.{most_arena_pages, most_page_chunks}
use Rattle.mc_pages.specs.Rows.{IsChange}
use Rattle.mc_pages.specs.RowsInside.{list_rows}
use Rattle.mc_pages.proofs.NumberedLinks.{numbered}
use Rattle.mc_pages.proofs.rows.fields.Rows.put.Goals as goal

pub to-requires : goal.to-requires
to-requires c =
    let whole : IsChange (list_rows c.self.inside) c.args.change = rw c.self.view_is c.requires in
    let change = rw c.in-Link-Next-default.is at whole in
    let within_limit : length c.self.inside.rows.items ≤ most_arena_pages * most_page_chunks = omega (arith, c.self.invariant.0, c.self.inside.rows.ok.0) in
    numbered (list_rows c.self.inside) c.in-Link-Next-default.link change.1 within_limit c.self.invariant.1

pub to-requires-in-Link-Previous-default : goal.to-requires-in-Link-Previous-default
to-requires-in-Link-Previous-default c =
    let whole : IsChange (list_rows c.self.inside) c.args.change = rw c.self.view_is c.requires in
    let change = rw c.in-Link-Previous-default.is at whole in
    let within_limit : length c.self.inside.rows.items ≤ most_arena_pages * most_page_chunks = omega (arith, c.self.invariant.0, c.self.inside.rows.ok.0) in
    numbered (list_rows c.self.inside) c.in-Link-Previous-default.link change.1 within_limit c.self.invariant.1
