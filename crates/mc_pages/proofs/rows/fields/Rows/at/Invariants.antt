use Rattle.std.proofs.Common.{◌≡◌, slice_get}
use Rattle.mc_pages.specs.Linked.{list_chunks}
use Rattle.mc_pages.proofs.rows.fields.Rows.at.Given as goal

abbrev pub invariant-loop : goal.invariant-loop
invariant-loop l = l.link ≡ slice_get (list_chunks l.self l.list) l.counter
