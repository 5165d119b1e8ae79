use Rattle.std.proofs.Common.{slice_get, arith, sym, ap, ◌∙◌}
use Rattle.mc_pages.specs.Linked.{list_chunks}
use Rattle.mc_pages.proofs.Chunks.{Contains_from_slice_get}
use Rattle.mc_pages.proofs.ClassRows.{behind_at, none_past}
use Rattle.mc_pages.proofs.rows.fields.Rows.at.Goals as goal

pub next-link-requires-clause-there : goal.next-link-requires-clause-there
next-link-requires-clause-there c =
    Contains_from_slice_get c.in-Some.chunk (list_chunks c.args.self.now c.args.list) c.loop.counter (sym c.loop.invariant ∙ c.in-Some.is)

pub loop-preserved : goal.loop-preserved
loop-preserved c =
    c.next-link.ensures ∙ behind_at c.args.self.now c.args.list c.in-Some.chunk c.loop.counter c.requires.linked (sym c.loop.invariant ∙ c.in-Some.is)

pub returns-in-None : goal.returns-in-None
returns-in-None c =
    sym (none_past (list_chunks c.args.self.now c.args.list) c.loop.counter c.args.place (sym c.loop.invariant ∙ c.in-None.is) (omega arith))

pub returns : goal.returns
returns c = c.loop.invariant ∙ ap (slice_get (list_chunks c.args.self.now c.args.list)) (omega arith)
