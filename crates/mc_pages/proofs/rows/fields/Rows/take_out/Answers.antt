use Rattle.std.proofs.Common.{sym, ap, ◌∙◌, subst}
use Rattle.mc_pages.specs.Rows.{RowsState, IsRow}
use Rattle.mc_pages.specs.Linked.{AreLinked, IsUnlisted, list_chunks}
use Rattle.mc_pages.proofs.RowFields.{IsRow-sizes}
use Rattle.mc_pages.proofs.Linked.{chunks_are, are_linked, marked_linked}
use Rattle.mc_pages.proofs.ClassRows.{unlisted}
use Rattle.mc_pages.proofs.rows.fields.Rows.take_out.Goals as goal
use Rattle.mc_pages.proofs.rows.fields.Rows.take_out.Goals.{After-unlink}

-- the chunk is in no list any more
absent : (c : After-unlink) → IsUnlisted c.unlink.new.self c.args.chunk
absent c = unlisted c.args.self.now c.unlink.new.self c.args.list c.args.chunk c.requires.linked c.requires.there c.unlink.ensures.lists

-- and has its row
has_row : (c : After-unlink) → IsRow c.unlink.new.self c.args.chunk
has_row c = IsRow-sizes c.args.self.now c.unlink.new.self c.args.chunk c.unlink.ensures.sizes (c.requires.linked.placed c.args.list c.args.chunk c.requires.there)

pub returns-clause-linked : goal.returns-clause-linked
returns-clause-linked c =
    let here = (goal.at.returns-clause-linked c).After-unlink in
    subst AreLinked (sym c.put.ensures) (are_linked _ _ (marked_linked c.unlink.new.self (list_chunks c.unlink.new.self) c.args.chunk c.unlink.ensures.linked (has_row here) (absent here)))

pub returns-clause-lists : goal.returns-clause-lists
returns-clause-lists c =
    let here = (goal.at.returns-clause-lists c).After-unlink in
    λ other. ap (λ (rows : RowsState). list_chunks rows other) c.put.ensures
    ∙ (chunks_are _ _ (marked_linked c.unlink.new.self (list_chunks c.unlink.new.self) c.args.chunk c.unlink.ensures.linked (has_row here) (absent here)) other
    ∙ c.unlink.ensures.lists other)
