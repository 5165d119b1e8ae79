use Rattle.std.proofs.Common.{◌≡◌, Option, Some, sym, ap, ◌∙◌, subst}
use Rattle.mc_pages.specs.declared.ids.ChunkId.{ChunkId}
use Rattle.mc_pages.specs.declared.rows.Field.TheVariants.{Previous}
use Rattle.mc_pages.specs.Rows.{RowsState, IsField, field_of}
use Rattle.mc_pages.specs.Linked.{AreLinked, list_chunks, forth, with_chunk_between}
use Rattle.mc_pages.proofs.Linked.{chunks_are, are_linked, before_linked, previous_forth}
use Rattle.mc_pages.proofs.rows.fields.Rows.put_before.Goals as goal

pub link-requires-clause-before : goal.link-requires-clause-before
link-requires-clause-before c =
    subst (λ (link : Option ChunkId). IsField c.args.self.now (forth c.args.list link)) (sym c.get-before.ensures)
    (previous_forth c.args.self.now c.args.list c.args.old c.requires.linked c.requires.list c.requires.there)

pub link-requires-clause-behind : goal.link-requires-clause-behind
link-requires-clause-behind c = c.requires.linked.placed c.args.list c.args.old c.requires.there

-- the rows after it
come : (c : goal.After-link) → c.link.new.self ≡ with_chunk_between c.args.self.now c.args.list (field_of c.args.self.now (Previous c.args.old)) c.args.chunk (Some c.args.old)
come c = c.link.ensures ∙ ap (λ (link : Option ChunkId). with_chunk_between c.args.self.now c.args.list link c.args.chunk (Some c.args.old)) c.get-before.ensures

pub returns-clause-linked : goal.returns-clause-linked
returns-clause-linked c =
    subst AreLinked (sym (come c)) (are_linked _ _ (before_linked c.args.self.now (list_chunks c.args.self.now) c.args.list c.args.chunk c.args.old c.requires.linked c.requires.list c.requires.row c.requires.unlisted c.requires.there))

pub returns-clause-lists : goal.returns-clause-lists
returns-clause-lists c =
    λ other. ap (λ (rows : RowsState). list_chunks rows other) (come c)
    ∙ chunks_are _ _ (before_linked c.args.self.now (list_chunks c.args.self.now) c.args.list c.args.chunk c.args.old c.requires.linked c.requires.list c.requires.row c.requires.unlisted c.requires.there) other
