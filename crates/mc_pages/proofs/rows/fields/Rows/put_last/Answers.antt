use Rattle.std.proofs.Common.{◌≡◌, Option, None, sym, ap, ◌∙◌, subst}
use Rattle.mc_pages.specs.declared.ids.ChunkId.{ChunkId}
use Rattle.mc_pages.specs.declared.rows.Field.TheVariants.{Tail}
use Rattle.mc_pages.specs.Rows.{RowsState, IsField, field_of}
use Rattle.mc_pages.specs.Linked.{AreLinked, list_chunks, forth, with_chunk_between}
use Rattle.mc_pages.proofs.Linked.{chunks_are, are_linked, last_linked, tail_forth}
use Rattle.mc_pages.proofs.rows.fields.Rows.put_last.Goals as goal

pub link-requires-clause-before : goal.link-requires-clause-before
link-requires-clause-before c =
    subst (λ (link : Option ChunkId). IsField c.args.self.now (forth c.args.list link)) (sym c.get-tail.ensures)
    (tail_forth c.args.self.now c.args.list c.requires.linked c.requires.list)

-- the rows after it
come : (c : goal.After-link) → c.link.new.self ≡ with_chunk_between c.args.self.now c.args.list (field_of c.args.self.now (Tail c.args.list)) c.args.chunk None
come c = c.link.ensures ∙ ap (λ (link : Option ChunkId). with_chunk_between c.args.self.now c.args.list link c.args.chunk None) c.get-tail.ensures

pub returns-clause-linked : goal.returns-clause-linked
returns-clause-linked c =
    subst AreLinked (sym (come c)) (are_linked _ _ (last_linked c.args.self.now (list_chunks c.args.self.now) c.args.list c.args.chunk c.requires.linked c.requires.list c.requires.row c.requires.unlisted))

pub returns-clause-lists : goal.returns-clause-lists
returns-clause-lists c =
    λ other. ap (λ (rows : RowsState). list_chunks rows other) (come c)
    ∙ chunks_are _ _ (last_linked c.args.self.now (list_chunks c.args.self.now) c.args.list c.args.chunk c.requires.linked c.requires.list c.requires.row c.requires.unlisted) other
