use Rattle.std.proofs.Common.{◌≡◌, Option, None, sym, ap, ◌∙◌, subst}
use Rattle.mc_pages.specs.declared.ids.ChunkId.{ChunkId}
use Rattle.mc_pages.specs.declared.rows.Field.TheVariants.{Head}
use Rattle.mc_pages.specs.Rows.{RowsState, IsField, field_of}
use Rattle.mc_pages.specs.Linked.{AreLinked, list_chunks, back, with_chunk_between}
use Rattle.mc_pages.proofs.Linked.{chunks_are, are_linked, first_linked, head_back}
use Rattle.mc_pages.proofs.rows.fields.Rows.put_first.Goals as goal

pub link-requires-clause-behind : goal.link-requires-clause-behind
link-requires-clause-behind c =
    subst (λ (link : Option ChunkId). IsField c.args.self.now (back c.args.list link)) (sym c.get-head.ensures)
    (head_back c.args.self.now c.args.list c.requires.linked c.requires.list)

-- the rows after it
come : (c : goal.After-link) → c.link.new.self ≡ with_chunk_between c.args.self.now c.args.list None c.args.chunk (field_of c.args.self.now (Head c.args.list))
come c = c.link.ensures ∙ ap (λ (link : Option ChunkId). with_chunk_between c.args.self.now c.args.list None c.args.chunk link) c.get-head.ensures

pub returns-clause-linked : goal.returns-clause-linked
returns-clause-linked c =
    subst AreLinked (sym (come c)) (are_linked _ _ (first_linked c.args.self.now (list_chunks c.args.self.now) c.args.list c.args.chunk c.requires.linked c.requires.list c.requires.row c.requires.unlisted))

pub returns-clause-lists : goal.returns-clause-lists
returns-clause-lists c =
    λ other. ap (λ (rows : RowsState). list_chunks rows other) (come c)
    ∙ chunks_are _ _ (first_linked c.args.self.now (list_chunks c.args.self.now) c.args.list c.args.chunk c.requires.linked c.requires.list c.requires.row c.requires.unlisted) other
