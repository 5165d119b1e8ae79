use Rattle.std.proofs.Common.{◌≡◌, Option, sym, ap, ap₂, ◌∙◌, subst}
use Rattle.mc_pages.specs.declared.ids.ChunkId.{ChunkId}
use Rattle.mc_pages.specs.Rows.{RowsState, IsField, shorter_list}
use Rattle.mc_pages.specs.Linked.{AreLinkedBut, list_chunks, forth, back, with_neighbours, list_without_chunk}
use Rattle.mc_pages.proofs.Linked.{chunks_are, are_linked, unlinked_linked, previous_forth, next_back}
use Rattle.mc_pages.proofs.rows.fields.Rows.unlink.Goals as goal

pub join-requires-clause-before : goal.join-requires-clause-before
join-requires-clause-before c =
    subst (λ (link : Option ChunkId). IsField c.args.self.now (forth c.args.list link)) (sym c.get-before.ensures)
    (previous_forth c.args.self.now c.args.list c.args.chunk c.requires.linked c.requires.list c.requires.there)

pub join-requires-clause-behind : goal.join-requires-clause-behind
join-requires-clause-behind c =
    subst (λ (link : Option ChunkId). IsField c.args.self.now (back c.args.list link)) (sym c.get-behind.ensures)
    (next_back c.args.self.now c.args.list c.args.chunk c.requires.linked c.requires.list c.requires.there)

-- the rows after it
left : (c : goal.After-shorten) → c.shorten.new.self ≡ list_without_chunk c.args.self.now c.args.list c.args.chunk
left c =
    c.shorten.ensures ∙ (ap (λ (rows : RowsState). shorter_list rows c.args.list) c.join.ensures
    ∙ ap₂ (λ (before behind : Option ChunkId). shorter_list (with_neighbours c.args.self.now c.args.list before behind) c.args.list) c.get-before.ensures c.get-behind.ensures)

pub returns-clause-linked : goal.returns-clause-linked
returns-clause-linked c =
    subst (λ (rows : RowsState). AreLinkedBut rows c.args.chunk) (sym (left c)) (are_linked _ _ (unlinked_linked c.args.self.now (list_chunks c.args.self.now) c.args.list c.args.chunk c.requires.linked c.requires.list c.requires.there))

pub returns-clause-lists : goal.returns-clause-lists
returns-clause-lists c =
    λ other. ap (λ (rows : RowsState). list_chunks rows other) (left c)
    ∙ chunks_are _ _ (unlinked_linked c.args.self.now (list_chunks c.args.self.now) c.args.list c.args.chunk c.requires.linked c.requires.list c.requires.there) other
