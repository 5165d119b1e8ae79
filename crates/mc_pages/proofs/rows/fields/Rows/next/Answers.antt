use Rattle.std.proofs.Common.{◌∙◌}
use Rattle.mc_pages.specs.Linked.{list_chunks}
use Rattle.mc_pages.proofs.Chunks.{times_from_Contains}
use Rattle.mc_pages.proofs.ClassRows.{next_is}
use Rattle.mc_pages.proofs.rows.fields.Rows.next.Goals as goal

pub get-requires : goal.get-requires
get-requires c = c.requires.linked.placed c.args.list c.args.chunk (times_from_Contains c.args.chunk (list_chunks c.args.self.now c.args.list) c.requires.there)

pub returns : goal.returns
returns c =
    c.get.ensures ∙ next_is c.args.self.now c.args.list c.args.chunk c.requires.linked (times_from_Contains c.args.chunk (list_chunks c.args.self.now c.args.list) c.requires.there)
