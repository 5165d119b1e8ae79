use Rattle.std.proofs.Common.{List, reverse, ap, ◌∙◌, arith}
use Rattle.mc_pages.specs.declared.ids.ChunkId.{ChunkId}
use Rattle.mc_serial_parts.proofs.HoldLists.{reverse-remove}
use Rattle.mc_serial_parts.proofs.holds.take_out.Goals as goal

pub returns : goal.returns
returns c =
    record {
      removed = ap (λ (l : List ChunkId). reverse l) c.remove.ensures.items
          ∙ reverse-remove c.args.chunks.now.items _ c.args.behind (omega (arith, c.requires));
    }
