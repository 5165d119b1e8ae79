use Rattle.std.proofs.Common.{◌∙◌, sym, ap, slice_get, vec_len}
use Rattle.mc_pages.specs.SlabState.{class_at}
use Rattle.mc_core.proofs.Steps.Lists.{copied_more, copied_all}
use Rattle.mc_core.proofs.state.lists.free_of.Goals as goal

pub loop-chunk-preserved : goal.loop-chunk-preserved
loop-chunk-preserved c =
    let chunks = (class_at c.args.slabs.now.state c.args.class).free in
    copied_more chunks c.loop-chunk.chunks.items c.push.new.list.items (vec_len c.loop-chunk.chunks) (vec_len c.push.new.list) c.in-Some.chunk c.loop-chunk.invariant.0
    (ap (slice_get chunks) (sym c.len.ensures) ∙ sym c.free_at.ensures.chunk ∙ c.in-Some.is) c.in_ok-push.ensures.items c.in_ok-push.ensures.len

pub returns : goal.returns
returns c =
    let chunks = (class_at c.args.slabs.now.state c.args.class).free in
    copied_all chunks c.loop-chunk.chunks.items (vec_len c.loop-chunk.chunks) c.loop-chunk.invariant.0
    (ap (slice_get chunks) (sym c.len.ensures) ∙ sym c.free_at.ensures.chunk ∙ c.in_default.is)
