use Rattle.std.proofs.Common.{◌∙◌, sym}
use Rattle.mc_pages.specs.SlabState.{class_of_chunk}
use Rattle.mc_core.specs.run.Chunks.{is_target}
use Rattle.mc_core.proofs.Steps.Listed.{found_among}
use Rattle.mc_core.proofs.state.State.pop_off.Goals as goal

pub list_replace-requires-clause-free : goal.list_replace-requires-clause-free
list_replace-requires-clause-free c =
    found_among (is_target c.args.self.now.table c.args.self.now.heads c.args.old.page) (class_of_chunk c.args.self.now.slabs c.args.old).free c.in-Some.chunk (sym c.in_ok-chunk.ensures ∙ c.in-Some.is)
