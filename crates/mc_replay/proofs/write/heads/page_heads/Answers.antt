use Rattle.std.proofs.Common.{ap, ◌∙◌}
use Rattle.mc_core.specs.model.Head.{code}
use Rattle.mc_replay.specs.Written.{head_text, word_text}
use Rattle.mc_replay.proofs.Ranges.{written_next}
use Rattle.mc_replay.proofs.write.heads.page_heads.Goals as goal

pub loop-index-preserved : goal.loop-index-preserved
loop-index-preserved c =
    written_next (head_text c.args.state.now c.args.page) c.loop-index.index _ _ _ _ c.loop-index.invariant c.in_ok-head.ensures
    (ap (word_text (record { page = c.args.page; index = c.loop-index.index })) (c.word-word.ensures ∙ ap code c.head.ensures.head))
