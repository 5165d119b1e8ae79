use Rattle.std.proofs.Common.{◌∙◌, ◌+◌, ◌*◌, arith}
use Rattle.mc_packing.specs.Packing.{word_count_for}
use Rattle.mc_shard.proofs.Saturated.{class_of_saturated}
use Rattle.mc_shard.proofs.class_items.class_for_size.Goals as goal

pub returns-clause-class : goal.returns-clause-class
returns-clause-class c =
    c.class_for.ensures.class
    ∙ class_of_saturated c.args.classes.now c.class_for.ensures.sound (24 + 8 * (2 + word_count_for c.args.size.key + word_count_for c.args.size.value)) c.saturating_mul.result (omega (arith, c.saturating_mul.ensures, c.words_for_bytes.ensures.words, c.words_for_bytes-2.ensures.words))
