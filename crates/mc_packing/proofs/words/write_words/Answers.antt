use Rattle.mc_packing.proofs.Loops.{no_part}
use Rattle.mc_packing.proofs.words.write_words.Goals as goal

pub returns-else-whole-into : goal.returns-else-whole-into
returns-else-whole-into c = no_part c.args.bytes.now c.args.into.now c.write_whole_words-rest.new.into c.write_whole_words-rest.result.now c.requires c.write_whole_words-rest.auto.into c.if-whole-into.false c.write_whole_words-rest.ensures
