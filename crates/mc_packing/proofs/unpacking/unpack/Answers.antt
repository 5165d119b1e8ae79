use Rattle.std.proofs.Common.{arith, sym}
use Rattle.mc_packing.proofs.Packs.{packing_len, packing_value}
use Rattle.mc_packing.proofs.unpacking.unpack.Goals as goal

pub push_value-requires-clause-begin : goal.push_value-requires-clause-begin
push_value-requires-clause-begin c = omega (arith, packing_len c.args.key.now c.args.words.now c.requires)

pub returns-clause-value : goal.returns-clause-value
returns-clause-value c = rw (packing_value c.args.key.now c.args.words.now c.requires, sym c.count_words.ensures.words) c.push_value.ensures.value
