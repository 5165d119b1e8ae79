use Rattle.mc_packing.proofs.Packs.{key_unpacks, length_packed, own_packing, value_unpacks}
use Rattle.mc_packing.proofs.laws.packings_unpack.Goals as goal

pub returns-clause-key : goal.returns-clause-key
returns-clause-key c = key_unpacks

pub returns-clause-value : goal.returns-clause-value
returns-clause-value c = value_unpacks

pub returns-clause-own : goal.returns-clause-own
returns-clause-own c = own_packing

pub returns-clause-len : goal.returns-clause-len
returns-clause-len c = length_packed
