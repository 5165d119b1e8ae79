use Rattle.std.proofs.Common.{subst, ⊎_elim}
use Rattle.mc_packing.specs.Packing.{packed_item}
use Rattle.mc_words.specs.hand.Observers.{hand_number}
use Rattle.mc_items.specs.declared.comparing.Expected.TheVariants.{Anything}
use Rattle.mc_items.specs.declared.within.comparing.CompareWithinError.{CompareWithinError}
use Rattle.mc_shard.specs.Within.{RefusesCompareBytesWithin}
use Rattle.mc_shard.proofs.setting_within.set_within.Goals as goal

pub returns-in-Err-Refused-clause-refused : goal.returns-in-Err-Refused-clause-refused
returns-in-Err-Refused-clause-refused c =
    ⊎_elim (λ refuses. refuses) (λ full. absurd full.1)
    (subst (λ (e : CompareWithinError). RefusesCompareBytesWithin Anything (hand_number c.args.hand.now) c.args.tries c.args.at.hash (packed_item c.args.at.key.now c.args.value.now) e c.args.hand.now c.set_where_within.new.hand) c.in-Err-Refused.field-0-is c.in-Err-Refused.ensures.refused)
