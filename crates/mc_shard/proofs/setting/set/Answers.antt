use Rattle.std.proofs.Common.{subst, ⊎_elim}
use Rattle.mc_packing.specs.Packing.{packed_item}
use Rattle.mc_words.specs.hand.Observers.{hand_number}
use Rattle.mc_items.specs.declared.comparing.CompareError.{CompareError}
use Rattle.mc_items.specs.declared.comparing.Expected.TheVariants.{Anything}
use Rattle.mc_shard.specs.Setting.{RefusesCompareBytes}
use Rattle.mc_shard.proofs.setting.set.Goals as goal

pub returns-in-Err-Refused-clause-refused : goal.returns-in-Err-Refused-clause-refused
returns-in-Err-Refused-clause-refused g c =
    ⊎_elim (λ refuses. refuses) (λ full. absurd full.1)
    (subst (λ (e : CompareError). RefusesCompareBytes Anything (hand_number c.args.hand.now) c.args.at.hash (packed_item c.args.at.key.now c.args.value.now) e c.args.hand.now c.set_where.new.hand) c.in-Err-Refused.field-0-is c.in-Err-Refused.ensures.refused)
