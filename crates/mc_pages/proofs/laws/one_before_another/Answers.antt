use Rattle.std.proofs.Common.{inl, inr}
use Rattle.std.proofs.lemmas.Bool.{cases_Bool}
use Rattle.mc_pages.specs.Before.{comes_before}
use Rattle.mc_pages.proofs.Before.{not_both_before, before-trans, before-without}
use Rattle.mc_pages.proofs.laws.one_before_another.Goals as goal

pub returns-clause-one_way : goal.returns-clause-one_way
returns-clause-one_way c =
    λ first second all once before. elim (cases_Bool (comes_before second first all)) [
      | inl behind ↦ absurd (not_both_before first second all once before behind)
      | inr not ↦ not
    ]

pub returns-clause-through : goal.returns-clause-through
returns-clause-through c = before-trans

pub returns-clause-without : goal.returns-clause-without
returns-clause-without c = before-without
