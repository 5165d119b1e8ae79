use Rattle.std.proofs.Common.{◌∙◌, inl, inr, refl, subst, suc, zero}
use Rattle.mc_cache.specs.declared.cache.Worker.{Worker}
use Rattle.mc_cache.specs.Belonging.{KeepsHands}
use Rattle.mc_expiry.proofs.expiry.Expiry.store_until.Goals as goal

pub loop-init : goal.loop-init
loop-init g c = (c.requires, inl refl, refl)

pub store_once-requires : goal.store_once-requires
store_once-requires g c = c.loop.invariant.0

pub returns-in-Some-store_once-clause-same : goal.returns-in-Some-store_once-clause-same
returns-in-Some-store_once-clause-same g c = λ no. elim c.loop.invariant.1 [
  | inl same ↦ subst (λ (w : Worker). KeepsHands w c.store_once.new.worker) same (c.store_once.ensures.same no)
  | inr known ↦ absurd (no known.0)
]

pub returns-in-Some-store_once-clause-stores : goal.returns-in-Some-store_once-clause-stores
returns-in-Some-store_once-clause-stores g c = λ is. elim c.loop.invariant.1 [
  | inl same ↦ record { times = zero; between = c.loop.worker; vain = same; ends = c.in-Some-store_once.ensures.ends is }
  | inr known ↦ record { times = known.1.0; between = c.loop.worker; vain = known.1.1; ends = c.in-Some-store_once.ensures.ends is }
]

pub loop-preserved : goal.loop-preserved
loop-preserved g c =
    let again = c.in_default.ensures.again refl in (
      c.store_once.ensures.belongs,
      inr (
        again.0,
        elim c.loop.invariant.1 [
          | inl same ↦ (suc zero, (c.loop.worker, same, again.1))
          | inr known ↦ (suc known.1.0, (c.loop.worker, known.1.1, again.1))
        ],
      ),
      c.store_once.ensures.count ∙ c.loop.invariant.2,
    )
