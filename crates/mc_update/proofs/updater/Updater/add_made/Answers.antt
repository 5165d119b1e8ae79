use Rattle.std.proofs.Common.{◌∙◌, ℕ, List, inl, inr, refl, subst, suc, zero}
use Rattle.mc_cache.specs.declared.cache.Worker.{Worker}
use Rattle.mc_cache.specs.Belonging.{KeepsHands}
use Rattle.mc_update.specs.Adding.{EndsAdding, MissesAdd}
use Rattle.mc_update.specs.Updates.{FindsNoValue, stored_by}
use Rattle.mc_update.proofs.updater.Updater.add_made.Goals as goal

pub loop-init : goal.loop-init
loop-init g c = (c.requires, refl, inl refl)

pub add_once-requires : goal.add_once-requires
add_once-requires g c = c.loop.invariant.0

pub returns-in-Some-add_once-clause-same : goal.returns-in-Some-add_once-clause-same
returns-in-Some-add_once-clause-same g c = λ no. elim c.loop.invariant.2 [
  | inl same ↦ subst (λ (w : Worker). KeepsHands w c.add_once.new.worker) same (c.add_once.ensures.same no)
  | inr known ↦ absurd (no known.0)
]

pub returns-in-Some-add_once-clause-adds : goal.returns-in-Some-add_once-clause-adds
returns-in-Some-add_once-clause-adds g c = λ is.
    let ends = subst (λ (made : List ℕ). EndsAdding c.args.cache.now c.args.key.now made (stored_by c.add_once.new.self) c.in-Some-add_once.result c.loop.worker c.add_once.new.worker) c.loop.invariant.1 (c.in-Some-add_once.ensures.ends is) in
    elim c.loop.invariant.2 [
      | inl same ↦ record { times = zero; between = c.loop.worker; vain = same; ends = ends }
      | inr known ↦ record { times = known.1.0; between = c.loop.worker; vain = known.1.1; ends = ends }
    ]

pub loop-preserved : goal.loop-preserved
loop-preserved g c =
    let again = c.in_default.ensures.again refl in
    let missed = subst (λ (made : List ℕ). MissesAdd c.args.cache.now c.args.key.now made (FindsNoValue c.args.cache.now c.args.key.now) c.loop.worker c.add_once.new.worker) c.loop.invariant.1 again.1 in (
      c.add_once.ensures.belongs,
      c.in_default.ensures.kept refl ∙ c.loop.invariant.1,
      inr (
        again.0,
        elim c.loop.invariant.2 [
          | inl same ↦ (suc zero, (c.loop.worker, same, missed))
          | inr known ↦ (suc known.1.0, (c.loop.worker, known.1.1, missed))
        ],
      ),
    )
