use Rattle.std.proofs.Common.{List, [], ◌∷◌, ◌++◌, refl}
use Rattle.mc_words.specs.declared.hand.Hand.{Hand}
use Rattle.mc_mover.specs.declared.counts.Turn.{Turn}
use Rattle.mc_workers.specs.Moving.{TurnsEach}
use Rattle.mc_workers.proofs.mover_laws.turns_are_counted.Goals as goal

come_apart : (first others : List Turn) (before now : Hand) → TurnsEach (first ++ others) before now → (between : Hand) × TurnsEach first before between × TurnsEach others between now
come_apart [] others before now does = (before, refl, does)
come_apart (turn ∷ first) others before now (next, acts, tells, rest) =
    let (between, begins, ends) = come_apart first others next now rest in
    (between, (next, acts, tells, begins), ends)

pub returns-clause-in_order : goal.returns-clause-in_order
returns-clause-in_order c = come_apart
