use Rattle.std.proofs.Common.{ap, unwrap_or, rules, ◌∙◌}
use Rattle.std.proofs.lemmas.Iterator.{YieldsList-from_map, YieldsList-from_slice}
use Rattle.std.proofs.lemmas.Iterator.Consumers.{reduce_from_yields_List}
use Rattle.std.proofs.lemmas.List.Folds.{max_of_map}
use Rattle.mc_workers.specs.Asking.{asking_worker}
use Rattle.mc_workers.proofs.script.greatest_worker.Goals as goal

pub returns-clause-greatest : goal.returns-clause-greatest
returns-clause-greatest c =
    let commands = c.args.commands.now in
    c.unwrap_or.ensures
    ∙ ap (λ o. unwrap_or o 0) (reduce_from_yields_List _ c.map.result _ c.max.ensures.ran
    (YieldsList-from_map _ asking_worker (YieldsList-from_slice commands cc) c.map.ensures.closure (λ x b q k. search rules)))
    ∙ max_of_map asking_worker commands
