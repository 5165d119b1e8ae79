use Rattle.std.proofs.Common.{ℕ, ◌+◌, Option, option_map, ap, ◌∙◌, rules, tests}
use Rattle.std.proofs.lemmas.Iterator.{YieldsList-from_slice}
use Rattle.std.proofs.lemmas.Iterator.Search.{position_from_yields_List}
use Rattle.mc_watch.specs.Remembered.{remembered_has_spare_page}
use Rattle.mc_watch.proofs.Places.{class_at_place}
use Rattle.mc_watch.proofs.watched.spare_class.Goals as goal

pub returns : goal.returns
returns c =
    class_at_place _ _ _ (λ x y k. search rules) c.map.ensures.cases
    ∙ ap (λ (place : Option ℕ). option_map (λ place. place + 1) place)
    (position_from_yields_List remembered_has_spare_page _ _ _ c.position.ensures.ran (YieldsList-from_slice c.args.classes.now cc) (λ x b q k. search (rules, tests)))
