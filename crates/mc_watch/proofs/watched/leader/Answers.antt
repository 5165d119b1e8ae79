use Rattle.std.proofs.Common.{ℕ, ◌+◌, nat_lt, ◌&&◌, Option, option_map, ap, ◌∙◌, rules, tests}
use Rattle.std.specs.Prelude.{◌==◌}
use Rattle.std.proofs.lemmas.Iterator.{YieldsList-from_slice}
use Rattle.std.proofs.lemmas.Iterator.Search.{position_from_yields_List}
use Rattle.mc_watch.specs.declared.watched.Watched.{Watched}
use Rattle.mc_watch.specs.Remembered.{lowest_watched}
use Rattle.mc_watch.proofs.Places.{class_at_place}
use Rattle.mc_watch.proofs.watched.leader.Goals as goal

pub returns : goal.returns
returns c =
    let leads = λ (greatest : ℕ) (class : Watched). nat_lt 0 class.rise && class.rise == greatest in
    class_at_place _ _ _ (λ x y k. search rules) c.map.ensures.cases
    ∙ ap (λ (place : Option ℕ). option_map (λ place. place + 1) place)
    (position_from_yields_List (leads c.greatest_rise-greatest.result) _ _ _ c.position.ensures.ran (YieldsList-from_slice c.args.classes.now cc) (λ x b q k. search (rules, tests)))
    ∙ ap (λ (greatest : ℕ). lowest_watched (leads greatest) c.args.classes.now) c.greatest_rise-greatest.ensures
