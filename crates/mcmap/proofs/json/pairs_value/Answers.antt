use Rattle.std.proofs.Common.{Bor, ℕ, List, ap, sym, ◌∙◌}
use Rattle.std.specs.Prelude.{map}
use Rattle.serde_json.specs.Data.{object}
use Rattle.serde_json.specs.View.{members_view}
use Rattle.serde_json.proofs.Views.{view-Object}
use Rattle.mcmap.specs.Json.{number_json, with_members}
use Rattle.mcmap.proofs.PlayedMore.{drop_all}
use Rattle.mcmap.proofs.json.pairs_value.Goals as goal

pub returns : goal.returns
returns c =
    let none_left = drop_all c.args.pairs.now c.loop-name.name-index c.loop-name-test.false in
    let all = λ (pairs : List (Bor (List ℕ) × ℕ)). with_members (members_view c.loop-name.object.entries) (map (λ (pair : List ℕ × ℕ). (pair.0, number_json pair.1)) (map (λ (pair : Bor (List ℕ) × ℕ). (pair.0.now, pair.1)) pairs)) in
    view-Object c.loop-name.object ∙ ap object (sym (ap all none_left) ∙ c.loop-name.invariant)
