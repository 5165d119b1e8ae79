use Rattle.std.proofs.Common.{◌≡◌, ℕ, Bor, List, drop}
use Rattle.std.specs.Prelude.{map}
use Rattle.serde_json.specs.Data.{no_members}
use Rattle.serde_json.specs.View.{members_view}
use Rattle.mcmap.specs.Json.{number_json, with_members}
use Rattle.mcmap.proofs.json.pairs_value.Given as goal

-- with those that are left the object has all
abbrev pub invariant-loop-name : goal.invariant-loop-name
invariant-loop-name l =
    with_members (members_view l.object.entries) (map (λ (pair : List ℕ × ℕ). (pair.0, number_json pair.1)) (map (λ (pair : Bor (List ℕ) × ℕ). (pair.0.now, pair.1)) (drop l.name-index l.pairs)))
    ≡ with_members no_members (map (λ (pair : List ℕ × ℕ). (pair.0, number_json pair.1)) (map (λ (pair : Bor (List ℕ) × ℕ). (pair.0.now, pair.1)) l.pairs))
