-- One value more in a row, and a whole row.
use Rattle.std.proofs.Common.{◌≡◌, ℕ, ◌+◌, ◌<◌, ◌≤◌, List, [], ◌∷◌, ◌++◌, Vec, Global, length, get_or, take, ap, ap₂, sym, ◌∙◌}
use Rattle.std.specs.Prelude.{map}
use Rattle.std.proofs.lemmas.List.{map-append, take_all, take_more}
use Rattle.serde_json.specs.Data.{Data, array}
use Rattle.serde_json.specs.View.{items_of, view}
use Rattle.serde_json.specs.declared.value.Value.{Value, Array}
use Rattle.serde_json.proofs.Views.{view-Array}
use Rattle.mcmap.specs.Json.{row_json}

module _ {X : Type 0} (json : X → Data) (all : List X) (place : ℕ) where
  -- with what this one is, the row is that of one more
  pub row_more : (row more : List Value) (value : Value) (x other : X) → map view row ≡ map json (take place all) → more ≡ row ++ value ∷ []
      → place < length all → x ≡ get_or all place other → view value ≡ json x → map view more ≡ map json (take (place + 1) all)
  row_more row more value x other so pushed within is seen =
      ap (map view) pushed
      ∙ map-append view row (value ∷ [])
      ∙ ap₂ (λ front last. front ++ last ∷ []) so (seen ∙ ap json is)
      ∙ sym (map-append json (take place all) (get_or all place other ∷ []))
      ∙ ap (map json) (sym (take_more all place other within))

  -- where none is left, it is that of all
  pub row_done : (row : Vec Value Global) → map view row.items ≡ map json (take place all) → length all ≤ place → view (Array row) ≡ row_json json all
  row_done row so past = view-Array row ∙ ap (λ (values : List Data). array (items_of values)) (so ∙ ap (map json) (take_all place all past))
