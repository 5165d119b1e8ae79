-- Texts that go on.
use Rattle.std.proofs.Common.{◌≡◌, ℕ, List, [], ◌∷◌, ◌++◌, ◌+◌, length, refl, ap, sym, ◌∙◌, append_assoc, Err, Ok, OnOk, Result, if◌then◌else◌}
use Rattle.mc_pages.specs.declared.ledger.Owner.{Owner}
use Rattle.std.specs.Prelude.{is_ok, map, Option, Some}
use Rattle.mc_pages.specs.declared.ledger.Entry.{Entry}
use Rattle.mc_map.specs.Replays.{replayed_owners}
use Rattle.mc_picture.specs.Charts.{IsChart}
use Rattle.mc_picture.specs.Drawn.{TextExtends, IsDrawn}
use Rattle.mc_picture.specs.Cells.{cells_text}

append_nil : (xs : List ℕ) → xs ++ [] ≡ xs
append_nil [] = refl
append_nil (x ∷ xs) = ap (λ (ys : List ℕ). x ∷ ys) (append_nil xs)

parts : (a b c d : List ℕ) → ((a ++ b) ++ c) ++ d ≡ a ++ (b ++ c ++ d)
parts a b c d = simp append_assoc

-- a text and more
pub extends : (old new more : List ℕ) → new ≡ old ++ more → TextExtends old new
extends old new more is = (more, is)

-- what goes on from a text that goes on from a third goes on from the third
pub extends_on : (old middle new : List ℕ) → TextExtends old middle → TextExtends middle new → TextExtends old new
extends_on old middle new first second = (first.0 ++ second.0, second.1 ∙ ap (λ (l : List ℕ). l ++ second.0) first.1 ∙ append_assoc old first.0 second.0)

-- what is no more is a text itself
pub extends_same : (text : List ℕ) → TextExtends text text
extends_same text = ([], sym (append_nil text))

-- a text that goes on is written on
pub writes : (old middle new more : List ℕ) → TextExtends old middle → new ≡ middle ++ more → TextExtends old new
writes old middle new more first is = extends_on old middle new first (extends middle new more is)

-- the last step, where it succeeds
pub ends_writing : {E : Type 0} (result : Result (Unit {0}) E) (old middle new more : List ℕ) → TextExtends old middle → OnOk result (new ≡ middle ++ more) → OnOk result (TextExtends old new)
ends_writing (Ok done) old middle new more first is = writes old middle new more first is
ends_writing (Err e) old middle new more first is = tt

-- the last step, which leaves the text as it is where it fails
pub ends_pushing : {E : Type 0} (result : Result (Unit {0}) E) (old middle new more : List ℕ) → TextExtends old middle → new ≡ (if is_ok result then middle ++ more else middle) → OnOk result (TextExtends old new)
ends_pushing (Ok done) old middle new more first is = writes old middle new more first is
ends_pushing (Err e) old middle new more first is = tt

-- the last step of several
pub ends_on : {E : Type 0} (result : Result (Unit {0}) E) (old middle new : List ℕ) → TextExtends old middle → OnOk result (TextExtends middle new) → OnOk result (TextExtends old new)
ends_on (Ok done) old middle new first second = extends_on old middle new first second
ends_on (Err e) old middle new first second = tt

-- cells between two texts
pub drawn : (columns : List (List Owner)) (pages : ℕ) (old before after new : List ℕ) → TextExtends old before → after ≡ before ++ cells_text columns pages → TextExtends after new
    → IsDrawn columns pages old new
drawn columns pages old before after new first cells second = record {
  front = first.0;
  back = second.0;
  whole = second.1
      ∙ ap (λ (l : List ℕ). l ++ second.0) (cells ∙ ap (λ (l : List ℕ). l ++ cells_text columns pages) first.1)
      ∙ parts old first.0 (cells_text columns pages) second.0;
}

map_twice : {X : Type 0} (f : X → List Owner) (columns : List X) → map Some (map f columns) ≡ map (λ (x : X). Some (f x)) columns
map_twice f [] = refl
map_twice f (column ∷ more) = ap (λ (rest : List (Option (List Owner))). Some (f column) ∷ rest) (map_twice f more)

-- cells of replays are a chart
pub chart : {X : Type 0} (f : X → List Owner) (columns shown : List X) (pages : ℕ) (entries : List Entry) (old new : List ℕ) → shown ≡ columns
    → map (λ (x : X). Some (f x)) columns ≡ replayed_owners pages entries (length entries + 1) → IsDrawn (map f shown) pages old new → IsChart pages entries old new
chart {X} f columns shown pages entries old new same replayed drawn =
    record { columns = map f shown; replayed = map_twice f shown ∙ ap (map (λ (x : X). Some (f x))) same ∙ replayed; drawn = drawn }
