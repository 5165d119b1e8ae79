-- The lines of the classes, as far as they have come.
use Rattle.std.proofs.Common.{◌≡◌, ◌≢◌, ℕ, ◌+◌, ◌<◌, List, [], ◌++◌, length, drop, get_or, refl, sym, ap, ap₂, ◌∙◌, append_assoc}
use Rattle.std.specs.Prelude.{if◌then◌else◌, ◌==◌}
use Rattle.std.proofs.lemmas.Bool.{ne_eqb}
use Rattle.std.proofs.lemmas.List.{drop_more}
use Rattle.mc_classes.specs.Classes.{Classes, size_of, per_page_of}
use Rattle.mc_watch.specs.Texts.{class_lines, classes_lines}

-- the lines of the class at a place, if it has pages
abbrev pub lines_at : Classes → List ℕ → List ℕ → ℕ → List ℕ
lines_at table pages free place =
    if get_or pages place 0 == 0 then []
    else class_lines (place + 1) (size_of table (place + 1)) (per_page_of table (place + 1)) (get_or pages place 0) (get_or free place 0)

-- the lines of the next class go to those so far
pub lines_more : (table : Classes) (pages free : List ℕ) (place : ℕ) (lines all : List ℕ) → place < length pages → place < length free
    → lines ++ classes_lines table (place + 1) (drop place pages) (drop place free) ≡ all
    → (lines ++ lines_at table pages free place) ++ classes_lines table (place + 1 + 1) (drop (place + 1) pages) (drop (place + 1) free) ≡ all
lines_more table pages free place lines all in_pages in_free is =
    append_assoc lines (lines_at table pages free place) _
    ∙ ap (λ rest. lines ++ rest)
    (sym (ap₂ (λ (ps fs : List ℕ). classes_lines table (place + 1) ps fs) (drop_more pages place 0 in_pages) (drop_more free place 0 in_free)))
    ∙ is

-- a class without pages has no lines
pub lines_at_none : (table : Classes) (pages free : List ℕ) (place : ℕ) → get_or pages place 0 ≡ 0 → lines_at table pages free place ≡ []
lines_at_none table pages free place none = rw none refl

-- and one with pages has six
pub lines_at_some : (table : Classes) (pages free : List ℕ) (place size per_page : ℕ) → get_or pages place 0 ≢ 0
    → size ≡ size_of table (place + 1) → per_page ≡ per_page_of table (place + 1)
    → lines_at table pages free place ≡ class_lines (place + 1) size per_page (get_or pages place 0) (get_or free place 0)
lines_at_some table pages free place size per_page some size_is per_page_is =
    rw (ne_eqb (get_or pages place 0) 0 some) (ap₂ (λ (s p : ℕ). class_lines (place + 1) s p (get_or pages place 0) (get_or free place 0)) (sym size_is) (sym per_page_is))
