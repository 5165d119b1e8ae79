-- One class more of which something may be told.
use Rattle.std.proofs.Common.{◌≡◌, ℕ, ◌+◌, Bool, true, false, ◌||◌, nat_lt, List, [], ◌∷◌, ◌++◌, All, refl, ap, ap₂, sym, ◌∙◌, inl, inr, arith}
use Rattle.std.specs.Prelude.{filter, map, if◌then◌else◌}
use Rattle.std.specs.List.{range_with_len}
use Rattle.std.proofs.lemmas.Bool.{cases_Bool}
use Rattle.std.proofs.lemmas.List.{map-append}
use Rattle.std.proofs.lemmas.List.Elements.{All-append}
use Rattle.std.proofs.lemmas.List.FromFn.{filter_of_map_range_with_len_more}
use Rattle.mc_pages.specs.ClassState.{numbers_of}
use Rattle.mc_pages.specs.SlabState.{SlabState, class_at}
use Rattle.mc_map.specs.declared.kept.ClassLine.{ClassLine}
use Rattle.mc_map.specs.Map.{is_class_shown, shown_classes, shown_line}

-- what holds of the line holds of it where it is told
all_one : (P : ClassLine → Type 0) (line : ClassLine) (b : Bool) → P line → All P (if b then line ∷ [] else [])
all_one P line true h = grind arith
all_one P line false h = grind arith

pub all_told : (P : ClassLine → Type 0) (lines : List ClassLine) (line : ClassLine) → All P lines → P line → All P (lines ++ shown_line line)
all_told P lines line before h = All-append P lines (shown_line line) before (all_one P line (nat_lt 0 line.pages || nat_lt 0 line.evictions) h)

-- the class of a line that is told
class_of_one : (line : ClassLine) (b : Bool) → map (λ (l : ClassLine). l.class) (if b then line ∷ [] else []) ≡ (if b then line.class ∷ [] else [])
class_of_one line true = refl
class_of_one line false = refl

pub told_more : (slabs : SlabState) (lines : List ClassLine) (line : ClassLine) (place : ℕ)
    → map (λ (l : ClassLine). l.class) lines ≡ shown_classes slabs place → line.class ≡ place + 1
    → line.pages ≡ (numbers_of (class_at slabs line.class)).pages → line.evictions ≡ (numbers_of (class_at slabs line.class)).evictions
    → map (λ (l : ClassLine). l.class) (lines ++ shown_line line) ≡ shown_classes slabs (place + 1)
told_more slabs lines line place before own pages evictions =
    let test : (nat_lt 0 line.pages || nat_lt 0 line.evictions) ≡ is_class_shown (numbers_of (class_at slabs (place + 1))) =
    ap₂ (λ (p e : ℕ). nat_lt 0 p || nat_lt 0 e) pages evictions ∙ ap (λ (class : ℕ). is_class_shown (numbers_of (class_at slabs class))) own in
    map-append (λ (l : ClassLine). l.class) lines (shown_line line)
    ∙ ap₂ (λ (xs ys : List ℕ). xs ++ ys) before (class_of_one line (nat_lt 0 line.pages || nat_lt 0 line.evictions) ∙ ap₂ (λ (b : Bool) (class : ℕ). if b then class ∷ [] else []) test own)
    ∙ sym (filter_of_map_range_with_len_more (λ (class : ℕ). is_class_shown (numbers_of (class_at slabs class))) (λ (k : ℕ). k + 1) 0 place place (omega arith))
