-- Surveys: the numbers of all classes and of the whole, as they are under one hold of the lock of the slabs.
use Rattle.std.specs.Prelude.{◌≡◌, ℕ, Bool, List, [], ◌∷◌, length, map, is_some, if◌then◌else◌}
use Rattle.std.specs.List.{range_with_len}
use Rattle.mc_pages.specs.ClassState.{numbers_of}
use Rattle.mc_pages.specs.SlabState.{SlabState, class_at, totals_of}
use Rattle.mc_words.specs.hand.View.{View}
use Rattle.mc_words.specs.lock.Doing.{SlabsDoing}
use Rattle.mc_words.specs.chunk.Sweeps.{Sweeps}
use Rattle.mc_mover.specs.declared.numbers.Survey.{Survey}

-- the dead of these classes were put back, class by class
abbrev pub SweepsClasses : List ℕ → SlabsDoing
SweepsClasses [] view slabs now left = (now ≡ view) × (left ≡ slabs)
SweepsClasses (class ∷ classes) view slabs now left =
    (next : View) × (between : SlabState) × Sweeps (class_at slabs class).order view slabs next between × SweepsClasses classes next between now left

-- the classes that are swept: all, the lowest first, or none
abbrev pub classes_swept : Bool → SlabState → List ℕ
classes_swept sweep slabs = if sweep then range_with_len 1 (length slabs.classes) else []

-- the survey has the numbers of these pages and lists, whether a move runs, and the mode
pub record IsSurvey (slabs : SlabState) (survey : Survey) : Type 0 where
  pub classes : survey.classes.items ≡ map numbers_of slabs.classes
  pub totals : survey.totals ≡ totals_of slabs
  pub running : survey.running ≡ is_some slabs.moving
  pub mode : survey.mode ≡ slabs.automove

-- of each class, class 1 first, how many of its items were ever evicted to make room
abbrev pub evictions_in : Survey → List ℕ
evictions_in survey = map (λ numbers. numbers.evictions) survey.classes.items

-- of each class, class 1 first, how many pages it has
abbrev pub pages_in : Survey → List ℕ
pages_in survey = map (λ numbers. numbers.pages) survey.classes.items

-- of each class, class 1 first, how many free chunks it has
abbrev pub free_in : Survey → List ℕ
free_in survey = map (λ numbers. numbers.free) survey.classes.items

-- the dead chunks were put back, if that was asked for, and the survey is of what was left then
pub record Surveys (sweep : Bool) (survey : Survey) (view : View) (slabs : SlabState) (now : View) (left : SlabState) : Type 0 where
  pub sweeps : SweepsClasses (classes_swept sweep slabs) view slabs now left
  pub is : IsSurvey left survey
