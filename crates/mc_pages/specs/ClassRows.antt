-- A class's lists in the rows, and what a change of the class changes there.
use Rattle.std.specs.Prelude.{◌≡◌, ◌≢◌, ℕ}
use Rattle.mc_pages.specs.declared.rows.ListName.TheVariants.{Free, HandedOut}
use Rattle.mc_pages.specs.ClassState.{ClassState}
use Rattle.mc_pages.specs.Rows.{RowsState, IsList}
use Rattle.mc_pages.specs.Linked.{AreLinked, list_chunks, sizes_of}

-- both lists of the class at this place are in the rows
abbrev pub IsPlace : RowsState → ℕ → Type 0
IsPlace rows place = IsList rows (Free place) × IsList rows (HandedOut place)

-- a class with the lists that the rows have for it
abbrev pub with_lists : ClassState → RowsState → ℕ → ClassState
with_lists class rows place = record class { free = list_chunks rows (Free place); order = list_chunks rows (HandedOut place) }

-- the class at this place changed by this function, and no other class changed
pub record HasBecome (before after : RowsState) (place : ℕ) (change : ClassState → ClassState) : Type 0 where
  pub linked : AreLinked after
  pub sizes : sizes_of after ≡ sizes_of before
  pub here : (class : ClassState) → with_lists class after place ≡ change (with_lists class before place)
  pub others : (class : ClassState) (other : ℕ) → other ≢ place → with_lists class after other ≡ with_lists class before other
