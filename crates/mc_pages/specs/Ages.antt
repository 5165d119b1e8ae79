-- How old each chunk is, and that the hand-out orders go by age.
use Rattle.std.specs.Prelude.{◌≡◌, ℕ, ◌^◌, ◌<◌, ◌≤◌, List, [], ◌∷◌, length, replicate, slice_index_or, slice_set}
use Rattle.mc_pages.specs.declared.ids.ChunkId.{ChunkId}
use Rattle.mc_pages.specs.declared.ages.Ages.TheInside.{Inside}
use Rattle.mc_pages.specs.declared.rows.ListName.TheVariants.{HandedOut}
use Rattle.mc_pages.specs.ClassState.{times_in, counter_after}
use Rattle.mc_pages.specs.Rows.{RowsState, row_place}
use Rattle.mc_pages.specs.Linked.{list_chunks}

-- an age for each chunk, by the place of its row, and the clock
pub record AgesState : Type 0 where
  pub ages : List ℕ
  pub clock : ℕ

-- the ages as their callers see them
abbrev pub ages_of : Inside → AgesState
ages_of ages = record { ages = ages.ages.items; clock = ages.clock }

-- the ages before any chunk was handed out
abbrev pub fresh_ages : ℕ → AgesState
fresh_ages chunks = record { ages = replicate chunks 0; clock = 0 }

-- the age of the chunk whose row is at this place
abbrev pub age_at : AgesState → ℕ → ℕ
age_at ages place = slice_index_or ages.ages place 0

-- the ages after the chunk at this place got the clock's time as its age, and the clock went on by 1
abbrev pub ages_after_renewal : AgesState → ℕ → AgesState
ages_after_renewal ages place = record { ages = slice_set ages.ages place ages.clock; clock = counter_after ages.clock 1 }

-- one chunk is as old as another
abbrev pub ages_after_inheritance : AgesState → ℕ → ℕ → AgesState
ages_after_inheritance ages new old = record ages { ages = slice_set ages.ages new (age_at ages old) }

-- the age of a chunk, where pages have this many rows
abbrev pub age_of : ℕ → AgesState → ChunkId → ℕ
age_of most ages chunk = age_at ages (row_place most chunk)

-- the ages never fall along the list, and none is past the clock
abbrev pub AreAged : (ChunkId → ℕ) → ℕ → List ChunkId → Type 0
AreAged age clock [] = Unit {0}
AreAged age clock (chunk ∷ chunks) = (age chunk ≤ clock) × ((behind : ChunkId) → 1 ≤ times_in behind chunks → age chunk ≤ age behind) × AreAged age clock chunks

-- each row has an age, each hand-out order goes by age, and the clock fits its word
pub record HasAges (rows : RowsState) (ages : AgesState) : Type 0 where
  pub long : length ages.ages ≡ length rows.rows
  pub clock : ages.clock < 2 ^ 64
  pub order : (class : ℕ) → AreAged (age_of rows.most ages) ages.clock (list_chunks rows (HandedOut class))
