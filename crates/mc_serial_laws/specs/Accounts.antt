-- What every machine of a run keeps, and what its statistics add up to.
use Rattle.std.specs.Prelude.{◌≡◌, ℕ, ◌+◌, ◌-◌, ◌*◌, ◌≤◌, nat_lt, List, length, slice_index, sum, count_by, Some}
use Rattle.mc_classes.specs.Classes.{Classes, IsClass, per_page_of}
use Rattle.mc_pages.specs.Accounted.{IsAccounted}
use Rattle.mc_script.specs.declared.command.Command.{Command}
use Rattle.mc_script.specs.declared.command.Command.TheVariants.{Stats, StatsSlabs}
use Rattle.mc_watch.specs.Texts.{slabs_text, general_text}
use Rattle.mc_serial_spec.specs.Machine.{Machine, fresh_machine}
use Rattle.mc_serial_spec.specs.Lines.{Outcome, serve, after_all}

-- after these commands every page and every chunk is accounted for
abbrev pub IsAccountedAfter : Classes → ℕ → ℕ → List Command → Type 0
IsAccountedAfter table bulk mode commands = (m : Machine) → after_all (fresh_machine table bulk mode) commands ≡ Some m → IsAccounted m.slabs

-- two texts of statistics add up, where n bytes are granted: that of `stats slabs` and that of `stats`
pub record AddUp (table : Classes) (malloced : ℕ) (slabs general : List ℕ) : Type 0 where
  -- of each class its pages and free chunks; the pages of the pool; and the other numbers
  pub pages : List ℕ
  pub free : List ℕ
  pub pool : ℕ
  pub running : ℕ
  pub moved : ℕ
  pub rescues : ℕ
  pub evictions : ℕ
  pub busy : ℕ
  -- the two texts are those of these numbers
  pub told : slabs ≡ slabs_text table pages free malloced
  pub told_in_general : general ≡ general_text pool running moved rescues evictions busy
  pub pages_of_each : length pages ≡ length table.sizes
  pub free_of_each : length free ≡ length table.sizes
  -- used and free chunks of a class are all that its pages have
  pub chunks : (class : ℕ) → IsClass table class → let total = slice_index pages (class - 1) * per_page_of table class in
      (total - slice_index free (class - 1)) + slice_index free (class - 1) ≡ total
  -- the pages of the classes and of the pool are all that was granted
  pub granted : (sum pages + pool) * table.page ≡ malloced
  -- the granted bytes keep the limit, but for the first page of each class that has a page
  pub within : malloced ≤ table.limit + count_by (nat_lt 0) pages * table.page

-- `stats slabs` after these commands, and `stats` directly behind it, add up
abbrev pub StatisticsAddUp : Classes → ℕ → ℕ → List Command → Type 0
StatisticsAddUp table bulk mode commands = (m : Machine) (first second : Outcome) → after_all (fresh_machine table bulk mode) commands ≡ Some m
    → serve m StatsSlabs ≡ Some first → serve first.machine Stats ≡ Some second → (malloced : ℕ) × AddUp table malloced first.reply second.reply

-- the text of `stats slabs` prints that n bytes are granted
abbrev pub PrintsGranted : Classes → ℕ → List ℕ → Type 0
PrintsGranted table malloced text = (pages free : List ℕ) × (text ≡ slabs_text table pages free malloced)

-- `stats slabs` prints after more commands no fewer granted bytes than before them
abbrev pub GrantedStays : Classes → ℕ → ℕ → List Command → List Command → Type 0
GrantedStays table bulk mode commands more = (m last : Machine) (first then : Outcome) → after_all (fresh_machine table bulk mode) commands ≡ Some m
    → after_all m more ≡ Some last → serve m StatsSlabs ≡ Some first → serve last StatsSlabs ≡ Some then
    → (malloced later : ℕ) × PrintsGranted table malloced first.reply × PrintsGranted table later then.reply × (malloced ≤ later)
