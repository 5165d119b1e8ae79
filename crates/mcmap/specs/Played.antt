-- What a script makes of a machine and its books, and what is shown of it.
use Rattle.std.specs.Prelude.{◌≡◌, ℕ, ◌==◌, if◌then◌else◌, List, [], ◌∷◌, ◌++◌, codes, decimal, length, max, min, slice_range, Some}
use Rattle.std.specs.Option.{option_map}
use Rattle.mc_script.specs.declared.command.Command.{Command}
use Rattle.mc_serial_spec.specs.Lines.{serve}
use Rattle.mc_serial_spec.specs.Machine.{Machine}
use Rattle.mc_classes.specs.declared.config.Config.{Config}
use Rattle.mc_classes.specs.Classes.{Classes, IsTableOf, page_limit}
use Rattle.mc_serial_spec.specs.Machine.{fresh_machine}
use Rattle.mc_options.specs.declared.settings.Run.{Run}
use Rattle.mc_map.specs.Books.{Book, fresh_books}
use Rattle.mc_map.specs.declared.map.Map.{Map}
use Rattle.mc_map.specs.Map.{IsMap, books_after}
use Rattle.mc_map.specs.declared.script.Mark.{Mark}
use Rattle.mc_picture.specs.Charts.{IsChart}
use Rattle.mc_picture.specs.Maps.{map_text}
use Rattle.mc_picture.specs.Rows.{class_table_rows}
use Rattle.mc_picture.specs.Tables.{class_table_text}
use Rattle.serde_json.specs.Written.{compact_text}
use Rattle.mcmap.specs.Json.{map_json}
use Rattle.mcmap.specs.declared.show.Form.{Form}
use Rattle.mcmap.specs.declared.show.Form.TheVariants.{Text, Json}

-- the commands lead from a machine and its books to others: each is done as the plain machine does it, and recorded in the books
abbrev pub LeadTo : List Command → Machine → Book → Machine → Book → Type 0
LeadTo [] m book after later = (after ≡ m) × (later ≡ book)
LeadTo (command ∷ more) m book after later =
    (next : Machine) × (option_map (λ served. served.machine) (serve m command) ≡ Some next) × LeadTo more next (books_after book m command next) after later

-- a chart of the ledger that these commands make is behind the old text, from a memory as the run configures it
pub record IsChartOf (run : Run) (commands : List Command) (old new : List ℕ) : Type 0 where
  pub table : Classes
  pub is_table : IsTableOf run.config table
  pub machine : Machine
  pub books : Book
  pub played : LeadTo commands (fresh_machine table run.config.bulk run.automove) (fresh_books table) machine books
  pub chart : IsChart (length books.owners) books.ledger old new

-- the class table of this configuration is behind the old text
pub record IsClassesOf (config : Config) (old new : List ℕ) : Type 0 where
  pub table : Classes
  pub is_table : IsTableOf config table
  pub text : new ≡ old ++ class_table_text (page_limit table) table.page (class_table_rows table (length table.sizes))

-- the text of a map's place in the script: this line, or the end, which is line 0
unfoldable pub place_text : ℕ → List ℕ
place_text line = if line == 0 then codes "at the end" else codes "at line " ++ decimal line

-- the map in this form is behind the old text: as text under a heading with its place, or as a line of JSON with the line of its mark, 0
-- for the end
abbrev pub IsMapIn : Form → ℕ → Map → List ℕ → List ℕ → Type 0
IsMapIn Text line map old new = new ≡ old ++ map_text (place_text line) map
IsMapIn Json line map old new = new ≡ old ++ (compact_text (map_json line map) ++ codes "\n")

-- a map of this machine and these books in this form is behind the old text
pub record IsMapShown (form : Form) (line : ℕ) (m : Machine) (books : Book) (old new : List ℕ) : Type 0 where
  pub keys : List ℕ
  pub map : Map
  pub is_map : IsMap m books keys map
  pub text : IsMapIn form line map old new

-- the commands lead from a machine and its books to others, of which a map is behind the old text
pub record PlaysAndShows (form : Form) (line : ℕ) (commands : List Command) (m : Machine) (book : Book) (old : List ℕ) (after : Machine) (later : Book) (new : List ℕ) : Type 0 where
  pub played : LeadTo commands m book after later
  pub shown : IsMapShown form line after later old new

-- how many of n commands are done at a mark: those above it, or as many as were done already
abbrev pub done_at : ℕ → ℕ → Mark → ℕ
done_at count done mark = max (min mark.done count) done

-- where n commands were done, maps are behind the old text: one at each of these marks, of what the commands above it lead to, and one at
-- the end
abbrev pub ShowsMaps : Form → List Command → ℕ → List Mark → Machine → Book → List ℕ → List ℕ → Type 0
ShowsMaps form commands done [] m book old new =
    (after : Machine) × (later : Book) × PlaysAndShows form 0 (slice_range commands done (length commands)) m book old after later new
ShowsMaps form commands done (mark ∷ marks) m book old new =
    (after : Machine) × (later : Book) × (text : List ℕ)
    × PlaysAndShows form mark.line (slice_range commands done (done_at (length commands) done mark)) m book old after later text
    × ShowsMaps form commands (done_at (length commands) done mark) marks after later text new

-- the maps of these commands and marks are behind the old text, from a memory as the run configures it
pub record AreMapsOf (form : Form) (run : Run) (commands : List Command) (marks : List Mark) (old new : List ℕ) : Type 0 where
  pub table : Classes
  pub is_table : IsTableOf run.config table
  pub shown : ShowsMaps form commands 0 marks (fresh_machine table run.config.bulk run.automove) (fresh_books table) old new
