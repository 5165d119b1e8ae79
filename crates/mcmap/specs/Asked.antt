-- What the words of the command line ask for.
use Rattle.std.specs.Prelude.{ℕ, Bool, true, false, if◌then◌else◌, List, [], ◌∷◌, codes, Option, Some, None, Result, Ok, Err}
use Rattle.std.specs.List.{list_any}
use Rattle.std.specs.Str.{bytes_eq}
use Rattle.mcmap.specs.declared.asked.View.{View}
use Rattle.mcmap.specs.declared.asked.View.TheVariants.{Maps, Json, Chart, Page, Classes, Check, Help}
use Rattle.mcmap.specs.declared.fault.Fault.{Fault}
use Rattle.mcmap.specs.declared.fault.Fault.TheVariants.{Views}

-- the view that a word names, if it names one
abbrev pub view_of_word : List ℕ → Option View
view_of_word word =
    if bytes_eq word (codes "--json") then Some Json
    else if bytes_eq word (codes "--svg") then Some Chart
    else if bytes_eq word (codes "--html") then Some Page
    else if bytes_eq word (codes "--classes") then Some Classes
    else if bytes_eq word (codes "--check") then Some Check
    else if bytes_eq word (codes "--help") then Some Help
    else if bytes_eq word (codes "-h") then Some Help
    else None

-- the view is the help
abbrev pub is_help : View → Bool
is_help Help = true
is_help view = false

-- the view to show where words name these views, and not the help: the maps where none is named, and else the one view
abbrev pub only_view : List View → Result View Fault
only_view [] = Ok Maps
only_view (view ∷ []) = Ok view
only_view (view ∷ other ∷ more) = Err Views

-- the view to show where words name these views: the help where it is among them, and else the only one
abbrev pub view_among : List View → Result View Fault
view_among views = if list_any is_help views then Ok Help else only_view views
