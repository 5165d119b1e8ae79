-- The changes before an event, by their names and arguments.
use Rattle.std.specs.Prelude.{ℕ, ◌==◌, codes, if◌then◌else◌, List, [], ◌∷◌, Option, Some, None}
use Rattle.std.specs.List.{slice_split}
use Rattle.std.specs.Str.{bytes_eq}
use Rattle.mc_pages.specs.declared.moves.Found.{Found}
use Rattle.mc_pages.specs.declared.moves.Found.TheVariants as found
use Rattle.mc_core.specs.declared.event.Change.{Change}
use Rattle.mc_core.specs.declared.event.Change.TheVariants as change
use Rattle.mc_core.specs.declared.event.StripeChange.TheVariants.{Reserve, Trim}
use Rattle.mc_core.specs.run.Rows.{chunk_at}
use Rattle.mc_script.specs.Words.{◌>>=◌, parsed_number, line_words}
use Rattle.mc_script.specs.Forms.{parsed_source}

-- the kind of find that this name writes
unfoldable pub found_of : List ℕ → Option Found
found_of name =
    if bytes_eq name (codes "Cleared") then Some found.Cleared
    else if bytes_eq name (codes "Rescued") then Some found.Rescued
    else if bytes_eq name (codes "Evicted") then Some found.Evicted
    else if bytes_eq name (codes "Busy") then Some found.Busy
    else if bytes_eq name (codes "Locked") then Some found.Locked
    else if bytes_eq name (codes "Already") then Some found.Already
    else None

-- the change of this name on a class, a mode, a stripe or a key
unfoldable pub number_change : List ℕ → ℕ → Option Change
number_change name number =
    if bytes_eq name (codes "Grow") then Some (change.Grow number)
    else if bytes_eq name (codes "SetAutomove") then Some (change.SetAutomove number)
    else if bytes_eq name (codes "Evicted") then Some (change.Evicted number)
    else if bytes_eq name (codes "Reserve") then Some (change.OfStripe number Reserve)
    else if bytes_eq name (codes "Trim") then Some (change.OfStripe number Trim)
    else if bytes_eq name (codes "GotNone") then Some (change.GotNone number)
    else if bytes_eq name (codes "DelNone") then Some (change.DeletedNone number)
    else None

-- the change that these words write
unfoldable pub change_of : List (List ℕ) → Option Change
change_of (name ∷ []) =
    if bytes_eq name (codes "FinishMove") then Some change.FinishMove
    else if bytes_eq name (codes "Wrap") then Some change.Wrap
    else if bytes_eq name (codes "TrimLedger") then Some change.TrimLedger
    else None
change_of (name ∷ one ∷ []) =
    if bytes_eq name (codes "Passed") then (do
      found ← found_of one
      Some (change.Passed found))
    else (do
      number ← parsed_number one
      number_change name number)
change_of (name ∷ one ∷ two ∷ []) =
    if bytes_eq name (codes "BeginMove") then (do
      src ← parsed_source one
      dst ← parsed_number two
      Some (change.BeginMove src dst))
    else if bytes_eq name (codes "Touch") then (do
      page ← parsed_number one
      index ← parsed_number two
      Some (change.Touch (chunk_at page index)))
    else None
change_of words = None

-- the list of one change and those that follow, if each is one
abbrev pub changes_with : Option Change → Option (List Change) → Option (List Change)
changes_with None rest = None
changes_with (Some change) None = None
changes_with (Some change) (Some rest) = Some (change ∷ rest)

-- the changes that these texts write, if each writes one
abbrev pub changes_in : List (List ℕ) → Option (List Change)
changes_in [] = Some []
changes_in (part ∷ parts) = changes_with (change_of (line_words part)) (changes_in parts)

-- the changes of a text, which commas separate
unfoldable pub changes_of : List ℕ → Option (List Change)
changes_of text = changes_in (slice_split (λ byte. byte == 44) text)
