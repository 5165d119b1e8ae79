-- The steps of events, by their names and arguments.
use Rattle.std.specs.Prelude.{ℕ, codes, if◌then◌else◌, List, [], ◌∷◌, Option, Some, None}
use Rattle.std.specs.Str.{bytes_eq}
use Rattle.mc_core.specs.declared.event.Step.{Step}
use Rattle.mc_core.specs.declared.event.Step.TheVariants as step
use Rattle.mc_core.specs.run.Rows.{chunk_at}
use Rattle.mc_script.specs.Words.{◌>>=◌, parsed_number}

-- the steps without arguments
unfoldable pub bare_step : List ℕ → Option Step
bare_step name =
    if bytes_eq name (codes "TakeSlabs") then Some step.TakeSlabs
    else if bytes_eq name (codes "MissSlabs") then Some step.MissSlabs
    else if bytes_eq name (codes "GiveSlabs") then Some step.GiveSlabs
    else None

-- the step of this name on a stripe, a class or a key
unfoldable pub number_step : List ℕ → ℕ → Option Step
number_step name number =
    if bytes_eq name (codes "TakeStripe") then Some (step.TakeStripe number)
    else if bytes_eq name (codes "MissStripe") then Some (step.MissStripe number)
    else if bytes_eq name (codes "GiveStripe") then Some (step.GiveStripe number)
    else if bytes_eq name (codes "Pop") then Some (step.Pop number)
    else if bytes_eq name (codes "Refer") then Some (step.Refer number)
    else if bytes_eq name (codes "Unlink") then Some (step.Unlink number)
    else None

-- the step of this name on a chunk, or a join of two hands
unfoldable pub chunk_step : List ℕ → ℕ → ℕ → Option Step
chunk_step name page index =
    if bytes_eq name (codes "Head") then Some (step.Head (chunk_at page index))
    else if bytes_eq name (codes "PopOff") then Some (step.PopOff (chunk_at page index))
    else if bytes_eq name (codes "Link") then Some (step.Link (chunk_at page index))
    else if bytes_eq name (codes "Release") then Some (step.Release (chunk_at page index))
    else if bytes_eq name (codes "Discard") then Some (step.Discard (chunk_at page index))
    else if bytes_eq name (codes "Condemn") then Some (step.Condemn (chunk_at page index))
    else if bytes_eq name (codes "PutBack") then Some (step.PutBack (chunk_at page index))
    else if bytes_eq name (codes "Clear") then Some (step.Clear (chunk_at page index))
    else if bytes_eq name (codes "Cut") then Some (step.Cut page index)
    else if bytes_eq name (codes "Join") then Some (step.Join page index)
    else None

-- the step of this name on a chunk, with a place in it or an issue number
unfoldable pub place_step : List ℕ → ℕ → ℕ → ℕ → Option Step
place_step name page index place =
    if bytes_eq name (codes "Word") then Some (step.Word (chunk_at page index) place)
    else if bytes_eq name (codes "WordHeld") then Some (step.WordHeld (chunk_at page index) place)
    else if bytes_eq name (codes "Again") then Some (step.Again (chunk_at page index) place)
    else None

-- the step of this name with these arguments
unfoldable pub step_of : List ℕ → List (List ℕ) → Option Step
step_of name [] = bare_step name
step_of name (one ∷ []) = do
  number ← parsed_number one
  number_step name number
step_of name (one ∷ two ∷ []) = do
  page ← parsed_number one
  index ← parsed_number two
  chunk_step name page index
step_of name (one ∷ two ∷ three ∷ []) = do
  page ← parsed_number one
  index ← parsed_number two
  place ← parsed_number three
  place_step name page index place
step_of name (one ∷ two ∷ three ∷ four ∷ []) =
    if bytes_eq name (codes "Fill") then (do
      page ← parsed_number one
      index ← parsed_number two
      place ← parsed_number three
      word ← parsed_number four
      Some (step.Fill (chunk_at page index) place word))
    else None
step_of name arguments = None
