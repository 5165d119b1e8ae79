-- The line of an event.
use Rattle.std.specs.Prelude.{ℕ, ◌+◌, ◌==◌, drop, position, take, codes, if◌then◌else◌, List, [], ◌∷◌, Option, Some, None}
use Rattle.std.specs.Str.{bytes_eq}
use Rattle.mc_core.specs.declared.event.Change.{Change}
use Rattle.mc_core.specs.declared.event.Event.{Event}
use Rattle.mc_core.specs.declared.event.Step.{Step}
use Rattle.mc_script.specs.Words.{◌>>=◌, parsed_number, line_words}
use Rattle.mc_replay.specs.Changes.{changes_of}
use Rattle.mc_replay.specs.Steps.{step_of}

-- the hand and the step that these words write
unfoldable pub deed_of : List (List ℕ) → Option (ℕ × Step)
deed_of (verb ∷ hand ∷ name ∷ arguments) =
    if bytes_eq verb (codes "e") then (do
      h ← parsed_number hand
      s ← step_of name arguments
      Some (h, s))
    else None
deed_of words = None

-- the event of this hand and step, after these changes
unfoldable pub event_after : List Change → Option (ℕ × Step) → Option Event
event_after before None = None
event_after before (Some deed) = Some (record { hand = deed.0; before = before; step = deed.1 })

-- the event of this hand and step, after these changes, if they are readable
abbrev pub event_if : Option (List Change) → Option (ℕ × Step) → Option Event
event_if None deed = None
event_if (Some before) deed = event_after before deed

-- the event that a line writes whose first colon, if it has one, is at this place
abbrev pub event_at : List ℕ → Option ℕ → Option Event
event_at line None = event_after [] (deed_of (line_words line))
event_at line (Some colon) = event_if (changes_of (drop (colon + 1) line)) (deed_of (line_words (take colon line)))

-- the event that a line writes
unfoldable pub written_event : List ℕ → Option Event
written_event line = event_at line (position (λ byte. byte == 58) line)
