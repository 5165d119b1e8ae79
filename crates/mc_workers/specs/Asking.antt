-- Whose line a command is.
use Rattle.std.specs.Prelude.{ℕ, ◌==◌, Bool, false, not, List, filter, fold, Option, Some, None, is_some, max}
use Rattle.std.specs.Option.{option_map_or}
use Rattle.mc_script.specs.declared.command.Command.{Command}
use Rattle.mc_script.specs.declared.command.Command.TheVariants.{Set, Delete, Get, Hold, Drop, Touch}

-- the worker of a line, and the key that the line is about
pub record AskedLine : Type 0 where
  pub worker : ℕ
  pub key : ℕ

-- the worker and the key of a worker's line, none where the line is the mover's
abbrev pub asked_by : Command → Option AskedLine
asked_by (Set worker key words base) = Some (record { worker = worker; key = key })
asked_by (Delete worker key) = Some (record { worker = worker; key = key })
asked_by (Get worker key) = Some (record { worker = worker; key = key })
asked_by (Hold worker key) = Some (record { worker = worker; key = key })
asked_by (Drop worker key) = Some (record { worker = worker; key = key })
asked_by (Touch worker key) = Some (record { worker = worker; key = key })
asked_by other = None

-- the line is a worker's
abbrev pub is_workers : Command → Bool
is_workers command = is_some (asked_by command)

-- the line is this worker's
abbrev pub is_asked_by : ℕ → Command → Bool
is_asked_by worker command = option_map_or (λ asked. asked.worker == worker) (asked_by command) false

-- the lines of this worker, in order
abbrev pub lines_of : ℕ → List Command → List Command
lines_of worker commands = filter (is_asked_by worker) commands

-- the line is the mover's, as it is no worker's
abbrev pub is_movers : Command → Bool
is_movers command = not (is_workers command)

-- the lines of the mover, in order
abbrev pub lines_of_mover : List Command → List Command
lines_of_mover commands = filter is_movers commands

-- the worker whose line a command is; the mover is worker 0
abbrev pub asking_worker : Command → ℕ
asking_worker command = option_map_or (λ asked. asked.worker) (asked_by command) 0

-- the greatest worker of the lines, and 0 where all are the mover's
abbrev pub greatest_worker : List Command → ℕ
greatest_worker commands = fold (λ greatest command. max greatest (asking_worker command)) 0 commands
