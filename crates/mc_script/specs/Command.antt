-- Which numbers a command may have.
use Rattle.std.specs.Prelude.{ℕ, ◌^◌, ◌<◌, ◌≤◌, Option, IfSome}
use Rattle.mc_classes.specs.Limits.{most_workers}
use Rattle.mc_script.specs.declared.command.Command.{Command}
use Rattle.mc_script.specs.declared.command.Command.TheVariants.{Set, Delete, Get, Hold, Drop, Touch, Reassign, Automove, Window, Turn, Stats, StatsSlabs}

-- workers are numbered from 1 to `most_workers`
abbrev pub IsWorker : ℕ → Type 0
IsWorker worker = (1 ≤ worker) × (worker ≤ most_workers)

-- a source is none or a number below 2^64
abbrev pub IsSource : Option ℕ → Type 0
IsSource src = IfSome src (λ class. class < 2 ^ 64)

-- a command with a worker's number, at most 4096 words, 1 to 1000000 turns, a mode up to 2, and numbers below 2^64
abbrev pub IsValid : Command → Type 0
IsValid (Set worker key words base) = IsWorker worker × (key < 2 ^ 64) × (words ≤ 4096) × (base < 2 ^ 64)
IsValid (Delete worker key) = IsWorker worker × (key < 2 ^ 64)
IsValid (Get worker key) = IsWorker worker × (key < 2 ^ 64)
IsValid (Hold worker key) = IsWorker worker × (key < 2 ^ 64)
IsValid (Drop worker key) = IsWorker worker × (key < 2 ^ 64)
IsValid (Touch worker key) = IsWorker worker × (key < 2 ^ 64)
IsValid (Reassign src dst) = IsSource src × (dst < 2 ^ 64)
IsValid (Automove mode) = mode ≤ 2
IsValid Window = Unit {0}
IsValid (Turn turns) = (1 ≤ turns) × (turns ≤ 1000000)
IsValid Stats = Unit {0}
IsValid StatsSlabs = Unit {0}
