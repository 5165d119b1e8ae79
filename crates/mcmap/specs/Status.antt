-- The status that the program ends with, by what kept it from being done.
use Rattle.std.specs.Prelude.{ℕ}
use Rattle.mcmap.specs.declared.fault.Fault.{Fault}
use Rattle.mcmap.specs.declared.fault.Fault.TheVariants.{Options, Words, Threads, Views, Moments, Config, Script, TooLong, Read, Write, Memory, Turns, Chart, Books, WrongOptions, WrongLines}

-- 1 for what the program is started with; 2 for the script; 3 for a stream; 4 for memory; 5 for turns past the limit; 6 for its own books
abbrev pub map_status : Fault → ℕ
map_status (Options error) = 1
map_status Words = 1
map_status Threads = 1
map_status Views = 1
map_status Moments = 1
map_status (Config number) = 1
map_status Chart = 1
map_status (Script line) = 2
map_status TooLong = 2
map_status Read = 3
map_status Write = 3
map_status Memory = 4
map_status Turns = 5
map_status Books = 6
map_status WrongOptions = 1
map_status (WrongLines count) = 2
