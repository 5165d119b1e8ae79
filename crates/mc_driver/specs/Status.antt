-- The status that a program ends with, by what kept its run from being done.
use Rattle.std.specs.Prelude.{ℕ}
use Rattle.mc_driver.specs.declared.fault.RunFault.{RunFault}
use Rattle.mc_driver.specs.declared.fault.RunFault.TheVariants.{Config, Script, TooLong, Read, Write, Memory, Thread, Turns}

-- 1 for what the program is started with; 2 for the script; 3 for a stream; 4 for memory and for threads; 5 for turns past the limit
abbrev pub status_of : RunFault → ℕ
status_of (Config number) = 1
status_of (Script line) = 2
status_of TooLong = 2
status_of Read = 3
status_of Write = 3
status_of (Memory refused) = 4
status_of (Thread unstarted) = 4
status_of Turns = 5
