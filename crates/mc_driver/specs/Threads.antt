-- What a run by threads answers, and what it has written by then: nothing, or all at its end.
use Rattle.std.specs.Prelude.{◌≡◌, ℕ, ◌<◌, ◌≤◌, List, length, Option, None, Some, Result, Ok, Err}
use Rattle.std.specs.Io.KnownBytes.{Appends, Keeps}
use Rattle.mc_io.specs.Device.{Extends}
use Rattle.mc_classes.specs.Refusals.{config_refusal}
use Rattle.mc_options.specs.declared.settings.Run.{Run}
use Rattle.mc_script.specs.declared.command.Command.{Command}
use Rattle.mc_script.specs.Script.{script_of}
use Rattle.mc_workers.specs.declared.ended.Ended.{Ended}
use Rattle.mc_workers.specs.declared.ended.Ended.TheVariants as ended
use Rattle.mc_workers.specs.Script.{ServesScript}
use Rattle.mc_driver.specs.declared.fault.RunFault.{RunFault}
use Rattle.mc_driver.specs.declared.fault.RunFault.TheVariants.{Config as Refused, Script, TooLong, Read, Write, Memory, Thread, Turns}
use Rattle.mc_driver.specs.Run.{OfScript, most_bytes, config_refusal_number}

-- how a run ends in which a thread ended early
abbrev pub ended_fault : Ended → RunFault
ended_fault (ended.Memory refused) = Memory refused
ended_fault (ended.Thread unstarted) = Thread unstarted
ended_fault ended.Turns = Turns

-- a text that the threads of the run may write for these lines has the property: the replies, worker by worker, and the statistics
abbrev pub OfText : Run → List Command → (List ℕ → Type 0) → Type 0
OfText run commands Says = (text : List ℕ) × ServesScript run.config run.automove commands text × Says text

-- The run of these bytes by threads ends so, where the writer held `old` before it and holds `new` after it.
abbrev pub IsOutcomeByThreads : Run → List ℕ → Option (List ℕ) → Option (List ℕ) → Result (Unit {0}) RunFault → Type 0
-- done: the replies of all threads were written
IsOutcomeByThreads run bytes old new (Ok unit) = OfScript bytes (λ commands. OfText run commands (λ text. Appends old new text))
-- a thread ran out of turns, or its gate stopped it: nothing was written
IsOutcomeByThreads run bytes old new (Err Turns) = OfScript bytes (λ commands. Keeps old new)
-- memory ran out: nothing was written
IsOutcomeByThreads run bytes old new (Err (Memory refused)) = Keeps old new
-- a thread couldn't be started: nothing was written
IsOutcomeByThreads run bytes old new (Err (Thread unstarted)) = OfScript bytes (λ commands. Keeps old new)
-- refused: nothing was written
IsOutcomeByThreads run bytes old new (Err TooLong) = (most_bytes < length bytes) × Keeps old new
IsOutcomeByThreads run bytes old new (Err (Script number)) = (length bytes ≤ most_bytes) × (script_of bytes ≡ Err number) × Keeps old new
-- the writer failed, once all threads were done, and perhaps holds something of the text
IsOutcomeByThreads run bytes old new (Err Write) = OfScript bytes (λ commands. OfText run commands (λ text. Extends old new))
-- a run by threads ends in no other way
IsOutcomeByThreads run bytes old new (Err (Refused number)) = ⊥
IsOutcomeByThreads run bytes old new (Err Read) = ⊥

-- How a run by threads over these bytes ends, where the writer held `old` before it and holds `new` after it.
abbrev pub IsThreadsOutcome : Run → List ℕ → Option (List ℕ) → Option (List ℕ) → Result (Unit {0}) RunFault → Type 0
-- the configuration is refused: nothing was written
IsThreadsOutcome run bytes old new (Err (Refused number)) = (config_refusal_number run.config ≡ Some number) × Keeps old new
-- the reader failed: nothing was written
IsThreadsOutcome run bytes old new (Err Read) = Keeps old new
-- the threads' run ended so
IsThreadsOutcome run bytes old new result = (config_refusal run.config ≡ None) × IsOutcomeByThreads run bytes old new result
