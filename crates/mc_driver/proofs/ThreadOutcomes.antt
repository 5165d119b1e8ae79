-- How a run by threads ends, from how its parts ended.
use Rattle.std.proofs.Common.{◌≡◌, ℕ, List, take, Option, Some, None, Result, Ok, Err, refl}
use Rattle.std.specs.Prelude.{IfSome}
use Rattle.std.proofs.KnownBytes.{Keeps-refl}
use Rattle.mc_classes.specs.declared.config.ConfigError.{ConfigError}
use Rattle.mc_classes.specs.declared.config.ConfigError.TheVariants.{PageSize, FirstSize, Factor, ChunkMax, Limit, Stripes, TooManyChunks, Bulk, NoMemory}
use Rattle.mc_classes.specs.Refusals.{config_refusal}
use Rattle.mc_options.specs.declared.settings.Run.{Run}
use Rattle.mc_workers.specs.declared.ended.Ended.{Ended}
use Rattle.mc_workers.specs.declared.ended.Ended.TheVariants as ended
use Rattle.mc_driver.specs.declared.fault.RunFault.{RunFault}
use Rattle.mc_driver.specs.declared.fault.RunFault.TheVariants.{Config as Refused, Script, TooLong, Read, Write, Memory, Thread, Turns}
use Rattle.mc_driver.specs.Run.{config_fault}
use Rattle.mc_driver.specs.Threads.{IsThreadsOutcome, IsOutcomeByThreads, ended_fault}
use Rattle.mc_driver.proofs.Outcomes.{front_all, front_long, no_memory_refusal, script_all, told_by_number}

-- the outcome over the front of the bytes is the outcome over all of them
told_all : (run : Run) (all front : List ℕ) (old new : Option (List ℕ)) (result : Result (Unit {0}) RunFault)
    → front ≡ take 1048577 all → IsOutcomeByThreads run front old new result → IsOutcomeByThreads run all old new result
told_all run all front old new (Ok unit) front_is (commands, script, told) = (commands, script_all all front commands front_is script, told)
told_all run all front old new (Err Turns) front_is (commands, script, kept) = (commands, script_all all front commands front_is script, kept)
told_all run all front old new (Err (Thread unstarted)) front_is (commands, script, kept) = (commands, script_all all front commands front_is script, kept)
told_all run all front old new (Err (Memory refused)) front_is kept = kept
told_all run all front old new (Err TooLong) front_is (long, kept) = (front_long 1048576 all front front_is long, kept)
told_all run all front old new (Err (Script number)) front_is (short, at, kept) =
    let same : front ≡ all = front_all 1048576 all front front_is short in
    (rw (← same) short, rw (← same) at, kept)
told_all run all front old new (Err Write) front_is (commands, script, broken) = (commands, script_all all front commands front_is script, broken)
told_all run all front old new (Err (Refused number)) front_is told = absurd told
told_all run all front old new (Err Read) front_is told = absurd told

-- the outcome of threads that were started is the run's
pub threads_outcome : (run : Run) (bytes : List ℕ) (old new : Option (List ℕ)) (result : Result (Unit {0}) RunFault)
    → config_refusal run.config ≡ None → IsOutcomeByThreads run bytes old new result → IsThreadsOutcome run bytes old new result
threads_outcome run bytes old new (Ok unit) accepted told = (accepted, told)
threads_outcome run bytes old new (Err Turns) accepted told = (accepted, told)
threads_outcome run bytes old new (Err (Thread unstarted)) accepted told = (accepted, told)
threads_outcome run bytes old new (Err (Memory refused)) accepted told = (accepted, told)
threads_outcome run bytes old new (Err TooLong) accepted told = (accepted, told)
threads_outcome run bytes old new (Err (Script number)) accepted told = (accepted, told)
threads_outcome run bytes old new (Err Write) accepted told = (accepted, told)
threads_outcome run bytes old new (Err (Refused number)) accepted told = absurd told
threads_outcome run bytes old new (Err Read) accepted told = absurd told

-- the same, of bytes that the reader may not tell
pub threads_known : (run : Run) (all : Option (List ℕ)) (front : List ℕ) (old new : Option (List ℕ)) (result : Result (Unit {0}) RunFault)
    → config_refusal run.config ≡ None → IfSome all (λ bytes. front ≡ take 1048577 bytes) → IsOutcomeByThreads run front old new result → IfSome all (λ bytes. IsThreadsOutcome run bytes old new result)
threads_known run None front old new result accepted front_is told = tt
threads_known run (Some bytes) front old new result accepted front_is told = threads_outcome run bytes old new result accepted (told_all run bytes front old new result front_is told)

-- a run whose configuration was refused answered that, and nothing else
pub refused_threads : (run : Run) (bytes : List ℕ) (held : Option (List ℕ)) (error : ConfigError) → config_refusal run.config ≡ Some error → IsThreadsOutcome run bytes held held (Err (config_fault error))
refused_threads run bytes held error is =
    rw (told_by_number error (λ memory. no_memory_refusal run.config (rw memory at is))) (rw is refl, Keeps-refl held)

pub refused_known : (run : Run) (all held : Option (List ℕ)) (error : ConfigError) → config_refusal run.config ≡ Some error → IfSome all (λ bytes. IsThreadsOutcome run bytes held held (Err (config_fault error)))
refused_known run None held error is = tt
refused_known run (Some bytes) held error is = refused_threads run bytes held error is

-- a run is out of turns only where a thread ended so
pub ended_by_turns : (end : Ended) → ended_fault end ≡ Turns → end ≡ ended.Turns
ended_by_turns (ended.Memory refused) is = absurd (cc)
ended_by_turns (ended.Thread unstarted) is = absurd (cc)
ended_by_turns ended.Turns is = refl

-- and not for its configuration
pub config_unturned : (error : ConfigError) → config_fault error ≡ Turns → ⊥
config_unturned PageSize is = absurd (cc)
config_unturned FirstSize is = absurd (cc)
config_unturned Factor is = absurd (cc)
config_unturned ChunkMax is = absurd (cc)
config_unturned Limit is = absurd (cc)
config_unturned Stripes is = absurd (cc)
config_unturned TooManyChunks is = absurd (cc)
config_unturned Bulk is = absurd (cc)
config_unturned (NoMemory refused) is = absurd (cc)
