-- How a run ends, from how its parts ended.
use Rattle.std.proofs.Common.{◌≡◌, ◌≢◌, ℕ, ◌+◌, ◌<◌, ◌≤◌, List, ◌++◌, length, take, drop, min, Bool, true, false, cond, Option, Some, None, Result, Ok, Err, refl, ap, ◌∙◌, arith, inl, inr}
use Rattle.std.specs.Prelude.{IfSome, unwrap_or}
use Rattle.std.specs.Io.KnownBytes.{Keeps}
use Rattle.std.proofs.Math.Seq.{drop-append_seam}
use Rattle.std.proofs.KnownBytes.{Keeps-refl}
use Rattle.std.proofs.lemmas.List.{length-take, take_all}
use Rattle.mc_classes.specs.declared.config.Config.{Config}
use Rattle.mc_classes.specs.declared.config.ConfigError.{ConfigError}
use Rattle.mc_classes.specs.declared.config.ConfigError.TheVariants.{PageSize, FirstSize, Factor, ChunkMax, Limit, Stripes, TooManyChunks, Bulk, NoMemory}
use Rattle.mc_classes.specs.Classes.{Classes, IsTableOf}
use Rattle.mc_classes.specs.Refusals.{config_refusal, config_error_number}
use Rattle.mc_options.specs.declared.settings.Run.{Run}
use Rattle.mc_script.specs.declared.command.Command.{Command}
use Rattle.mc_driver.specs.declared.fault.RunFault.{RunFault}
use Rattle.mc_driver.specs.declared.fault.RunFault.TheVariants.{Config as Refused, Script, TooLong, Read, Write, Memory, Thread, Turns}
use Rattle.mc_serial_spec.specs.Machine.{Machine, fresh_machine}
use Rattle.mc_driver.specs.Reading.{IsReadFault, since}
use Rattle.mc_driver.specs.Run.{IsOutcome, IsReadWhole, IsScript, IsScriptOutcome, config_fault, config_refusal_number}

-- the front of the bytes is all of them where it is short
pub front_all : (n : ℕ) (all front : List ℕ) → front ≡ take (n + 1) all → length front ≤ n → front ≡ all
front_all n all front front_is short =
    let lengths : length front ≡ min (n + 1) (length all) = ap length front_is ∙ length-take (n + 1) all in
    front_is ∙ take_all (n + 1) all (omega (arith, lengths))

-- and they are too long where it is
pub front_long : (n : ℕ) (all front : List ℕ) → front ≡ take (n + 1) all → n < length front → n < length all
front_long n all front front_is long =
    let lengths : length front ≡ min (n + 1) (length all) = ap length front_is ∙ length-take (n + 1) all in
    omega (arith, lengths)

-- a script that is the front of the bytes is all of them
pub script_all : (all front : List ℕ) (commands : List Command) → front ≡ take 1048577 all → IsScript front commands → IsScript all commands
script_all all front commands front_is script =
    let same : front ≡ all = front_all 1048576 all front front_is script.short in
    rw same at script

-- the outcome over the front of the bytes is the outcome over all of them
pub outcome_all : (run : Run) (table : Classes) (all front : List ℕ) (old new : Option (List ℕ)) (result : Result (Unit {0}) RunFault)
    → IsTableOf run.config table → front ≡ take 1048577 all → IsScriptOutcome front (fresh_machine table run.config.bulk run.automove) old new result → IsOutcome run all old new result
outcome_all run table all front old new (Ok unit) is front_is (commands, script, written) = (table, is, (commands, script_all all front commands front_is script, written))
outcome_all run table all front old new (Err Turns) is front_is (commands, script, written) = (table, is, (commands, script_all all front commands front_is script, written))
outcome_all run table all front old new (Err TooLong) is front_is (long, kept) = (table, is, (front_long 1048576 all front front_is long, kept))
outcome_all run table all front old new (Err (Script number)) is front_is (short, at, kept) =
    let same : front ≡ all = front_all 1048576 all front front_is short in
    (table, is, (rw (← same) short, rw (← same) at, kept))
outcome_all run table all front old new (Err Write) is front_is (commands, script, broken) = (table, is, (commands, script_all all front commands front_is script, broken))
outcome_all run table all front old new (Err (Memory refused)) is front_is (inl kept) = inl kept
outcome_all run table all front old new (Err (Memory refused)) is front_is (inr (commands, script, first)) =
    inr (table, is, inr (commands, script_all all front commands front_is script, first))
outcome_all run table all front old new (Err (Refused number)) is front_is told = absurd told
outcome_all run table all front old new (Err (Thread unstarted)) is front_is told = absurd told
outcome_all run table all front old new (Err Read) is front_is told = absurd told

-- the same, of bytes that the reader may not tell
pub outcome_known : (run : Run) (table : Classes) (all : Option (List ℕ)) (front : List ℕ) (old new : Option (List ℕ)) (result : Result (Unit {0}) RunFault)
    → IsTableOf run.config table → IfSome all (λ bytes. front ≡ take 1048577 bytes) → IsScriptOutcome front (fresh_machine table run.config.bulk run.automove) old new result
    → IfSome all (λ bytes. IsOutcome run bytes old new result)
outcome_known run table None front old new result is front_is outcome = tt
outcome_known run table (Some bytes) front old new result is front_is outcome = outcome_all run table bytes front old new result is front_is outcome

-- memory is no refusal
not_first : (failed : Bool) (error : ConfigError) (rest : Option ConfigError) → config_error_number error < 9 → rest ≢ Some (NoMemory tt)
    → cond failed (Some error) rest ≢ Some (NoMemory tt)
not_first true error rest other later h = let same : error ≡ NoMemory tt = cc in let bad : config_error_number error ≡ 9 = ap config_error_number same in omega arith
not_first false error rest other later h = later h

none_last : None ≢ Some (NoMemory tt)
none_last h = cc

pub no_memory_refusal : (config : Config) → config_refusal config ≢ Some (NoMemory tt)
no_memory_refusal config =
    not_first _ PageSize _ (omega arith) (not_first _ FirstSize _ (omega arith) (not_first _ Factor _ (omega arith)
    (not_first _ ChunkMax _ (omega arith) (not_first _ Limit _ (omega arith) (not_first _ Stripes _ (omega arith)
    (not_first _ TooManyChunks _ (omega arith) (not_first _ Bulk _ (omega arith) none_last)))))))

-- any other refusal is told by its number
pub told_by_number : (error : ConfigError) → error ≢ NoMemory tt → config_fault error ≡ Refused (config_error_number error)
told_by_number PageSize other = refl
told_by_number FirstSize other = refl
told_by_number Factor other = refl
told_by_number ChunkMax other = refl
told_by_number Limit other = refl
told_by_number Stripes other = refl
told_by_number TooManyChunks other = refl
told_by_number Bulk other = refl
told_by_number (NoMemory _) other = absurd (other refl)

-- how a run ends where there is no table
pub record Unbuilt (run : Run) (error : ConfigError) : Type 0 where
  pub told : (number : ℕ) → config_fault error ≡ Refused number → config_refusal_number run.config ≡ Some number
  pub tells : (number : ℕ) → config_refusal_number run.config ≡ Some number → config_fault error ≡ Refused number
  pub outcome : (all held : Option (List ℕ)) → IfSome all (λ bytes. IsOutcome run bytes held held (Err (config_fault error)))

unbuilt_memory : (run : Run) → config_refusal run.config ≡ None → Unbuilt run (NoMemory tt)
unbuilt_memory run none = record {
  told = λ number h. cc;
  tells = λ number h. let bad : None ≡ Some number = rw none at h in cc;
  outcome = λ all held. known all held;
}
  where
    known : (all held : Option (List ℕ)) → IfSome all (λ bytes. IsOutcome run bytes held held (Err (Memory tt)))
    known None held = tt
    known (Some bytes) held = inl (Keeps-refl held)

pub unbuilt_refused : (run : Run) (error : ConfigError) → config_refusal run.config ≡ Some error → error ≢ NoMemory tt → Unbuilt run error
unbuilt_refused run error is other = record {
  told = λ number h. let same : config_error_number error ≡ number = cc (told_by_number error other) in rw (is, same) refl;
  tells = λ number h. let same : Some (config_error_number error) ≡ Some number = rw is at h in cc (told_by_number error other);
  outcome = λ all held. rw (told_by_number error other) (known all held);
}
  where
    known : (all held : Option (List ℕ)) → IfSome all (λ bytes. IsOutcome run bytes held held (Err (Refused (config_error_number error))))
    known None held = tt
    known (Some bytes) held = (rw is refl, Keeps-refl held)

unbuilt_as : (run : Run) (error : ConfigError) (first : Option ConfigError) → config_refusal run.config ≡ first → error ≡ unwrap_or first (NoMemory tt) → Unbuilt run error
unbuilt_as run error None is told = rw told (unbuilt_memory run is)
unbuilt_as run error (Some first) is told =
    rw told (unbuilt_refused run first is (λ memory. no_memory_refusal run.config (rw memory at is)))

pub unbuilt : (run : Run) (error : ConfigError) → error ≡ unwrap_or (config_refusal run.config) (NoMemory tt) → Unbuilt run error
unbuilt run error told = unbuilt_as run error (config_refusal run.config) refl told

-- the outcome over bytes is the run's over them
pub outcome_of : (run : Run) (table : Classes) (bytes : List ℕ) (old new : Option (List ℕ)) (result : Result (Unit {0}) RunFault)
    → IsTableOf run.config table → IsScriptOutcome bytes (fresh_machine table run.config.bulk run.automove) old new result → IsOutcome run bytes old new result
outcome_of run table bytes old new (Ok unit) is outcome = (table, is, outcome)
outcome_of run table bytes old new (Err Turns) is outcome = (table, is, outcome)
outcome_of run table bytes old new (Err TooLong) is outcome = (table, is, outcome)
outcome_of run table bytes old new (Err (Script number)) is outcome = (table, is, outcome)
outcome_of run table bytes old new (Err Write) is outcome = (table, is, outcome)
outcome_of run table bytes old new (Err (Memory refused)) is outcome = inr (table, is, outcome)
outcome_of run table bytes old new (Err (Refused number)) is told = absurd told
outcome_of run table bytes old new (Err (Thread unstarted)) is told = absurd told
outcome_of run table bytes old new (Err Read) is told = absurd told

-- a script that was answered to isn't too long, so it was read to its end
pub whole_where_short : (bytes : List ℕ) (machine : Machine) (old new : Option (List ℕ)) (result : Result (Unit {0}) RunFault) (Ended : Type 0)
    → IsScriptOutcome bytes machine old new result → (length bytes ≤ 1048576 → Ended) → IsReadWhole Ended (Keeps old new) result
whole_where_short bytes machine old new (Ok unit) Ended (commands, script, written) ends = ends script.short
whole_where_short bytes machine old new (Err Turns) Ended (commands, script, written) ends = ends script.short
whole_where_short bytes machine old new (Err TooLong) Ended (long, kept) ends = kept
whole_where_short bytes machine old new (Err (Script number)) Ended (short, told, kept) ends = ends short
whole_where_short bytes machine old new (Err Write) Ended (commands, script, broken) ends = ends script.short
whole_where_short bytes machine old new (Err (Memory refused)) Ended (inl kept) ends = inl kept
whole_where_short bytes machine old new (Err (Memory refused)) Ended (inr (commands, script, first)) ends = inr (ends script.short)
whole_where_short bytes machine old new (Err (Refused number)) Ended told ends = absurd told
whole_where_short bytes machine old new (Err (Thread unstarted)) Ended told ends = absurd told
whole_where_short bytes machine old new (Err Read) Ended told ends = absurd told

-- what came since is what was read
pub since_is : (old new bytes : List ℕ) → new ≡ old ++ bytes → since old new ≡ bytes
since_is old new bytes is = ap (λ all. drop (length old) all) is ∙ drop-append_seam old bytes

-- a run whose reading failed, or that found no memory for it, answered nothing
pub unread_outcome : (run : Run) (bytes : List ℕ) (held : Option (List ℕ)) (old new : ℕ) (fault : RunFault) → IsReadFault old new fault → IsOutcome run bytes held held (Err fault)
unread_outcome run bytes held old new Read is = Keeps-refl held
unread_outcome run bytes held old new (Memory refused) is = inl (Keeps-refl held)
unread_outcome run bytes held old new (Refused number) is = absurd is
unread_outcome run bytes held old new (Script number) is = absurd is
unread_outcome run bytes held old new TooLong is = absurd is
unread_outcome run bytes held old new Write is = absurd is
unread_outcome run bytes held old new (Thread unstarted) is = absurd is
unread_outcome run bytes held old new Turns is = absurd is

pub unread_whole : (Ended : Type 0) (held : Option (List ℕ)) (old new : ℕ) (fault : RunFault) → IsReadFault old new fault → IsReadWhole Ended (Keeps held held) (Err fault)
unread_whole Ended held old new Read is = Keeps-refl held
unread_whole Ended held old new (Memory refused) is = inl (Keeps-refl held)
unread_whole Ended held old new (Refused number) is = absurd is
unread_whole Ended held old new (Script number) is = absurd is
unread_whole Ended held old new TooLong is = absurd is
unread_whole Ended held old new Write is = absurd is
unread_whole Ended held old new (Thread unstarted) is = absurd is
unread_whole Ended held old new Turns is = absurd is

-- nor did one whose configuration was refused
pub unbuilt_whole : (Ended : Type 0) (held : Option (List ℕ)) (error : ConfigError) → IsReadWhole Ended (Keeps held held) (Err (config_fault error))
unbuilt_whole Ended held PageSize = Keeps-refl held
unbuilt_whole Ended held FirstSize = Keeps-refl held
unbuilt_whole Ended held Factor = Keeps-refl held
unbuilt_whole Ended held ChunkMax = Keeps-refl held
unbuilt_whole Ended held Limit = Keeps-refl held
unbuilt_whole Ended held Stripes = Keeps-refl held
unbuilt_whole Ended held TooManyChunks = Keeps-refl held
unbuilt_whole Ended held Bulk = Keeps-refl held
unbuilt_whole Ended held (NoMemory _) = inl (Keeps-refl held)
