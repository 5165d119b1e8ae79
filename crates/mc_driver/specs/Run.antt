-- What a serial run answers, and what it has written by then.
use Rattle.std.specs.Prelude.{◌≡◌, ℕ, ◌+◌, ◌<◌, ◌≤◌, ◌⊎◌, true, false, List, take, length, Option, Some, None, Result, Ok, Err}
use Rattle.std.specs.Option.{is_some, option_map}
use Rattle.std.specs.Io.KnownBytes.{Appends, Keeps, append_known}
use Rattle.mc_classes.specs.declared.config.Config.{Config}
use Rattle.mc_classes.specs.declared.config.ConfigError.{ConfigError}
use Rattle.mc_classes.specs.declared.config.ConfigError.TheVariants.{NoMemory}
use Rattle.mc_classes.specs.Refusals.{config_refusal, config_error_number}
use Rattle.mc_classes.specs.Classes.{Classes, IsTableOf}
use Rattle.mc_io.specs.Device.{Extends}
use Rattle.mc_options.specs.declared.settings.Run.{Run}
use Rattle.mc_script.specs.declared.command.Command.{Command}
use Rattle.mc_script.specs.Script.{script_of}
use Rattle.mc_driver.specs.declared.fault.RunFault.{RunFault}
use Rattle.mc_driver.specs.declared.fault.RunFault.TheVariants.{Config as Refused, Script, TooLong, Read, Write, Memory, Thread, Turns}
use Rattle.mc_keeper.specs.declared.keeper.serve.Stop.{Stop}
use Rattle.mc_keeper.specs.declared.keeper.serve.Stop.TheVariants as stop
use Rattle.mc_serial_spec.specs.Machine.{Machine, fresh_machine}
use Rattle.mc_serial_spec.specs.Lines.{Outcome, is_done, replies_to, serve}

-- the most bytes of a script
abbrev pub most_bytes : ℕ
most_bytes = 1048576

-- the number of the configuration's first refusal
abbrev pub config_refusal_number : Config → Option ℕ
config_refusal_number config = option_map config_error_number (config_refusal config)

-- how a run ends without a class table
abbrev pub config_fault : ConfigError → RunFault
config_fault (NoMemory refused) = Memory refused
config_fault refusal = Refused (config_error_number refusal)

-- how a run ends without commands: the bytes are too many, or the lowest line that is no command is this
abbrev pub IsScriptFault : List ℕ → RunFault → Type 0
IsScriptFault bytes TooLong = most_bytes < length bytes
IsScriptFault bytes (Script number) = (length bytes ≤ most_bytes) × (script_of bytes ≡ Err number)
IsScriptFault bytes (Memory refused) = Unit {0}
IsScriptFault bytes (Refused number) = ⊥
IsScriptFault bytes Read = ⊥
IsScriptFault bytes Write = ⊥
IsScriptFault bytes (Thread unstarted) = ⊥
IsScriptFault bytes Turns = ⊥

-- the bytes are a script of these commands
pub record IsScript (bytes : List ℕ) (commands : List Command) : Type 0 where
  pub short : length bytes ≤ most_bytes
  pub script : script_of bytes ≡ Ok commands

-- how a run ends at a command that wasn't done
abbrev pub stop_fault : Stop → RunFault
stop_fault stop.Turns = Turns
stop_fault (stop.NoMemory refused) = Memory refused

-- the replies to the first commands were written, and nothing of the next
pub record WroteFirst (machine : Machine) (commands : List Command) (old new : Option (List ℕ)) : Type 0 where
  pub count : ℕ
  pub within : count ≤ length commands
  pub done : is_done machine (take count commands) ≡ true
  pub written : Appends old new (replies_to machine (take count commands))

-- the replies to the first commands were written, the next command was done, and perhaps something of its reply was written
pub record WroteBroken (machine : Machine) (commands : List Command) (old new : Option (List ℕ)) : Type 0 where
  pub count : ℕ
  pub within : count < length commands
  pub done : is_done machine (take (count + 1) commands) ≡ true
  pub written : Extends (append_known old (replies_to machine (take count commands))) new

-- the command was done, and its reply written
pub record WroteReply (m : Machine) (command : Command) (old new : Option (List ℕ)) (machine : Machine) : Type 0 where
  pub served : Outcome
  pub is : serve m command ≡ Some served
  pub written : Appends old new served.reply
  pub after : machine ≡ served.machine

-- how one command ends without its reply: the writer failed, and perhaps holds something of it; or memory or the turns
-- of a run ran out, and nothing of it was written
abbrev pub IsReplyFault : Machine → Command → Option (List ℕ) → Option (List ℕ) → ℕ → ℕ → RunFault → Type 0
IsReplyFault machine command old new failures_old failures_new Write = (failures_old < failures_new) × Extends old new × (is_some (serve machine command) ≡ true)
IsReplyFault machine command old new failures_old failures_new (Memory refused) = (failures_new ≡ failures_old) × Keeps old new
IsReplyFault machine command old new failures_old failures_new Turns = (failures_new ≡ failures_old) × Keeps old new × (serve machine command ≡ None)
IsReplyFault machine command old new failures_old failures_new (Refused number) = ⊥
IsReplyFault machine command old new failures_old failures_new (Thread unstarted) = ⊥
IsReplyFault machine command old new failures_old failures_new (Script number) = ⊥
IsReplyFault machine command old new failures_old failures_new TooLong = ⊥
IsReplyFault machine command old new failures_old failures_new Read = ⊥

-- how a run of commands ends before its end, by the writer's contents and its failures, before and after
abbrev pub IsServeFault : Machine → List Command → Option (List ℕ) → Option (List ℕ) → ℕ → ℕ → RunFault → Type 0
IsServeFault machine commands old new failures_old failures_new Write = (failures_old < failures_new) × WroteBroken machine commands old new
IsServeFault machine commands old new failures_old failures_new (Memory refused) = (failures_new ≡ failures_old) × WroteFirst machine commands old new
IsServeFault machine commands old new failures_old failures_new Turns =
    (failures_new ≡ failures_old) × (is_done machine commands ≡ false) × Appends old new (replies_to machine commands)
IsServeFault machine commands old new failures_old failures_new (Refused number) = ⊥
IsServeFault machine commands old new failures_old failures_new (Thread unstarted) = ⊥
IsServeFault machine commands old new failures_old failures_new (Script number) = ⊥
IsServeFault machine commands old new failures_old failures_new TooLong = ⊥
IsServeFault machine commands old new failures_old failures_new Read = ⊥

-- the bytes are a script, whose commands have the property
abbrev pub OfScript : List ℕ → (List Command → Type 0) → Type 0
OfScript bytes Says = (commands : List Command) × IsScript bytes commands × Says commands

-- How the machine's run over these bytes ends, where the writer held `old` before it and holds `new` after it.
abbrev pub IsScriptOutcome : List ℕ → Machine → Option (List ℕ) → Option (List ℕ) → Result (Unit {0}) RunFault → Type 0
-- done: all replies were written
IsScriptOutcome bytes machine old new (Ok unit) = OfScript bytes (λ commands. (is_done machine commands ≡ true) × Appends old new (replies_to machine commands))
-- a command asked for more turns than a run has: the replies to all commands before it were written
IsScriptOutcome bytes machine old new (Err Turns) = OfScript bytes (λ commands. (is_done machine commands ≡ false) × Appends old new (replies_to machine commands))
-- refused: nothing was written
IsScriptOutcome bytes machine old new (Err TooLong) = (most_bytes < length bytes) × Keeps old new
IsScriptOutcome bytes machine old new (Err (Script number)) = (length bytes ≤ most_bytes) × (script_of bytes ≡ Err number) × Keeps old new
-- the writer failed at the reply to some command
IsScriptOutcome bytes machine old new (Err Write) = OfScript bytes (λ commands. WroteBroken machine commands old new)
-- memory ran out before the first command, or at one of them
IsScriptOutcome bytes machine old new (Err (Memory refused)) = Keeps old new ⊎ OfScript bytes (λ commands. WroteFirst machine commands old new)
-- a run ends in no other way
IsScriptOutcome bytes machine old new (Err (Refused number)) = ⊥
IsScriptOutcome bytes machine old new (Err (Thread unstarted)) = ⊥
IsScriptOutcome bytes machine old new (Err Read) = ⊥

-- the plain machine with the size classes and the mode of the run has the property
abbrev pub OfMachine : Run → (Machine → Type 0) → Type 0
OfMachine run Says = (table : Classes) × IsTableOf run.config table × Says (fresh_machine table run.config.bulk run.automove)

-- How a run over these bytes ends, where the writer held `old` before it and holds `new` after it.
abbrev pub IsOutcome : Run → List ℕ → Option (List ℕ) → Option (List ℕ) → Result (Unit {0}) RunFault → Type 0
-- the configuration is refused: nothing was written
IsOutcome run bytes old new (Err (Refused number)) = (config_refusal_number run.config ≡ Some number) × Keeps old new
-- the reader failed: nothing was written
IsOutcome run bytes old new (Err Read) = Keeps old new
-- memory ran out before there was a machine, or later
IsOutcome run bytes old new (Err (Memory refused)) = Keeps old new ⊎ OfMachine run (λ machine. IsScriptOutcome bytes machine old new (Err (Memory refused)))
-- the machine's run ended so
IsOutcome run bytes old new result = OfMachine run (λ machine. IsScriptOutcome bytes machine old new result)

-- A script that got replies was read to its end: `Ended` is that the reader ended, and `Kept` that nothing was written.
abbrev pub IsReadWhole : Type 0 → Type 0 → Result (Unit {0}) RunFault → Type 0
IsReadWhole Ended Kept (Ok unit) = Ended
IsReadWhole Ended Kept (Err Turns) = Ended
IsReadWhole Ended Kept (Err (Thread unstarted)) = Ended
IsReadWhole Ended Kept (Err Write) = Ended
IsReadWhole Ended Kept (Err (Script number)) = Ended
-- memory ran out at a command, or before there was one
IsReadWhole Ended Kept (Err (Memory refused)) = Kept ⊎ Ended
-- nothing was answered
IsReadWhole Ended Kept (Err (Refused number)) = Kept
IsReadWhole Ended Kept (Err TooLong) = Kept
IsReadWhole Ended Kept (Err Read) = Kept
