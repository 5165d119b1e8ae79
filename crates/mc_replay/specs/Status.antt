-- How a run ends that fails.
use Rattle.std.specs.Prelude.{ℕ}
use Rattle.mc_replay.specs.declared.fault.Refusal.{Refusal}
use Rattle.mc_replay.specs.declared.fault.Refusal.TheVariants as refusal
use Rattle.mc_replay.specs.declared.fault.RunFault.{RunFault}
use Rattle.mc_replay.specs.declared.fault.RunFault.TheVariants as fault

-- what a run ends with where the line of this number is refused
abbrev pub fault_at : ℕ → Refusal → RunFault
fault_at number refusal.Form = fault.Line number
fault_at number (refusal.Config error) = fault.Config number error
fault_at number refusal.Hands = fault.Hands number
fault_at number (refusal.Memory lack) = fault.Memory lack

-- the status that the program ends with
abbrev pub replay_status : RunFault → ℕ
replay_status (fault.Line number) = 2
replay_status (fault.Config number error) = 2
replay_status (fault.Hands number) = 2
replay_status fault.Read = 3
replay_status fault.Write = 3
replay_status (fault.Memory lack) = 4
