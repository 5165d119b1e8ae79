-- The commands so far and those of the lines that are left are those of the script.
use Rattle.std.proofs.Common.{ℕ, List, ◌++◌, Result, Ok, Err}
use Rattle.mc_script.specs.declared.command.Command.{Command}

-- commands in front of those that are given
abbrev pub after_front : List Command → Result (List Command) ℕ → Result (List Command) ℕ
after_front front (Ok commands) = Ok (front ++ commands)
after_front front (Err n) = Err n
