use Rattle.std.proofs.Common.{◌≡◌, ◌++◌, drop, flat_map, string_bytes}
use Rattle.mc_replay.specs.Written.{ledger_entry_line}
use Rattle.mc_replay.proofs.write.slabs.entries.Given as goal

-- the lines so far, and those that are left
abbrev pub invariant-loop-change : goal.invariant-loop-change
invariant-loop-change l =
    string_bytes l.text ++ flat_map ledger_entry_line (drop l.change-index l.entries) ≡ string_bytes l.initial.text ++ flat_map ledger_entry_line l.entries
