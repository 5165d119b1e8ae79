use Rattle.std.proofs.Common.{◌≡◌, ◌++◌, string_bytes}
use Rattle.mc_replay.specs.Written.{owners_text}
use Rattle.mc_replay.proofs.write.slabs.owners.Given as goal

-- the lines of the pages so far
abbrev pub invariant-loop-page : goal.invariant-loop-page
invariant-loop-page l = string_bytes l.text ≡ string_bytes l.initial.text ++ owners_text l.page l.slabs.state
