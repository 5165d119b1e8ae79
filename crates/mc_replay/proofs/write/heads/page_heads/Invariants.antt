use Rattle.std.proofs.Common.{◌≡◌, ◌++◌, string_bytes}
use Rattle.mc_replay.specs.Written.{page_headers_text}
use Rattle.mc_replay.proofs.write.heads.page_heads.Given as goal

-- the lines of the headers so far
abbrev pub invariant-loop-index : goal.invariant-loop-index
invariant-loop-index l = string_bytes l.text ≡ string_bytes l.initial.text ++ page_headers_text l.state l.index l.page
