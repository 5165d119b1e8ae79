use Rattle.std.proofs.Common.{◌≡◌, ◌++◌, flat_map, string_bytes}
use Rattle.std.specs.List.{range_with_len}
use Rattle.mc_replay.specs.Written.{page_headers_text}
use Rattle.mc_replay.proofs.write.heads.heads.Given as goal

-- the lines of the pages so far
abbrev pub invariant-loop-page : goal.invariant-loop-page
invariant-loop-page l = string_bytes l.text ≡ string_bytes l.initial.text ++ flat_map (page_headers_text l.state l.most) (range_with_len 0 l.page)
