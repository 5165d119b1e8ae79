use Rattle.std.proofs.Common.{◌≡◌, ◌++◌, string_bytes}
use Rattle.mc_picture.specs.Maps.{pages_text}
use Rattle.mc_picture.proofs.text.write_pages.Given as goal

-- the pages so far
abbrev pub invariant-loop-place : goal.invariant-loop-place
invariant-loop-place l = string_bytes l.text ≡ string_bytes l.initial.text ++ pages_text l.first l.owners l.place
