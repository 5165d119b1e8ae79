use Rattle.std.proofs.Common.{◌≤◌, string_bytes}
use Rattle.mc_picture.specs.Drawn.{TextExtends}
use Rattle.mc_picture.proofs.legend.write_class_keys.Given as goal

-- no more classes are shown than there are, and the text goes on from the one before
abbrev pub invariant-loop-row : goal.invariant-loop-row
invariant-loop-row l = record {
  within_limit : l.shown ≤ l.row-index;
  more : TextExtends (string_bytes l.initial.text) (string_bytes l.text);
}
