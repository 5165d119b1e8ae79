use Rattle.std.proofs.Common.{◌≡◌, ◌*◌, ◌≤◌, take}
use Rattle.mc_map.specs.Kept.{asked_bytes, linked_count}
use Rattle.mc_map.proofs.kept.linked_in.Given as goal

-- what the keys so far have, and bounds of it
abbrev pub invariant-loop-key : goal.invariant-loop-key
invariant-loop-key l = record {
  count : l.count ≡ linked_count l.keeper l.class (take l.key-index l.keys);
  asked : l.asked ≡ asked_bytes l.keeper l.class (take l.key-index l.keys);
  within_limit : l.count ≤ l.key-index;
  most : l.asked ≤ 16384 * l.key-index;
}
