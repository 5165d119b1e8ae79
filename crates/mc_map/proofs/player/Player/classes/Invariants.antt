use Rattle.std.proofs.Common.{◌≡◌, All}
use Rattle.std.specs.Prelude.{map}
use Rattle.mc_map.specs.Kept.{IsLine}
use Rattle.mc_map.specs.Map.{shown_classes}
use Rattle.mc_map.proofs.player.Player.classes.Given as goal

-- the lines so far tell what their classes have, and these are all classes of which something is to be told
abbrev pub invariant-loop-place : goal.invariant-loop-place
invariant-loop-place l = record {
  lines : All (IsLine l.self.keeper l.self.items.keys.items) l.lines.items;
  told : map (λ line. line.class) l.lines.items ≡ shown_classes l.self.keeper.slabs l.place;
}
