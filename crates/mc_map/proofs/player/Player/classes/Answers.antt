use Rattle.std.proofs.Common.{◌≡◌, ◌++◌}
use Rattle.mc_map.specs.Kept.{IsLine}
use Rattle.mc_map.specs.Map.{shown_line}
use Rattle.mc_map.proofs.ToldLines.{all_told, told_more}
use Rattle.mc_map.proofs.player.Player.classes.Goals as goal

pub loop-place-preserved : goal.loop-place-preserved
loop-place-preserved c =
    let line = c.in_ok-line.line in
    let pushed : c.push_told.new.lines.items ≡ c.loop-place.lines.items ++ shown_line line = c.in_ok-push_told.ensures in
    let is = c.in_ok-line.ensures.line in
    record {
      lines = rw pushed (all_told (IsLine c.args.self.now.keeper c.args.self.now.items.keys.items) c.loop-place.lines.items line c.loop-place.invariant.lines is);
      told = rw pushed (told_more c.args.self.now.keeper.slabs c.loop-place.lines.items line c.loop-place.place c.loop-place.invariant.told c.in_ok-line.ensures.class is.pages is.evictions);
    }
