-- The chunks of a class, by what they are.
use Rattle.std.specs.Prelude.{◌≡◌, ◌+◌}
use Rattle.mc_map.specs.declared.kept.ClassLine.{ClassLine}

-- each chunk of the class is counted once: as linked, unlinked, dead, free or cleared
abbrev pub IsSummed : ClassLine → Type 0
IsSummed line = line.chunks ≡ line.linked + line.unlinked + line.dead + line.free + line.cleared
