-- What a room for roots has.
use Rattle.std.specs.Prelude.{ℕ, List, ◌++◌}
use Rattle.mc_large.specs.declared.large.Large.{Large}

-- the bytes and the versions that the room has of the last call
abbrev pub kept_numbers : Large → List ℕ
kept_numbers large = large.root.items ++ large.versions.items

-- the bytes that the room has of a root
abbrev pub root_in : Large → List ℕ
root_in large = large.root.items
