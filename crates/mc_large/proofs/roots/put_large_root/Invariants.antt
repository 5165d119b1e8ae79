use Rattle.std.proofs.Common.{◌≡◌, take}
use Rattle.mc_large.specs.Roots.{large_root}
use Rattle.mc_large.proofs.roots.put_large_root.Given as goal

abbrev pub invariant-loop-version : goal.invariant-loop-version
invariant-loop-version l = l.into.items ≡ large_root l.len (take l.version-index l.versions)
