use Rattle.std.proofs.Common.{length}
use Rattle.mc_packing.specs.Packing.{AreBytes}
use Rattle.mc_large.proofs.Words.{AreRead}
use Rattle.mc_large.proofs.roots.read_versions.Given as goal

abbrev pub invariant-loop-first : goal.invariant-loop-first
invariant-loop-first l = AreRead l.bytes l.versions.items l.rest × AreBytes l.rest

abbrev pub decreases-loop-first : goal.decreases-loop-first
decreases-loop-first l = length l.rest
