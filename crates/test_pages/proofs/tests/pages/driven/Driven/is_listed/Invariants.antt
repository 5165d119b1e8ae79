use Rattle.std.proofs.Common.{◌≡◌}
use Rattle.test_pages.proofs.Looked.{times_before}
use Rattle.test_pages.proofs.tests.pages.driven.Driven.is_listed.Given as goal

-- the chunk is at none of the places so far
abbrev pub invariant-loop-place : goal.invariant-loop-place
invariant-loop-place l = times_before l.self.slabs.state l.class l.chunk l.place ≡ 0
