use Rattle.std.proofs.Common.{◌≡◌, ℕ, not, length, drop}
use Rattle.std.specs.Prelude.{find, ◌==◌, slice_get}
use Rattle.mc_pages.specs.SlabState.{class_at}
use Rattle.mc_serial_spec.specs.Mover.{target}
use Rattle.mc_pages.proofs.RestOfList.{rest_from}
use Rattle.mc_keeper.proofs.keeper.Keeper.target.Given as goal

-- the search goes on from some place
abbrev pub invariant-loop-next : goal.invariant-loop-next
invariant-loop-next l = record {
  place : ℕ;
  at : l.next ≡ slice_get (class_at l.self.slabs l.class).free place;
  rest : find (λ chunk. not (chunk.page == l.page)) (drop place (class_at l.self.slabs l.class).free) ≡ target l.self l.class l.page;
}

abbrev pub decreases-loop-next : goal.decreases-loop-next
decreases-loop-next l = length (rest_from l.next (class_at l.self.slabs l.class).free)
