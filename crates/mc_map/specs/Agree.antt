-- When owners of pages agree with the numbers of a slab memory.
use Rattle.std.specs.Prelude.{◌≡◌, ℕ, List, length, count_by}
use Rattle.mc_pages.specs.declared.ledger.Owner.{Owner}
use Rattle.mc_pages.specs.Accounted.{is_of_class, is_pool}
use Rattle.mc_pages.specs.SlabState.{SlabState, HasClass, class_at}

-- each class owns as many pages as the slab memory counts for it, a moving one included, and so does the pool
pub record AgreesOnPages (slabs : SlabState) (owners : List Owner) : Type 0 where
  pub pool : count_by is_pool owners ≡ length slabs.pool
  pub classes : (class : ℕ) → HasClass slabs class → count_by (is_of_class class) owners ≡ length (class_at slabs class).pages
