-- What the pages of a slab memory keep of the table that it was made by.
use Rattle.std.specs.Prelude.{◌≡◌, length}
use Rattle.mc_classes.specs.Classes.{Classes}
use Rattle.mc_pages.specs.SlabState.{SlabState}

-- the slab memory has as many classes as the table
pub record HasClasses (slabs : SlabState) (table : Classes) : Type 0 where
  pub classes : length slabs.classes ≡ length table.sizes
