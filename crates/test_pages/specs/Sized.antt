-- What the pages of a slab memory keep of the table that it was made by.
use Rattle.std.specs.Prelude.{◌≡◌, ◌/◌, length, map}
use Rattle.mc_classes.specs.Classes.{Classes, arena_pages_of}
use Rattle.mc_pages.specs.ClassState.{ClassState}
use Rattle.mc_pages.specs.SlabState.{SlabState}

-- the slab memory has as many classes and pages as the table, and as many chunks on a page of each class
pub record HasSizesOf (slabs : SlabState) (table : Classes) : Type 0 where
  pub classes : length slabs.classes ≡ length table.sizes
  pub pages : length slabs.owners ≡ arena_pages_of table
  pub per_page : map (λ (c : ClassState). c.per_page) slabs.classes ≡ map (λ size. table.page / size) table.sizes
