-- No call of a page changes how many classes there are.
use Rattle.std.proofs.Common.{◌≡◌, ◌∙◌, ℕ, ◌/◌, Bool, true, false, length, Option, refl, ap}
use Rattle.std.specs.Prelude.{if◌then◌else◌, nat_lt}
use Rattle.std.proofs.lemmas.List.{length-set, length-map}
use Rattle.mc_classes.specs.Classes.{Classes}
use Rattle.mc_pages.specs.declared.ids.ChunkId.{ChunkId}
use Rattle.mc_pages.specs.ClassState.{new_class}
use Rattle.mc_pages.specs.SlabState.{SlabState, fresh_slabs}
use Rattle.mc_pages.specs.Changes.{after_cut, after_grant, after_grow, after_take}
use Rattle.mc_pages.specs.Moves.{after_begin}
use Rattle.test_refusals.specs.Sized.{HasClasses}

counted : (slabs new is : SlabState) (table : Classes) → new ≡ is → length is.classes ≡ length slabs.classes → HasClasses slabs table → HasClasses new table
counted slabs new is table same count has = record { classes = ap (λ (s : SlabState). length s.classes) same ∙ (count ∙ has.classes) }

pub classes_fresh : (table : Classes) (slabs : SlabState) → slabs ≡ fresh_slabs table → HasClasses slabs table
classes_fresh table slabs is = record { classes = ap (λ (s : SlabState). length s.classes) is ∙ length-map table.sizes (λ size. new_class size (table.page / size)) }

way : (b : Bool) (slabs : SlabState) (class page : ℕ) → length (if b then after_take slabs class page else after_grant slabs class page).classes ≡ length slabs.classes
way true slabs class page = length-set slabs.classes _ _
way false slabs class page = length-set slabs.classes _ _

pub classes_grow : (slabs new : SlabState) (table : Classes) (class page : ℕ) → HasClasses slabs table → new ≡ after_grow slabs class page → HasClasses new table
classes_grow slabs new table class page has is = counted slabs new (after_grow slabs class page) table is (way (nat_lt 0 (length slabs.pool)) slabs class page) has

pub classes_cut : (slabs new : SlabState) (table : Classes) (chunk : ChunkId) → HasClasses slabs table → new ≡ after_cut slabs chunk → HasClasses new table
classes_cut slabs new table chunk has is = counted slabs new (after_cut slabs chunk) table is (length-set slabs.classes _ _) has

pub classes_begin : (slabs new : SlabState) (table : Classes) (src : Option ℕ) (source dst : ℕ) → HasClasses slabs table → new ≡ after_begin slabs src source dst → HasClasses new table
classes_begin slabs new table src source dst has is = counted slabs new (after_begin slabs src source dst) table is refl has

pub ruleset changes = (classes_grow, classes_cut, classes_begin)
