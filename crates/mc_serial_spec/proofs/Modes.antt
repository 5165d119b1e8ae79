-- New pages, and getting a chunk for a set, leave the automover's mode as it was.
use Rattle.std.proofs.Common.{◌≡◌, ℕ, List, [], ◌∷◌, length, Bool, true, false, Option, Some, None, refl, ◌∙◌}
use Rattle.std.specs.Prelude.{fold, nat_lt, if◌then◌else◌}
use Rattle.mc_pages.specs.declared.ids.ChunkId.{ChunkId}
use Rattle.mc_pages.specs.SlabState.{SlabState, class_at}
use Rattle.mc_pages.specs.Accounted.{first_chunks}
use Rattle.mc_pages.specs.Changes.{after_cut, after_grant, after_grow, after_take, next_page}
use Rattle.mc_serial_spec.specs.Machine.{Machine, after_reclaim, dead_chunks, machine_after_growth, has_free, machine_after_stocking, machine_after_sweep, with_cut_page, with_new_page}
use Rattle.mc_serial_spec.specs.Supply.{machine_after_supply, victim, with_eviction}

mode-reclaims : (m : Machine) (chunks : List ChunkId) → (fold after_reclaim m chunks).slabs.automove ≡ m.slabs.automove
mode-reclaims m [] = refl
mode-reclaims m (c ∷ chunks) = mode-reclaims (after_reclaim m c) chunks

pub mode-cuts : (slabs : SlabState) (chunks : List ChunkId) → (fold after_cut slabs chunks).automove ≡ slabs.automove
mode-cuts slabs [] = refl
mode-cuts slabs (c ∷ chunks) = mode-cuts (after_cut slabs c) chunks

grown_way : (b : Bool) (slabs : SlabState) (class page : ℕ) → (if b then after_take slabs class page else after_grant slabs class page).automove ≡ slabs.automove
grown_way true slabs class page = refl
grown_way false slabs class page = refl

pub mode-given : (slabs : SlabState) (class page : ℕ) → (with_cut_page (after_grow slabs class page) class page).automove ≡ slabs.automove
mode-given slabs class page =
    mode-cuts (after_grow slabs class page) (first_chunks page (class_at (after_grow slabs class page) class).per_page)
    ∙ grown_way (nat_lt 0 (length slabs.pool)) slabs class page

mode-new_page : (m : Machine) (class : ℕ) (page : Option ℕ) → (with_new_page m class page).slabs.automove ≡ m.slabs.automove
mode-new_page m class None = refl
mode-new_page m class (Some page) = mode-given m.slabs class page

extended_way : (b : Bool) (m : Machine) (class : ℕ) → (if b then m else with_new_page m class (next_page m.slabs class)).slabs.automove ≡ m.slabs.automove
extended_way true m class = refl
extended_way false m class = mode-new_page m class (next_page m.slabs class)

stocked_way : (b : Bool) (m : Machine) (class : ℕ) → (if b then m else machine_after_growth (machine_after_sweep m class) class).slabs.automove ≡ m.slabs.automove
stocked_way true m class = refl
stocked_way false m class = extended_way (has_free (machine_after_sweep m class) class) (machine_after_sweep m class) class ∙ mode-reclaims m (dead_chunks m class)

mode-eviction : (m : Machine) (class : ℕ) (found : Option ChunkId) → (with_eviction m class found).slabs.automove ≡ m.slabs.automove
mode-eviction m class None = refl
mode-eviction m class (Some chunk) = refl

relieved_way : (b : Bool) (m : Machine) (class : ℕ) → (if b then m else with_eviction m class (victim m class)).slabs.automove ≡ m.slabs.automove
relieved_way true m class = refl
relieved_way false m class = mode-eviction m class (victim m class)

pub mode-supplied : (m : Machine) (class : ℕ) → (machine_after_supply m class).slabs.automove ≡ m.slabs.automove
mode-supplied m class = relieved_way (has_free (machine_after_stocking m class) class) (machine_after_stocking m class) class ∙ stocked_way (has_free m class) m class
