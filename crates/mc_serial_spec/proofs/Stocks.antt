-- What stocking a class and sweeping all of them leave as it was, and what a stored item finds.
use Rattle.std.proofs.Common.{◌≡◌, ℕ, ◌+◌, List, [], ◌∷◌, ◌++◌, length, Bool, true, false, Option, Some, None, refl, ap, sym, ◌∙◌, arith}
use Rattle.std.specs.Prelude.{fold, if◌then◌else◌}
use Rattle.std.proofs.lemmas.Bool.Decides.{nat_tests}
use Rattle.std.specs.List.{range_with_len}
use Rattle.std.proofs.lemmas.List.{length-set, map-id}
use Rattle.std.proofs.lemmas.List.Sums.{fold-append}
use Rattle.std.proofs.lemmas.List.FromFn.{map-range_with_len_more}
use Rattle.mc_pages.specs.declared.ids.ChunkId.{ChunkId}
use Rattle.mc_pages.specs.SlabState.{HasClass, class_at}
use Rattle.mc_pages.specs.Accounted.{first_chunks}
use Rattle.mc_pages.specs.Changes.{after_back, after_grow, next_page}
use Rattle.mc_serial_spec.specs.Items.{Items, linked_chunk, unlinked_items}
use Rattle.mc_serial_spec.specs.Machine.{Machine, dead_chunks, machine_after_sweep, has_free, machine_after_growth, machine_after_stocking, with_new_page}
use Rattle.mc_serial_spec.specs.Supply.{victim, with_eviction, machine_after_supply}
use Rattle.mc_serial_spec.proofs.Links.{linked_chunk-unlinked_items}
use Rattle.mc_pages.proofs.ClassChanges.{classes-cuts}
use Rattle.mc_pages.proofs.NextPage.{classes-grown}
use Rattle.mc_serial_spec.proofs.Sweeps.{classes-reclaims}

-- the number of classes stays: in a sweep, in sweeps, with a new page, and where a class is stocked
pub classes-swept : (m : Machine) (class : ℕ) → length (machine_after_sweep m class).slabs.classes ≡ length m.slabs.classes
classes-swept m class = classes-reclaims m (dead_chunks m class)

pub classes-sweeps : (m : Machine) (classes : List ℕ) → length (fold machine_after_sweep m classes).slabs.classes ≡ length m.slabs.classes
classes-sweeps m [] = refl
classes-sweeps m (class ∷ classes) = classes-sweeps (machine_after_sweep m class) classes ∙ classes-swept m class

classes-new_page : (m : Machine) (class : ℕ) (page : Option ℕ) → length (with_new_page m class page).slabs.classes ≡ length m.slabs.classes
classes-new_page m class None = refl
classes-new_page m class (Some page) =
    classes-cuts (after_grow m.slabs class page) (first_chunks page (class_at (after_grow m.slabs class page) class).per_page)
    ∙ ap length (classes-grown m.slabs class page) ∙ length-set m.slabs.classes _ _

classes-extended : (m : Machine) (class : ℕ) (b : Bool)
    → length (if b then m else with_new_page m class (next_page m.slabs class)).slabs.classes ≡ length m.slabs.classes
classes-extended m class true = refl
classes-extended m class false = classes-new_page m class (next_page m.slabs class)

classes-choice : (m : Machine) (class : ℕ) (b : Bool)
    → length (if b then m else machine_after_growth (machine_after_sweep m class) class).slabs.classes ≡ length m.slabs.classes
classes-choice m class true = refl
classes-choice m class false = classes-extended (machine_after_sweep m class) class (has_free (machine_after_sweep m class) class) ∙ classes-swept m class

pub classes-stocked : (m : Machine) (class : ℕ) → length (machine_after_stocking m class).slabs.classes ≡ length m.slabs.classes
classes-stocked m class = classes-choice m class (has_free m class)

-- so a class that is there stays there
pub IsClass-swept : (m : Machine) (class : ℕ) → HasClass m.slabs class → HasClass (machine_after_sweep m class).slabs class
IsClass-swept m class valid = (valid.0, rw (classes-swept m class) valid.1)

pub IsClass-stocked : (m : Machine) (class : ℕ) → HasClass m.slabs class → HasClass (machine_after_stocking m class).slabs class
IsClass-stocked m class valid = (valid.0, rw (classes-stocked m class) valid.1)

-- nor does an eviction change the number of classes
pub classes-eviction : (m : Machine) (class : ℕ) (found : Option ChunkId) → length (with_eviction m class found).slabs.classes ≡ length m.slabs.classes
classes-eviction m class None = refl
classes-eviction m class (Some x) = length-set (after_back m.slabs x).classes _ _ ∙ length-set m.slabs.classes _ _

classes-relief : (m : Machine) (class : ℕ) (b : Bool) → length (if b then m else with_eviction m class (victim m class)).slabs.classes ≡ length m.slabs.classes
classes-relief m class true = refl
classes-relief m class false = classes-eviction m class (victim m class)

pub IsClass-supplied : (m : Machine) (class : ℕ) → HasClass m.slabs class → HasClass (machine_after_supply m class).slabs class
IsClass-supplied m class valid =
    let stocked_in : HasClass (machine_after_stocking m class).slabs class = IsClass-stocked m class valid in
    (valid.0, rw (classes-relief (machine_after_stocking m class) class (has_free (machine_after_stocking m class) class)) stocked_in.1)

-- after a key is unlinked it leads nowhere
pub nowhere-unlinked : (items : Items) (key : ℕ) → linked_chunk (unlinked_items items key) key ≡ None
nowhere-unlinked items key = grind (arith, nat_tests, linked_chunk-unlinked_items key key items)

-- one more class is swept
pub sweeps_more : (m now : Machine) (place : ℕ) → now ≡ fold machine_after_sweep m (range_with_len 1 place)
    → machine_after_sweep now (place + 1) ≡ fold machine_after_sweep m (range_with_len 1 (place + 1))
sweeps_more m now place so_far =
    let more : range_with_len 1 (place + 1) ≡ range_with_len 1 place ++ (place + 1) ∷ []
    = sym (map-id (range_with_len 1 (place + 1))) ∙ map-range_with_len_more (λ (i : ℕ). i) 1 place (place + 1) (omega arith)
    ∙ ap (λ cs. cs ++ (place + 1) ∷ []) (map-id (range_with_len 1 place)) in
    ap (λ (n : Machine). machine_after_sweep n (place + 1)) so_far
    ∙ sym (ap (λ cs. fold machine_after_sweep m cs) more ∙ fold-append machine_after_sweep m (range_with_len 1 place) ((place + 1) ∷ []))

-- for stocking and supplying a class, and for storing an item in it
pub ruleset class_stays = (IsClass-swept, IsClass-stocked)

pub ruleset store_steps = (IsClass-supplied, nowhere-unlinked)
