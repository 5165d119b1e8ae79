-- An idle item of the moving page stays idle while its class's dead are put back, and what the mover finds at it.
use Rattle.std.proofs.Common.{◌≡◌, ◌≢◌, ℕ, ◌≤◌, List, [], ◌∷◌, suc, Bool, true, false, not, Option, Some, None, refl, ap, sym, ◌∙◌, arith, Contains, length}
use Rattle.std.specs.Prelude.{◌==◌, ◌&&◌, find, filter, fold, nat_lt, if◌then◌else◌}
use Rattle.std.specs.Option.{option_map_or}
use Rattle.std.proofs.lemmas.Bool.{false≢true}
use Rattle.std.proofs.lemmas.Bool.Decides.{nat_tests}
use Rattle.std.proofs.lemmas.List.{length-set}
use Rattle.mc_classes.specs.Classes.{Classes}
use Rattle.mc_pages.specs.declared.ids.ChunkId.{ChunkId}
use Rattle.mc_pages.specs.declared.moves.Found.TheVariants.{Cleared, Busy}
use Rattle.mc_pages.specs.ClassState.{is_chunk, times_in}
use Rattle.mc_pages.specs.SlabState.{SlabState, HasClass, class_at, class_of_owner, class_of_page}
use Rattle.mc_pages.specs.declared.ledger.Owner.{Owner}
use Rattle.mc_pages.specs.Ledger.{owner_at}
use Rattle.mc_pages.specs.Accounted.{truth, is_cut, is_cleared}
use Rattle.mc_pages.proofs.Cleared.{truth-le_one}
use Rattle.mc_pages.proofs.Chunks.{times-cons, same_from_is_chunk}
use Rattle.mc_serial_spec.specs.Holds.{is_held}
use Rattle.mc_serial_spec.specs.Item.{Item}
use Rattle.mc_serial_spec.specs.Items.{Items, item_in_chunk, without_item}
use Rattle.mc_serial_spec.specs.Consistent.{IsConsistent}
use Rattle.mc_serial_spec.specs.Machine.{Machine, is_dead_in, has_unheld_linked_item, dead_chunks, after_reclaim, machine_after_sweep}
use Rattle.mc_serial_spec.specs.Mover.{MoverLook, looked_at, machine_after_save, target, with_cleared}
use Rattle.mc_serial_spec.proofs.KeptMoverClear.{handed_item, own_from_cut}

-- another chunk's item stays
item_at-without : (items : Items) (x y : ChunkId) → is_chunk x y ≡ false → item_in_chunk (without_item items x) y ≡ item_in_chunk items y
item_at-without [] x y apart = refl
item_at-without (e ∷ items) x y apart = grind (arith, nat_tests, item_at-without items x y apart)

-- what other chunks' items go leaves a chunk idle or not
idle-reclaims : (m : Machine) (chunks : List ChunkId) (chunk : ChunkId) → times_in chunk chunks ≡ 0
    → has_unheld_linked_item (fold after_reclaim m chunks) chunk ≡ has_unheld_linked_item m chunk
idle-reclaims m [] chunk none = refl
idle-reclaims m (c ∷ chunks) chunk none =
    let apart : is_chunk c chunk ≡ false = grind (arith, nat_tests, times-cons chunk c chunks) in
    let rest : times_in chunk chunks ≡ 0 = omega (arith, times-cons chunk c chunks) in
    idle-reclaims (after_reclaim m c) chunks chunk rest
    ∙ ap (λ (found : Option Item). option_map_or (λ (item : Item). item.linked) found false && not (is_held m.holds chunk)) (item_at-without m.items c chunk apart)

-- a chunk that fails a test isn't among those that pass
times-filter : (p : ChunkId → Bool) (chunk : ChunkId) (chunks : List ChunkId) → p chunk ≡ false → times_in chunk (filter p chunks) ≡ 0
times-filter p chunk [] fails = refl
times-filter p chunk (c ∷ chunks) fails = filter_step (p c) (is_chunk c chunk) refl refl (times-filter p chunk chunks fails)
  where
    filter_step : (b s : Bool) → p c ≡ b → is_chunk c chunk ≡ s → times_in chunk (filter p chunks) ≡ 0 → times_in chunk (filter p (c ∷ chunks)) ≡ 0
    filter_step true true is same rest =
        let one : c ≡ chunk = same_from_is_chunk c chunk same in
        let bad : p c ≡ false = rw one fails in
        absurd (false≢true (sym bad ∙ is))
    filter_step true false is other rest = rw is (omega (arith, times-cons chunk c (filter p chunks), ap truth other, rest))
    filter_step false s is any rest = rw is rest

-- what is idle isn't dead
pub not_dead : (m : Machine) (chunk : ChunkId) → has_unheld_linked_item m chunk ≡ true → is_dead_in m chunk ≡ false
not_dead m chunk idle = dead_step (item_in_chunk m.items chunk) refl idle
  where
    dead_step : (found : Option Item) → item_in_chunk m.items chunk ≡ found → (option_map_or (λ (item : Item). item.linked) found false && not (is_held m.holds chunk)) ≡ true
        → is_dead_in m chunk ≡ false
    dead_step None is bad = cc
    dead_step (Some item) is idle_here = rw is (grind (arith, nat_tests))

-- an idle item is still so after a sweep
pub idle_swept : (m : Machine) (class : ℕ) (chunk : ChunkId) → has_unheld_linked_item m chunk ≡ true → has_unheld_linked_item (machine_after_sweep m class) chunk ≡ true
idle_swept m class chunk idle =
    idle-reclaims m (dead_chunks m class) chunk (times-filter (is_dead_in m) chunk (class_at m.slabs class).order (not_dead m chunk idle)) ∙ idle

-- a sweep leaves the move, the owners and the number of classes
moving-reclaims : (m : Machine) (chunks : List ChunkId) → (fold after_reclaim m chunks).slabs.moving ≡ m.slabs.moving
moving-reclaims m [] = refl
moving-reclaims m (c ∷ chunks) = moving-reclaims (after_reclaim m c) chunks

owners-reclaims : (m : Machine) (chunks : List ChunkId) → (fold after_reclaim m chunks).slabs.owners ≡ m.slabs.owners
owners-reclaims m [] = refl
owners-reclaims m (c ∷ chunks) = owners-reclaims (after_reclaim m c) chunks

length-reclaims : (m : Machine) (chunks : List ChunkId) → length (fold after_reclaim m chunks).slabs.classes ≡ length m.slabs.classes
length-reclaims m [] = refl
length-reclaims m (c ∷ chunks) = length-reclaims (after_reclaim m c) chunks ∙ length-set m.slabs.classes _ _

pub moving-swept : (m : Machine) (class : ℕ) → (machine_after_sweep m class).slabs.moving ≡ m.slabs.moving
moving-swept m class = moving-reclaims m (dead_chunks m class)

pub owners-swept : (m : Machine) (class : ℕ) → (machine_after_sweep m class).slabs.owners ≡ m.slabs.owners
owners-swept m class = owners-reclaims m (dead_chunks m class)

pub class_swept : (m : Machine) (class other : ℕ) → HasClass m.slabs other → HasClass (machine_after_sweep m class).slabs other
class_swept m class other valid = (valid.0, omega (arith, valid.1, length-reclaims m (dead_chunks m class)))

-- what a search finds is there, and passes
found_passes : (p : ChunkId → Bool) (chunks : List ChunkId) (x : ChunkId) → find p chunks ≡ Some x → Contains chunks x × (p x ≡ true)
found_passes p [] x h = cc
found_passes p (c ∷ chunks) x h = found_step (p c) refl h (found_passes p chunks x)
  where
    found_step : (b : Bool) → p c ≡ b → find p (c ∷ chunks) ≡ Some x → (find p chunks ≡ Some x → Contains chunks x × (p x ≡ true))
        → Contains (c ∷ chunks) x × (p x ≡ true)
    found_step true is here more =
        let at : Some c ≡ Some x = rw is at here in
        let same : c ≡ x = cc in
        ((0, omega arith, same), rw (← same) is)
    found_step false is below more =
        let rest = more (rw is at below) in
        ((suc rest.0.0, omega (arith, rest.0.1), rest.0.2), rest.1)

pub target_free : (m : Machine) (class page : ℕ) (x : ChunkId) → target m class page ≡ Some x
    → Contains (class_at m.slabs class).free x × (x.page ≢ page)
target_free m class page x h =
    let found = found_passes (λ chunk. not (chunk.page == page)) (class_at m.slabs class).free x h in
    (found.0, grind (arith, nat_tests, found.1))

-- a chunk with an item is neither cleared nor free
pub with_item_tests : (table : Classes) (slabs : SlabState) (items : Items) (class : ℕ) (chunk : ChunkId) (item : Item)
    → IsConsistent table slabs items → HasClass slabs class → class_of_page slabs chunk.page ≡ class → item_in_chunk items chunk ≡ Some item
    → (is_cleared slabs class chunk ≡ false) × (nat_lt 0 (times_in chunk (class_at slabs class).free) ≡ false)
with_item_tests table slabs items class chunk item kept valid own there =
    let handed : 1 ≤ times_in chunk (class_at slabs class).order = rw own at (handed_item table slabs items chunk item kept there) in
    let sum = kept.accounted.chunks class chunk valid in
    let most = truth-le_one (is_cut slabs class chunk) in
    let none : truth (is_cleared slabs class chunk) ≡ 0 = omega (arith, sum, most, handed) in
    let no_free : times_in chunk (class_at slabs class).free ≡ 0 = omega (arith, sum, most, handed) in
    (not_true (is_cleared slabs class chunk) none, rw no_free refl)
  where
    not_true : (b : Bool) → truth b ≡ 0 → b ≡ false
    not_true true h = absurd (omega (arith, h))
    not_true false h = refl

-- what is done with a chunk that has an item
abbrev pub looked_item : Machine → ℕ → ChunkId → MoverLook
looked_item m class chunk =
    if is_dead_in m chunk then record { machine = with_cleared m chunk; found = Cleared }
    else if has_unheld_linked_item m chunk then machine_after_save m class chunk
    else record { machine = m; found = Busy }

pub looked_with_item : (m now : Machine) (class : ℕ) (chunk : ChunkId) (item : Item) → IsConsistent m.table m.slabs m.items → m ≡ now
    → HasClass now.slabs class → is_cut now.slabs class chunk ≡ true → item_in_chunk m.items chunk ≡ Some item
    → looked_at now class chunk ≡ looked_item now class chunk
looked_with_item m now class chunk item kept same valid cut there =
    let kept_now : IsConsistent now.table now.slabs now.items = rw same at kept in
    let there_now : item_in_chunk now.items chunk ≡ Some item = rw same at there in
    let tests = with_item_tests now.table now.slabs now.items class chunk item kept_now valid (own_from_cut now.slabs class chunk cut) there_now in
    rw (tests.0, tests.1) refl

-- what somebody holds stays
pub busy_if_held : (m : Machine) (class : ℕ) (chunk : ChunkId) → is_held m.holds chunk ≡ true → looked_item m class chunk ≡ record { machine = m; found = Busy }
busy_if_held m class chunk held =
    let dead : is_dead_in m chunk ≡ false = grind (arith, nat_tests) in
    let idle : has_unheld_linked_item m chunk ≡ false = grind (arith, nat_tests) in
    rw (dead, idle) refl

-- and what nobody holds is dead or idle, as its key leads to it or not
pub dead_if_unlinked : (m : Machine) (chunk : ChunkId) (item : Item) → item_in_chunk m.items chunk ≡ Some item → is_held m.holds chunk ≡ false → item.linked ≡ false → is_dead_in m chunk ≡ true
dead_if_unlinked m chunk item there free unlinked = rw (there, free, unlinked) refl

pub idle_if_linked : (m : Machine) (chunk : ChunkId) (item : Item) → item_in_chunk m.items chunk ≡ Some item → is_held m.holds chunk ≡ false → item.linked ≡ true → has_unheld_linked_item m chunk ≡ true
idle_if_linked m chunk item there free linked = rw (there, free, linked) refl

-- the page's class is the same after a sweep
pub own_swept : (m now : Machine) (class page : ℕ) → now ≡ machine_after_sweep m class → class_of_page m.slabs page ≡ class → class_of_page now.slabs page ≡ class
own_swept m now class page same own =
    ap (λ (m : Machine). class_of_page m.slabs page) same
    ∙ ap (λ (owners : List Owner). class_of_owner (owner_at owners page)) (owners-swept m class) ∙ own
