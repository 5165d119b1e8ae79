-- What the statistics of a lawful machine tell.
use Rattle.std.proofs.Common.{◌≡◌, ℕ, ◌+◌, ◌*◌, ◌≤◌, List, [], ◌∷◌, length, subst, mul-le-mul_right, div-mul-le_self, add-mul, refl, ap, sym, ◌∙◌, arith}
use Rattle.std.specs.Prelude.{count_by, fold, map, nat_lt, not, sum, sum_by, ◌/◌}
use Rattle.std.specs.List.{range_with_len}
use Rattle.std.proofs.lemmas.List.Sums.{sum-map, sum_by-cons}
use Rattle.mc_classes.specs.Classes.{Classes}
use Rattle.mc_pages.specs.declared.ledger.Owner.{Owner}
use Rattle.mc_pages.specs.ClassState.{ClassState}
use Rattle.mc_pages.specs.SlabState.{SlabState, granted_count, is_untouched}
use Rattle.mc_pages.specs.Accounted.{truth, IsAccounted}
use Rattle.mc_pages.specs.InOrder.{AreSlabsInOrder, populated_count}
use Rattle.mc_pages.proofs.Owners.{count_by-AreGranted}
use Rattle.mc_pages.proofs.Placed.{IsAccounted-numbers}
use Rattle.mc_watch.specs.Texts.{AreCounts}
use Rattle.mc_serial_spec.specs.Automove.{free_counts, class_page_counts}
use Rattle.mc_serial_spec.specs.Lines.{general_text_of, slabs_text_of}
use Rattle.mc_serial_spec.specs.Machine.{Machine, all_swept, machine_after_sweep}
use Rattle.mc_serial_spec.proofs.Bounds.{are_counts}
use Rattle.mc_serial_spec.proofs.MoverSaves.{owners-swept}
use Rattle.mc_serial_laws.specs.Accounts.{AddUp, PrintsGranted}
use Rattle.mc_serial_laws.proofs.Lawful.{IsLawful, Proceeds, off}
use Rattle.mc_serial_laws.proofs.ProceedSweeps.{proceeds_all_swept}
use Rattle.mc_serial_laws.proofs.PagesAddUp.{pages_add_up}

-- in a known mode the pages and chunks are accounted for as they are
pub accounted_in_mode : (m : Machine) → IsLawful m → m.slabs.automove ≤ 2 → IsAccounted m.slabs
accounted_in_mode m lawful most =
    let all : IsAccounted (off m.slabs) = lawful.kept.accounted in
    IsAccounted-numbers (off m.slabs) m.slabs.cursor m.slabs.moved m.slabs.rescues m.slabs.evictions_nomem m.slabs.busy m.slabs.automove all all.cursor most

-- classes with a page, counted among the numbers of their pages
populated : (classes : List ClassState) → populated_count classes ≡ count_by (nat_lt 0) (map (λ (c : ClassState). length c.pages) classes)
populated [] = refl
populated (class ∷ classes) =
    let left = sum_by-cons (λ (c : ClassState). truth (nat_lt 0 (length c.pages))) class classes in
    let right = sum_by-cons (λ (n : ℕ). truth (nat_lt 0 n)) (length class.pages) (map (λ (c : ClassState). length c.pages) classes) in
    left ∙ (ap (λ (n : ℕ). truth (nat_lt 0 (length class.pages)) + n) (populated classes) ∙ sym right)

-- granted bytes are within the limit, but for one page of each class that has one
within_limit : (slabs : SlabState) (granted : ℕ) → AreSlabsInOrder slabs granted → granted_count slabs * slabs.page ≤ slabs.limit + count_by (nat_lt 0) (class_page_counts slabs) * slabs.page
within_limit slabs granted order =
    let at_limit = count_by-AreGranted slabs.owners granted order.lowest in
    let first = count_by (nat_lt 0) (class_page_counts slabs) in
    let most : granted_count slabs ≤ slabs.limit / slabs.page + first = omega (arith, at_limit, order.graced, order.accounted.limit, populated slabs.classes) in
    let bytes = mul-le-mul_right slabs.page most in
    let split : (slabs.limit / slabs.page + first) * slabs.page ≡ slabs.limit / slabs.page * slabs.page + first * slabs.page = add-mul (slabs.limit / slabs.page) first slabs.page in
    omega (arith, bytes, split, div-mul-le_self slabs.limit slabs.page)

pub add_up : (m : Machine) → IsLawful m → AddUp m.table (granted_count m.slabs * m.slabs.page) (slabs_text_of m) (general_text_of m)
add_up m lawful =
    let counts : AreCounts m.table (class_page_counts m.slabs) (free_counts m.slabs) = are_counts m.table (off m.slabs) m.items lawful.kept in
    let pages : sum (class_page_counts m.slabs) ≡ sum_by (λ (c : ClassState). length c.pages) m.slabs.classes
    = sum-map (λ (c : ClassState). length c.pages) m.slabs.classes in
    let all : sum (class_page_counts m.slabs) + length m.slabs.pool ≡ granted_count m.slabs = omega (arith, pages, pages_add_up (off m.slabs) lawful.kept.accounted) in
    record {
      pages = class_page_counts m.slabs;
      free = free_counts m.slabs;
      pool = length m.slabs.pool;
      running = _;
      moved = m.slabs.moved;
      rescues = m.slabs.rescues;
      evictions = m.slabs.evictions_nomem;
      busy = m.slabs.busy;
      told = refl;
      told_in_general = refl;
      pages_of_each = counts.pages_of_each;
      free_of_each = counts.free_of_each;
      chunks = λ class valid. omega (arith, counts.within class valid);
      granted = ap (λ (n : ℕ). n * m.table.page) all ∙ ap (λ (n : ℕ). granted_count m.slabs * n) (sym lawful.kept.page);
      within = subst (λ (p : ℕ × ℕ). granted_count m.slabs * m.slabs.page ≤ p.0 + count_by (nat_lt 0) (class_page_counts m.slabs) * p.1) (λ k. (lawful.kept.limit k, lawful.kept.page k)) (within_limit (off m.slabs) lawful.granted lawful.order);
    }

pub tells_granted : (m : Machine) → PrintsGranted m.table (granted_count m.slabs * m.slabs.page) (slabs_text_of m)
tells_granted m = (class_page_counts m.slabs, free_counts m.slabs, refl)

-- sweeps leave the owners of pages
owners-sweeps : (m : Machine) (classes : List ℕ) → (fold machine_after_sweep m classes).slabs.owners ≡ m.slabs.owners
owners-sweeps m [] = refl
owners-sweeps m (class ∷ classes) = owners-sweeps (machine_after_sweep m class) classes ∙ owners-swept m class

owners-all_swept : (m : Machine) → (all_swept m).slabs.owners ≡ m.slabs.owners
owners-all_swept m = owners-sweeps m (range_with_len 1 (length m.slabs.classes))

-- no fewer bytes are told of a machine with no fewer pages granted
pub bytes_grow : (table : Classes) (m last : Machine) → IsLawful m → IsLawful last → m.table ≡ table → last.table ≡ table
    → granted_count m.slabs ≤ granted_count last.slabs
    → (malloced later : ℕ) × PrintsGranted table malloced (slabs_text_of (all_swept m)) × PrintsGranted table later (slabs_text_of (all_swept last)) × (malloced ≤ later)
bytes_grow table m last lawful lawful_last of_table last_of_table more =
    let count : List Owner → ℕ = λ owners. count_by (λ (owner : Owner). not (is_untouched owner)) owners in
    let goes : Proceeds m (all_swept m) = proceeds_all_swept m lawful in
    let goes_last : Proceeds last (all_swept last) = proceeds_all_swept last lawful_last in
    let same : (all_swept m).table ≡ table = goes.table ∙ of_table in
    let same_last : (all_swept last).table ≡ table = goes_last.table ∙ last_of_table in
    let pages : granted_count (all_swept m).slabs ≤ granted_count (all_swept last).slabs
    = omega (arith, more, ap count (owners-all_swept m), ap count (owners-all_swept last)) in
    let size : (all_swept m).slabs.page ≡ (all_swept last).slabs.page
    = goes.lawful.kept.page ∙ ap (λ (t : Classes). t.page) (same ∙ sym same_last) ∙ sym goes_last.lawful.kept.page in (
      granted_count (all_swept m).slabs * (all_swept m).slabs.page,
      granted_count (all_swept last).slabs * (all_swept last).slabs.page,
      subst (λ (t : Classes). PrintsGranted t (granted_count (all_swept m).slabs * (all_swept m).slabs.page) (slabs_text_of (all_swept m))) same (tells_granted (all_swept m)),
      subst (λ (t : Classes). PrintsGranted t (granted_count (all_swept last).slabs * (all_swept last).slabs.page) (slabs_text_of (all_swept last))) same_last (tells_granted (all_swept last)),
      subst (λ (n : ℕ). granted_count (all_swept m).slabs * (all_swept m).slabs.page ≤ granted_count (all_swept last).slabs * n) size
          (mul-le-mul_right (all_swept m).slabs.page pages),
    )
