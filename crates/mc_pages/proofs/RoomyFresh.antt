-- No page is granted yet, no room is kept, and all lists are empty.
use Rattle.std.proofs.Common.{refl, subst, ◌≡◌, ℕ, ◌-◌, ◌*◌, ◌/◌, ◌<◌, ◌≤◌, Bool, nat_lt, if◌then◌else◌, List, [], length, None, replicate, slice_index_or, sym, ap, ap₂, ◌∙◌, inl, inr, arith}
use Rattle.std.proofs.Math.ListN.{get_or-map as get_or-map_at}
use Rattle.std.proofs.Math.Nat.{div-mul-le_self, mul-le-mul_left}
use Rattle.std.proofs.lemmas.Bool.{cases_Bool, cases_lt}
use Rattle.std.proofs.lemmas.Nat.{le-div}
use Rattle.std.proofs.lemmas.List.{ext_get_or, get_or-map, get_or_past, get_or-replicate, length-map, length-replicate}
use Rattle.mc_classes.specs.Classes.{Classes, IsSound, per_page_of}
use Rattle.mc_pages.specs.declared.ids.ChunkId.{ChunkId}
use Rattle.mc_pages.specs.declared.rows.fields.Row.{Row}
use Rattle.mc_pages.specs.declared.rows.ListName.{ListName}
use Rattle.mc_pages.specs.declared.rows.ListName.TheVariants.{Free, HandedOut}
use Rattle.mc_pages.specs.ClassState.{ClassState, new_class}
use Rattle.mc_pages.specs.declared.rows.Mark.TheVariants.{Unlisted}
use Rattle.mc_pages.specs.Rows.{RowsState, no_row, row_place, row_of_chunk, ends_of, list_length, fresh_rows}
use Rattle.mc_pages.specs.Linked.{IsLinked, AreLinked, sizes_of}
use Rattle.mc_pages.specs.ClassRows.{with_lists}
use Rattle.mc_pages.specs.Ages.{AgesState, HasAges, fresh_ages}
use Rattle.mc_pages.specs.Room.{RoomyClass, class_states}
use Rattle.mc_pages.specs.SlabState.{HasClass, class_at, fresh_slabs}
use Rattle.mc_pages.specs.InOrder.{HasRows, classes_without_room}
use Rattle.mc_pages.proofs.KeptAges.{HasAges-none_out}
use Rattle.mc_pages.proofs.Linked.{chunks_are, are_linked}
use Rattle.mc_pages.proofs.States.{length-states, state_at}

-- no class has a page
pub pages-fresh : (table : Classes) (class : ℕ) → HasClass (fresh_slabs table) class → length (class_at (fresh_slabs table) class).pages ≡ 0
pages-fresh table class is =
    let made = λ (size : ℕ). new_class size (table.page / size) in
    ap (λ (c : ClassState). length c.pages)
    (get_or-map made table.sizes (class - 1) 0 (new_class 0 0) (omega (arith, is.0, is.1, length-map table.sizes made)))

-- where all are equal, each is
replicated : {X : Type 0} (n place : ℕ) (x : X) → slice_index_or (replicate n x) place x ≡ x
replicated n place x =
    elim (cases_lt place n) [
      | inl within ↦ get_or-replicate n place x x within
      | inr past ↦ get_or_past (replicate n x) place x (omega (arith, past, length-replicate n x))
    ]

ends-fresh : (most rows classes : ℕ) (list : ListName) → ends_of (fresh_rows most rows classes) list ≡ no_row
ends-fresh most rows classes (Free class) = replicated classes class no_row
ends-fresh most rows classes (HandedOut class) = replicated classes class no_row

length-fresh : (most rows classes : ℕ) (list : ListName) → list_length (fresh_rows most rows classes) list ≡ 0
length-fresh most rows classes (Free class) = replicated classes class 0
length-fresh most rows classes (HandedOut class) = replicated classes class 0

mark-fresh : (most rows classes : ℕ) (chunk : ChunkId) → (row_of_chunk (fresh_rows most rows classes) chunk).mark ≡ Unlisted
mark-fresh most rows classes chunk =
    let read : Bool → Row = λ b. if b then slice_index_or (replicate rows no_row) (row_place most chunk) no_row else no_row in
    elim (cases_Bool (nat_lt chunk.index most)) [
      | inl within ↦ ap (λ b. (read b).mark) within ∙ ap (λ (r : Row). r.mark) (replicated rows (row_place most chunk) no_row)
      | inr past ↦ ap (λ b. (read b).mark) past
    ]

-- the rows are empty lists
linked-fresh : (most rows classes : ℕ) → IsLinked (fresh_rows most rows classes) (λ list. []) None
linked-fresh most rows classes =
    record {
      runs = λ list. (ap (λ (r : Row). r.next) (ends-fresh most rows classes list), ap (λ (r : Row). r.previous) (ends-fresh most rows classes list));
      long = length-fresh most rows classes;
      once = λ list chunk. omega arith;
      apart = λ list other chunk differs there. absurd (omega (arith, there));
      sides = λ list chunk there. absurd (omega (arith, there));
      listed = λ chunk _ some. absurd (some (mark-fresh most rows classes chunk));
      placed = λ list chunk there. absurd (omega (arith, there));
    }

pub AreLinked-fresh : (most rows classes : ℕ) → AreLinked (fresh_rows most rows classes)
AreLinked-fresh most rows classes = are_linked _ _ (linked-fresh most rows classes)

-- no chunk has an age, and none is handed out
pub HasAges-fresh : (rows : RowsState) (ages : AgesState) (most chunks classes : ℕ) → rows ≡ fresh_rows most chunks classes → ages ≡ fresh_ages chunks → HasAges rows ages
HasAges-fresh rows ages most chunks classes rows_are ages_are =
    subst (λ (r : RowsState). HasAges r ages) (sym rows_are)
    (subst (λ (a : AgesState). HasAges (fresh_rows most chunks classes) a) (sym ages_are)
    (HasAges-none_out (fresh_rows most chunks classes) (fresh_ages chunks) (omega (arith, length-replicate chunks no_row, length-replicate {A = ℕ} chunks 0)) refl
    (λ class. chunks_are _ _ (linked-fresh most chunks classes) (HandedOut class))))

-- classes without room are seen as they are
pub states-fresh : (table : Classes) (most rows count : ℕ) → class_states (fresh_rows most rows count) (classes_without_room (fresh_slabs table).classes) ≡ (fresh_slabs table).classes
states-fresh table most rows count =
    let made : ℕ → ClassState = λ size. new_class size (table.page / size) in
    let bare : ClassState → RoomyClass = λ state. record { state = state; room = 0 } in
    let all = (fresh_slabs table).classes in
    let none = chunks_are _ _ (linked-fresh most rows count) in
    let d = new_class 0 0 in
    let long = length-states (fresh_rows most rows count) (classes_without_room all) in
    let long-2 = length-map all bare in
    ext_get_or d _ all (omega (arith, long, long-2))
    (λ place below.
    let within : place < length all = omega (arith, below, long, long-2) in
    let is : slice_index_or all place d ≡ made (slice_index_or table.sizes place 0) = get_or-map made table.sizes place 0 d (omega (arith, within, length-map table.sizes made)) in
    let own = λ (c : ClassState). with_lists c (fresh_rows most rows count) place in
    let state = ap (λ (c : RoomyClass). own c.state) (get_or-map_at bare all place d) in
    state_at (fresh_rows most rows count) (classes_without_room all) place d (omega (arith, within, long-2)) ∙ (state ∙ (ap own is
    ∙ (ap₂ (λ (f o : List ChunkId). record (made (slice_index_or table.sizes place 0)) { free = f; order = o }) (none (Free place)) (none (HandedOut place)) ∙ sym is))))

-- larger chunks are no more on a page
fewer_chunks : (page small large : ℕ) → 0 < small → small ≤ large → page / large ≤ page / small
fewer_chunks page small large some le =
    le-div (page / large) page small some (omega (arith, mul-le-mul_left (page / large) le, div-mul-le_self page large))

-- no class has more chunks a page than the first
most-fresh : (table : Classes) (class : ℕ) → IsSound table → 1 ≤ class → (class_at (fresh_slabs table) class).per_page ≤ per_page_of table 1
most-fresh table class sound first =
    let made : ℕ → ClassState = λ size. new_class size (table.page / size) in
    let all = (fresh_slabs table).classes in
    let d = new_class 0 0 in
    elim (cases_lt (class - 1) (length table.sizes)) [
      | inl within ↦
          let is = ap (λ (c : ClassState). c.per_page) (get_or-map made table.sizes (class - 1) 0 d within) in
          let one : (1 ≤ 1) × (1 ≤ length table.sizes) = (omega arith, sound.count.0) in
          let order = sound.order 1 class one (first, omega (arith, within, first)) first in
          let some = (sound.sizes 1 one).0 in
          omega (arith, is, fewer_chunks table.page _ _ (omega (arith, some)) order)
      | inr past ↦
          omega (arith, ap (λ (c : ClassState). c.per_page) (get_or_past all (class - 1) d (omega (arith, past, length-map table.sizes made))))
    ]

-- there are rows for all chunks, and lists for all classes
pub HasRows-fresh : (table : Classes) (pages : ℕ) → IsSound table → HasRows (fresh_slabs table).classes pages (sizes_of (fresh_rows (per_page_of table 1) (pages * per_page_of table 1) (length table.sizes)))
HasRows-fresh table pages sound =
    let made : ℕ → ClassState = λ size. new_class size (table.page / size) in
    let long = length-map table.sizes made in
    let rows = length-replicate (length table.sizes) no_row in
    let lengths = length-replicate {A = ℕ} (length table.sizes) 0 in
    record {
      rows = length-replicate (pages * per_page_of table 1) no_row;
      most = λ class first. most-fresh table class sound first;
      free = omega (arith, long, rows);
      handed_out = omega (arith, long, rows);
      free_lengths = omega (arith, long, lengths);
      handed_out_lengths = omega (arith, long, lengths);
    }
