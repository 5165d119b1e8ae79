-- The classes with their lists, as the code reads and writes them.
use Rattle.std.proofs.Common.{◌≡◌, ℕ, ◌<◌, List, length, set, slice_index_or, sym, ap, ◌∙◌, subst, inl, inr, arith, get_or-set_same, get_or-set_other, length-set}
use Rattle.std.proofs.lemmas.Bool.{cases_eq, cases_lt}
use Rattle.std.proofs.lemmas.List.{ext_get_or, get_or_past}
use Rattle.std.proofs.lemmas.List.FromFn.{get_or-map-range_with_len, length-map-range_with_len}
use Rattle.mc_pages.specs.ClassState.{ClassState, new_class}
use Rattle.mc_pages.specs.Rows.{RowsState}
use Rattle.mc_pages.specs.ClassRows.{with_lists, HasBecome}
use Rattle.mc_pages.specs.Room.{RoomyClass, empty_class, class_states}

-- there are as many
pub length-states : (rows : RowsState) (classes : List RoomyClass) → length (class_states rows classes) ≡ length classes
length-states rows classes = length-map-range_with_len (λ (place : ℕ). with_lists (slice_index_or classes place empty_class).state rows place) 0 (length classes)

-- each is the class with its lists
pub state_at : (rows : RowsState) (classes : List RoomyClass) (place : ℕ) (d : ClassState) → place < length classes → slice_index_or (class_states rows classes) place d ≡ with_lists (slice_index_or classes place empty_class).state rows place
state_at rows classes place d within =
    get_or-map-range_with_len (λ (p : ℕ). with_lists (slice_index_or classes p empty_class).state rows p) 0 (length classes) place place d within (omega arith)

-- the pages of each are those of the class
pub pages_at : (rows : RowsState) (classes : List RoomyClass) (place : ℕ) → (slice_index_or (class_states rows classes) place (new_class 0 0)).pages ≡ (slice_index_or classes place empty_class).state.pages
pages_at rows classes place =
    elim (cases_lt place (length classes)) [
      | inl within ↦ ap (λ (c : ClassState). c.pages) (state_at rows classes place (new_class 0 0) within)
      | inr past ↦
          ap (λ (c : ClassState). c.pages) (get_or_past (class_states rows classes) place (new_class 0 0) (omega (arith, past, length-states rows classes)))
          ∙ sym (ap (λ (c : RoomyClass). c.state.pages) (get_or_past classes place empty_class past))
    ]

-- one class is now this
pub states-set : (rows : RowsState) (classes : List RoomyClass) (place : ℕ) (new : RoomyClass) → place < length classes → class_states rows (set classes place new) ≡ set (class_states rows classes) place (with_lists new.state rows place)
states-set rows classes place new within =
    let d = new_class 0 0 in
    let after = set classes place new in
    let long = length-states rows classes in
    let long-2 : length (class_states rows after) ≡ length classes = length-states rows after ∙ length-set classes place new in
    ext_get_or d (class_states rows after) (set (class_states rows classes) place (with_lists new.state rows place)) (omega (arith, long, long-2, length-set (class_states rows classes) place (with_lists new.state rows place)))
    (λ other below.
    let here : other < length after = omega (arith, below, long-2, length-set classes place new) in
    state_at rows after other d here ∙ (elim (cases_eq other place) [
      | inl same ↦
          subst (λ (p : ℕ). with_lists (slice_index_or after p empty_class).state rows p ≡ slice_index_or (set (class_states rows classes) place (with_lists new.state rows place)) p d) (sym same)
          (ap (λ (c : RoomyClass). with_lists c.state rows place) (get_or-set_same classes place new empty_class within)
          ∙ sym (get_or-set_same (class_states rows classes) place (with_lists new.state rows place) d (omega (arith, within, long))))
      | inr differs ↦
          ap (λ (c : RoomyClass). with_lists c.state rows other) (get_or-set_other classes place other new empty_class differs)
          ∙ (sym (state_at rows classes other d (omega (arith, below, long-2)))
          ∙ sym (get_or-set_other (class_states rows classes) place other (with_lists new.state rows place) d differs))
    ]))

-- the lists of one class have changed
pub states-became : (before after : RowsState) (classes : List RoomyClass) (place : ℕ) (change : ClassState → ClassState) → place < length classes → HasBecome before after place change → class_states after classes ≡ set (class_states before classes) place (change (slice_index_or (class_states before classes) place (new_class 0 0)))
states-became before after classes place change within became =
    let d = new_class 0 0 in
    let now = change (slice_index_or (class_states before classes) place d) in
    let long = length-states before classes in
    let long-2 = length-states after classes in
    ext_get_or d (class_states after classes) (set (class_states before classes) place now) (omega (arith, long, long-2, length-set (class_states before classes) place now))
    (λ other below.
    let here : other < length classes = omega (arith, below, long-2) in
    state_at after classes other d here ∙ (elim (cases_eq other place) [
      | inl same ↦
          subst (λ (p : ℕ). with_lists (slice_index_or classes p empty_class).state after p ≡ slice_index_or (set (class_states before classes) place now) p d) (sym same)
          (became.here (slice_index_or classes place empty_class).state
          ∙ (ap change (sym (state_at before classes place d within))
          ∙ sym (get_or-set_same (class_states before classes) place now d (omega (arith, within, long)))))
      | inr differs ↦
          became.others (slice_index_or classes other empty_class).state other differs
          ∙ (sym (state_at before classes other d here) ∙ sym (get_or-set_other (class_states before classes) place other now d differs))
    ]))
