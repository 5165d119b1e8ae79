-- A class's lists after a chunk went from one to the other.
use Rattle.std.proofs.Common.{◌≡◌, ◌≢◌, ℕ, ◌+◌, ◌≤◌, zero, suc, Bool, true, cond, List, [], ◌∷◌, ◌++◌, length, slice_get, Option, Some, None, refl, sym, ap, ap₂, ◌∙◌, subst, inl, inr, arith}
use Rattle.std.proofs.lemmas.Bool.{cases_Bool, cases_lt}
use Rattle.std.proofs.lemmas.Option.{slice_get_cases, slice_get_past}
use Rattle.mc_pages.specs.declared.ids.ChunkId.{ChunkId}
use Rattle.mc_pages.specs.declared.rows.ListName.{ListName}
use Rattle.mc_pages.specs.declared.rows.ListName.TheVariants.{Free, HandedOut}
use Rattle.mc_pages.specs.declared.rows.Mark.TheVariants as marks
use Rattle.mc_pages.specs.declared.rows.Field.TheVariants.{Next, Head}
use Rattle.mc_pages.specs.ClassState.{ClassState, is_chunk, times_in, without, first_free, class_after_pop, behind}
use Rattle.mc_pages.specs.Accounted.{truth}
use Rattle.mc_pages.specs.Rows.{RowsState, IsRow, row_of_chunk, field_of, list_length}
use Rattle.mc_pages.specs.Linked.{IsChain, IsLinked, AreLinked, IsUnlisted, list_chunks, with_list, sizes_of}
use Rattle.mc_pages.specs.ClassRows.{with_lists, HasBecome}
use Rattle.mc_pages.proofs.Chunks.{is_chunk-same, same_from_is_chunk, times-cons, times-tail, times-without, times_from_Contains, Contains_from_slice_get}
use Rattle.mc_pages.proofs.Runs.{Links, None≢Some}
use Rattle.mc_pages.proofs.RunChanges.{IsOnce, once-rest}
use Rattle.mc_pages.proofs.RowFields.{cases_list}
use Rattle.mc_pages.proofs.Joined.{forth_in, back_in}
use Rattle.mc_pages.proofs.Linked.{with_list-same, with_list-other}

-- free lists and hand-out orders are apart
pub free≢handed_out : (a b : ℕ) → Free a ≢ HandedOut b
free≢handed_out a b h = cc h

pub handed_out≢free : (a b : ℕ) → HandedOut a ≢ Free b
handed_out≢free a b h = cc h

pub free≢free : (a b : ℕ) → a ≢ b → Free a ≢ Free b
free≢free a b differs h = differs (cc h)

pub handed_out≢handed_out : (a b : ℕ) → a ≢ b → HandedOut a ≢ HandedOut b
handed_out≢handed_out a b differs h = differs (cc h)

-- one list has changed
abbrev pub Changes : (ListName → List ChunkId) → (ListName → List ChunkId) → ListName → List ChunkId → Type 0
Changes before after list chunks = (other : ListName) → after other ≡ with_list before list chunks other

changed-same : (before after : ListName → List ChunkId) (list : ListName) (chunks : List ChunkId) → Changes before after list chunks → after list ≡ chunks
changed-same before after list chunks h = h list ∙ with_list-same before list chunks

pub changed-other : (before after : ListName → List ChunkId) (list other : ListName) (chunks : List ChunkId) → other ≢ list → Changes before after list chunks → after other ≡ before other
changed-other before after list other chunks differs h = h other ∙ with_list-other before list other chunks differs

-- the class at this place has changed so in the lists, and no other has
pub record Becomes (before after : RowsState) (place : ℕ) (change : ClassState → ClassState) : Type 0 where
  pub sizes : sizes_of after ≡ sizes_of before
  pub here : (class : ClassState) → with_lists class after place ≡ change (with_lists class before place)
  pub others : (class : ClassState) (other : ℕ) → other ≢ place → with_lists class after other ≡ with_lists class before other

-- and the rows are lists
pub has_become : (before after : RowsState) (place : ℕ) (change : ClassState → ClassState) → AreLinked after → Becomes before after place change → HasBecome before after place change
has_become before after place change is becomes = record { linked = is; sizes = becomes.sizes; here = becomes.here; others = becomes.others }

-- the lists of a class where one of them has changed, and where both have
pub became_free : (before after : RowsState) (place : ℕ) (change : ClassState → ClassState) (free : List ChunkId) → sizes_of after ≡ sizes_of before → Changes (list_chunks before) (list_chunks after) (Free place) free → ((class : ClassState) → record class { free = free; order = list_chunks before (HandedOut place) } ≡ change (with_lists class before place)) → Becomes before after place change
became_free before after place change free sizes changes so =
    let kept = λ (other : ListName) (differs : other ≢ Free place). changed-other (list_chunks before) (list_chunks after) (Free place) other free differs changes in
    record {
      sizes = sizes;
      here = λ class. ap₂ (λ (f o : List ChunkId). record class { free = f; order = o }) (changed-same (list_chunks before) (list_chunks after) (Free place) free changes) (kept (HandedOut place) (handed_out≢free place place)) ∙ so class;
      others = λ class other differs. ap₂ (λ (f o : List ChunkId). record class { free = f; order = o }) (kept (Free other) (free≢free other place differs)) (kept (HandedOut other) (handed_out≢free other place));
    }

pub became_handed_out : (before after : RowsState) (place : ℕ) (change : ClassState → ClassState) (order : List ChunkId) → sizes_of after ≡ sizes_of before → Changes (list_chunks before) (list_chunks after) (HandedOut place) order → ((class : ClassState) → record class { free = list_chunks before (Free place); order = order } ≡ change (with_lists class before place)) → Becomes before after place change
became_handed_out before after place change order sizes changes so =
    let kept = λ (other : ListName) (differs : other ≢ HandedOut place). changed-other (list_chunks before) (list_chunks after) (HandedOut place) other order differs changes in
    record {
      sizes = sizes;
      here = λ class. ap₂ (λ (f o : List ChunkId). record class { free = f; order = o }) (kept (Free place) (free≢handed_out place place)) (changed-same (list_chunks before) (list_chunks after) (HandedOut place) order changes) ∙ so class;
      others = λ class other differs. ap₂ (λ (f o : List ChunkId). record class { free = f; order = o }) (kept (Free other) (free≢handed_out other place)) (kept (HandedOut other) (handed_out≢handed_out other place differs));
    }

-- one change after another
pub became_then : (before between after : RowsState) (place : ℕ) (first second change : ClassState → ClassState) → Becomes before between place first → Becomes between after place second → ((class : ClassState) → second (first (with_lists class before place)) ≡ change (with_lists class before place)) → AreLinked after → HasBecome before after place change
became_then before between after place first second change one two so is =
    record {
      linked = is;
      sizes = two.sizes ∙ one.sizes;
      here = λ class. two.here class ∙ (ap second (one.here class) ∙ so class);
      others = λ class other differs. two.others class other differs ∙ one.others class other differs;
    }

-- nothing has changed
pub became_same : (rows : RowsState) (place : ℕ) (change : ClassState → ClassState) → AreLinked rows → ((class : ClassState) → with_lists class rows place ≡ change (with_lists class rows place)) → HasBecome rows rows place change
became_same rows place change is so =
    record { linked = is; sizes = refl; here = so; others = λ class other differs. refl }

-- a chunk that has left its list is in none
pub unlisted : (before after : RowsState) (list : ListName) (chunk : ChunkId) → AreLinked before → 1 ≤ times_in chunk (list_chunks before list) → Changes (list_chunks before) (list_chunks after) list (without chunk (list_chunks before list)) → IsUnlisted after chunk
unlisted before after list chunk is there changes other =
    elim (cases_list other list) [
      | inl same ↦
          subst (λ (l : ListName). times_in chunk (list_chunks after l) ≡ 0) (sym same)
          (omega (arith, ap (times_in chunk) (changed-same (list_chunks before) (list_chunks after) list _ changes), times-without chunk chunk (list_chunks before list) there, ap truth (is_chunk-same chunk), is.once list chunk))
      | inr differs ↦ ap (times_in chunk) (changed-other (list_chunks before) (list_chunks after) list other _ differs changes) ∙ is.apart list other chunk differs there
    ]

-- the lengths of lists of which one has changed
pub length-changed : {loose : Option ChunkId} (before after : RowsState) (list : ListName) (chunks : List ChunkId) → IsLinked after (list_chunks after) loose → Changes (list_chunks before) (list_chunks after) list chunks → list_length after list ≡ length chunks
length-changed before after list chunks is changes = is.long list ∙ ap length (changed-same (list_chunks before) (list_chunks after) list chunks changes)

pub length-kept : {loose left : Option ChunkId} (before after : RowsState) (list other : ListName) (chunks : List ChunkId) → IsLinked before (list_chunks before) loose → IsLinked after (list_chunks after) left → other ≢ list → Changes (list_chunks before) (list_chunks after) list chunks → list_length after other ≡ list_length before other
length-kept before after list other chunks is is-2 differs changes =
    is-2.long other ∙ (ap length (changed-other (list_chunks before) (list_chunks after) list other chunks differs changes) ∙ sym (is.long other))

-- a run begins with the first chunk of the list
first_run : (n p : Links) (from : Option ChunkId) (chunks : List ChunkId) → IsChain n p from chunks → n from ≡ slice_get chunks 0
first_run n p from [] run = run.0
first_run n p from (c ∷ cs) run = run.0

pub first_is : (rows : RowsState) (list : ListName) → AreLinked rows → field_of rows (Head list) ≡ slice_get (list_chunks rows list) 0
first_is rows list is = first_run (forth_in rows list) (back_in rows list) None (list_chunks rows list) (is.runs list)

-- and goes on from each chunk to the one behind it
behind_run : (n p : Links) (from : Option ChunkId) (chunks : List ChunkId) (chunk : ChunkId) → IsChain n p from chunks → 1 ≤ times_in chunk chunks → n (Some chunk) ≡ behind chunk chunks
behind_run n p from [] chunk run there = absurd (omega (arith, there))
behind_run n p from (c ∷ cs) chunk run there =
    let read : Bool → Option ChunkId = λ b. cond b (slice_get cs 0) (behind chunk cs) in
    elim (cases_Bool (is_chunk c chunk)) [
      | inl same ↦
          ap (λ (x : ChunkId). n (Some x)) (sym (same_from_is_chunk c chunk same)) ∙ (first_run n p (Some c) cs run.2 ∙ sym (ap read same))
      | inr other ↦ behind_run n p (Some c) cs chunk run.2 (omega (arith, there, times-tail chunk c cs other)) ∙ sym (ap read other)
    ]

pub next_is : (rows : RowsState) (list : ListName) (chunk : ChunkId) → AreLinked rows → 1 ≤ times_in chunk (list_chunks rows list) → field_of rows (Next chunk) ≡ behind chunk (list_chunks rows list)
next_is rows list chunk is there = behind_run (forth_in rows list) (back_in rows list) None (list_chunks rows list) chunk (is.runs list) there

-- a class without free chunks hands out none
popped_none_at : (class : ClassState) (free : List ChunkId) → slice_get free 0 ≡ None → record class { free = free } ≡ class_after_pop (record class { free = free })
popped_none_at class [] h = refl
popped_none_at class (c ∷ cs) h = absurd (None≢Some c (sym h))

pub popped_none : (class : ClassState) → first_free class ≡ None → class ≡ class_after_pop class
popped_none class h = popped_none_at class class.free h

-- and else the first one goes to the back of the order
popped_some_at : (class : ClassState) (free : List ChunkId) (chunk : ChunkId) → slice_get free 0 ≡ Some chunk → record class { free = without chunk free; order = class.order ++ chunk ∷ [] } ≡ class_after_pop (record class { free = free })
popped_some_at class [] chunk h = absurd (None≢Some chunk h)
popped_some_at class (c ∷ cs) chunk h =
    let same : c ≡ chunk = cc h in
    let first : without c (c ∷ cs) ≡ cs = ap (λ b. cond b cs (c ∷ without c cs)) (is_chunk-same c) in
    subst (λ (x : ChunkId). record class { free = without x (c ∷ cs); order = class.order ++ x ∷ [] } ≡ class_after_pop (record class { free = c ∷ cs })) same
    (ap (λ (f : List ChunkId). record class { free = f; order = class.order ++ c ∷ [] }) first)

pub popped_some : (class : ClassState) (chunk : ChunkId) → first_free class ≡ Some chunk → record class { free = without chunk class.free; order = class.order ++ chunk ∷ [] } ≡ class_after_pop class
popped_some class chunk h = popped_some_at class class.free chunk h

-- the first chunk is in the list
pub first_there : (chunk : ChunkId) (chunks : List ChunkId) → slice_get chunks 0 ≡ Some chunk → 1 ≤ times_in chunk chunks
first_there chunk chunks h = times_from_Contains chunk chunks (Contains_from_slice_get chunk chunks 0 h)

-- a chunk of a class that is handed out stands in the order, and one that isn't in the free list
pub listed_row : (rows : RowsState) (class : ℕ) (chunk : ChunkId) → AreLinked rows → 1 ≤ times_in chunk (list_chunks rows (Free class)) + times_in chunk (list_chunks rows (HandedOut class)) → IsRow rows chunk
listed_row rows class chunk is listed =
    elim (cases_lt 0 (times_in chunk (list_chunks rows (Free class)))) [
      | inl there ↦ is.placed (Free class) chunk there
      | inr none ↦ is.placed (HandedOut class) chunk (omega (arith, none, listed))
    ]

-- marks are apart
free_mark≢handed_out : marks.Free ≢ marks.HandedOut
free_mark≢handed_out h = cc h

pub listed_handed_out : (rows : RowsState) (class : ℕ) (chunk : ChunkId) → AreLinked rows → 1 ≤ times_in chunk (list_chunks rows (Free class)) + times_in chunk (list_chunks rows (HandedOut class)) → (row_of_chunk rows chunk).mark ≡ marks.HandedOut → 1 ≤ times_in chunk (list_chunks rows (HandedOut class))
listed_handed_out rows class chunk is listed side =
    elim (cases_lt 0 (times_in chunk (list_chunks rows (Free class)))) [
      | inl there ↦ absurd (free_mark≢handed_out (sym (is.sides (Free class) chunk there) ∙ side))
      | inr none ↦ omega (arith, none, listed)
    ]

pub listed_free : (rows : RowsState) (class : ℕ) (chunk : ChunkId) → AreLinked rows → 1 ≤ times_in chunk (list_chunks rows (Free class)) + times_in chunk (list_chunks rows (HandedOut class)) → (row_of_chunk rows chunk).mark ≢ marks.HandedOut → 1 ≤ times_in chunk (list_chunks rows (Free class))
listed_free rows class chunk is listed side =
    elim (cases_lt 0 (times_in chunk (list_chunks rows (HandedOut class)))) [
      | inl there ↦ absurd (side (is.sides (HandedOut class) chunk there))
      | inr none ↦ omega (arith, none, listed)
    ]

-- behind the chunk at a place of a list stands the chunk at the next place
pub behind_at_some : (chunk : ChunkId) (chunks : List ChunkId) (place : ℕ) → IsOnce chunks → slice_get chunks place ≡ Some chunk → behind chunk chunks ≡ slice_get chunks (suc place)
behind_at_some chunk [] place once h = absurd (None≢Some chunk h)
behind_at_some chunk (c ∷ cs) zero once h =
    let same : c ≡ chunk = cc h in
    ap (λ b. cond b (slice_get cs 0) (behind chunk cs)) (subst (λ (x : ChunkId). is_chunk c x ≡ true) same (is_chunk-same c))
behind_at_some chunk (c ∷ cs) (suc place) once h =
    let read : Bool → Option ChunkId = λ b. cond b (slice_get cs 0) (behind chunk cs) in
    elim (cases_Bool (is_chunk c chunk)) [
      | inl same ↦
          let there = times_from_Contains chunk cs (Contains_from_slice_get chunk cs place h) in
          absurd (omega (arith, there, once chunk, times-cons chunk c cs, ap truth same))
      | inr other ↦ ap read other ∙ behind_at_some chunk cs place (once-rest c cs once) h
    ]

pub behind_at : (rows : RowsState) (list : ListName) (chunk : ChunkId) (place : ℕ) → AreLinked rows → slice_get (list_chunks rows list) place ≡ Some chunk → behind chunk (list_chunks rows list) ≡ slice_get (list_chunks rows list) (place + 1)
behind_at rows list chunk place is h = behind_at_some chunk (list_chunks rows list) place (is.once list) h ∙ ap (λ (n : ℕ). slice_get (list_chunks rows list) n) (omega arith)

-- past a place where a list has no chunk it has none
pub none_past : (chunks : List ChunkId) (place later : ℕ) → slice_get chunks place ≡ None → place ≤ later → slice_get chunks later ≡ None
none_past chunks place later h le =
    elim (cases_lt place (length chunks)) [
      | inl within ↦ elim (slice_get_cases chunks place).1 [
        | inl (x, _, there, _) ↦ absurd (None≢Some x (sym h ∙ there))
        | inr (past, _) ↦ absurd (omega (arith, past, within))
      ]
      | inr past ↦ slice_get_past chunks later (omega (arith, past, le))
    ]
