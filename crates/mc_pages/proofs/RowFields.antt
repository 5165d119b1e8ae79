-- What a field of the rows holds after one of them was written.
use Rattle.std.proofs.Common.{◌≡◌, ◌≢◌, ℕ, ◌+◌, ◌*◌, ◌/◌, ◌<◌, Bool, true, false, cond, nat_lt, List, set, slice_index_or, Option, refl, sym, ap, ap₂, ◌∙◌, subst, inl, inr, ◌⊎◌, arith, lt-ltb, get_or-set_same, get_or-set_other, length-set, eqb-true, eq-eqb}
use Rattle.std.proofs.lemmas.Bool.{cases_Bool, cases_eq, both_ways, ltb-true}
use Rattle.std.proofs.lemmas.Nat.{div-mul-add}
use Rattle.mc_pages.specs.declared.ids.ChunkId.{ChunkId}
use Rattle.mc_pages.specs.declared.rows.fields.Row.{Row}
use Rattle.mc_pages.specs.declared.rows.ListName.{ListName}
use Rattle.mc_pages.specs.declared.rows.Mark.{Mark}
use Rattle.mc_pages.specs.declared.rows.ListName.TheVariants.{Free, HandedOut}
use Rattle.mc_pages.specs.declared.rows.Field.{Field}
use Rattle.mc_pages.specs.declared.rows.Field.TheVariants.{Next, Previous, Head, Tail}
use Rattle.mc_pages.specs.ClassState.{is_chunk}
use Rattle.mc_pages.specs.Rows.{RowsState, no_row, row_place, row_of_chunk, ends_of, list_length, field_of, IsRow, IsList, IsField, with_row, with_ends, with_field, with_mark, with_length}
use Rattle.mc_pages.specs.Linked.{Sizes, sizes_of, is_list}
use Rattle.mc_pages.proofs.Chunks.{is_chunk-same, same_from_is_chunk}

-- two chunks are one or not
pub cases_chunk : (a b : ChunkId) → (a ≡ b) ⊎ (a ≢ b)
cases_chunk a b =
    elim (cases_Bool (is_chunk a b)) [
      | inl same ↦ inl (same_from_is_chunk a b same)
      | inr other ↦ inr (λ h. both_ways _ other (subst (λ (c : ChunkId). is_chunk a c ≡ true) h (is_chunk-same a)))
    ]

-- two names of lists are one or not
pub cases_list : (a b : ListName) → (a ≡ b) ⊎ (a ≢ b)
cases_list (Free a) (Free b) =
    elim (cases_eq a b) [
      | inl same ↦ inl (ap (λ (n : ℕ). Free n) same)
      | inr other ↦ inr (λ h. other (let same : a ≡ b = cc h in same))
    ]
cases_list (HandedOut a) (HandedOut b) =
    elim (cases_eq a b) [
      | inl same ↦ inl (ap (λ (n : ℕ). HandedOut n) same)
      | inr other ↦ inr (λ h. other (let same : a ≡ b = cc h in same))
    ]
cases_list (Free a) (HandedOut b) = inr (λ h. cc h)
cases_list (HandedOut a) (Free b) = inr (λ h. cc h)

-- two chunks whose rows stand at one place are one
pub place-same : (most : ℕ) (a b : ChunkId) → a.index < most → b.index < most → row_place most a ≡ row_place most b → a ≡ b
place-same most a b within within-2 h =
    let page : a.page ≡ b.page = sym (div-mul-add a.page most a.index within) ∙ (ap (λ (n : ℕ). n / most) h ∙ div-mul-add b.page most b.index within-2) in
    let index : a.index ≡ b.index = omega (arith, h, ap (λ (n : ℕ). n * most) page) in
    let named : ℕ → ℕ → ChunkId = λ page index. record { page = page; index = index } in
    ap₂ named page index

-- the row that was written
row_at-same : (rows : RowsState) (chunk : ChunkId) (row : Row) → IsRow rows chunk → row_of_chunk (with_row rows chunk row) chunk ≡ row
row_at-same rows chunk row is =
    let place = row_place rows.most chunk in
    ap (λ b. cond b (slice_index_or (set rows.rows place row) place no_row) no_row) (lt-ltb chunk.index rows.most is.0)
    ∙ get_or-set_same rows.rows place row no_row is.1

-- and every other row
row_at-other : (rows : RowsState) (chunk other : ChunkId) (row : Row) → IsRow rows chunk → other ≢ chunk → row_of_chunk (with_row rows chunk row) other ≡ row_of_chunk rows other
row_at-other rows chunk other row is differs =
    let place = row_place rows.most chunk in
    let there = row_place rows.most other in
    let read : List Row → Bool → Row = λ xs b. cond b (slice_index_or xs there no_row) no_row in
    elim (cases_Bool (nat_lt other.index rows.most)) [
      | inl within ↦
          let apart : there ≢ place = λ h. differs (place-same rows.most other chunk (ltb-true other.index rows.most within) is.0 h) in
          ap (read (set rows.rows place row)) within ∙ (get_or-set_other rows.rows place there row no_row apart ∙ sym (ap (read rows.rows) within))
      | inr past ↦ ap (read (set rows.rows place row)) past ∙ sym (ap (read rows.rows) past)
    ]

-- what a write leaves in its row is in each row as it was
row_at-part : {T : Type 0} (part : Row → T) (rows : RowsState) (chunk other : ChunkId) (row : Row) → IsRow rows chunk → part row ≡ part (row_of_chunk rows chunk) → part (row_of_chunk (with_row rows chunk row) other) ≡ part (row_of_chunk rows other)
row_at-part part rows chunk other row is kept =
    elim (cases_chunk other chunk) [
      | inl same ↦
          subst (λ (c : ChunkId). part (row_of_chunk (with_row rows chunk row) c) ≡ part (row_of_chunk rows c)) (sym same) (ap part (row_at-same rows chunk row is) ∙ kept)
      | inr differs ↦ ap part (row_at-other rows chunk other row is differs)
    ]

-- the own row of a list that was written
ends-same : (rows : RowsState) (list : ListName) (row : Row) → IsList rows list → ends_of (with_ends rows list row) list ≡ row
ends-same rows (Free class) row is = get_or-set_same rows.free class row no_row is.0
ends-same rows (HandedOut class) row is = get_or-set_same rows.handed_out class row no_row is.0

-- and that of every other list
ends-other : (rows : RowsState) (list other : ListName) (row : Row) → other ≢ list → ends_of (with_ends rows list row) other ≡ ends_of rows other
ends-other rows (Free class) (Free other) row differs = get_or-set_other rows.free class other row no_row (λ h. differs (ap (λ (n : ℕ). Free n) h))
ends-other rows (HandedOut class) (HandedOut other) row differs = get_or-set_other rows.handed_out class other row no_row (λ h. differs (ap (λ (n : ℕ). HandedOut n) h))
ends-other rows (Free class) (HandedOut other) row differs = refl
ends-other rows (HandedOut class) (Free other) row differs = refl

ends-part : {T : Type 0} (part : Row → T) (rows : RowsState) (list other : ListName) (row : Row) → IsList rows list → part row ≡ part (ends_of rows list) → part (ends_of (with_ends rows list row) other) ≡ part (ends_of rows other)
ends-part part rows list other row is kept =
    elim (cases_list other list) [
      | inl same ↦
          subst (λ (l : ListName). part (ends_of (with_ends rows list row) l) ≡ part (ends_of rows l)) (sym same) (ap part (ends-same rows list row is) ∙ kept)
      | inr differs ↦ ap part (ends-other rows list other row differs)
    ]

-- chunks' rows and lists' rows don't share fields
row_at-with_ends : (rows : RowsState) (list : ListName) (row : Row) (chunk : ChunkId) → row_of_chunk (with_ends rows list row) chunk ≡ row_of_chunk rows chunk
row_at-with_ends rows (Free class) row chunk = refl
row_at-with_ends rows (HandedOut class) row chunk = refl

ends_of-with_row : (rows : RowsState) (chunk : ChunkId) (row : Row) (list : ListName) → ends_of (with_row rows chunk row) list ≡ ends_of rows list
ends_of-with_row rows chunk row (Free class) = refl
ends_of-with_row rows chunk row (HandedOut class) = refl

-- the field that was written
pub field-same : (rows : RowsState) (field : Field) (link : Option ChunkId) → IsField rows field → field_of (with_field rows field link) field ≡ link
field-same rows (Next chunk) link is = ap (λ (r : Row). r.next) (row_at-same rows chunk _ is)
field-same rows (Previous chunk) link is = ap (λ (r : Row). r.previous) (row_at-same rows chunk _ is)
field-same rows (Head list) link is = ap (λ (r : Row). r.next) (ends-same rows list _ is)
field-same rows (Tail list) link is = ap (λ (r : Row). r.previous) (ends-same rows list _ is)

-- every other field
pub field-other : (rows : RowsState) (field other : Field) (link : Option ChunkId) → IsField rows field → other ≢ field → field_of (with_field rows field link) other ≡ field_of rows other
field-other rows (Next chunk) (Next other) link is differs = ap (λ (r : Row). r.next) (row_at-other rows chunk other _ is (λ h. differs (ap (λ (c : ChunkId). Next c) h)))
field-other rows (Next chunk) (Previous other) link is differs = row_at-part (λ r. r.previous) rows chunk other _ is refl
field-other rows (Next chunk) (Head list) link is differs = ap (λ (r : Row). r.next) (ends_of-with_row rows chunk (record (row_of_chunk rows chunk) { next = link }) list)
field-other rows (Next chunk) (Tail list) link is differs = ap (λ (r : Row). r.previous) (ends_of-with_row rows chunk (record (row_of_chunk rows chunk) { next = link }) list)
field-other rows (Previous chunk) (Next other) link is differs = row_at-part (λ r. r.next) rows chunk other _ is refl
field-other rows (Previous chunk) (Previous other) link is differs = ap (λ (r : Row). r.previous) (row_at-other rows chunk other _ is (λ h. differs (ap (λ (c : ChunkId). Previous c) h)))
field-other rows (Previous chunk) (Head list) link is differs = ap (λ (r : Row). r.next) (ends_of-with_row rows chunk (record (row_of_chunk rows chunk) { previous = link }) list)
field-other rows (Previous chunk) (Tail list) link is differs = ap (λ (r : Row). r.previous) (ends_of-with_row rows chunk (record (row_of_chunk rows chunk) { previous = link }) list)
field-other rows (Head list) (Next other) link is differs = ap (λ (r : Row). r.next) (row_at-with_ends rows list _ other)
field-other rows (Head list) (Previous other) link is differs = ap (λ (r : Row). r.previous) (row_at-with_ends rows list _ other)
field-other rows (Head list) (Head other) link is differs = ap (λ (r : Row). r.next) (ends-other rows list other _ (λ h. differs (ap (λ (l : ListName). Head l) h)))
field-other rows (Head list) (Tail other) link is differs = ends-part (λ r. r.previous) rows list other _ is refl
field-other rows (Tail list) (Next other) link is differs = ap (λ (r : Row). r.next) (row_at-with_ends rows list _ other)
field-other rows (Tail list) (Previous other) link is differs = ap (λ (r : Row). r.previous) (row_at-with_ends rows list _ other)
field-other rows (Tail list) (Head other) link is differs = ends-part (λ r. r.next) rows list other _ is refl
field-other rows (Tail list) (Tail other) link is differs = ap (λ (r : Row). r.previous) (ends-other rows list other _ (λ h. differs (ap (λ (l : ListName). Tail l) h)))

-- a write leaves how many rows and lists there are
sizes-with_ends : (rows : RowsState) (list : ListName) (row : Row) → sizes_of (with_ends rows list row) ≡ sizes_of rows
sizes-with_ends rows (Free class) row = ap (λ (n : ℕ). record (sizes_of rows) { free = n }) (length-set rows.free class row)
sizes-with_ends rows (HandedOut class) row = ap (λ (n : ℕ). record (sizes_of rows) { handed_out = n }) (length-set rows.handed_out class row)

pub sizes-with_field : (rows : RowsState) (field : Field) (link : Option ChunkId) → sizes_of (with_field rows field link) ≡ sizes_of rows
sizes-with_field rows (Next chunk) link = ap (λ (n : ℕ). record (sizes_of rows) { rows = n }) (length-set rows.rows _ _)
sizes-with_field rows (Previous chunk) link = ap (λ (n : ℕ). record (sizes_of rows) { rows = n }) (length-set rows.rows _ _)
sizes-with_field rows (Head list) link = sizes-with_ends rows list _
sizes-with_field rows (Tail list) link = sizes-with_ends rows list _

pub sizes-with_length : (rows : RowsState) (list : ListName) (count : ℕ) → sizes_of (with_length rows list count) ≡ sizes_of rows
sizes-with_length rows (Free class) count = ap (λ (n : ℕ). record (sizes_of rows) { free_lengths = n }) (length-set rows.free_lengths class count)
sizes-with_length rows (HandedOut class) count = ap (λ (n : ℕ). record (sizes_of rows) { handed_out_lengths = n }) (length-set rows.handed_out_lengths class count)

-- and counts as one
writes-with_ends : (rows : RowsState) (list : ListName) (row : Row) → (with_ends rows list row).writes ≡ rows.writes + 1
writes-with_ends rows (Free class) row = refl
writes-with_ends rows (HandedOut class) row = refl

pub writes-with_field : (rows : RowsState) (field : Field) (link : Option ChunkId) → (with_field rows field link).writes ≡ rows.writes + 1
writes-with_field rows (Next chunk) link = refl
writes-with_field rows (Previous chunk) link = refl
writes-with_field rows (Head list) link = writes-with_ends rows list _
writes-with_field rows (Tail list) link = writes-with_ends rows list _

-- a new length is no write
pub writes-with_length : (rows : RowsState) (list : ListName) (count : ℕ) → (with_length rows list count).writes ≡ rows.writes
writes-with_length rows (Free class) count = refl
writes-with_length rows (HandedOut class) count = refl

-- lengths and fields don't touch one another
length-with_ends : (rows : RowsState) (list : ListName) (row : Row) (other : ListName) → list_length (with_ends rows list row) other ≡ list_length rows other
length-with_ends rows (Free class) row (Free other) = refl
length-with_ends rows (Free class) row (HandedOut other) = refl
length-with_ends rows (HandedOut class) row (Free other) = refl
length-with_ends rows (HandedOut class) row (HandedOut other) = refl

length-with_row : (rows : RowsState) (chunk : ChunkId) (row : Row) (list : ListName) → list_length (with_row rows chunk row) list ≡ list_length rows list
length-with_row rows chunk row (Free class) = refl
length-with_row rows chunk row (HandedOut class) = refl

pub length-with_field : (rows : RowsState) (field : Field) (link : Option ChunkId) (list : ListName) → list_length (with_field rows field link) list ≡ list_length rows list
length-with_field rows (Next chunk) link list = length-with_row rows chunk (record (row_of_chunk rows chunk) { next = link }) list
length-with_field rows (Previous chunk) link list = length-with_row rows chunk (record (row_of_chunk rows chunk) { previous = link }) list
length-with_field rows (Head other) link list = length-with_ends rows other _ list
length-with_field rows (Tail other) link list = length-with_ends rows other _ list

ends-with_length : (rows : RowsState) (list : ListName) (count : ℕ) (other : ListName) → ends_of (with_length rows list count) other ≡ ends_of rows other
ends-with_length rows (Free class) count (Free other) = refl
ends-with_length rows (Free class) count (HandedOut other) = refl
ends-with_length rows (HandedOut class) count (Free other) = refl
ends-with_length rows (HandedOut class) count (HandedOut other) = refl

row_at-with_length : (rows : RowsState) (list : ListName) (count : ℕ) (chunk : ChunkId) → row_of_chunk (with_length rows list count) chunk ≡ row_of_chunk rows chunk
row_at-with_length rows (Free class) count chunk = refl
row_at-with_length rows (HandedOut class) count chunk = refl

pub field-with_length : (rows : RowsState) (list : ListName) (count : ℕ) (field : Field) → field_of (with_length rows list count) field ≡ field_of rows field
field-with_length rows list count (Next chunk) = ap (λ (r : Row). r.next) (row_at-with_length rows list count chunk)
field-with_length rows list count (Previous chunk) = ap (λ (r : Row). r.previous) (row_at-with_length rows list count chunk)
field-with_length rows list count (Head other) = ap (λ (r : Row). r.next) (ends-with_length rows list count other)
field-with_length rows list count (Tail other) = ap (λ (r : Row). r.previous) (ends-with_length rows list count other)

-- the length that was set, and every other
pub length-same : (rows : RowsState) (list : ListName) (count : ℕ) → IsList rows list → list_length (with_length rows list count) list ≡ count
length-same rows (Free class) count is = get_or-set_same rows.free_lengths class count 0 is.1
length-same rows (HandedOut class) count is = get_or-set_same rows.handed_out_lengths class count 0 is.1

pub length-other : (rows : RowsState) (list other : ListName) (count : ℕ) → other ≢ list → list_length (with_length rows list count) other ≡ list_length rows other
length-other rows (Free class) (Free other) count differs = get_or-set_other rows.free_lengths class other count 0 (λ h. differs (ap (λ (n : ℕ). Free n) h))
length-other rows (HandedOut class) (HandedOut other) count differs = get_or-set_other rows.handed_out_lengths class other count 0 (λ h. differs (ap (λ (n : ℕ). HandedOut n) h))
length-other rows (Free class) (HandedOut other) count differs = refl
length-other rows (HandedOut class) (Free other) count differs = refl

-- rows, lists and fields are the same where there are as many
pub IsRow-sizes : (before after : RowsState) (chunk : ChunkId) → sizes_of after ≡ sizes_of before → IsRow before chunk → IsRow after chunk
IsRow-sizes before after chunk h is = subst (λ (s : Sizes). (chunk.index < s.most) × (row_place s.most chunk < s.rows)) (sym h) is

pub IsList-sizes : (before after : RowsState) (list : ListName) → sizes_of after ≡ sizes_of before → IsList before list → IsList after list
IsList-sizes before after (Free class) h is = subst (λ (s : Sizes). (class < s.free) × (class < s.free_lengths)) (sym h) is
IsList-sizes before after (HandedOut class) h is = subst (λ (s : Sizes). (class < s.handed_out) × (class < s.handed_out_lengths)) (sym h) is

pub IsField-sizes : (before after : RowsState) (field : Field) → sizes_of after ≡ sizes_of before → IsField before field → IsField after field
IsField-sizes before after (Next chunk) h is = IsRow-sizes before after chunk h is
IsField-sizes before after (Previous chunk) h is = IsRow-sizes before after chunk h is
IsField-sizes before after (Head list) h is = IsList-sizes before after list h is
IsField-sizes before after (Tail list) h is = IsList-sizes before after list h is

-- names of lists as the definitions compare them
pub is_list-same : (list : ListName) → is_list list list ≡ true
is_list-same (Free class) = eq-eqb class class refl
is_list-same (HandedOut class) = eq-eqb class class refl

pub same_from_is_list : (a b : ListName) → is_list a b ≡ true → a ≡ b
same_from_is_list (Free a) (Free b) h = ap (λ (n : ℕ). Free n) (eqb-true a b h)
same_from_is_list (HandedOut a) (HandedOut b) h = ap (λ (n : ℕ). HandedOut n) (eqb-true a b h)
same_from_is_list (Free a) (HandedOut b) h = absurd (both_ways _ refl h)
same_from_is_list (HandedOut a) (Free b) h = absurd (both_ways _ refl h)

pub is_list-other : (a b : ListName) → a ≢ b → is_list a b ≡ false
is_list-other a b differs =
    elim (cases_Bool (is_list a b)) [
      | inl same ↦ absurd (differs (same_from_is_list a b same))
      | inr other ↦ other
    ]

-- the mark of a chunk, where links and lengths are written
mark-with_ends : (rows : RowsState) (list : ListName) (row : Row) (chunk : ChunkId) → (row_of_chunk (with_ends rows list row) chunk).mark ≡ (row_of_chunk rows chunk).mark
mark-with_ends rows list row chunk = ap (λ (r : Row). r.mark) (row_at-with_ends rows list row chunk)

pub mark-with_field : (rows : RowsState) (field : Field) (link : Option ChunkId) (chunk : ChunkId) → IsField rows field → (row_of_chunk (with_field rows field link) chunk).mark ≡ (row_of_chunk rows chunk).mark
mark-with_field rows (Next other) link chunk is = row_at-part (λ r. r.mark) rows other chunk _ is refl
mark-with_field rows (Previous other) link chunk is = row_at-part (λ r. r.mark) rows other chunk _ is refl
mark-with_field rows (Head list) link chunk is = mark-with_ends rows list _ chunk
mark-with_field rows (Tail list) link chunk is = mark-with_ends rows list _ chunk

pub mark-with_length : (rows : RowsState) (list : ListName) (count : ℕ) (chunk : ChunkId) → (row_of_chunk (with_length rows list count) chunk).mark ≡ (row_of_chunk rows chunk).mark
mark-with_length rows list count chunk = ap (λ (r : Row). r.mark) (row_at-with_length rows list count chunk)

-- and where it is written itself
pub mark-same : (rows : RowsState) (chunk : ChunkId) (mark : Mark) → IsRow rows chunk → (row_of_chunk (with_mark rows chunk mark) chunk).mark ≡ mark
mark-same rows chunk mark is = ap (λ (r : Row). r.mark) (row_at-same rows chunk _ is)

pub mark-other : (rows : RowsState) (chunk other : ChunkId) (mark : Mark) → IsRow rows chunk → other ≢ chunk → (row_of_chunk (with_mark rows chunk mark) other).mark ≡ (row_of_chunk rows other).mark
mark-other rows chunk other mark is differs = ap (λ (r : Row). r.mark) (row_at-other rows chunk other _ is differs)

-- it changes no link, no length and no size
pub field-with_mark : (rows : RowsState) (chunk : ChunkId) (mark : Mark) (field : Field) → IsRow rows chunk → field_of (with_mark rows chunk mark) field ≡ field_of rows field
field-with_mark rows chunk mark (Next other) is = row_at-part (λ r. r.next) rows chunk other _ is refl
field-with_mark rows chunk mark (Previous other) is = row_at-part (λ r. r.previous) rows chunk other _ is refl
field-with_mark rows chunk mark (Head list) is = ap (λ (r : Row). r.next) (ends_of-with_row rows chunk (record (row_of_chunk rows chunk) { mark = mark }) list)
field-with_mark rows chunk mark (Tail list) is = ap (λ (r : Row). r.previous) (ends_of-with_row rows chunk (record (row_of_chunk rows chunk) { mark = mark }) list)

pub length-with_mark : (rows : RowsState) (chunk : ChunkId) (mark : Mark) (list : ListName) → list_length (with_mark rows chunk mark) list ≡ list_length rows list
length-with_mark rows chunk mark list = length-with_row rows chunk (record (row_of_chunk rows chunk) { mark = mark }) list

pub sizes-with_mark : (rows : RowsState) (chunk : ChunkId) (mark : Mark) → sizes_of (with_mark rows chunk mark) ≡ sizes_of rows
sizes-with_mark rows chunk mark = ap (λ (n : ℕ). record (sizes_of rows) { rows = n }) (length-set rows.rows _ _)
