-- The links of a list after two chunks became neighbours, or one came between two.
use Rattle.std.proofs.Common.{◌≡◌, ◌≢◌, ℕ, ◌+◌, List, Option, Some, None, refl, sym, ap, ◌∙◌, arith}
use Rattle.mc_pages.specs.declared.ids.ChunkId.{ChunkId}
use Rattle.mc_pages.specs.declared.rows.ListName.{ListName}
use Rattle.mc_pages.specs.declared.rows.Mark.{Mark}
use Rattle.mc_pages.specs.declared.rows.Field.{Field}
use Rattle.mc_pages.specs.declared.rows.Field.TheVariants.{Next, Previous, Head, Tail}
use Rattle.mc_pages.specs.Rows.{RowsState, IsField, IsRow, row_of_chunk, field_of, list_length, with_field, with_mark, with_length}
use Rattle.mc_pages.specs.Linked.{sizes_of, forth, back, IsChain, with_neighbours}
use Rattle.mc_pages.proofs.Runs.{Links, IsOutside, run_frame}
use Rattle.mc_pages.proofs.RunChanges.{Joins, Comes}
use Rattle.mc_pages.proofs.RowFields.{field-same, field-other, field-with_length, field-with_mark, mark-with_field, sizes-with_field, writes-with_field, length-with_field, IsField-sizes}

-- where a list goes on, and where it goes back to
abbrev pub forth_in : RowsState → ListName → Links
forth_in rows list link = field_of rows (forth list link)

abbrev pub back_in : RowsState → ListName → Links
back_in rows list link = field_of rows (back list link)

-- no field goes on and back
pub forth≢back : (list other : ListName) (a b : Option ChunkId) → forth list a ≢ back other b
forth≢back list other None None h = cc h
forth≢back list other None (Some d) h = cc h
forth≢back list other (Some c) None h = cc h
forth≢back list other (Some c) (Some d) h = cc h

-- one field goes on behind each chunk, and one goes back
pub forth-same : (list : ListName) (a b : Option ChunkId) → forth list a ≡ forth list b → a ≡ b
forth-same list None None h = refl
forth-same list None (Some d) h = absurd (cc h)
forth-same list (Some c) None h = absurd (cc h)
forth-same list (Some c) (Some d) h = ap (λ (x : ChunkId). Some x) (cc h)

pub back-same : (list : ListName) (a b : Option ChunkId) → back list a ≡ back list b → a ≡ b
back-same list None None h = refl
back-same list None (Some d) h = absurd (cc h)
back-same list (Some c) None h = absurd (cc h)
back-same list (Some c) (Some d) h = ap (λ (x : ChunkId). Some x) (cc h)

-- heads and tails of two lists are apart
head≢forth : (list other : ListName) (a : Option ChunkId) → other ≢ list → Head other ≢ forth list a
head≢forth list other None differs h = differs (cc h)
head≢forth list other (Some c) differs h = cc h

tail≢back : (list other : ListName) (a : Option ChunkId) → other ≢ list → Tail other ≢ back list a
tail≢back list other None differs h = differs (cc h)
tail≢back list other (Some c) differs h = cc h

-- and so are the links of chunks
next≢forth : (list : ListName) (c : ChunkId) (a : Option ChunkId) → Some c ≢ a → Next c ≢ forth list a
next≢forth list c None differs h = cc h
next≢forth list c (Some d) differs h = differs (ap (λ (x : ChunkId). Some x) (cc h))

previous≢back : (list : ListName) (c : ChunkId) (a : Option ChunkId) → Some c ≢ a → Previous c ≢ back list a
previous≢back list c None differs h = cc h
previous≢back list c (Some d) differs h = differs (ap (λ (x : ChunkId). Some x) (cc h))

-- as many rows and lists as before
pub sizes-joined : (rows : RowsState) (list : ListName) (a b : Option ChunkId) → sizes_of (with_neighbours rows list a b) ≡ sizes_of rows
sizes-joined rows list a b = sizes-with_field (with_field rows (forth list a) b) (back list b) a ∙ sizes-with_field rows (forth list a) b

-- two fields were written
pub writes-joined : (rows : RowsState) (list : ListName) (a b : Option ChunkId) → (with_neighbours rows list a b).writes ≡ rows.writes + 2
writes-joined rows list a b = omega (arith, writes-with_field (with_field rows (forth list a) b) (back list b) a, writes-with_field rows (forth list a) b)

-- the lengths are as before
pub length-joined : (rows : RowsState) (list other : ListName) (a b : Option ChunkId) → list_length (with_neighbours rows list a b) other ≡ list_length rows other
length-joined rows list other a b = length-with_field (with_field rows (forth list a) b) (back list b) a other ∙ length-with_field rows (forth list a) b other

-- every other field is as before
pub field-joined : (rows : RowsState) (list : ListName) (a b : Option ChunkId) (field : Field) → IsField rows (forth list a) → IsField rows (back list b) → field ≢ forth list a → field ≢ back list b → field_of (with_neighbours rows list a b) field ≡ field_of rows field
field-joined rows list a b field is is-2 forth_apart back_apart =
    let there = IsField-sizes rows (with_field rows (forth list a) b) (back list b) (sizes-with_field rows (forth list a) b) is-2 in
    field-other (with_field rows (forth list a) b) (back list b) field a there back_apart ∙ field-other rows (forth list a) field b is forth_apart

-- the two are neighbours
pub joined_joins : (rows : RowsState) (list : ListName) (a b : Option ChunkId) → IsField rows (forth list a) → IsField rows (back list b) → Joins (forth_in rows list) (back_in rows list) (forth_in (with_neighbours rows list a b) list) (back_in (with_neighbours rows list a b) list) a b
joined_joins rows list a b is is-2 =
    let first = with_field rows (forth list a) b in
    let there = IsField-sizes rows first (back list b) (sizes-with_field rows (forth list a) b) is-2 in
    record {
      forth = field-other first (back list b) (forth list a) a there (forth≢back list list a b) ∙ field-same rows (forth list a) b is;
      back = field-same first (back list b) a there;
      next = λ x h. field-joined rows list a b (forth list x) is is-2 (λ e. h (forth-same list x a e)) (forth≢back list list x b);
      previous = λ x h. field-joined rows list a b (back list x) is is-2 (λ e. forth≢back list list a x (sym e)) (λ e. h (back-same list x b e));
    }

-- a chunk between two is the neighbour of both
pub joins_comes : (n p n1 p1 n2 p2 : Links) (a : Option ChunkId) (chunk : ChunkId) (b : Option ChunkId) → a ≢ Some chunk → b ≢ Some chunk → Joins n p n1 p1 a (Some chunk) → Joins n1 p1 n2 p2 (Some chunk) b → Comes n p n2 p2 a chunk b
joins_comes n p n1 p1 n2 p2 a chunk b before behind first second =
    record {
      to = second.next a before ∙ first.forth;
      on = second.forth;
      from = second.previous (Some chunk) (λ h. behind (sym h)) ∙ first.back;
      back = second.back;
      next = λ x h k. second.next x k ∙ first.next x h;
      previous = λ x h k. second.previous x h ∙ first.previous x k;
    }

-- another list whose chunks aren't those two still runs
pub run-joined : (rows : RowsState) (list other : ListName) (a b : Option ChunkId) (chunks : List ChunkId) → IsField rows (forth list a) → IsField rows (back list b) → other ≢ list → IsOutside a chunks → IsOutside b chunks → IsChain (forth_in rows other) (back_in rows other) None chunks → IsChain (forth_in (with_neighbours rows list a b) other) (back_in (with_neighbours rows list a b) other) None chunks
run-joined rows list other a b chunks is is-2 differs out out-2 run =
    let kept = λ (field : Field). field-joined rows list a b field is is-2 in
    run_frame (forth_in rows other) (back_in rows other) (forth_in (with_neighbours rows list a b) other) (back_in (with_neighbours rows list a b) other) None chunks
    (kept (Head other) (head≢forth list other a differs) (forth≢back other list None b))
    (kept (Tail other) (λ h. forth≢back list other a None (sym h)) (tail≢back list other b differs))
    (λ c there. kept (Next c) (next≢forth list c a (out c there)) (forth≢back other list (Some c) b))
    (λ c there. kept (Previous c) (λ h. forth≢back list other a (Some c) (sym h)) (previous≢back list c b (out-2 c there)))
    run

-- a length changes no run
pub run-with_length : (rows : RowsState) (list other : ListName) (count : ℕ) (from : Option ChunkId) (chunks : List ChunkId) → IsChain (forth_in rows other) (back_in rows other) from chunks → IsChain (forth_in (with_length rows list count) other) (back_in (with_length rows list count) other) from chunks
run-with_length rows list other count from chunks run =
    let kept = field-with_length rows list count in
    run_frame (forth_in rows other) (back_in rows other) (forth_in (with_length rows list count) other) (back_in (with_length rows list count) other) from chunks
    (kept (forth other from)) (kept (Tail other)) (λ c there. kept (Next c)) (λ c there. kept (Previous c)) run

-- and neither does a mark
pub run-with_mark : (rows : RowsState) (chunk : ChunkId) (mark : Mark) (list : ListName) (chunks : List ChunkId) → IsRow rows chunk → IsChain (forth_in rows list) (back_in rows list) None chunks → IsChain (forth_in (with_mark rows chunk mark) list) (back_in (with_mark rows chunk mark) list) None chunks
run-with_mark rows chunk mark list chunks is run =
    let kept = λ (field : Field). field-with_mark rows chunk mark field is in
    run_frame (forth_in rows list) (back_in rows list) (forth_in (with_mark rows chunk mark) list) (back_in (with_mark rows chunk mark) list) None chunks
    (kept (Head list)) (kept (Tail list)) (λ c there. kept (Next c)) (λ c there. kept (Previous c)) run

-- new neighbours keep their marks
pub mark-joined : (rows : RowsState) (list : ListName) (a b : Option ChunkId) (chunk : ChunkId) → IsField rows (forth list a) → IsField rows (back list b) → (row_of_chunk (with_neighbours rows list a b) chunk).mark ≡ (row_of_chunk rows chunk).mark
mark-joined rows list a b chunk is is-2 =
    let there = IsField-sizes rows (with_field rows (forth list a) b) (back list b) (sizes-with_field rows (forth list a) b) is-2 in
    mark-with_field (with_field rows (forth list a) b) (back list b) a chunk there ∙ mark-with_field rows (forth list a) b chunk is
