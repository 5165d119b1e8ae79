use Rattle.std.proofs.Common.{◌≡◌, ◌-◌, ◌<◌, ◌≤◌, List, Contains, true, length, refl, sym, ap, ◌∙◌, subst, arith}
use Rattle.std.proofs.lemmas.Bool.{ltb-true}
use Rattle.mc_pages.specs.declared.ids.ChunkId.{ChunkId}
use Rattle.mc_pages.specs.declared.rows.ListName.TheVariants.{HandedOut}
use Rattle.mc_pages.specs.declared.slabs.Slabs.TheInside.{Inside}
use Rattle.mc_pages.specs.ClassState.{times_in}
use Rattle.mc_pages.specs.Before.{comes_before}
use Rattle.mc_pages.specs.Rows.{IsRow, row_place}
use Rattle.mc_pages.specs.Linked.{list_chunks}
use Rattle.mc_pages.specs.Ages.{age_at, age_of}
use Rattle.mc_pages.specs.SlabState.{SlabState, SlabValue, class_of_page, class_of_chunk}
use Rattle.mc_pages.specs.InOrder.{IsStoredInOrder, slabs_of, callers_slabs}
use Rattle.mc_pages.proofs.Aged.{older_comes_before}
use Rattle.mc_pages.proofs.Chunks.{times_from_Contains}
use Rattle.mc_pages.proofs.HandedOut.{IsClass-handed_out}
use Rattle.mc_pages.proofs.RoomySlabs.{lists_at}
use Rattle.mc_pages.proofs.Roomy.{same_state, accounted_there}
use Rattle.mc_pages.proofs.slabs.Slabs.is_older.Goals as goal

-- the second chunk is in the hand-out order of the first one's class
abbrev IsOut : ChunkId → ChunkId → SlabState → Type 0
IsOut chunk other slabs = Contains (class_of_chunk slabs chunk).order other

-- so it is in the rows
in_rows : (slabs : Inside) (chunk other : ChunkId) → IsOut chunk chunk (slabs_of slabs) → IsOut chunk other (slabs_of slabs) → IsStoredInOrder slabs → 1 ≤ times_in other (list_chunks slabs.rows (HandedOut (class_of_page (slabs_of slabs) chunk.page - 1)))
in_rows slabs chunk other here there kept =
    let s = slabs_of slabs in
    let is = IsClass-handed_out s chunk kept.order.accounted here in
    omega (arith, ap (times_in other) (lists_at slabs (class_of_page s chunk.page) (class_of_page s chunk.page - 1) is refl).1, times_from_Contains other (class_of_chunk s chunk).order there)

-- so it has a row and an age
has_age : {value : SlabValue} (slabs : Inside) (chunk other : ChunkId) → callers_slabs slabs ≡ value → IsStoredInOrder slabs → IsOut chunk chunk value.state → IsOut chunk other value.state → IsRow slabs.rows other × (row_place slabs.rows.most other < length slabs.ages.ages)
has_age slabs chunk other seen kept own out =
    let row = kept.linked.placed (HandedOut (class_of_page (slabs_of slabs) chunk.page - 1)) other (in_rows slabs chunk other (subst (IsOut chunk chunk) (sym (same_state seen)) own) (subst (IsOut chunk other) (sym (same_state seen)) out) kept) in
    (row, omega (arith, row.1, kept.aged.long))

pub place-row-requires : goal.place-row-requires
place-row-requires c = (has_age c.self.inside c.args.chunk c.args.chunk c.self.view_is c.self.invariant c.requires.chunk c.requires.chunk).0

pub place-other-requires : goal.place-other-requires
place-other-requires c = (has_age c.self.inside c.args.chunk c.args.than c.self.view_is c.self.invariant c.requires.chunk c.requires.than).0

pub age-requires : goal.age-requires
age-requires c = omega (arith, c.place-row.ensures, (has_age c.self.inside c.args.chunk c.args.chunk c.self.view_is c.self.invariant c.requires.chunk c.requires.chunk).1)

pub age-requires-2 : goal.age-requires-2
age-requires-2 c = omega (arith, c.place-other.ensures, (has_age c.self.inside c.args.chunk c.args.than c.self.view_is c.self.invariant c.requires.chunk c.requires.than).1)

pub returns-clause-older : goal.returns-clause-older
returns-clause-older c =
    let slabs = c.self.inside in
    let chunk = c.args.chunk in
    let than = c.args.than in
    let here = subst (IsOut chunk chunk) (sym (same_state c.self.view_is)) c.requires.chunk in
    let there = subst (IsOut chunk than) (sym (same_state c.self.view_is)) c.requires.than in
    let is = IsClass-handed_out (slabs_of slabs) chunk c.self.invariant.order.accounted here in
    let place = class_of_page (slabs_of slabs) chunk.page - 1 in
    let age = age_of slabs.rows.most slabs.ages in
    let one = c.age.ensures ∙ ap (age_at slabs.ages) c.place-row.ensures in
    let two = c.age-2.ensures ∙ ap (age_at slabs.ages) c.place-other.ensures in
    λ older.
    subst (λ (s : SlabState). comes_before chunk than (class_of_chunk s chunk).order ≡ true) (same_state c.self.view_is)
    (subst (λ (chunks : List ChunkId). comes_before chunk than chunks ≡ true) (lists_at slabs (class_of_page (slabs_of slabs) chunk.page) place is refl).1
    (older_comes_before age slabs.ages.clock chunk than (list_chunks slabs.rows (HandedOut place)) (c.self.invariant.aged.order place)
    (in_rows slabs chunk chunk here here c.self.invariant) (in_rows slabs chunk than here there c.self.invariant) (omega (arith, one, two, ltb-true _ _ older))))

pub returns-clause-accounted : goal.returns-clause-accounted
returns-clause-accounted c = accounted_there c.self.inside c.self.view_is c.self.invariant
