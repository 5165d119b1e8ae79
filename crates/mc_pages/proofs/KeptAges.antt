-- The hand-out orders go by age after each change of the lists of one class.
use Rattle.std.proofs.Common.{◌≡◌, ◌≢◌, ℕ, ◌≤◌, ◌<◌, List, [], ◌∷◌, ◌++◌, length, set, slice_get, ◌^◌, Some, None, refl, sym, ap, ◌∙◌, subst, inl, inr, arith, get_or-set_same, get_or-set_other, length-set}
use Rattle.std.proofs.lemmas.Bool.{cases_eq}
use Rattle.mc_pages.specs.declared.ids.ChunkId.{ChunkId}
use Rattle.mc_pages.specs.declared.rows.ListName.TheVariants.{Free, HandedOut}
use Rattle.mc_pages.specs.declared.rows.ListName.{ListName}
use Rattle.mc_pages.specs.ClassState.{ClassState, new_class, times_in, without, class_after_hand_out, class_after_pop, class_after_touch, class_after_replacement, put_back, class_after_clear, with_cut, counter_after}
use Rattle.mc_pages.specs.Rows.{RowsState, IsRow, row_place}
use Rattle.mc_pages.specs.Linked.{AreLinked, Sizes, list_chunks}
use Rattle.mc_pages.specs.ClassRows.{HasBecome, with_lists}
use Rattle.mc_pages.specs.Ages.{AgesState, AreAged, HasAges, age_of, ages_after_renewal, ages_after_inheritance}
use Rattle.mc_pages.specs.Accounted.{truth}
use Rattle.mc_pages.proofs.Chunks.{None≢Some, is_chunk-same, times-push}
use Rattle.mc_pages.proofs.Lists.{times-with_before}
use Rattle.mc_pages.proofs.RowFields.{place-same}
use Rattle.mc_pages.proofs.Aged.{aged-same, aged-without, aged-push, aged-with_before}

-- the hand-out order of a class, of which the rest doesn't matter
abbrev order_before : RowsState → ℕ → (ClassState → ClassState) → List ChunkId
order_before rows place change = (change (with_lists (new_class 0 0) rows place)).order

-- it is that order after the change
pub order_became : (before after : RowsState) (place : ℕ) (change : ClassState → ClassState) → HasBecome before after place change → list_chunks after (HandedOut place) ≡ order_before before place change
order_became before after place change became = ap (λ (c : ClassState). c.order) (became.here (new_class 0 0))

-- and each other is as before
pub order_others : (before after : RowsState) (place other : ℕ) (change : ClassState → ClassState) → HasBecome before after place change → other ≢ place → list_chunks after (HandedOut other) ≡ list_chunks before (HandedOut other)
order_others before after place other change became differs = ap (λ (c : ClassState). c.order) (became.others (new_class 0 0) other differs)

-- pages have as many rows as before
most_is : (before after : RowsState) (place : ℕ) (change : ClassState → ClassState) → HasBecome before after place change → after.most ≡ before.most
most_is before after place change became = ap (λ (s : Sizes). s.most) became.sizes

-- what went by age still does
aged_before : (before after : RowsState) (ages : AgesState) (place class : ℕ) (change : ClassState → ClassState) → HasBecome before after place change → HasAges before ages → AreAged (age_of after.most ages) ages.clock (list_chunks before (HandedOut class))
aged_before before after ages place class change became has =
    subst (λ (most : ℕ). AreAged (age_of most ages) ages.clock (list_chunks before (HandedOut class))) (sym (most_is before after place change became)) (has.order class)

-- all orders go by age where the changed one does, and the others do
HasAges-became : (before after : RowsState) (now : AgesState) (place : ℕ) (change : ClassState → ClassState) → HasBecome before after place change → length now.ages ≡ length before.rows → now.clock < 2 ^ 64 → AreAged (age_of after.most now) now.clock (list_chunks after (HandedOut place)) → ((other : ℕ) → other ≢ place → AreAged (age_of after.most now) now.clock (list_chunks before (HandedOut other))) → HasAges after now
HasAges-became before after now place change became long word here others =
    record {
      long = omega (arith, long, ap (λ (s : Sizes). s.rows) became.sizes);
      clock = word;
      order = λ class.
          elim (cases_eq class place) [
            | inl same ↦ subst (λ (n : ℕ). AreAged (age_of after.most now) now.clock (list_chunks after (HandedOut n))) (sym same) here
            | inr differs ↦ subst (AreAged (age_of after.most now) now.clock) (sym (order_others before after place class change became differs)) (others class differs)
          ];
    }

-- chunks leave the order of one class, or none does, and no age is written
pub HasAges-kept : (before after : RowsState) (ages : AgesState) (place : ℕ) (change : ClassState → ClassState) → HasBecome before after place change → HasAges before ages → AreAged (age_of after.most ages) ages.clock (order_before before place change) → HasAges after ages
HasAges-kept before after ages place change became has here =
    HasAges-became before after ages place change became has.long has.clock
    (subst (AreAged (age_of after.most ages) ages.clock) (sym (order_became before after place change became)) here)
    (λ other differs. aged_before before after ages place other change became has)

-- a clock that goes on isn't lower
clock_goes_on : (clock : ℕ) → clock < 2 ^ 64 → clock ≤ counter_after clock 1
clock_goes_on clock below = omega (arith, below)

-- and fits its word
clock_fits : (clock : ℕ) → counter_after clock 1 < 2 ^ 64
clock_fits clock = omega arith

-- a chunk that is given back
pub HasAges-back : (before after : RowsState) (ages : AgesState) (place : ℕ) (chunk : ChunkId) → HasBecome before after place (λ class. put_back class chunk) → HasAges before ages → HasAges after ages
HasAges-back before after ages place chunk became has =
    HasAges-kept before after ages place _ became has (aged-without (age_of after.most ages) ages.clock chunk _ (aged_before before after ages place place _ became has))

-- or cleared
pub HasAges-cleared : (before after : RowsState) (ages : AgesState) (place : ℕ) (chunk : ChunkId) → HasBecome before after place (λ class. class_after_clear class chunk) → HasAges before ages → HasAges after ages
HasAges-cleared before after ages place chunk became has =
    HasAges-kept before after ages place _ became has (aged-without (age_of after.most ages) ages.clock chunk _ (aged_before before after ages place place _ became has))

-- or cut
pub HasAges-cut : (before after : RowsState) (ages : AgesState) (place : ℕ) (chunk : ChunkId) → HasBecome before after place (λ class. with_cut class chunk) → HasAges before ages → HasAges after ages
HasAges-cut before after ages place chunk became has =
    HasAges-kept before after ages place _ became has (aged_before before after ages place place _ became has)

-- another order doesn't have a chunk of this one
apart_others : (rows : RowsState) (place other : ℕ) (chunk : ChunkId) → AreLinked rows → other ≢ place → 1 ≤ times_in chunk (list_chunks rows (HandedOut place)) → times_in chunk (list_chunks rows (HandedOut other)) ≡ 0
apart_others rows place other chunk linked differs there =
    linked.apart (HandedOut place) (HandedOut other) chunk (λ h. differs (let same : other ≡ place = cc h in same)) there

-- the age at a place after it was written at another chunk's
age-other : (most age clock : ℕ) (ages : AgesState) (chunk other : ChunkId) → chunk.index < most → other.index < most → other ≢ chunk → age_of most (record { ages = set ages.ages (row_place most chunk) age; clock = clock }) other ≡ age_of most ages other
age-other most age clock ages chunk other within within-2 differs =
    get_or-set_other ages.ages (row_place most chunk) (row_place most other) age 0 (λ same. differs (place-same most other chunk within-2 within same))

-- and at its own
age-same : (most age clock : ℕ) (ages : AgesState) (chunk : ChunkId) → row_place most chunk < length ages.ages → age_of most (record { ages = set ages.ages (row_place most chunk) age; clock = clock }) chunk ≡ age
age-same most age clock ages chunk within = get_or-set_same ages.ages (row_place most chunk) age 0 within

-- a list that goes by age and doesn't have the chunk still does, whatever age that one gets
aged-written : (rows : RowsState) (age clock : ℕ) (ages : AgesState) (chunk : ChunkId) (list : ListName) (chunks : List ChunkId) → AreLinked rows → IsRow rows chunk → ages.clock ≤ clock → ((other : ChunkId) → 1 ≤ times_in other chunks → 1 ≤ times_in other (list_chunks rows list)) → times_in chunk chunks ≡ 0 → AreAged (age_of rows.most ages) ages.clock chunks → AreAged (age_of rows.most (record { ages = set ages.ages (row_place rows.most chunk) age; clock = clock })) clock chunks
aged-written rows age clock ages chunk list chunks linked row on listed absent aged =
    aged-same (age_of rows.most ages) _ ages.clock clock chunks aged on
    (λ other there.
    age-other rows.most age clock ages chunk other row.0 (linked.placed list other (listed other there)).0
    (λ same. absurd (omega (arith, absent, there, ap (λ (c : ChunkId). times_in c chunks) same))))

-- the chunk at the back of an order gets the clock's age
pub HasAges-renewed : (before after : RowsState) (ages : AgesState) (place : ℕ) (change : ClassState → ClassState) (chunk : ChunkId) (rest : List ChunkId) → HasBecome before after place change → HasAges before ages → order_before before place change ≡ rest ++ chunk ∷ [] → AreAged (age_of after.most ages) ages.clock rest → HasAges after (ages_after_renewal ages (row_place after.most chunk))
HasAges-renewed before after ages place change chunk rest became has is aged =
    let most = after.most in
    let now = ages_after_renewal ages (row_place most chunk) in
    let linked = became.linked in
    let order = order_became before after place change became ∙ is in
    let count = λ (other : ChunkId). ap (times_in other) order ∙ times-push other chunk rest in
    let self = ap truth (is_chunk-same chunk) in
    let there : 1 ≤ times_in chunk (list_chunks after (HandedOut place)) = omega (arith, count chunk, self) in
    let absent : times_in chunk rest ≡ 0 = omega (arith, count chunk, self, linked.once (HandedOut place) chunk) in
    let row = linked.placed (HandedOut place) chunk there in
    let long = ap (λ (s : Sizes). s.rows) became.sizes in
    let within : row_place most chunk < length ages.ages = omega (arith, row.1, has.long, long) in
    let on : ages.clock ≤ now.clock = clock_goes_on ages.clock has.clock in
    HasAges-became before after now place change became (omega (arith, has.long, length-set ages.ages (row_place most chunk) ages.clock)) (clock_fits ages.clock)
    (subst (AreAged (age_of most now) now.clock) (sym order)
    (aged-push (age_of most now) ages.clock now.clock chunk rest
    (aged-written after ages.clock ages.clock ages chunk (HandedOut place) rest linked row (omega arith) (λ other there. omega (arith, count other, there)) absent aged)
    on (age-same most ages.clock now.clock ages chunk within)))
    (λ other differs.
    let others = order_others before after place other change became differs in
    aged-written after ages.clock now.clock ages chunk (HandedOut other) (list_chunks before (HandedOut other)) linked row on (λ c h. omega (arith, h, ap (times_in c) others))
    (omega (arith, apart_others after place other chunk linked differs there, ap (times_in chunk) others))
    (aged_before before after ages place other change became has))

-- a chunk that takes another's place gets its age
pub HasAges-replaced : (before after : RowsState) (ages : AgesState) (place : ℕ) (new old : ChunkId) → HasBecome before after place (λ class. class_after_replacement class new old) → HasAges before ages → 1 ≤ times_in old (list_chunks before (HandedOut place)) → HasAges after (ages_after_inheritance ages (row_place after.most new) (row_place after.most old))
HasAges-replaced before after ages place new old became has handed =
    let most = after.most in
    let age = age_of most ages old in
    let now = ages_after_inheritance ages (row_place most new) (row_place most old) in
    let linked = became.linked in
    let chunks = list_chunks before (HandedOut place) in
    let order = order_became before after place _ became in
    let count = λ (other : ChunkId). ap (times_in other) order ∙ times-with_before other new old chunks handed in
    let self = ap truth (is_chunk-same new) in
    let there : 1 ≤ times_in new (list_chunks after (HandedOut place)) = omega (arith, count new, self) in
    let absent : times_in new chunks ≡ 0 = omega (arith, count new, self, linked.once (HandedOut place) new) in
    let row = linked.placed (HandedOut place) new there in
    let long = ap (λ (s : Sizes). s.rows) became.sizes in
    let within : row_place most new < length ages.ages = omega (arith, row.1, has.long, long) in
    let listed : (other : ChunkId) → 1 ≤ times_in other chunks → 1 ≤ times_in other (list_chunks after (HandedOut place)) = λ other there. omega (arith, count other, there) in
    let row_old = linked.placed (HandedOut place) old (listed old handed) in
    let apart : old ≢ new = λ same. absurd (omega (arith, absent, handed, ap (λ (c : ChunkId). times_in c chunks) same)) in
    let equal : age_of most now new ≡ age_of most now old = age-same most age ages.clock ages new within ∙ sym (age-other most age ages.clock ages new old row.0 row_old.0 apart) in
    HasAges-became before after now place _ became (omega (arith, has.long, length-set ages.ages (row_place most new) age)) has.clock
    (subst (AreAged (age_of most now) now.clock) (sym order)
    (aged-with_before (age_of most now) now.clock new old chunks
    (aged-written after age ages.clock ages new (HandedOut place) chunks linked row (omega arith) listed absent (aged_before before after ages place place _ became has))
    handed equal))
    (λ other differs.
    let others = order_others before after place other _ became differs in
    aged-written after age ages.clock ages new (HandedOut other) (list_chunks before (HandedOut other)) linked row (omega arith) (λ c h. omega (arith, h, ap (times_in c) others))
    (omega (arith, apart_others after place other new linked differs there, ap (times_in new) others))
    (aged_before before after ages place other _ became has))

-- the order after a hand-out
handed_out_order : (class : ClassState) (free : List ChunkId) (chunk : ChunkId) → slice_get free 0 ≡ Some chunk → (class_after_hand_out class free).order ≡ class.order ++ chunk ∷ []
handed_out_order class [] chunk h = absurd (None≢Some chunk h)
handed_out_order class (c ∷ free) chunk h =
    let same : c ≡ chunk = cc h in
    ap (λ (x : ChunkId). class.order ++ x ∷ []) same

-- and where nothing is free
nothing_handed_out : (class : ClassState) (free : List ChunkId) → slice_get free 0 ≡ None → (class_after_hand_out class free).order ≡ class.order
nothing_handed_out class [] h = refl
nothing_handed_out class (c ∷ free) h = absurd (None≢Some c (sym h))

-- a chunk that is handed out
pub HasAges-popped : (before after : RowsState) (ages : AgesState) (place : ℕ) (chunk : ChunkId) → HasBecome before after place class_after_pop → HasAges before ages → slice_get (list_chunks before (Free place)) 0 ≡ Some chunk → HasAges after (ages_after_renewal ages (row_place after.most chunk))
HasAges-popped before after ages place chunk became has first =
    let class = with_lists (new_class 0 0) before place in
    HasAges-renewed before after ages place class_after_pop chunk (list_chunks before (HandedOut place)) became has (handed_out_order class class.free chunk first) (aged_before before after ages place place class_after_pop became has)

-- or none
pub HasAges-none : (before after : RowsState) (ages : AgesState) (place : ℕ) → HasBecome before after place class_after_pop → HasAges before ages → slice_get (list_chunks before (Free place)) 0 ≡ None → HasAges after ages
HasAges-none before after ages place became has none =
    let class = with_lists (new_class 0 0) before place in
    HasAges-kept before after ages place class_after_pop became has
    (subst (AreAged (age_of after.most ages) ages.clock) (sym (nothing_handed_out class class.free none)) (aged_before before after ages place place class_after_pop became has))

-- a chunk that is touched
pub HasAges-touched : (before after : RowsState) (ages : AgesState) (place : ℕ) (chunk : ChunkId) → HasBecome before after place (λ class. class_after_touch class chunk) → HasAges before ages → HasAges after (ages_after_renewal ages (row_place after.most chunk))
HasAges-touched before after ages place chunk became has =
    let chunks = list_chunks before (HandedOut place) in
    HasAges-renewed before after ages place _ chunk (without chunk chunks) became has refl (aged-without (age_of after.most ages) ages.clock chunk chunks (aged_before before after ages place place _ became has))

-- the row of a chunk of the order, and that it has an age
pub row_within : (before after : RowsState) (ages : AgesState) (place : ℕ) (change : ClassState → ClassState) (chunk : ChunkId) → HasBecome before after place change → HasAges before ages → 1 ≤ times_in chunk (list_chunks after (HandedOut place)) → IsRow after chunk × (row_place after.most chunk < length ages.ages)
row_within before after ages place change chunk became has there =
    let row = became.linked.placed (HandedOut place) chunk there in
    (row, omega (arith, row.1, has.long, ap (λ (s : Sizes). s.rows) became.sizes))

-- the chunk that was handed out is in the order
pub out_popped : (before after : RowsState) (place : ℕ) (chunk : ChunkId) → HasBecome before after place class_after_pop → slice_get (list_chunks before (Free place)) 0 ≡ Some chunk → 1 ≤ times_in chunk (list_chunks after (HandedOut place))
out_popped before after place chunk became first =
    let class = with_lists (new_class 0 0) before place in
    let order = order_became before after place class_after_pop became ∙ handed_out_order class class.free chunk first in
    omega (arith, ap (times_in chunk) order, times-push chunk chunk class.order, ap truth (is_chunk-same chunk))

-- and so is one that was touched
pub out_touched : (before after : RowsState) (place : ℕ) (chunk : ChunkId) → HasBecome before after place (λ class. class_after_touch class chunk) → 1 ≤ times_in chunk (list_chunks after (HandedOut place))
out_touched before after place chunk became =
    omega (arith, ap (times_in chunk) (order_became before after place _ became), times-push chunk chunk (without chunk (list_chunks before (HandedOut place))), ap truth (is_chunk-same chunk))

-- and so are both where one replaced another
pub out_replaced : (before after : RowsState) (place : ℕ) (new old : ChunkId) → HasBecome before after place (λ class. class_after_replacement class new old) → 1 ≤ times_in old (list_chunks before (HandedOut place)) → (1 ≤ times_in new (list_chunks after (HandedOut place))) × (1 ≤ times_in old (list_chunks after (HandedOut place)))
out_replaced before after place new old became handed =
    let order = order_became before after place _ became in
    let chunks = list_chunks before (HandedOut place) in (
      omega (arith, ap (times_in new) order, times-with_before new new old chunks handed, ap truth (is_chunk-same new)),
      omega (arith, ap (times_in old) order, times-with_before old new old chunks handed, handed),
    )

-- nothing is aged in fresh rows
pub HasAges-none_out : (rows : RowsState) (ages : AgesState) → length ages.ages ≡ length rows.rows → ages.clock ≡ 0 → ((class : ℕ) → list_chunks rows (HandedOut class) ≡ []) → HasAges rows ages
HasAges-none_out rows ages long clock none = record { long = long; clock = omega (arith, clock); order = λ class. subst (AreAged (age_of rows.most ages) ages.clock) (sym (none class)) tt }
