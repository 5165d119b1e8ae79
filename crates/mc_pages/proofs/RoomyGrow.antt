-- A page that is given to a class, with the room that is made for it.
use Rattle.std.proofs.Common.{◌≡◌, ℕ, ◌+◌, ◌-◌, ◌/◌, ◌<◌, ◌≤◌, ◌==◌, true, false, not, ◌||◌, List, [], ◌∷◌, length, set, take, slice_index_or, Option, Some, None, if◌then◌else◌, refl, sym, ap, ap₂, ◌∙◌, inl, inr, arith, lt-ltb, le-ltb, ltb-true, ltb-false, eqb-true, eq-eqb, length-append, Bool, Result, Ok, Err, OnErr}
use mir.Val.{bool_byte}
use Rattle.std.specs.Option.{option_or}
use Rattle.std.proofs.lemmas.Bool.{cases_lt, cases_Bool}
use Rattle.std.proofs.lemmas.List.{set-get_or}
use Rattle.std.proofs.lemmas.List.Sums.{get_or-le-sum_by}
use Rattle.std.proofs.lemmas.Option.{slice_get_past, slice_get-get_or}
use Rattle.std.proofs.lemmas.List.{nil_from_length}
use Rattle.mc_pages.specs.declared.ledger.Owner.{Owner}
use Rattle.mc_pages.specs.declared.ledger.Owner.TheVariants.{Class}
use Rattle.mc_pages.specs.Base.{Entries}
use Rattle.mc_pages.specs.declared.ledger.Entry.TheVariants.{Granted, Taken}
use Rattle.mc_pages.specs.declared.slabs.Slabs.TheInside.{Inside}
use Rattle.mc_pages.specs.ClassState.{ClassState, new_class, with_page}
use Rattle.mc_pages.specs.ClassRows.{with_lists}
use Rattle.mc_pages.specs.Room.{RoomyClass, in_state, class_states}
use Rattle.mc_pages.specs.SlabState.{SlabState, HasClass, class_at, untouched_page}
use Rattle.mc_pages.specs.Ledger.{ordinary_count}
use Rattle.mc_pages.specs.Changes.{pooled_page, granted_page, next_page, has_ordinary_page, is_without_page, after_grant, after_take, after_grow}
use Rattle.mc_pages.specs.Accounted.{truth, is_pool, IsAccounted}
use Rattle.mc_pages.specs.InOrder.{AreSlabsInOrder, IsStoredInOrder, slabs_of, is_awaited}
use Rattle.mc_pages.proofs.Grace.{populated-le, populated-lt}
use Rattle.mc_pages.proofs.GrantedPage.{length-owners}
use Rattle.mc_pages.proofs.KeptPages.{may_be_granted}
use Rattle.mc_pages.proofs.Owners.{position-AreGranted, within_from_owned}
use Rattle.mc_pages.proofs.Trimmed.{told_entries}
use Rattle.mc_pages.proofs.RoomySlabs.{Fits, Fits-set, IsClass-set, length-classes, read_state, read_room, with_roomy, fits-changed, states-changed}

-- a page is no lack of one
None≢Some : (page : ℕ) → None ≡ Some page → ⊥
None≢Some page h = cc

-- two equal options hold the same page
Some-same : (a b : ℕ) → Some a ≡ Some b → a ≡ b
Some-same a b h = cc

-- an empty pool has no page
pooled_none : (slabs : SlabState) → length slabs.pool ≡ 0 → pooled_page slabs ≡ None
pooled_none slabs empty = slice_get_past slabs.pool (length slabs.pool - 1) (omega arith)

-- without a page of the pool the next one is one that is granted
pub next_untouched : (slabs : SlabState) (class : ℕ) → pooled_page slabs ≡ None → next_page slabs class ≡ granted_page slabs class
next_untouched slabs class none = ap (λ (o : Option ℕ). option_or o (granted_page slabs class)) none

-- the next page comes out of a pool that has one
pub next_pooled : (slabs : SlabState) (class page : ℕ) → 0 < length slabs.pool → next_page slabs class ≡ Some page → pooled_page slabs ≡ Some page
next_pooled slabs class page some next =
    let last = slice_get-get_or slabs.pool (length slabs.pool - 1) 0 (omega arith) in
    last ∙ (sym (ap (λ (o : Option ℕ). option_or o (granted_page slabs class)) last) ∙ next)

-- a class that may get a page that was never granted finds one
pub granted_within : (slabs : SlabState) (granted class : ℕ) → AreSlabsInOrder slabs granted → HasClass slabs class → may_be_granted slabs class ≡ true → granted < length slabs.owners
granted_within slabs granted class kept is may =
    let at_limit = length-owners slabs kept.accounted in
    elim (cases_Bool (has_ordinary_page slabs)) [
      | inl left ↦
          let within_limit = ltb-true (ordinary_count slabs.ledger) (slabs.limit / slabs.page) left in
          omega (arith, at_limit, within_limit, kept.graced, populated-le slabs)
      | inr none ↦
          let first = eqb-true (length (class_at slabs class).pages) 0 (sym (ap (λ b. b || is_without_page slabs class) none) ∙ may) in
          omega (arith, at_limit, kept.graced, kept.accounted.limit, populated-lt slabs class is first)
    ]

-- the page that is granted to it
pub granted_page-is : (slabs : SlabState) (granted class : ℕ) → AreSlabsInOrder slabs granted → HasClass slabs class → may_be_granted slabs class ≡ true → granted_page slabs class ≡ Some granted
granted_page-is slabs granted class kept is may =
    ap (λ b. if b then untouched_page slabs else None) may ∙ position-AreGranted slabs.owners granted kept.lowest (granted_within slabs granted class kept is may)

-- where there is none for a class, the pool is empty, none is left within the limit, and the class has one
pub next_none : (slabs : SlabState) (granted class : ℕ) → AreSlabsInOrder slabs granted → HasClass slabs class → next_page slabs class ≡ None → (slabs.pool ≡ []) × (slabs.limit / slabs.page ≤ ordinary_count slabs.ledger) × (1 ≤ length (class_at slabs class).pages)
next_none slabs granted class kept is none =
    elim (cases_lt 0 (length slabs.pool)) [
      | inl some ↦
          let last = slice_get-get_or slabs.pool (length slabs.pool - 1) 0 (omega arith) in
          absurd (None≢Some _ (sym none ∙ ap (λ (o : Option ℕ). option_or o (granted_page slabs class)) last))
      | inr empty ↦
          let given = sym (next_untouched slabs class (pooled_none slabs (omega (arith, empty)))) ∙ none in
          elim (cases_Bool (may_be_granted slabs class)) [
            | inl may ↦ absurd (None≢Some granted (sym given ∙ granted_page-is slabs granted class kept is may))
            | inr not ↦
                let parts = neither (has_ordinary_page slabs) (is_without_page slabs class) not in
                (nil_from_length slabs.pool (omega (arith, empty)), ltb-false _ _ parts.0, some_page slabs class parts.1)
          ]
    ]
  where
    neither : (a b : Bool) → (a || b) ≡ false → (a ≡ false) × (b ≡ false)
    neither true b h = absurd (cc)
    neither false b h = (refl, h)

    some_page : (slabs : SlabState) (class : ℕ) → is_without_page slabs class ≡ false → 1 ≤ length (class_at slabs class).pages
    some_page slabs class h =
        elim (cases_lt 0 (length (class_at slabs class).pages)) [
          | inl some ↦ some
          | inr none ↦ absurd (let yes = eq-eqb (length (class_at slabs class).pages) 0 (omega (arith, none)) in cc)
        ]

-- the next page is the lowest untouched one where the pool is empty, and the class may get it
pub next_granted : (slabs : SlabState) (granted class page : ℕ) → AreSlabsInOrder slabs granted → HasClass slabs class → length slabs.pool ≡ 0 → next_page slabs class ≡ Some page → (page ≡ granted) × (granted < length slabs.owners) × (may_be_granted slabs class ≡ true)
next_granted slabs granted class page kept is empty next =
    let given = sym (next_untouched slabs class (pooled_none slabs empty)) ∙ next in
    elim (cases_Bool (may_be_granted slabs class)) [
      | inl may ↦ (Some-same page granted (sym given ∙ granted_page-is slabs granted class kept is may), granted_within slabs granted class kept is may, may)
      | inr not ↦ absurd (None≢Some page (sym (ap (λ b. if b then untouched_page slabs else None) not) ∙ given))
    ]

-- a page of the pool is one of the pages
pooled_within : (slabs : SlabState) (page : ℕ) → IsAccounted slabs → 0 < length slabs.pool → pooled_page slabs ≡ Some page → page < length slabs.owners
pooled_within slabs page all some pooled =
    let place = length slabs.pool - 1 in
    let is : slice_index_or slabs.pool place 0 ≡ page = Some-same _ page (sym (slice_get-get_or slabs.pool place 0 (omega arith)) ∙ pooled) in
    let here : truth (slice_index_or slabs.pool place 0 == page) ≡ 1 = ap truth (eq-eqb _ page is) in
    let counted = get_or-le-sum_by (λ (p : ℕ). truth (p == page)) slabs.pool place 0 (omega arith) in
    within_from_owned page slabs.owners (λ untouched. absurd (omega (arith, here, counted, all.pool page, ap (λ (o : Owner). truth (is_pool o)) untouched)))

-- the next page is one of the pages
pub next_within : (slabs : SlabState) (granted class page : ℕ) → AreSlabsInOrder slabs granted → HasClass slabs class → next_page slabs class ≡ Some page → page < length slabs.owners
next_within slabs granted class page kept is next =
    elim (cases_lt 0 (length slabs.pool)) [
      | inl some ↦ pooled_within slabs page kept.accounted some (next_pooled slabs class page some next)
      | inr none ↦ let given = next_granted slabs granted class page kept is (omega arith) next in omega (arith, given.0, given.1)
    ]

-- where the pool has a page, that one is taken
pub grow_takes : (slabs : SlabState) (class page : ℕ) → 0 < length slabs.pool → after_grow slabs class page ≡ after_take slabs class page
grow_takes slabs class page some = ap (λ b. if b then after_take slabs class page else after_grant slabs class page) (lt-ltb 0 (length slabs.pool) some)

-- and else an untouched one is granted
pub grow_grants : (slabs : SlabState) (class page : ℕ) → length slabs.pool ≡ 0 → after_grow slabs class page ≡ after_grant slabs class page
grow_grants slabs class page none = ap (λ b. if b then after_take slabs class page else after_grant slabs class page) (le-ltb 0 (length slabs.pool) (omega arith))

-- a page is given to a class, with these classes, this pool and these entries
abbrev pub given_with : SlabState → ℕ → ℕ → List ClassState → List ℕ → Entries → SlabState
given_with slabs class page classes pool entries = record slabs {
  classes = classes;
  owners = set slabs.owners page (Class class);
  pool = pool;
  ledger = entries.all;
  trimmed = entries.trimmed;
  uncut = Some (record { page = page; index = 0 });
}

-- the classes, one of which has got a page
states_given : (slabs : Inside) (class page : ℕ) (read roomy added : RoomyClass) → HasClass (slabs_of slabs) class → read ≡ slice_index_or slabs.classes.items (class - 1) read → roomy.state ≡ read.state → added ≡ in_state roomy (with_page roomy.state page) → class_states slabs.rows (set slabs.classes.items (class - 1) added) ≡ set (slabs_of slabs).classes (class - 1) (with_page (class_at (slabs_of slabs) class) page)
states_given slabs class page read roomy added is h same changed =
    let own = λ (c : ClassState). with_lists c slabs.rows (class - 1) in
    let before : own roomy.state ≡ class_at (slabs_of slabs) class = ap own same ∙ read_state slabs class (class - 1) read is refl h in
    let state : own added.state ≡ with_page (class_at (slabs_of slabs) class) page = ap (λ (c : RoomyClass). own c.state) changed ∙ ap (λ (c : ClassState). with_page c page) before in
    states-changed slabs class (class - 1) added is refl ∙ ap (λ (c : ClassState). set (slabs_of slabs).classes (class - 1) c) state

-- the page came out of the pool
pub take_is : (slabs : Inside) (class page : ℕ) (read roomy added : RoomyClass) (pool : List ℕ) (entries : Entries) (room : ℕ) → HasClass (slabs_of slabs) class → read ≡ slice_index_or slabs.classes.items (class - 1) read → roomy.state ≡ read.state → added ≡ in_state roomy (with_page roomy.state page) → pool ≡ take (length slabs.pool.items - 1) slabs.pool.items → entries ≡ told_entries slabs.ledger (Taken page class) room → given_with (slabs_of slabs) class page (class_states slabs.rows (set slabs.classes.items (class - 1) added)) pool entries ≡ after_take (slabs_of slabs) class page
take_is slabs class page read roomy added pool entries room is h same changed pool_is entries_is =
    ap (λ (cs : List ClassState). given_with (slabs_of slabs) class page cs pool entries) (states_given slabs class page read roomy added is h same changed)
    ∙ ap₂ (given_with (slabs_of slabs) class page (set (slabs_of slabs).classes (class - 1) (with_page (class_at (slabs_of slabs) class) page))) pool_is entries_is

-- the page was untouched
pub grant_is : (slabs : Inside) (class page : ℕ) (read roomy added : RoomyClass) (pool : List ℕ) (entries : Entries) (room : ℕ) → HasClass (slabs_of slabs) class → read ≡ slice_index_or slabs.classes.items (class - 1) read → roomy.state ≡ read.state → added ≡ in_state roomy (with_page roomy.state page) → pool ≡ slabs.pool.items → entries ≡ told_entries slabs.ledger (Granted page class (not (has_ordinary_page (slabs_of slabs)))) room → given_with (slabs_of slabs) class page (class_states slabs.rows (set slabs.classes.items (class - 1) added)) pool entries ≡ after_grant (slabs_of slabs) class page
grant_is slabs class page read roomy added pool entries room is h same changed pool_is entries_is =
    ap (λ (cs : List ClassState). given_with (slabs_of slabs) class page cs pool entries) (states_given slabs class page read roomy added is h same changed)
    ∙ ap₂ (given_with (slabs_of slabs) class page (set (slabs_of slabs).classes (class - 1) (with_page (class_at (slabs_of slabs) class) page))) pool_is entries_is

-- a fact that holds whatever the result is
pub on_err : {T E P : Type 0} (result : Result T E) → P → OnErr result P
on_err (Ok x) p = tt
on_err (Err e) p = p

-- 1 at most
pub truth_le : (b : Bool) → truth b ≤ 1
truth_le true = omega arith
truth_le false = omega arith

-- more room changes no class
pub states_roomier : (slabs : Inside) (class : ℕ) (read roomy : RoomyClass) → HasClass (slabs_of slabs) class → read ≡ slice_index_or slabs.classes.items (class - 1) read → roomy.state ≡ read.state → class_states slabs.rows (set slabs.classes.items (class - 1) roomy) ≡ (slabs_of slabs).classes
states_roomier slabs class read roomy is h same =
    let own = λ (c : ClassState). with_lists c slabs.rows (class - 1) in
    states-changed slabs class (class - 1) roomy is refl
    ∙ (ap (λ (c : ClassState). set (slabs_of slabs).classes (class - 1) c) (ap own same ∙ read_state slabs class (class - 1) read is refl h)
    ∙ set-get_or (slabs_of slabs).classes (class - 1) (new_class 0 0))

-- there is still room in each class
pub fits-roomier : (slabs : Inside) (class : ℕ) (read roomy : RoomyClass) → IsStoredInOrder slabs → HasClass (slabs_of slabs) class → read ≡ slice_index_or slabs.classes.items (class - 1) read → roomy.state ≡ read.state → read.room ≤ roomy.room → (other : ℕ) → HasClass (slabs_of (with_roomy slabs (class - 1) roomy)) other → Fits slabs.rows (set slabs.classes.items (class - 1) roomy) (truth (is_awaited slabs.moving other)) other
fits-roomier slabs class read roomy kept is h same room =
    let state = ap (λ (c : ClassState). with_lists c slabs.rows (class - 1)) same ∙ read_state slabs class (class - 1) read is refl h in
    fits-changed slabs class (class - 1) roomy kept is refl (ap (λ (c : ClassState). length c.pages) state) (omega (arith, read_room slabs class (class - 1) read is refl h, room))

-- with its new page the class still has room for one that is on the move to it
pub fits-given : (slabs : Inside) (class page : ℕ) (read roomy added : RoomyClass) → IsStoredInOrder slabs → HasClass (slabs_of slabs) class → read ≡ slice_index_or slabs.classes.items (class - 1) read → roomy.state ≡ read.state → added ≡ in_state roomy (with_page roomy.state page) → length (class_at (slabs_of slabs) class).pages + 1 + truth (is_awaited slabs.moving class) ≤ roomy.room → (other : ℕ) → HasClass (slabs_of (with_roomy slabs (class - 1) added)) other → Fits slabs.rows (set slabs.classes.items (class - 1) added) (truth (is_awaited slabs.moving other)) other
fits-given slabs class page read roomy added kept is h same changed room other here =
    let before : HasClass (slabs_of slabs) other = (here.0, IsClass-set slabs.rows slabs.classes.items (class - 1) other added here.1) in
    let state = ap (λ (c : ClassState). with_lists c slabs.rows (class - 1)) same ∙ read_state slabs class (class - 1) read is refl h in
    let more = length-append roomy.state.pages (page ∷ []) in
    Fits-set slabs.rows slabs.classes.items class other (truth (is_awaited slabs.moving other)) added is.0 (length-classes slabs class is) here.0
    (λ e. omega (arith, ap (λ (c : RoomyClass). length c.state.pages) changed, ap (λ (c : RoomyClass). c.room) changed, more, ap (λ (c : ClassState). length c.pages) state, room, ap (λ (n : ℕ). truth (is_awaited slabs.moving n)) e))
    (λ differs. kept.classes other before)

-- a `bool` as a number
pub truth_byte : (b : Bool) → bool_byte b ≡ truth b
truth_byte true = refl
truth_byte false = refl
