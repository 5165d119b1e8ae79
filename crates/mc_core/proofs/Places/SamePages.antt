-- What changes of pages and lists leave: a chunk that is handed out stays the chunk of its class.
use Rattle.std.proofs.Common.{◌≡◌, ◌≢◌, ◌⊎◌, ℕ, ◌<◌, ◌≤◌, ◌==◌, ◌&&◌, Bool, true, false, not, List, length, set, Option, Some, None, Result, Ok, Err, if◌then◌else◌, refl, sym, ap, subst, ◌∙◌, inl, inr, arith, eq-eqb, nat_lt}
use Rattle.std.proofs.lemmas.Bool.{and_parts, and_from, cases_Bool, cases_eq, cases_lt, and_left, both_ways, not-true}
use Rattle.std.proofs.lemmas.List.Sums.{get_or-le-sum_by}
use Rattle.mc_classes.specs.Classes.{Classes}
use Rattle.mc_pages.specs.declared.ids.ChunkId.{ChunkId}
use Rattle.mc_pages.specs.declared.ids.Moving.{Moving}
use Rattle.mc_pages.specs.declared.ledger.Owner.{Owner}
use Rattle.mc_pages.specs.declared.ledger.Owner.TheVariants.{Untouched, Pool, Class}
use Rattle.mc_pages.specs.declared.ledger.Owner.TheVariants as owner
use Rattle.mc_pages.specs.declared.moves.Reassign.{Reassign}
use Rattle.mc_pages.specs.Ledger.{owner_at}
use Rattle.mc_pages.specs.ClassState.{times_in}
use Rattle.mc_pages.specs.SlabState.{SlabState, HasClass, class_at, class_of_owner, class_of_page}
use Rattle.mc_pages.specs.Answer.{answer_of}
use Rattle.mc_pages.specs.Changes.{after_take, after_grant, after_grow, next_page, with_given}
use Rattle.mc_pages.specs.Moves.{first_page, after_page_release, after_move_end, after_finish}
use Rattle.mc_pages.specs.Accounted.{truth, is_of_class, is_cut, IsMove, IsAccounted}
use Rattle.mc_pages.specs.InOrder.{AreSlabsInOrder}
use Rattle.mc_pages.proofs.Owners.{owner_at-set_other, class_of_owner-is_of_class}
use Rattle.mc_pages.proofs.Placed.{ArePlaced_from}
use Rattle.mc_pages.proofs.BegunMove.{Class-from_still, still_at_rest}
use Rattle.mc_pages.proofs.GivenPage.{owner-set_alike}
use Rattle.mc_pages.proofs.KeptPages.{owner_of_pooled}
use Rattle.mc_pages.proofs.KeptMoves.{first_page_within}
use Rattle.mc_pages.proofs.Source.{source_is}
use Rattle.mc_pages.proofs.NextPage.{untouched_next}
use Rattle.mc_pages.proofs.RoomyGrow.{next_pooled}
use Rattle.mc_core.specs.declared.head.Head.{Head}
use Rattle.mc_core.specs.declared.head.Tag.{Tag}
use Rattle.mc_core.specs.declared.head.Tag.TheVariants.{Out, Unlinked, Linked}
use Rattle.mc_core.specs.declared.event.Change.{Change}
use Rattle.mc_core.specs.declared.event.Change.TheVariants.{Grow, BeginMove, FinishMove, Touch, SetAutomove, TrimLedger, Passed, Wrap, Evicted, OfStripe, GotNone, DeletedNone}
use Rattle.mc_core.specs.model.Head.{is_free, is_out}
use Rattle.mc_core.specs.model.State.{State, has_chunk, has_slabs}
use Rattle.mc_core.specs.run.Silent.{has_page, has_listed, none_half_cut, can_finish, after_growth, after_reassign, after_change}
use Rattle.mc_core.specs.model.Columns.{head_in, IsHandedOut}
use Rattle.mc_core.specs.past.Past.{Moment}
use Rattle.mc_core.specs.law.Places.{ArePlaced, is_cut_there}
use Rattle.mc_core.specs.law.Laws.{MayChange, StaysOfClass}
use Rattle.mc_core.proofs.Steps.Listed.{or_none, none_of_page}

-- a tag of a chunk that is handed out
abbrev pub is_in_hand : Tag → Bool
is_in_hand tag = not (is_free tag) && not (is_out tag)

in_hand_from : (tag : Tag) → (tag ≡ Unlinked) ⊎ (tag ≡ Linked) → is_in_hand tag ≡ true
in_hand_from tag (inl is) = ap is_in_hand is
in_hand_from tag (inr is) = ap is_in_hand is

-- a chunk that is handed out is neither free nor out
pub in_hand : (head : Head) (issue : ℕ) → IsHandedOut head issue → is_in_hand head.tag ≡ true
in_hand head issue is = in_hand_from head.tag is.0

-- what is out isn't handed out
pub not_in_hand : (tag : Tag) → tag ≡ Out → is_in_hand tag ≡ true → ⊥
not_in_hand tag is h = both_ways (is_in_hand tag) (ap is_in_hand is) h

-- what was cut for the class of its page was cut for one of the classes
pub cut_there : (slabs : SlabState) (chunk : ChunkId) → IsAccounted slabs → is_cut_there slabs chunk ≡ true → HasClass slabs (class_of_page slabs chunk.page)
cut_there slabs chunk all h = all.owned (class_of_page slabs chunk.page) chunk.page (and_parts _ _ h).0

-- what was cut for a class was cut for that of its page
pub cut_there_from : (slabs : SlabState) (class : ℕ) (chunk : ChunkId) → is_cut slabs class chunk ≡ true → is_cut_there slabs chunk ≡ true
cut_there_from slabs class chunk cut =
    let own : class_of_page slabs chunk.page ≡ class = class_of_owner-is_of_class class (owner_at slabs.owners chunk.page) (and_parts _ _ cut).0 in
    subst (λ n. is_cut slabs n chunk ≡ true) (sym own) cut

module _ (table : Classes) (slabs : SlabState) (heads : List Head) (placed : ArePlaced table slabs heads) where
  -- a chunk that is handed out was cut for its page's class
  pub cut_of_handed_out : (chunk : ChunkId) → has_chunk table chunk ≡ true → is_in_hand (head_in table heads chunk).tag ≡ true → is_cut_there slabs chunk ≡ true
  cut_of_handed_out chunk here out = elim (cases_Bool (is_cut_there slabs chunk)) [
    | inl cut ↦ cut
    | inr uncut ↦ absurd (not_in_hand (head_in table heads chunk).tag (placed.elsewhere chunk here uncut) out)
  ]

-- the first page of a class that has one is its page
first_page_of_class : (slabs : SlabState) (class : ℕ) → IsAccounted slabs → HasClass slabs class → 1 ≤ length (class_at slabs class).pages → is_of_class class (owner_at slabs.owners (first_page slabs class)) ≡ true
first_page_of_class slabs class all is some =
    let page = first_page slabs class in
    let pages = (class_at slabs class).pages in
    let counted = get_or-le-sum_by (λ p. truth (p == page)) pages 0 0 (omega arith) in
    let here : truth (page == page) ≡ 1 = ap truth (eq-eqb page page refl) in
    elim (cases_Bool (is_of_class class (owner_at slabs.owners page))) [
      | inl of ↦ of
      | inr other ↦ absurd (omega (arith, all.pages class page is, counted, here, ap truth other))
    ]

-- the page that begins to move is one of its source's, and stands still
pub first_page_owner : (slabs : SlabState) (granted : ℕ) (src : Option ℕ) (source dst : ℕ) → AreSlabsInOrder slabs granted → answer_of slabs src dst ≡ Ok source → owner_at slabs.owners (first_page slabs source) ≡ Class source
first_page_owner slabs granted src source dst kept answer =
    let told = source_is slabs src source dst answer in
    let some : 1 ≤ length (class_at slabs source).pages = omega (arith, told.1) in
    Class-from_still source (owner_at slabs.owners (first_page slabs source)) (first_page_of_class slabs source kept.accounted told.0 some)
    (still_at_rest slabs (ArePlaced_from slabs kept.accounted) told.4 (first_page slabs source))

pub first_page_there : (slabs : SlabState) (granted : ℕ) (src : Option ℕ) (source dst : ℕ) → AreSlabsInOrder slabs granted → answer_of slabs src dst ≡ Ok source → first_page slabs source < length slabs.owners
first_page_there slabs granted src source dst kept answer =
    let told = source_is slabs src source dst answer in first_page_within slabs granted source kept told.0 (omega (arith, told.1))

-- a page that begins to move is its class's still
pub begun_pages : (slabs : SlabState) (granted : ℕ) (src : Option ℕ) (dst : ℕ) (answer : Result ℕ Reassign) → AreSlabsInOrder slabs granted → answer_of slabs src dst ≡ answer →
    (page : ℕ) → class_of_page (after_reassign slabs src dst answer) page ≡ class_of_page slabs page
begun_pages slabs granted src dst (Err refusal) kept is page = refl
begun_pages slabs granted src dst (Ok source) kept is page =
    owner-set_alike class_of_owner slabs.owners (first_page slabs source) page (owner.Moving source dst) (first_page_there slabs granted src source dst kept is)
    (sym (ap class_of_owner (first_page_owner slabs granted src source dst kept is)))

-- the owners after a class got a page
pub grown_owners : (slabs : SlabState) (class page : ℕ) → (after_grow slabs class page).owners ≡ set slabs.owners page (Class class)
grown_owners slabs class page =
    elim (nat_lt 0 (length slabs.pool)) as (λ (b : Bool). (if b then after_take slabs class page else after_grant slabs class page).owners ≡ set slabs.owners page (Class class)) [ true ↦ refl | false ↦ refl ]

-- the page that a class gets is no class's
pub next_page_owner : (slabs : SlabState) (class page : ℕ) → IsAccounted slabs → next_page slabs class ≡ Some page → (owner_at slabs.owners page ≡ Untouched) ⊎ (owner_at slabs.owners page ≡ Pool)
next_page_owner slabs class page all next = elim (cases_lt 0 (length slabs.pool)) [
  | inl some ↦ inr (owner_of_pooled slabs page all (next_pooled slabs class page some next))
  | inr none ↦ inl (untouched_next slabs class page (omega arith) next)
]

-- nothing is cut of a page without a class
pub no_class_cut : (slabs : SlabState) (chunk : ChunkId) → (owner_at slabs.owners chunk.page ≡ Untouched) ⊎ (owner_at slabs.owners chunk.page ≡ Pool) → is_cut_there slabs chunk ≡ false
no_class_cut slabs chunk (inl is) = and_left _ _ (ap (λ (o : Owner). is_of_class (class_of_owner o) o) is)
no_class_cut slabs chunk (inr is) = and_left _ _ (ap (λ (o : Owner). is_of_class (class_of_owner o) o) is)

-- the pages of the other classes after a class got a page
pub grown_pages : (slabs : SlabState) (class page other : ℕ) → other ≢ page → class_of_page (after_grow slabs class page) other ≡ class_of_page slabs other
grown_pages slabs class page other apart =
    ap (λ os. class_of_owner (owner_at os other)) (grown_owners slabs class page) ∙ ap class_of_owner (owner_at-set_other slabs.owners page other (Class class) apart)

-- where the page arrived: in the pool, or in a class
abbrev pub arrived_if : SlabState → Moving → Bool → SlabState
arrived_if slabs move pooled = if pooled then after_page_release slabs move.page move.src else record (with_given (after_page_release slabs move.page move.src) move.dst move.page) { pool = slabs.pool }

-- the owners after a move ended: those of other pages are as they were
pub finished_other : (slabs : SlabState) (move : Moving) (other : ℕ) → other ≢ move.page → owner_at (after_move_end slabs move).owners other ≡ owner_at slabs.owners other
finished_other slabs move other apart =
    let gone = owner_at-set_other slabs.owners move.page other Pool apart in
    let given = owner_at-set_other (after_page_release slabs move.page move.src).owners move.page other (Class move.dst) apart in
    elim (move.dst == 0) as (λ (b : Bool). owner_at (arrived_if slabs move b).owners other ≡ owner_at slabs.owners other) [ true ↦ gone | false ↦ given ∙ gone ]

-- where no chunk of the moving page is in a list, none of them is handed out
pub none_handed_out : (table : Classes) (slabs : SlabState) (heads : List Head) (move : Moving) (chunk : ChunkId) → ArePlaced table slabs heads → IsMove slabs move → has_page (class_at slabs move.src).order move.page ≡ false →
    chunk.page ≡ move.page → has_chunk table chunk ≡ true → is_in_hand (head_in table heads chunk).tag ≡ true → ⊥
none_handed_out table slabs heads move chunk placed is none on here out =
    let own : class_of_page slabs chunk.page ≡ move.src = ap (λ p. class_of_page slabs p) on ∙ ap class_of_owner is.owner in
    let cut : is_cut slabs move.src chunk ≡ true = subst (λ n. is_cut slabs n chunk ≡ true) own (cut_of_handed_out table slabs heads placed chunk here out) in
    let some : times_in chunk (class_at slabs move.src).order ≡ 1 = placed.order move.src chunk is.src ∙ ap truth (and_from _ _ cut out) in
    let absent : times_in chunk (class_at slabs move.src).order ≡ 0 = none_of_page (class_at slabs move.src).order chunk (subst (λ p. has_page (class_at slabs move.src).order p ≡ false) (sym on) none) in
    omega arith

-- what a move that may end asks
pub finish_tests : (slabs : SlabState) (move : Moving) → can_finish slabs (Some move) ≡ true → (has_page (class_at slabs move.src).free move.page ≡ false) × (has_page (class_at slabs move.src).order move.page ≡ false)
finish_tests slabs move h =
    let parts = and_parts (none_half_cut slabs) (not (has_listed slabs move.src move.page)) h in
    or_none (has_page (class_at slabs move.src).free move.page) (has_page (class_at slabs move.src).order move.page) (not-true (has_listed slabs move.src move.page) parts.1)

-- handed-out chunks stay those of their classes
abbrev StaysIn : State → SlabState → Type 0
StaysIn state now = (chunk : ChunkId) (issue : ℕ) → has_chunk state.table chunk ≡ true → IsHandedOut (head_in state.table state.heads chunk) issue →
    class_of_page now chunk.page ≡ class_of_page state.slabs chunk.page

module _ (state : State) (granted : ℕ) (kept : AreSlabsInOrder state.slabs granted) (placed : ArePlaced state.table state.slabs state.heads) where
  grown_stay : (class : ℕ) (next : Option ℕ) → next_page state.slabs class ≡ next → StaysIn state (after_growth state.slabs class next)
  grown_stay class None is chunk issue here out = refl
  grown_stay class (Some page) is chunk issue here out = elim (cases_eq chunk.page page) [
    | inl same ↦
        let owner = next_page_owner state.slabs class chunk.page kept.accounted (is ∙ ap Some (sym same)) in
        let cut = cut_of_handed_out state.table state.slabs state.heads placed chunk here (in_hand (head_in state.table state.heads chunk) issue out) in
        absurd (both_ways _ (no_class_cut state.slabs chunk owner) cut)
    | inr apart ↦ grown_pages state.slabs class page chunk.page apart
  ]

  finished_stay : (moving : Option Moving) → state.slabs.moving ≡ moving → can_finish state.slabs moving ≡ true → StaysIn state (after_finish state.slabs moving)
  finished_stay None is can chunk issue here out = refl
  finished_stay (Some move) is can chunk issue here out = elim (cases_eq chunk.page move.page) [
    | inl same ↦ absurd (none_handed_out state.table state.slabs state.heads move chunk placed (kept.accounted.move move is) (finish_tests state.slabs move can).1 same here
        (in_hand (head_in state.table state.heads chunk) issue out))
    | inr apart ↦ ap class_of_owner (finished_other state.slabs move chunk.page apart)
  ]

-- a chunk that is handed out stays the chunk of its class
pub stays_changes : (moment : Moment) (hand : ℕ) (change : Change) → MayChange moment hand change → StaysOfClass moment.state (after_change moment.state hand change)
stays_changes moment hand (Grow class) may = grown_stay moment.state may.lawful.paged.order.0 may.lawful.paged.order.1 may.lawful.placed class (next_page moment.state.slabs class) refl
stays_changes moment hand (BeginMove src dst) may = λ chunk issue here out. begun_pages moment.state.slabs may.lawful.paged.order.0 src dst (answer_of moment.state.slabs src dst) may.lawful.paged.order.1 refl chunk.page
stays_changes moment hand FinishMove may =
    finished_stay moment.state may.lawful.paged.order.0 may.lawful.paged.order.1 may.lawful.placed moment.state.slabs.moving refl
    (and_parts (has_slabs moment.state hand) (can_finish moment.state.slabs moment.state.slabs.moving) may.allowed).1
stays_changes moment hand (Touch chunk) may = λ chunk issue here out. refl
stays_changes moment hand (SetAutomove mode) may = λ chunk issue here out. refl
stays_changes moment hand TrimLedger may = λ chunk issue here out. refl
stays_changes moment hand (Passed found) may = λ chunk issue here out. refl
stays_changes moment hand Wrap may = λ chunk issue here out. refl
stays_changes moment hand (Evicted class) may = λ chunk issue here out. refl
stays_changes moment hand (OfStripe stripe how) may = λ chunk issue here out. refl
stays_changes moment hand (GotNone key) may = λ chunk issue here out. refl
stays_changes moment hand (DeletedNone key) may = λ chunk issue here out. refl
