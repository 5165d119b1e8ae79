-- Chunks keep their places under each silent change.
use Rattle.std.proofs.Common.{◌≡◌, ◌≢◌, ◌⊎◌, ℕ, ◌<◌, ◌≤◌, ◌==◌, ◌&&◌, Bool, true, false, List, [], ◌∷◌, ◌++◌, length, set, Option, Some, None, Result, Ok, Err, if◌then◌else◌, refl, sym, ap, ap₂, subst, ◌∙◌, inl, inr, arith, eq-eqb, ne_eqb, le-ltb, nat_lt, is_some, length-set}
use Rattle.std.proofs.lemmas.Bool.{and_parts, and_left, and_right, cases_Bool, cases_eq, both_ways, eqb-false}
use Rattle.mc_classes.specs.Classes.{Classes}
use Rattle.mc_pages.specs.declared.ids.ChunkId.{ChunkId}
use Rattle.mc_pages.specs.declared.ids.Moving.{Moving}
use Rattle.mc_pages.specs.declared.ledger.Owner.{Owner}
use Rattle.mc_pages.specs.declared.ledger.Owner.TheVariants.{Untouched, Pool, Class}
use Rattle.mc_pages.specs.declared.ledger.Owner.TheVariants as owner
use Rattle.mc_pages.specs.declared.ledger.Entry.{Entry}
use Rattle.mc_pages.specs.declared.moves.Reassign.{Reassign}
use Rattle.mc_pages.specs.Ledger.{owner_at}
use Rattle.mc_pages.specs.ClassState.{ClassState, times_in, without, class_after_touch, class_after_eviction, with_page, without_page}
use Rattle.mc_pages.specs.SlabState.{SlabState, HasClass, class_at, class_of_owner, class_of_page, class_of_chunk}
use Rattle.mc_pages.specs.Answer.{answer_of}
use Rattle.mc_pages.specs.Changes.{with_class, with_given, next_page, after_take, after_grant, after_grow, after_touch, after_trim}
use Rattle.mc_pages.specs.Moves.{first_page, after_page_release, after_move_end, after_finish}
use Rattle.mc_pages.specs.Accounted.{is_of_class, is_moving, is_cut, cut_count, IsMove}
use Rattle.mc_pages.specs.InOrder.{AreSlabsInOrder}
use Rattle.mc_pages.proofs.Chunks.{times-push, times-without, times_from_Contains}
use Rattle.mc_pages.proofs.HandedOut.{IsClass-handed_out}
use Rattle.mc_pages.proofs.OneClass.{length-with_class, class_at-with_class_kept}
use Rattle.mc_pages.proofs.Owners.{owner_at-set_same, owner_at-set_other, class_of_owner-is_of_class}
use Rattle.mc_pages.proofs.GivenPage.{owner-set_alike}
use Rattle.mc_pages.proofs.Redistributed.{is_cut-kept}
use Rattle.mc_pages.proofs.ReleasedPage.{within_from_IsMove}
use Rattle.mc_pages.proofs.RoomyGrow.{next_within}
use Rattle.mc_core.specs.declared.event.Change.{Change}
use Rattle.mc_core.specs.declared.event.Change.TheVariants.{Grow, BeginMove, FinishMove, Touch, SetAutomove, TrimLedger, Passed, Wrap, Evicted, OfStripe, GotNone, DeletedNone}
use Rattle.mc_core.specs.model.State.{is_class, has_slabs}
use Rattle.mc_core.specs.run.Silent.{is_handed_out, none_half_cut, has_page, can_finish, after_growth, after_reassign, can_change_slabs, slabs_after}
use Rattle.mc_core.specs.law.Places.{ArePaged, ArePlaced}
use Rattle.mc_core.specs.past.Past.{Moment}
use Rattle.mc_core.specs.law.Lawful.{IsLawful, PlacedIn}
use Rattle.mc_core.specs.law.Laws.{ChangesKeep}
use Rattle.mc_core.proofs.Steps.Listed.{Contains_from_among, IsClass_from, none_of_page}
use Rattle.mc_core.proofs.Places.SamePages.{first_page_owner, first_page_there, next_page_owner, finish_tests, arrived_if}
use Rattle.mc_core.proofs.Places.PagedChanges.{whole_is}
use Rattle.mc_core.proofs.Places.PlacedAlike.{AreListed, placed_listed}

-- lists, owners and the uncut chunk are as they were
same_listed : (slabs : SlabState) → AreListed slabs slabs
same_listed slabs = record { classes = refl; free = λ class chunk is. refl; order = λ class chunk is. refl; cut = λ class chunk is. inl refl; moving = λ class chunk is cut moves. moves }

-- the move, the counters and the mode are no part of it
numbered_listed : (slabs : SlabState) (moving : Option Moving) (rescues evictions_nomem busy automove : ℕ) →
    AreListed slabs (record slabs { moving = moving; rescues = rescues; evictions_nomem = evictions_nomem; busy = busy; automove = automove })
numbered_listed slabs moving rescues evictions_nomem busy automove = let all = same_listed slabs in record { classes = all.classes; free = all.free; order = all.order; cut = all.cut; moving = all.moving }

-- nor how many entries are recorded
trimmed_listed : (slabs : SlabState) → AreListed slabs (after_trim slabs)
trimmed_listed slabs = let all = same_listed slabs in record { classes = all.classes; free = all.free; order = all.order; cut = all.cut; moving = all.moving }

-- one class changes, and each chunk stands in its lists as often
listed_with_class : (slabs : SlabState) (class : ℕ) (state : ClassState) → HasClass slabs class → state.per_page ≡ (class_at slabs class).per_page →
    ((chunk : ChunkId) → times_in chunk state.free ≡ times_in chunk (class_at slabs class).free) → ((chunk : ChunkId) → times_in chunk state.order ≡ times_in chunk (class_at slabs class).order) →
    AreListed slabs (with_class slabs class state)
listed_with_class slabs class state is size free order = record {
  classes = length-with_class slabs class state;
  free = λ other chunk here. class_at-with_class_kept (λ c. times_in chunk c.free) slabs class other state is here.0 (free chunk);
  order = λ other chunk here. class_at-with_class_kept (λ c. times_in chunk c.order) slabs class other state is here.0 (order chunk);
  cut = λ other chunk here. inl (is_cut-kept slabs (with_class slabs class state) other chunk refl refl (class_at-with_class_kept (λ c. c.per_page) slabs class other state is here.0 size));
  moving = λ other chunk here cut moves. moves;
}

-- one change after another
listed_again : (a b c : SlabState) → AreListed a b → AreListed b c → AreListed a c
listed_again a b c first second =
    let same = first.classes in
    let between : (class : ℕ) → HasClass a class → HasClass b class = λ class is. (is.0, omega (arith, is.1, same)) in
    record {
      classes = second.classes ∙ same;
      free = λ class chunk is. second.free class chunk (between class is) ∙ first.free class chunk is;
      order = λ class chunk is. second.order class chunk (between class is) ∙ first.order class chunk is;
      cut = λ class chunk is.
          elim (second.cut class chunk (between class is)) [
            | inr gone ↦ inr (gone.0, (sym (first.free class chunk is) ∙ gone.1.0, sym (first.order class chunk is) ∙ gone.1.1))
            | inl kept ↦ elim (first.cut class chunk is) [ inl before ↦ inl (kept ∙ before) | inr gone ↦ inr (kept ∙ gone.0, gone.1) ]
          ];
      moving = λ class chunk is cut moves.
          elim (second.cut class chunk (between class is)) [
            | inr gone ↦ absurd (both_ways _ gone.0 cut)
            | inl kept ↦ second.moving class chunk (between class is) cut (first.moving class chunk is (sym kept ∙ cut) moves)
          ];
    }

-- a chunk that goes to the back of its order stands there as often
touched_times : (chunk other : ChunkId) (order : List ChunkId) → 1 ≤ times_in chunk order → times_in other (without chunk order ++ chunk ∷ []) ≡ times_in other order
touched_times chunk other order some = omega (arith, times-push other chunk (without chunk order), times-without other chunk order some)

module _ (slabs : SlabState) (granted : ℕ) (kept : AreSlabsInOrder slabs granted) where
  touch_listed : (chunk : ChunkId) → is_handed_out slabs chunk ≡ true → AreListed slabs (after_touch slabs chunk)
  touch_listed chunk out =
      let own = class_of_chunk slabs chunk in
      let handed = Contains_from_among own.order chunk out in
      listed_with_class slabs (class_of_page slabs chunk.page) (class_after_touch own chunk) (IsClass-handed_out slabs chunk kept.accounted handed) refl (λ other. refl)
      (λ other. touched_times chunk other own.order (times_from_Contains chunk own.order handed))

  begin_listed : (src : Option ℕ) (dst : ℕ) (answer : Result ℕ Reassign) → answer_of slabs src dst ≡ answer → AreListed slabs (after_reassign slabs src dst answer)
  begin_listed src dst (Err refusal) is = same_listed slabs
  begin_listed src dst (Ok source) is =
      let page = first_page slabs source in
      let within = first_page_there slabs granted src source dst kept is in
      let owned = first_page_owner slabs granted src source dst kept is in
      record {
        classes = refl;
        free = λ class chunk here. refl;
        order = λ class chunk here. refl;
        cut = λ class chunk here. inl (ap (λ b. b && nat_lt chunk.index (cut_count slabs.uncut chunk.page (class_at slabs class).per_page))
            (owner-set_alike (is_of_class class) slabs.owners page chunk.page (owner.Moving source dst) within (sym (ap (is_of_class class) owned))));
        moving = λ class chunk here cut moves. elim (cases_eq chunk.page page) [
          | inl same ↦ ap (λ p. is_moving (owner_at (set slabs.owners page (owner.Moving source dst)) p)) same ∙ ap is_moving (owner_at-set_same slabs.owners page (owner.Moving source dst) within)
          | inr apart ↦ ap is_moving (owner_at-set_other slabs.owners page chunk.page (owner.Moving source dst) apart) ∙ moves
        ];
      }

-- a page of no class, which doesn't move
no_class : (class : ℕ) (owner : Owner) → (owner ≡ Untouched) ⊎ (owner ≡ Pool) → (is_of_class class owner ≡ false) × (is_moving owner ≡ false)
no_class class owner (inl is) = (ap (is_of_class class) is, ap is_moving is)
no_class class owner (inr is) = (ap (is_of_class class) is, ap is_moving is)

module _ (slabs : SlabState) (class page : ℕ) (is : HasClass slabs class) (within : page < length slabs.owners) (free : (owner_at slabs.owners page ≡ Untouched) ⊎ (owner_at slabs.owners page ≡ Pool)) (whole : slabs.uncut ≡ None) where
  abbrev given : SlabState
  given = with_given slabs class page

  given_size : (other : ℕ) → HasClass slabs other → (class_at given other).per_page ≡ (class_at slabs other).per_page
  given_size other here = class_at-with_class_kept (λ c. c.per_page) slabs class other (with_page (class_at slabs class) page) is here.0 refl

  -- nothing of the page was cut, and nothing is
  given_uncut : (other : ℕ) (chunk : ChunkId) → chunk.page ≡ page → is_cut given other chunk ≡ false
  given_uncut other chunk same =
      let per_page = (class_at given other).per_page in
      let none : cut_count (Some (record { page = page; index = 0 })) chunk.page per_page ≡ 0 = ap (λ b. if b then 0 else per_page) (eq-eqb page chunk.page (sym same)) in
      and_right _ _ (ap (λ n. nat_lt chunk.index n) none ∙ le-ltb chunk.index 0 (omega arith))

  before_uncut : (other : ℕ) (chunk : ChunkId) → chunk.page ≡ page → is_cut slabs other chunk ≡ false
  before_uncut other chunk same = and_left _ _ (ap (λ p. is_of_class other (owner_at slabs.owners p)) same ∙ (no_class other (owner_at slabs.owners page) free).0)

  given_elsewhere : (other : ℕ) (chunk : ChunkId) → HasClass slabs other → chunk.page ≢ page → is_cut given other chunk ≡ is_cut slabs other chunk
  given_elsewhere other chunk here apart =
      let new = (class_at given other).per_page in
      let old = (class_at slabs other).per_page in
      let owner = owner_at-set_other slabs.owners page chunk.page (Class class) apart in
      let now : cut_count (Some (record { page = page; index = 0 })) chunk.page new ≡ new = ap (λ b. if b then 0 else new) (ne_eqb page chunk.page (λ e. apart (sym e))) in
      let before : cut_count slabs.uncut chunk.page old ≡ old = ap (λ (u : Option ChunkId). cut_count u chunk.page old) whole in
      ap₂ (λ (o : Owner) (n : ℕ). is_of_class other o && nat_lt chunk.index n) owner (now ∙ given_size other here ∙ sym before)

  -- a page that no class had is given to one
  given_listed : AreListed slabs given
  given_listed = record {
    classes = length-with_class slabs class (with_page (class_at slabs class) page);
    free = λ other chunk here. class_at-with_class_kept (λ c. times_in chunk c.free) slabs class other (with_page (class_at slabs class) page) is here.0 refl;
    order = λ other chunk here. class_at-with_class_kept (λ c. times_in chunk c.order) slabs class other (with_page (class_at slabs class) page) is here.0 refl;
    cut = λ other chunk here. elim (cases_eq chunk.page page) [
      | inl same ↦ inl (given_uncut other chunk same ∙ sym (before_uncut other chunk same))
      | inr apart ↦ inl (given_elsewhere other chunk here apart)
    ];
    moving = λ other chunk here cut moves. elim (cases_eq chunk.page page) [
      | inl same ↦ absurd (both_ways _ (given_uncut other chunk same) cut)
      | inr apart ↦ ap is_moving (owner_at-set_other slabs.owners page chunk.page (Class class) apart) ∙ moves
    ];
  }

-- the pool, the ledger and the number of moves are no part of it
given_pooled : (slabs now : SlabState) (pool : List ℕ) (ledger : List Entry) (moved : ℕ) → AreListed slabs now → AreListed slabs (record now { pool = pool; ledger = ledger; moved = moved })
given_pooled slabs now pool ledger moved listed = record { classes = listed.classes; free = listed.free; order = listed.order; cut = listed.cut; moving = listed.moving }

grow_listed : (slabs : SlabState) (class page : ℕ) → AreListed slabs (with_given slabs class page) → AreListed slabs (after_grow slabs class page)
grow_listed slabs class page listed =
    elim (nat_lt 0 (length slabs.pool)) as (λ (b : Bool). AreListed slabs (if b then after_take slabs class page else after_grant slabs class page)) [
      | true ↦ given_pooled slabs (with_given slabs class page) _ _ slabs.moved listed
      | false ↦ given_pooled slabs (with_given slabs class page) _ _ slabs.moved listed
    ]

grown_listed : (table : Classes) (slabs : SlabState) (lock : ℕ) (class : ℕ) (next : Option ℕ) → ArePaged table slabs lock → next_page slabs class ≡ next → is_class table class ≡ true → none_half_cut slabs ≡ true → AreListed slabs (after_growth slabs class next)
grown_listed table slabs lock class None paged is named whole = same_listed slabs
grown_listed table slabs lock class (Some page) paged is named whole =
    let granted = paged.order.0 in let kept = paged.order.1 in
    let class_is = IsClass_from table slabs class paged.of_table named in
    grow_listed slabs class page
    (given_listed slabs class page class_is (next_within slabs granted class page kept class_is is) (next_page_owner slabs class page kept.accounted is) (whole_is slabs.uncut whole))

module _ (slabs : SlabState) (move : Moving) (moves : IsMove slabs move) (can : can_finish slabs (Some move) ≡ true) where
  abbrev gone : SlabState
  gone = after_page_release slabs move.page move.src

  -- no chunk of the page is in a list
  none_listed : (class : ℕ) (chunk : ChunkId) → chunk.page ≡ move.page → is_cut slabs class chunk ≡ true → (times_in chunk (class_at slabs class).free ≡ 0) × (times_in chunk (class_at slabs class).order ≡ 0)
  none_listed class chunk same cut =
      let of : is_of_class class (owner_at slabs.owners chunk.page) ≡ true = (and_parts _ _ cut).0 in
      let own : move.src ≡ class = sym (ap (λ p. class_of_page slabs p) same ∙ ap class_of_owner moves.owner) ∙ class_of_owner-is_of_class class (owner_at slabs.owners chunk.page) of in
      let tests = finish_tests slabs move can in
      let free = none_of_page (class_at slabs move.src).free chunk (subst (λ p. has_page (class_at slabs move.src).free p ≡ false) (sym same) tests.0) in
      let order = none_of_page (class_at slabs move.src).order chunk (subst (λ p. has_page (class_at slabs move.src).order p ≡ false) (sym same) tests.1) in
      subst (λ n. (times_in chunk (class_at slabs n).free ≡ 0) × (times_in chunk (class_at slabs n).order ≡ 0)) own (free, order)

  released_uncut : (class : ℕ) (chunk : ChunkId) → chunk.page ≡ move.page → is_cut gone class chunk ≡ false
  released_uncut class chunk same =
      let owner = owner_at-set_same slabs.owners move.page Pool (within_from_IsMove slabs move moves) in
      and_left _ _ (ap (λ p. is_of_class class (owner_at (set slabs.owners move.page Pool) p)) same ∙ ap (is_of_class class) owner)

  released_elsewhere : (class : ℕ) (chunk : ChunkId) → HasClass slabs class → chunk.page ≢ move.page → is_cut gone class chunk ≡ is_cut slabs class chunk
  released_elsewhere class chunk here apart =
      let size = class_at-with_class_kept (λ c. c.per_page) slabs move.src class (without_page (class_at slabs move.src) move.page) moves.src here.0 refl in
      ap₂ (λ (o : Owner) (n : ℕ). is_of_class class o && nat_lt chunk.index (cut_count slabs.uncut chunk.page n)) (owner_at-set_other slabs.owners move.page chunk.page Pool apart) size

  -- the page goes to the pool
  released_listed : AreListed slabs gone
  released_listed = record {
    classes = length-with_class slabs move.src (without_page (class_at slabs move.src) move.page);
    free = λ class chunk here. class_at-with_class_kept (λ c. times_in chunk c.free) slabs move.src class (without_page (class_at slabs move.src) move.page) moves.src here.0 refl;
    order = λ class chunk here. class_at-with_class_kept (λ c. times_in chunk c.order) slabs move.src class (without_page (class_at slabs move.src) move.page) moves.src here.0 refl;
    cut = λ class chunk here. elim (cases_eq chunk.page move.page) [
      | inr apart ↦ inl (released_elsewhere class chunk here apart)
      | inl same ↦ elim (cases_Bool (is_cut slabs class chunk)) [
        | inl cut ↦ inr (released_uncut class chunk same, none_listed class chunk same cut)
        | inr uncut ↦ inl (released_uncut class chunk same ∙ sym uncut)
      ]
    ];
    moving = λ class chunk here cut was. elim (cases_eq chunk.page move.page) [
      | inl same ↦ absurd (both_ways _ (released_uncut class chunk same) cut)
      | inr apart ↦ ap is_moving (owner_at-set_other slabs.owners move.page chunk.page Pool apart) ∙ was
    ];
  }

  -- and from there to a class
  arrived_listed : (b : Bool) → move.dst == 0 ≡ b → AreListed slabs (arrived_if slabs move b)
  arrived_listed true to = released_listed
  arrived_listed false to =
      let within = within_from_IsMove slabs move moves in
      let count = length-with_class slabs move.src (without_page (class_at slabs move.src) move.page) in
      let some = eqb-false move.dst 0 to in
      let is : HasClass gone move.dst = (omega arith, (let most = moves.dst in omega arith)) in
      let inside : move.page < length gone.owners = omega (arith, within, length-set slabs.owners move.page Pool) in
      let whole : slabs.uncut ≡ None = whole_is slabs.uncut (and_parts _ _ can).0 in
      let joined = given_listed gone move.dst move.page is inside (inr (owner_at-set_same slabs.owners move.page Pool within)) whole in
      given_pooled slabs (with_given gone move.dst move.page) slabs.pool slabs.ledger slabs.moved (listed_again slabs gone (with_given gone move.dst move.page) released_listed joined)

  ended_listed : AreListed slabs (after_move_end slabs move)
  ended_listed = let there = arrived_listed (move.dst == 0) refl in given_pooled slabs (arrived_if slabs move (move.dst == 0)) _ _ _ there

finish_listed : (slabs : SlabState) (granted : ℕ) (moving : Option Moving) → AreSlabsInOrder slabs granted → slabs.moving ≡ moving → can_finish slabs moving ≡ true → AreListed slabs (after_finish slabs moving)
finish_listed slabs granted None kept is can = same_listed slabs
finish_listed slabs granted (Some move) kept is can = ended_listed slabs move (kept.accounted.move move is) can

-- each change of pages and lists that is allowed
pub slabs_listed : (table : Classes) (slabs : SlabState) (lock : ℕ) → ArePaged table slabs lock → (change : Change) → can_change_slabs table slabs change ≡ true → AreListed slabs (slabs_after slabs change)
slabs_listed table slabs lock paged (Grow class) can =
    let parts = and_parts (is_class table class && none_half_cut slabs) (is_some (next_page slabs class)) can in
    let tests = and_parts (is_class table class) (none_half_cut slabs) parts.0 in
    grown_listed table slabs lock class (next_page slabs class) paged refl tests.0 tests.1
slabs_listed table slabs lock paged (BeginMove src dst) can = begin_listed slabs paged.order.0 paged.order.1 src dst (answer_of slabs src dst) refl
slabs_listed table slabs lock paged FinishMove can = finish_listed slabs paged.order.0 slabs.moving paged.order.1 refl can
slabs_listed table slabs lock paged (Touch chunk) can = touch_listed slabs paged.order.0 paged.order.1 chunk can
slabs_listed table slabs lock paged (SetAutomove mode) can = let now : SlabState = slabs_after slabs (SetAutomove mode) in numbered_listed slabs now.moving now.rescues now.evictions_nomem now.busy now.automove
slabs_listed table slabs lock paged TrimLedger can = trimmed_listed slabs
slabs_listed table slabs lock paged (Passed found) can = let now : SlabState = slabs_after slabs (Passed found) in numbered_listed slabs now.moving now.rescues now.evictions_nomem now.busy now.automove
slabs_listed table slabs lock paged Wrap can = let now : SlabState = slabs_after slabs Wrap in numbered_listed slabs now.moving now.rescues now.evictions_nomem now.busy now.automove
slabs_listed table slabs lock paged (Evicted class) can =
    listed_with_class slabs class (class_after_eviction (class_at slabs class)) (IsClass_from table slabs class paged.of_table can) refl (λ chunk. refl) (λ chunk. refl)
slabs_listed table slabs lock paged (OfStripe stripe how) can = absurd (cc)
slabs_listed table slabs lock paged (GotNone key) can = absurd (cc)
slabs_listed table slabs lock paged (DeletedNone key) can = absurd (cc)

under_lock : (moment : Moment) (hand : ℕ) (change : Change) → IsLawful moment → (has_slabs moment.state hand && can_change_slabs moment.state.table moment.state.slabs change) ≡ true →
    ArePlaced moment.state.table (slabs_after moment.state.slabs change) moment.state.heads
under_lock moment hand change lawful allowed =
    let state = moment.state in
    let parts = and_parts (has_slabs state hand) (can_change_slabs state.table state.slabs change) allowed in
    placed_listed state.table state.slabs (slabs_after state.slabs change) state.heads lawful.paged.order.1.accounted lawful.placed (slabs_listed state.table state.slabs state.slabs_lock lawful.paged change parts.1)

pub placed_changes : ChangesKeep PlacedIn
placed_changes moment hand (Grow class) may = under_lock moment hand (Grow class) may.lawful may.allowed
placed_changes moment hand (BeginMove src dst) may = under_lock moment hand (BeginMove src dst) may.lawful may.allowed
placed_changes moment hand FinishMove may = under_lock moment hand FinishMove may.lawful may.allowed
placed_changes moment hand (Touch chunk) may = under_lock moment hand (Touch chunk) may.lawful may.allowed
placed_changes moment hand (SetAutomove mode) may = under_lock moment hand (SetAutomove mode) may.lawful may.allowed
placed_changes moment hand TrimLedger may = under_lock moment hand TrimLedger may.lawful may.allowed
placed_changes moment hand (Passed found) may = under_lock moment hand (Passed found) may.lawful may.allowed
placed_changes moment hand Wrap may = under_lock moment hand Wrap may.lawful may.allowed
placed_changes moment hand (Evicted class) may = under_lock moment hand (Evicted class) may.lawful may.allowed
placed_changes moment hand (OfStripe stripe how) may = may.lawful.placed
placed_changes moment hand (GotNone key) may = may.lawful.placed
placed_changes moment hand (DeletedNone key) may = may.lawful.placed
