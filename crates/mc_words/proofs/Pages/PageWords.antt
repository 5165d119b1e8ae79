-- The words of the pages: a page that a class gets, and the change by which it gets it.
use Rattle.std.proofs.Common.{None, is_none, is_some, ◌≡◌, ℕ, ◌<◌, true, List, length, slice_index, slice_set, Some, refl, sym, ap, ◌∙◌, subst, inl, inr, arith, get_or-set_same, get_or-set_other}
use Rattle.std.proofs.lemmas.Bool.{cases_eq, and_from}
use Rattle.mc_classes.specs.Classes.{Classes, arena_pages_of}
use Rattle.mc_pages.proofs.NextPage.{nobody_next}
use Rattle.mc_pages.specs.declared.ids.ChunkId.{ChunkId}
use Rattle.mc_pages.specs.SlabState.{SlabState, class_of_owner, class_of_page}
use Rattle.mc_pages.specs.declared.ledger.Owner.{Owner}
use Rattle.mc_pages.specs.declared.ledger.Owner.TheVariants.{Untouched, Class}
use Rattle.mc_pages.specs.Ledger.{owner_at}
use Rattle.mc_pages.specs.Changes.{next_page, after_grow}
use Rattle.mc_core.specs.declared.event.Change.TheVariants.{Evicted, Grow, SetAutomove, Touch, TrimLedger}
use Rattle.mc_core.specs.declared.event.Step.TheVariants as core
use Rattle.mc_core.specs.model.State.{State, is_class}
use Rattle.mc_core.specs.run.Silent.{after_growth, can_change_slabs, is_handed_out}
use Rattle.mc_core.proofs.Places.SamePages.{grown_owners, grown_pages}
use Rattle.mc_words.specs.hand.View.{View}
use Rattle.mc_words.specs.rule.Layout.{lock_address, page_word}
use Rattle.mc_words.specs.rule.Meaning.{AreCut}
use Rattle.mc_words.specs.rule.Happens.{LawfulView, AllowsStep}
use Rattle.mc_words.proofs.Rules.Written.{cuts_long, page_written, unwritten}
use Rattle.mc_words.proofs.Pages.Owners.{slabs_here}

-- the page has this class, and all others keep theirs
cut_written : (cuts : List ℕ) (x : SlabState) (page class : ℕ) → page < length cuts → page < length x.owners → AreCut cuts x → AreCut (slice_set cuts page class) (after_grow x class page)
cut_written cuts x page class within owned cut other = elim (cases_eq other page) [
  | inl same ↦
      let owners = grown_owners x class page in
      let given : class_of_page (after_grow x class page) page ≡ class =
      ap (λ (os : List Owner). class_of_owner (owner_at os page)) owners ∙ ap class_of_owner (get_or-set_same x.owners page (Class class) Untouched owned) in
      subst (λ (p : ℕ). slice_index (slice_set cuts page class) p ≡ class_of_page (after_grow x class page) p) (sym same) (get_or-set_same cuts page class 0 within ∙ sym given)
  | inr apart ↦
      let stays = grown_pages x class page other apart in
      get_or-set_other cuts page other class 0 apart ∙ (cut other ∙ sym stays)
]

-- a class gets the next page, whose word tells that
pub may_grow : (view : View) (slabs : SlabState) (class page : ℕ) → view.slabs ≡ Some slabs → can_change_slabs view.setup.table slabs (Grow class) ≡ true → next_page slabs class ≡ Some page → page < arena_pages_of view.setup.table → page < length slabs.owners
    → AllowsStep view (Grow class) core.MissSlabs (page_word view.setup page) (λ found. class)
may_grow view slabs class page mine can next in_range owned = record {
  allowed = λ was.
      let held = slabs_here view was slabs mine in
      and_from _ _ held.0 (ap (λ table. can_change_slabs table was.moment.state.slabs (Grow class)) was.same_table ∙ (ap (λ slabs. can_change_slabs view.setup.table slabs (Grow class)) held.1 ∙ can));
  step_allowed = λ was. refl;
  writes = λ was.
      let s : State = was.moment.state in
      let same = (slabs_here view was slabs mine).1 in
      let long = cuts_long view.setup was.cuts was.words s.slabs_lock s.stripe_locks s.heads s.words was.are in
      let cut : AreCut was.cuts slabs = subst (AreCut was.cuts) same was.cut in
      let is : after_growth s.slabs class (next_page s.slabs class) ≡ after_grow slabs class page = ap (λ slabs. after_growth slabs class (next_page slabs class)) same ∙ ap (after_growth slabs class) next in (
        slice_set was.cuts page class,
        page_written view.setup was.cuts was.words s.slabs_lock s.stripe_locks s.heads s.words was.are page class in_range,
        subst (AreCut (slice_set was.cuts page class)) (sym is) (cut_written was.cuts slabs page class (omega arith) owned cut),
      );
}

-- the mode is set
pub may_set_automove : (view : View) (slabs : SlabState) (mode : ℕ) → view.slabs ≡ Some slabs → can_change_slabs view.setup.table slabs (SetAutomove mode) ≡ true → AllowsStep view (SetAutomove mode) core.MissSlabs (lock_address 0) (λ found. found)
may_set_automove view slabs mode mine can = record {
  allowed = λ was. and_from _ _ (slabs_here view was slabs mine).0 can;
  step_allowed = λ was. refl;
  writes = λ was. let s : State = was.moment.state in (was.cuts, unwritten view.setup was.cuts was.words s.slabs_lock s.stripe_locks s.heads s.words was.are (lock_address 0), was.cut);
}

-- the ledger is trimmed
pub may_trim_ledger : (view : View) (slabs : SlabState) → view.slabs ≡ Some slabs → AllowsStep view TrimLedger core.MissSlabs (lock_address 0) (λ found. found)
may_trim_ledger view slabs mine = record {
  allowed = λ was. and_from _ _ (slabs_here view was slabs mine).0 refl;
  step_allowed = λ was. refl;
  writes = λ was. let s : State = was.moment.state in (was.cuts, unwritten view.setup was.cuts was.words s.slabs_lock s.stripe_locks s.heads s.words was.are (lock_address 0), was.cut);
}

-- a chunk that is handed out is touched
pub may_touch : (view : View) (slabs : SlabState) (chunk : ChunkId) → view.slabs ≡ Some slabs → is_handed_out slabs chunk ≡ true → AllowsStep view (Touch chunk) core.MissSlabs (lock_address 0) (λ found. found)
may_touch view slabs chunk mine out = record {
  allowed = λ was. let held = slabs_here view was slabs mine in and_from _ _ held.0 (ap (λ slabs. is_handed_out slabs chunk) held.1 ∙ out);
  step_allowed = λ was. refl;
  writes = λ was. let s : State = was.moment.state in (was.cuts, unwritten view.setup was.cuts was.words s.slabs_lock s.stripe_locks s.heads s.words was.are (lock_address 0), was.cut);
}

-- an eviction is counted
pub may_evicted : (view : View) (slabs : SlabState) (class : ℕ) → view.slabs ≡ Some slabs → is_class view.setup.table class ≡ true → AllowsStep view (Evicted class) core.MissSlabs (lock_address 0) (λ found. found)
may_evicted view slabs class mine is = record {
  allowed = λ was. and_from _ _ (slabs_here view was slabs mine).0 (ap (λ table. is_class table class) was.same_table ∙ is);
  step_allowed = λ was. refl;
  writes = λ was. let s : State = was.moment.state in (was.cuts, unwritten view.setup was.cuts was.words s.slabs_lock s.stripe_locks s.heads s.words was.are (lock_address 0), was.cut);
}

-- the page that comes next stands in the arena
pub next_near : (view : View) → LawfulView view → (slabs : SlabState) (class page : ℕ) → view.slabs ≡ Some slabs → next_page slabs class ≡ Some page → (page < arena_pages_of view.setup.table) × (page < length slabs.owners)
next_near view was slabs class page mine next =
    let s : State = was.moment.state in
    let same = (slabs_here view was slabs mine).1 in
    let order = was.lawful.paged.order in
    let inside : page < length s.slabs.owners = (nobody_next s.slabs class page order.1.accounted (ap (λ (x : SlabState). next_page x class) same ∙ next)).1 in
    let pages : length s.slabs.owners ≡ arena_pages_of view.setup.table = was.lawful.paged.of_table.owners ∙ ap arena_pages_of was.same_table in
    let owners : length s.slabs.owners ≡ length slabs.owners = ap (λ (x : SlabState). length x.owners) same in
    (omega arith, omega arith)

pub can_grow_here : (table : Classes) (slabs : SlabState) (class page : ℕ) → is_class table class ≡ true → slabs.uncut ≡ None → next_page slabs class ≡ Some page → can_change_slabs table slabs (Grow class) ≡ true
can_grow_here table slabs class page is whole next = and_from _ _ (and_from _ _ is (ap is_none whole)) (ap is_some next)
