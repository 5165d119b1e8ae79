-- Changes of a move: what allows each, and what the words of the pages say then.
use Rattle.std.proofs.Common.{false, None, ◌≡◌, ℕ, ◌<◌, ◌≤◌, ◌==◌, Bool, true, List, length, slice_index, slice_set, Option, Some, refl, sym, ap, subst, ◌∙◌, inl, inr, arith, is_ok, Result, Ok, Err, IfOk, eqb-true, length-set, get_or-set_same, get_or-set_other, not, is_none, nat_lt, ◌&&◌, ◌||◌, lt-ltb, ltb-true, eq-eqb, le-leb, ap₂, [], ◌∷◌}
use Rattle.std.proofs.lemmas.Bool.{and_parts, or_right, and_from, cases_Bool, cases_eq}
use Rattle.mc_classes.specs.Classes.{Classes, arena_pages_of, per_page_of}
use Rattle.mc_pages.specs.declared.ids.Moving.{Moving}
use Rattle.mc_pages.specs.declared.moves.Found.{Found}
use Rattle.mc_pages.specs.declared.ledger.Owner.TheVariants.{Untouched, Pool, Class}
use Rattle.mc_pages.specs.declared.ids.ChunkId.{ChunkId}
use Rattle.mc_pages.specs.Ledger.{owner_at}
use Rattle.mc_pages.specs.Accounted.{IsAccounted, IsMove, cut_count, is_cleared, is_cut, is_moving, is_of_class, places_in, truth}
use Rattle.mc_pages.specs.ClassState.{times_in}
use Rattle.mc_pages.proofs.Chunks.{is_chunk-same, times-cons}
use Rattle.mc_pages.specs.declared.moves.Reassign.{Reassign}
use Rattle.mc_pages.specs.Answer.{MayAnswer, answer_of}
use Rattle.mc_pages.specs.Moves.{CanFinish, CanPass, CanWrap, after_begin, after_finish, chunk_at_position, after_move_end, is_held_up}
use Rattle.mc_pages.specs.SlabState.{SlabState, class_at, class_of_owner, class_of_page}
use Rattle.mc_pages.proofs.RoomyFinish.{moving_within}
use Rattle.mc_core.specs.declared.event.Change.TheVariants.{BeginMove, FinishMove, Passed, Wrap}
use Rattle.mc_core.specs.declared.event.Step.TheVariants as core
use Rattle.mc_core.specs.model.InOrder.{IsOfTable}
use Rattle.mc_core.specs.model.State.{State}
use Rattle.mc_core.specs.run.Silent.{after_reassign, can_finish, can_pass, can_wrap, has_page, is_cleared_at, is_listed, run_of}
use Rattle.mc_core.proofs.Steps.Listed.{per_page_is, places_from_listed}
use Rattle.mc_core.proofs.Places.SamePages.{arrived_if, begun_pages, finished_other}
use Rattle.mc_words.specs.hand.View.{View}
use Rattle.mc_words.specs.rule.Layout.{lock_address, page_word}
use Rattle.mc_words.specs.rule.Meaning.{AreCut}
use Rattle.mc_words.specs.rule.Happens.{LawfulView, AllowsStep}
use Rattle.mc_words.proofs.Pages.Owners.{slabs_here}
use Rattle.mc_words.proofs.Rules.Quiet.{cut_stays}
use Rattle.mc_words.proofs.Rules.Written.{cuts_long, page_written, unwritten}

-- what the hand has is of the arena's table
pub of_table_here : (view : View) → LawfulView view → (slabs : SlabState) → view.slabs ≡ Some slabs → IsOfTable view.setup.table slabs
of_table_here view was slabs mine = subst (λ (p : Classes × SlabState). IsOfTable p.0 p.1) (λ k. (was.same_table k, (slabs_here view was slabs mine).1 k)) was.lawful.paged.of_table

-- a page begins to move
pub may_begin : (view : View) (slabs : SlabState) (src : Option ℕ) (dst : ℕ) → view.slabs ≡ Some slabs → is_ok (answer_of slabs src dst) ≡ true → AllowsStep view (BeginMove src dst) core.MissSlabs (lock_address 0) (λ found. found)
may_begin view slabs src dst mine can = record {
  allowed = λ was. let held = slabs_here view was slabs mine in and_from _ _ held.0 (ap (λ (x : SlabState). is_ok (answer_of x src dst)) held.1 ∙ can);
  step_allowed = λ was. refl;
  writes = λ was.
      let s : State = was.moment.state in
      let order = was.lawful.paged.order in (
        was.cuts,
        unwritten view.setup was.cuts was.words s.slabs_lock s.stripe_locks s.heads s.words was.are (lock_address 0),
        cut_stays was.cuts s.slabs (after_reassign s.slabs src dst (answer_of s.slabs src dst)) (begun_pages s.slabs order.0 src dst (answer_of s.slabs src dst) order.1 refl) was.cut,
      );
}

-- a chunk is passed
pub may_pass : (view : View) (slabs : SlabState) (found : Found) → view.slabs ≡ Some slabs → can_pass slabs found (run_of view.setup.table slabs.moving) ≡ true → AllowsStep view (Passed found) core.MissSlabs (lock_address 0) (λ found. found)
may_pass view slabs found mine can = record {
  allowed = λ was.
      let held = slabs_here view was slabs mine in
      and_from _ _ held.0 ((λ k. can_pass (held.1 k) found (run_of (was.same_table k) (held.1 k).moving)) ∙ can);
  step_allowed = λ was. refl;
  writes = λ was. let s : State = was.moment.state in (was.cuts, unwritten view.setup was.cuts was.words s.slabs_lock s.stripe_locks s.heads s.words was.are (lock_address 0), was.cut);
}

-- a pass begins anew
pub may_wrap : (view : View) (slabs : SlabState) → view.slabs ≡ Some slabs → can_wrap (run_of view.setup.table slabs.moving) ≡ true → AllowsStep view Wrap core.MissSlabs (lock_address 0) (λ found. found)
may_wrap view slabs mine can = record {
  allowed = λ was.
      let held = slabs_here view was slabs mine in
      and_from _ _ held.0 ((λ k. can_wrap (run_of (was.same_table k) (held.1 k).moving)) ∙ can);
  step_allowed = λ was. refl;
  writes = λ was. let s : State = was.moment.state in (was.cuts, unwritten view.setup was.cuts was.words s.slabs_lock s.stripe_locks s.heads s.words was.are (lock_address 0), was.cut);
}

-- the page whose move ended has its destination's class, and the pool is none
finished_page : (slabs : SlabState) (move : Moving) → move.page < length slabs.owners → class_of_page (after_move_end slabs move) move.page ≡ move.dst
finished_page slabs move in_range =
    let long : length (slice_set slabs.owners move.page Pool) ≡ length slabs.owners = length-set slabs.owners move.page Pool in
    elim (cases_Bool (move.dst == 0)) [
      | inl pooled ↦ ap (λ (b : Bool). class_of_page (arrived_if slabs move b) move.page) pooled ∙ (ap class_of_owner (get_or-set_same slabs.owners move.page Pool Untouched in_range) ∙ sym (eqb-true move.dst 0 pooled))
      | inr given ↦
          ap (λ (b : Bool). class_of_page (arrived_if slabs move b) move.page) given
          ∙ ap class_of_owner (get_or-set_same (slice_set slabs.owners move.page Pool) move.page (Class move.dst) Untouched (omega arith))
    ]

-- its word says so
finished_cut : (cuts : List ℕ) (slabs : SlabState) (move : Moving) → move.page < length cuts → move.page < length slabs.owners → AreCut cuts slabs → AreCut (slice_set cuts move.page move.dst) (after_move_end slabs move)
finished_cut cuts slabs move within in_range cut other = elim (cases_eq other move.page) [
  | inl same ↦
      subst (λ (p : ℕ). slice_index (slice_set cuts move.page move.dst) p ≡ class_of_page (after_move_end slabs move) p) (sym same) (get_or-set_same cuts move.page move.dst 0 within ∙ sym (finished_page slabs move in_range))
  | inr apart ↦
      let stays : class_of_page (after_move_end slabs move) other ≡ class_of_page slabs other = ap class_of_owner (finished_other slabs move other apart) in
      get_or-set_other cuts move.page other move.dst 0 apart ∙ (cut other ∙ sym stays)
]

-- where the page of a move stands
pub move_near : (view : View) → LawfulView view → (slabs : SlabState) (move : Moving) → view.slabs ≡ Some slabs → slabs.moving ≡ Some move → (move.page < arena_pages_of view.setup.table) × (move.page < length slabs.owners)
move_near view was slabs move mine runs =
    let of = of_table_here view was slabs mine in
    let is : IsMove slabs move = of.accounted.move move runs in
    let within : move.page < length slabs.owners = moving_within slabs move is in
    let pages : length slabs.owners ≡ arena_pages_of view.setup.table = of.owners in
    (omega arith, within)

-- a move ends
pub may_finish : (view : View) (slabs : SlabState) (move : Moving) → view.slabs ≡ Some slabs → slabs.moving ≡ Some move → can_finish slabs slabs.moving ≡ true → move.page < arena_pages_of view.setup.table → move.page < length slabs.owners
    → AllowsStep view FinishMove core.MissSlabs (page_word view.setup move.page) (λ found. move.dst)
may_finish view slabs move mine runs can in_range owned = record {
  allowed = λ was.
      let held = slabs_here view was slabs mine in
      and_from _ _ held.0 (ap (λ (x : SlabState). can_finish x x.moving) held.1 ∙ can);
  step_allowed = λ was. refl;
  writes = λ was.
      let s : State = was.moment.state in
      let same = (slabs_here view was slabs mine).1 in
      let long = cuts_long view.setup was.cuts was.words s.slabs_lock s.stripe_locks s.heads s.words was.are in
      let cut : AreCut was.cuts slabs = subst (AreCut was.cuts) same was.cut in
      let is : after_finish s.slabs s.slabs.moving ≡ after_move_end slabs move = ap (λ (x : SlabState). after_finish x x.moving) same ∙ ap (after_finish slabs) runs in (
        slice_set was.cuts move.page move.dst,
        page_written view.setup was.cuts was.words s.slabs_lock s.stripe_locks s.heads s.words was.are move.page move.dst in_range,
        subst (AreCut (slice_set was.cuts move.page move.dst)) (sym is) (finished_cut was.cuts slabs move (omega arith) owned cut),
      );
}

-- where the answer was OK, it was to be
pub answered : (answer : Result ℕ Reassign) (result : Result (Unit {0}) Reassign) → MayAnswer answer result → result ≡ Ok tt → is_ok answer ≡ true
answered (Ok source) result may is = refl
answered (Err refusal) result may is = absurd (let never : ◌≡◌ {A = Result (Unit {0}) Reassign} (Ok tt) (Err refusal) = sym is ∙ may in cc)

-- and what began then is the change
pub begun_is : (slabs left : SlabState) (src : Option ℕ) (dst : ℕ) (answer : Result ℕ Reassign) → is_ok answer ≡ true → IfOk answer (λ source. left ≡ after_begin slabs src source dst) → after_reassign slabs src dst answer ≡ left
begun_is slabs left src dst (Ok source) ok is = sym is
begun_is slabs left src dst (Err refusal) ok is = absurd (cc)

-- the core's tests, from what the calls ask: a chunk may be passed
pub can_pass_from : (table : Classes) (slabs : SlabState) (found : Found) (move : Moving) → IsOfTable table slabs → CanPass slabs found move → can_pass slabs found (run_of table slabs.moving) ≡ true
can_pass_from table slabs found move of can =
    let chunk = chunk_at_position move in
    let move_is : IsMove slabs move = of.accounted.move move can.runs in
    let per_page : (class_at slabs move.src).per_page ≡ per_page_of table move.src = per_page_is table slabs move.src of move_is.src in
    let within = can.within in
    let below : nat_lt move.at (per_page_of table move.src) ≡ true = lt-ltb move.at (per_page_of table move.src) (omega arith) in
    let done : (is_held_up found || is_cleared_at slabs (per_page_of table move.src) move) ≡ true = elim (cases_Bool (is_held_up found)) [
      | inl held ↦ ap (λ (b : Bool). b || is_cleared_at slabs (per_page_of table move.src) move) held
      | inr free ↦
          let parts = and_parts (is_moving (owner_at slabs.owners move.page) && is_cut slabs move.src chunk) (places_in slabs move.src chunk == 0) (can.done free) in
          let cut = and_parts (is_moving (owner_at slabs.owners move.page)) (is_cut slabs move.src chunk) parts.0 in
          let was_cut = and_parts (is_of_class move.src (owner_at slabs.owners move.page)) (nat_lt move.at (cut_count slabs.uncut move.page (class_at slabs move.src).per_page)) cut.1 in
          let none : places_in slabs move.src chunk ≡ 0 = eqb-true (places_in slabs move.src chunk) 0 parts.1 in
          let cleared : is_cleared_at slabs (per_page_of table move.src) move ≡ true =
          and_from _ _ (ap (λ (n : ℕ). nat_lt move.at (cut_count slabs.uncut move.page n)) (sym per_page) ∙ was_cut.1) (ap not (unlisted slabs move.src chunk none)) in
          or_right (is_held_up found) (is_cleared_at slabs (per_page_of table move.src) move) cleared
    ] in
    ap (λ (moving : Option Moving). can_pass slabs found (run_of table moving)) can.runs ∙ and_from _ _ below done
  where
    unlisted : (slabs : SlabState) (class : ℕ) (chunk : ChunkId) → places_in slabs class chunk ≡ 0 → is_listed slabs class chunk ≡ false
    unlisted slabs class chunk none = elim (cases_Bool (is_listed slabs class chunk)) [
      | inl listed ↦ absurd (let some = places_from_listed slabs class chunk listed in omega arith)
      | inr isnt ↦ isnt
    ]

-- a pass may begin anew
pub can_wrap_from : (table : Classes) (slabs : SlabState) (move : Moving) → IsOfTable table slabs → CanWrap slabs move → can_wrap (run_of table slabs.moving) ≡ true
can_wrap_from table slabs move of can =
    let move_is : IsMove slabs move = of.accounted.move move can.runs in
    let at : move.at ≡ per_page_of table move.src = can.at_end ∙ per_page_is table slabs move.src of move_is.src in
    ap (λ (moving : Option Moving). can_wrap (run_of table moving)) can.runs ∙ and_from _ _ (eq-eqb move.at (per_page_of table move.src) at) (le-leb 1 move.busy can.held_up)

-- where a page has a chunk in a list, one stands there
page_found : (page : ℕ) (chunks : List ChunkId) → has_page chunks page ≡ true → (chunk : ChunkId) × (chunk.page ≡ page) × (1 ≤ times_in chunk chunks)
page_found page [] has = absurd (cc)
page_found page (first ∷ chunks) has = elim (cases_Bool (first.page == page)) [
  | inl on ↦ (first, eqb-true first.page page on, (let sum = times-cons first first chunks in let one = ap truth (is_chunk-same first) in omega arith))
  | inr off ↦
      let (chunk, on, some) = page_found page chunks (ap (λ (b : Bool). b || has_page chunks page) (sym off) ∙ has) in
      (chunk, on, (let sum = times-cons chunk first chunks in omega arith))
]

-- a move may end
pub can_finish_from : (slabs : SlabState) (move : Moving) → IsAccounted slabs → slabs.uncut ≡ None → CanFinish slabs move → can_finish slabs slabs.moving ≡ true
can_finish_from slabs move accounted whole can =
    let move_is : IsMove slabs move = accounted.move move can.runs in
    ap (can_finish slabs) can.runs ∙ and_from _ _ (ap is_none whole) (ap not (ap₂ (λ (a b : Bool). a || b) (none_there (class_at slabs move.src).free (λ chunk some. (let n = some in omega arith))) (none_there (class_at slabs move.src).order (λ chunk some. (let n = some in omega arith)))))
  where
    none_there : (chunks : List ChunkId) → ((chunk : ChunkId) → 1 ≤ times_in chunk chunks → 1 ≤ places_in slabs move.src chunk) → has_page chunks move.page ≡ false
    none_there chunks listed = elim (cases_Bool (has_page chunks move.page)) [
      | inl has ↦
          let (chunk, on, some) = page_found move.page chunks has in
          let places = listed chunk some in
          let count = accounted.chunks move.src chunk (accounted.move move can.runs).src in
          let cut : is_cut slabs move.src chunk ≡ true = elim (cases_Bool (is_cut slabs move.src chunk)) [
            | inl is ↦ is
            | inr isnt ↦ absurd (let none = ap truth isnt in omega arith)
          ] in
          let within = and_parts (is_of_class move.src (owner_at slabs.owners chunk.page)) (nat_lt chunk.index (cut_count slabs.uncut chunk.page (class_at slabs move.src).per_page)) cut in
          let below : chunk.index < (class_at slabs move.src).per_page =
          ltb-true chunk.index (class_at slabs move.src).per_page (ap (λ (o : Option ChunkId). nat_lt chunk.index (cut_count o chunk.page (class_at slabs move.src).per_page)) (sym whole) ∙ within.1) in
          let cleared : is_cleared slabs move.src chunk ≡ true = ap (λ (p : ℕ). is_cleared slabs move.src (record { page = p; index = chunk.index })) on ∙ can.all_cleared chunk.index below in
          absurd (let one = ap truth cleared in let two = ap truth cut in omega arith)
      | inr none ↦ none
    ]
