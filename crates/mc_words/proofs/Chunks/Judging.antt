-- A look at a chunk, and the step that it allows.
use Rattle.std.proofs.Common.{◌≡◌, ℕ, ◌+◌, ◌/◌, ◌%◌, ◌<◌, ◌≤◌, ◌==◌, Bool, true, false, List, [], ◌∷◌, ◌++◌, length, Some, None, refl, sym, ap, subst, ◌∙◌, inl, inr, arith, is_some, if◌then◌else◌, eq-eqb, eqb-true, leb-true, zero, suc}
use Rattle.std.specs.List.{fold}
use Rattle.std.specs.Prelude.{All, Contains}
use Rattle.std.proofs.lemmas.Bool.{and_parts, and_from, cases_Bool}
use Rattle.std.proofs.lemmas.List.Elements.{All-head, All-tail}
use Rattle.std.proofs.lemmas.List.{length-replicate}
use Rattle.std.proofs.lemmas.List.Sums.{fold-append}
use Rattle.std.proofs.lemmas.List.Folds.{find-append}
use Rattle.mc_classes.specs.Classes.{Classes, size_of}
use Rattle.mc_pages.specs.declared.ids.ChunkId.{ChunkId}
use Rattle.mc_pages.specs.ClassState.{first_free}
use Rattle.mc_pages.specs.SlabState.{SlabState, HasClass, class_at, class_of_page, class_of_chunk}
use Rattle.mc_pages.proofs.Chunks.{is_chunk-same}
use Rattle.mc_core.specs.declared.head.Head.{Head}
use Rattle.mc_core.specs.declared.holding.Holding.{Holding}
use Rattle.mc_core.specs.declared.look.Look.TheVariants.{Saw}
use Rattle.mc_core.specs.declared.event.Step.TheVariants as core
use Rattle.mc_core.specs.model.Head.{decode, tag_of, is_unlinked, is_dead}
use Rattle.mc_core.specs.model.Holdings.{is_of_chunk, holding_of}
use Rattle.mc_core.specs.model.State.{is_class, has_chunk, head_at, room_in}
use Rattle.mc_core.specs.run.Chunks.{most_issue, most_holdings, next_free}
use Rattle.mc_core.specs.past.Past.{SeenWord, header}
use Rattle.mc_core.specs.law.Seen.{last_head, seen_head}
use Rattle.mc_core.specs.model.Columns.{holder_count}
use Rattle.mc_core.specs.run.Silent.{is_handed_out}
use Rattle.mc_core.proofs.Steps.Needless.{are_needless}
use Rattle.mc_core.proofs.Seen.Judged.{all_are_judged}
use Rattle.mc_core.proofs.Places.FreeChunks.{first_placed}
use Rattle.mc_core.proofs.Places.OfTable.{class_count}
use Rattle.mc_core.proofs.Steps.Listed.{Contains_from_among}
use Rattle.mc_core.proofs.Counts.Holders.{none_held}
use Rattle.mc_words.specs.hand.View.{View}
use Rattle.mc_words.specs.rule.Happens.{LawfulView, Happens}
use Rattle.mc_words.specs.item.Fresh.{IsFreshOf}
use Rattle.mc_words.specs.page.Owner.{PopsFirst, PutsBack, Cuts}
use Rattle.mc_words.specs.hand.Views.{head_seen, looked_if_held, chunk_popped, chunk_put_back, chunk_cut, fresh_holding}
use Rattle.mc_words.specs.hand.Views as views
use Rattle.mc_words.proofs.Chunks.Heads.{near_here}
use Rattle.mc_words.proofs.Pages.Owners.{slabs_here, looks_here, holdings_here}
use Rattle.mc_words.proofs.Pages.OwnerViews.{holding_rows, popped_chunk, put_back_chunk, cut_chunk}

-- a look leaves pages and lists, and under the slabs lock it is the last one at the chunk
module _ (view : View) (chunk : ChunkId) (head : Head) (slabs : SlabState) (mine : view.slabs ≡ Some slabs) where
  abbrev seen : View
  seen = head_seen chunk head view

  held : is_some view.slabs ≡ true
  held = ap is_some mine

  pub seen_is : seen ≡ views.with_event [] (core.Head chunk) (views.view_after_look (Saw chunk head) (views.view_after_sight (header chunk head) view))
  seen_is = ap (λ (b : Bool). views.with_event [] (core.Head chunk) (views.view_with_looks (if b then view.row.looks ++ Saw chunk head ∷ [] else view.row.looks) (views.view_after_sight (header chunk head) view))) held

  pub seen_slabs : seen.slabs ≡ Some slabs
  seen_slabs = ap (λ (v : View). v.slabs) seen_is ∙ mine

  pub seen_last : seen_head seen.row.looks chunk ≡ Some head
  seen_last =
      ap (λ (v : View). seen_head v.row.looks chunk) seen_is
      ∙ (fold-append (last_head chunk) None view.row.looks (Saw chunk head ∷ []) ∙ ap (λ (b : Bool). if b then Some head else seen_head view.row.looks chunk) (is_chunk-same chunk))

  pub seen_holds : seen.row.holdings ≡ view.row.holdings
  seen_holds = ap (λ (v : View). v.row.holdings) seen_is

-- a chunk of which nobody has a holding isn't found
pub none_found : (chunk : ChunkId) (holdings : List Holding) → All (λ holding. is_of_chunk chunk holding ≡ false) holdings → holding_of chunk holdings ≡ None
none_found chunk [] none = refl
none_found chunk (holding ∷ holdings) none = ap (λ (b : Bool). if b then Some holding else holding_of chunk holdings) (All-head (λ (h : Holding). is_of_chunk chunk h ≡ false) holding holdings none)
    ∙ none_found chunk holdings (All-tail (λ (h : Holding). is_of_chunk chunk h ≡ false) holding holdings none)

-- what a header's word tells
pub issue_left : (word : ℕ) → word / 262144 < 70368744177663 → (decode word).issue < most_issue
unfolding decode
issue_left word left = omega arith

pub issue_worn : (word : ℕ) → 70368744177663 ≤ word / 262144 → most_issue ≤ (decode word).issue
unfolding decode
issue_worn word worn = omega arith

unlinked_two : (tag : ℕ) → tag < 4 → is_unlinked (tag_of tag) ≡ true → tag ≡ 2
unlinked_two zero in_range is = absurd (cc)
unlinked_two (suc zero) in_range is = absurd (cc)
unlinked_two (suc (suc zero)) in_range is = refl
unlinked_two (suc (suc (suc tag))) in_range is = absurd (cc)

pub word_dead : (word : ℕ) → word % 262144 ≡ 131072 → is_dead (decode word) ≡ true
unfolding decode
word_dead word is =
    let tag : word / 65536 % 4 ≡ 2 = omega arith in
    let count : word % 65536 ≡ 0 = omega arith in
    and_from _ _ (ap (λ (n : ℕ). is_unlinked (tag_of n)) tag) (eq-eqb (word % 65536) 0 count)

pub word_alive : (word : ℕ) → (word % 262144 ≡ 131072 → ⊥) → is_dead (decode word) ≡ false
unfolding decode
word_alive word isnt = elim (cases_Bool (is_dead (decode word))) [
  | inl dead ↦
      let parts = and_parts (is_unlinked (decode word).tag) ((decode word).count == 0) dead in
      let tag : word / 65536 % 4 ≡ 2 = unlinked_two (word / 65536 % 4) (omega arith) parts.0 in
      let count : word % 65536 ≡ 0 = eqb-true (word % 65536) 0 parts.1 in
      absurd (isnt (omega arith))
  | inr alive ↦ alive
]

-- the lowest bit of the tag tells that the chunk is linked or free, and not dead
pub odd_alive : (word : ℕ) → word / 65536 % 2 ≡ 1 → is_dead (decode word) ≡ false
odd_alive word odd = word_alive word (λ is. omega (arith, odd, is))

-- the next free chunk of a class was handed out
module _ (view now : View) (slabs : SlabState) (mine : view.slabs ≡ Some slabs) (class : ℕ) (chunk : ChunkId) (head : Head) (is : is_class view.setup.table class ≡ true) (first : first_free (class_at slabs class) ≡ Some chunk) where
  module _ (was : LawfulView view) where
    abbrev m : Rattle.mc_core.specs.past.Past.Moment
    m = was.moment

    class_here : is_class m.state.table class ≡ true
    class_here = ap (λ table. is_class table class) was.same_table ∙ is

    class_in : HasClass m.state.slabs class
    class_in =
        let parts = and_parts _ _ class_here in
        let count = class_count m.state.table m.state.slabs was.lawful.paged.of_table in
        let low = leb-true 1 class parts.0 in
        let high = leb-true class (length m.state.table.sizes) parts.1 in (omega arith, omega arith)

    next_here : next_free m.state class ≡ Some chunk
    next_here = ap (λ slabs. first_free (class_at slabs class)) (slabs_here view was slabs mine).1 ∙ first

    pub still : seen_head view.row.looks chunk ≡ Some head → head_at m.state chunk ≡ head
    still last =
        (all_are_judged m was.lawful was.hand (slabs_here view was slabs mine).0).next class chunk head class_here next_here (ap (λ looks. seen_head looks chunk) (looks_here view was) ∙ last)

    pub on_class : class_of_page m.state.slabs chunk.page ≡ class
    on_class = (first_placed m was.lawful class chunk class_in next_here).0

    -- nobody has it
    pub not_held : has_chunk view.setup.table chunk ≡ true → holding_of chunk view.row.holdings ≡ None
    not_held in_range =
        let here = near_here view chunk in_range was in
        let free = (first_placed m was.lawful class chunk class_in next_here).2 in
        let count = was.lawful.counted.counted chunk here in
        let shut = was.lawful.counted.shut chunk here (inl free) in
        let none : holder_count chunk m.state.holdings ≡ 0 = omega arith in
        none_found chunk view.row.holdings (subst (All (λ holding. is_of_chunk chunk holding ≡ false)) (holdings_here view was) (none_held chunk m.state.holdings none was.hand [] (holding_rows view was)))

  pub pops : seen_head view.row.looks chunk ≡ Some head → Happens view [] (core.Pop class) now → now ≡ chunk_popped slabs class chunk head view
  pops last h = popped_chunk view now slabs mine class chunk head h first (on_class h.was) (still h.was last)

  pub is_fresh_of : LawfulView view → has_chunk view.setup.table chunk ≡ true → now ≡ chunk_popped slabs class chunk head view → IsFreshOf now chunk (room_in view.setup.table class)
  is_fresh_of was in_range popped =
      let holding : Holding = fresh_holding chunk (head.issue + 1) (room_in view.setup.table class) in record {
        holding = holding;
        found = ap (λ (v : View). holding_of chunk v.row.holdings) popped
            ∙ (find-append (is_of_chunk chunk) view.row.holdings (holding ∷ [])
            ∙ (ap (λ found. Rattle.std.specs.Option.option_or found (holding_of chunk (holding ∷ []))) (not_held was in_range) ∙ ap (λ (b : Bool). if b then Some holding else None) (is_chunk-same chunk)));
        fresh = refl;
        room_is = length-replicate (room_in view.setup.table class) None;
      }

-- a dead chunk was put back
module _ (view now : View) (slabs : SlabState) (mine : view.slabs ≡ Some slabs) (chunk : ChunkId) (head : Head) (in_range : has_chunk view.setup.table chunk ≡ true) (last : seen_head view.row.looks chunk ≡ Some head) (dead : is_dead head ≡ true) where
  judged_back : (was : LawfulView view) → (head_at was.moment.state chunk ≡ head) × (Rattle.mc_core.specs.run.Chunks.can_put_back was.moment.state was.hand chunk ≡ true)
  judged_back was =
      (all_are_judged was.moment was.lawful was.hand (slabs_here view was slabs mine).0).put_back chunk head (near_here view chunk in_range was) (ap (λ looks. seen_head looks chunk) (looks_here view was) ∙ last) dead

  pub puts_back : Happens view [] (core.PutBack chunk) now → now ≡ chunk_put_back slabs chunk head view
  puts_back h = put_back_chunk view now slabs mine chunk head h (judged_back h.was).0

  pub stands_out : LawfulView view → Contains (class_of_chunk slabs chunk).order chunk
  stands_out was =
      let can = (judged_back was).1 in
      let out : is_handed_out was.moment.state.slabs chunk ≡ true = (and_parts _ _ can).1 in
      Contains_from_among (class_of_chunk slabs chunk).order chunk (ap (λ slabs. is_handed_out slabs chunk) (sym (slabs_here view was slabs mine).1) ∙ out)

-- a chunk was cut
pub cuts : (view now : View) (slabs : SlabState) (page index : ℕ) → view.slabs ≡ Some slabs → slabs.uncut ≡ Some (record { page = page; index = index }) → Happens view [] (core.Cut page index) now
    → Cuts view slabs (record { page = page; index = index }) now
cuts view now slabs page index mine next h =
    let m = h.was.moment in
    let chunk : ChunkId = record { page = page; index = index } in
    let uncut : m.state.slabs.uncut ≡ Some chunk = ap (λ (x : SlabState). x.uncut) (slabs_here view h.was slabs mine).1 ∙ next in record {
      head = head_at m.state chunk;
      out = ((are_needless m h.was.lawful).uncut chunk uncut).1;
      happens = h;
      is = cut_chunk view now slabs mine page index (head_at m.state chunk) h refl;
    }

-- a look, and what follows it
module _ (view seen now : View) (slabs : SlabState) (chunk : ChunkId) (head : Head) (mine : view.slabs ≡ Some slabs) (is : seen ≡ head_seen chunk head view) (looks : Happens view [] (core.Head chunk) seen) where
  pub after_slabs : seen.slabs ≡ Some slabs
  after_slabs = ap (λ (v : View). v.slabs) is ∙ seen_slabs view chunk head slabs mine

  pub after_last : seen_head seen.row.looks chunk ≡ Some head
  after_last = ap (λ (v : View). seen_head v.row.looks chunk) is ∙ seen_last view chunk head slabs mine

  pub after_holds : seen.row.holdings ≡ view.row.holdings
  after_holds = ap (λ (v : View). v.row.holdings) is ∙ seen_holds view chunk head slabs mine

  pub put_back_after : has_chunk seen.setup.table chunk ≡ true → is_dead head ≡ true → Happens seen [] (core.PutBack chunk) now → PutsBack view slabs chunk now
  put_back_after in_range dead h = record {
    head = head;
    dead = dead;
    looks = subst (Happens view [] (core.Head chunk)) is looks;
    happens = subst (λ (v : View). Happens v [] (core.PutBack chunk) now) is h;
    is = puts_back seen now slabs after_slabs chunk head in_range after_last dead h ∙ ap (chunk_put_back slabs chunk head) is;
  }

  pub pop_after : (class : ℕ) → is_class seen.setup.table class ≡ true → first_free (class_at slabs class) ≡ Some chunk → head.issue < most_issue → Happens seen [] (core.Pop class) now → PopsFirst view slabs class chunk now
  pop_after class class_is first left h = record {
    first = first;
    head = head;
    unused = left;
    looks = subst (Happens view [] (core.Head chunk)) is looks;
    happens = subst (λ (v : View). Happens v [] (core.Pop class) now) is h;
    is = pops seen now slabs after_slabs class chunk head class_is first after_last h ∙ ap (chunk_popped slabs class chunk head) is;
  }

-- a class of the table is one of the slabs
pub class_of_table : (table : Classes) (class : ℕ) → is_class table class ≡ true → (1 ≤ class) × (class ≤ length table.sizes)
class_of_table table class is = let parts = and_parts _ _ is in (leb-true 1 class parts.0, leb-true class (length table.sizes) parts.1)

pub class_of_slabs : (view : View) → LawfulView view → (slabs : SlabState) (class : ℕ) → view.slabs ≡ Some slabs → is_class view.setup.table class ≡ true → HasClass slabs class
class_of_slabs view was slabs class mine is =
    let m = was.moment in
    let in' = class_of_table m.state.table class (ap (λ table. is_class table class) was.same_table ∙ is) in
    let count = class_count m.state.table m.state.slabs was.lawful.paged.of_table in
    let low = in'.0 in
    let high = in'.1 in
    subst (λ (x : SlabState). HasClass x class) (slabs_here view was slabs mine).1 (low, omega arith)

pub room_of : (table : Classes) (class size : ℕ) → is_class table class ≡ true → size ≡ size_of table class → size / 8 ≡ room_in table class
room_of table class size is size_is = ap (λ (n : ℕ). n / 8) size_is ∙ ap (λ (b : Bool). if b then size_of table class / 8 else 0) (sym is)
