-- A sweep, as the hand knows it: what holds of each chunk that it comes to, and what it did so far.
use Rattle.std.proofs.Common.{◌≡◌, ◌⊎◌, ℕ, ◌<◌, ◌≤◌, ◌-◌, ◌&&◌, true, List, [], ◌∷◌, ◌++◌, Some, refl, sym, ap, subst, ◌∙◌, inl, inr, arith, ltb-true, nat_lt, not, Result, Ok, Err, OnOk, OnErr}
use Rattle.std.specs.Prelude.{Contains}
use Rattle.std.proofs.lemmas.Bool.{and_parts, cases_Bool, cases_lt}
use Rattle.mc_classes.specs.Classes.{arena_pages_of}
use Rattle.mc_pages.specs.declared.ids.ChunkId.{ChunkId}
use Rattle.mc_pages.specs.Accounted.{truth, is_cut}
use Rattle.mc_pages.specs.ClassState.{times_in}
use Rattle.mc_pages.specs.Ledger.{owner_at}
use Rattle.mc_pages.specs.SlabState.{SlabState, HasClass, class_at, class_of_chunk, class_of_owner, class_of_page}
use Rattle.mc_pages.proofs.Chunks.{times_from_Contains}
use Rattle.mc_pages.proofs.Cleared.{truth-le_one}
use Rattle.mc_pages.proofs.HandedOut.{IsClass-handed_out}
use Rattle.mc_core.specs.declared.look.Look.{Look}
use Rattle.mc_core.specs.declared.look.Look.TheVariants.{PutBack, Saw}
use Rattle.mc_core.specs.run.Chunks.{with_tag_free}
use Rattle.mc_core.specs.model.Head.{is_free, is_out}
use Rattle.mc_core.specs.past.Past.{Moment}
use Rattle.mc_core.specs.model.State.{has_chunk, head_at, is_class, most_of}
use Rattle.mc_core.proofs.Places.FreeChunks.{near_in, near_placed, placed_in}
use Rattle.mc_words.specs.hand.View.{View}
use Rattle.mc_words.specs.rule.Happens.{LawfulView}
use Rattle.mc_words.specs.chunk.Sweeps.{SweepsEach, SweepsOne, with_seen}
use Rattle.mc_words.specs.hand.Views.{head_seen}
use Rattle.mc_words.proofs.Chunks.Judging.{class_of_slabs, seen_is}
use Rattle.mc_words.proofs.Pages.Owners.{slabs_here}
use Rattle.mc_words.proofs.Chunks.Sweeps.{GoesOn, IsSweptTo, sweep_passes, sweep_puts_back}

-- a chunk of a class's hand-out order
pub record StandsOut (view : View) (slabs : SlabState) (class : ℕ) (chunk : ChunkId) : Type 0 where
  pub own : class_of_page slabs chunk.page ≡ class
  pub in_range : has_chunk view.setup.table chunk ≡ true
  pub within : chunk.index < (class_at slabs class).per_page
  pub listed : Contains (class_of_chunk slabs chunk).order chunk

module _ (view : View) (was : LawfulView view) (slabs : SlabState) (mine : view.slabs ≡ Some slabs) (class : ℕ) (here : HasClass slabs class) where
  abbrev m : Moment
  m = was.moment

  same : m.state.slabs ≡ slabs
  same = (slabs_here view was slabs mine).1

  class_there : HasClass m.state.slabs class
  class_there = subst (λ (x : SlabState). HasClass x class) (sym same) here

  -- no chunk stands twice in it
  once_in : (chunk : ChunkId) → times_in chunk (class_at slabs class).order ≤ 1
  once_in chunk =
      let tag = (head_at m.state chunk).tag in
      let count = was.lawful.placed.order class chunk class_there in
      let most = truth-le_one (is_cut m.state.slabs class chunk && (not (is_free tag) && not (is_out tag))) in
      subst (λ (x : SlabState). times_in chunk (class_at x class).order ≤ 1) same (omega arith)

  -- and each that does is of the class
  out_of : (chunk : ChunkId) → Contains (class_at slabs class).order chunk → StandsOut view slabs class chunk
  out_of chunk there =
      let tag = (head_at m.state chunk).tag in
      let rest = not (is_free tag) && not (is_out tag) in
      let some = times_from_Contains chunk (class_at slabs class).order there in
      let some' : 1 ≤ times_in chunk (class_at m.state.slabs class).order = subst (λ (x : SlabState). 1 ≤ times_in chunk (class_at x class).order) (sym same) some in
      let count = was.lawful.placed.order class chunk class_there in
      let cut : is_cut m.state.slabs class chunk ≡ true = elim (cases_Bool (is_cut m.state.slabs class chunk && rest)) [
        | inl both ↦ (and_parts (is_cut m.state.slabs class chunk) rest both).0
        | inr neither ↦ absurd (let none = ap truth neither in omega arith)
      ] in
      let placed = placed_in m was.lawful class chunk class_there cut in
      let own : class_of_page slabs chunk.page ≡ class = ap (λ (x : SlabState). class_of_page x chunk.page) (sym same) ∙ placed.0 in record {
        own = own;
        in_range = ap (λ table. has_chunk table chunk) (sym was.same_table) ∙ near_placed m was.lawful chunk placed.1;
        within = subst (λ (n : ℕ). chunk.index < (class_at slabs n).per_page) own (subst (λ (x : SlabState). chunk.index < (class_of_chunk x chunk).per_page) same placed.1.within);
        listed = subst (λ (n : ℕ). Contains (class_at slabs n).order chunk) (sym own) there;
      }

  -- a page of the class has no more chunks than a page may have
  most_in : (page : ℕ) → class_of_page slabs page ≡ class → (class_at slabs class).per_page ≤ most_of view.setup.table
  most_in page own = elim (cases_lt 0 (class_at slabs class).per_page) [
    | inl some ↦
        let last : ChunkId = record { page = page; index = (class_at slabs class).per_page - 1 } in
        let there : class_of_page m.state.slabs page ≡ class = ap (λ (x : SlabState). class_of_page x page) same ∙ own in
        let below : last.index < (class_at slabs class).per_page = omega (arith, some) in
        let below' : last.index < (class_at m.state.slabs (class_of_page m.state.slabs page)).per_page = subst (λ (n : ℕ). last.index < (class_at m.state.slabs n).per_page) (sym there) (subst (λ (x : SlabState). last.index < (class_at x class).per_page) (sym same) below) in
        let in_range = near_in m was.lawful last (subst (λ (n : ℕ). HasClass m.state.slabs n) (sym there) class_there) below' in
        let near' : has_chunk view.setup.table last ≡ true = ap (λ table. has_chunk table last) (sym was.same_table) ∙ in_range in
        let index = ltb-true last.index (most_of view.setup.table) (and_parts (nat_lt last.page (arena_pages_of view.setup.table)) (nat_lt last.index (most_of view.setup.table)) near').1 in
        omega (arith, index, some)
    | inr none ↦ omega (arith, none)
  ]

-- so it is with a class of the table
module _ (view : View) (was : LawfulView view) (slabs : SlabState) (mine : view.slabs ≡ Some slabs) (class : ℕ) (is : is_class view.setup.table class ≡ true) where
  pub class_here : HasClass slabs class
  class_here = class_of_slabs view was slabs class mine is

  pub order_once : (chunk : ChunkId) → times_in chunk (class_at slabs class).order ≤ 1
  order_once = once_in view was slabs mine class class_here

  pub stands_out : (chunk : ChunkId) → Contains (class_at slabs class).order chunk → StandsOut view slabs class chunk
  stands_out = out_of view was slabs mine class class_here

  pub chunks_at_most : (page : ℕ) → class_of_page slabs page ≡ class → (class_at slabs class).per_page ≤ most_of view.setup.table
  chunks_at_most = most_in view was slabs mine class class_here

-- two chunks of one hand-out order are of one class
pub same_class : (view : View) → LawfulView view → (slabs : SlabState) → view.slabs ≡ Some slabs → (chunk other : ChunkId) → Contains (class_of_chunk slabs chunk).order chunk → Contains (class_of_chunk slabs chunk).order other → class_of_page slabs other.page ≡ class_of_page slabs chunk.page
same_class view was slabs mine chunk other there among =
    let same = (slabs_here view was slabs mine).1 in
    let there' = subst (λ (x : SlabState). Contains (class_of_chunk x chunk).order chunk) (sym same) there in
    let here = subst (λ (x : SlabState). HasClass x (class_of_page x chunk.page)) same (IsClass-handed_out was.moment.state.slabs chunk was.lawful.paged.of_table.accounted there') in
    (out_of view was slabs mine (class_of_page slabs chunk.page) here other among).own

-- the page that is looked along is the class's
pub own_page : (class page result : ℕ) (slabs read : SlabState) → read ≡ slabs → result ≡ class → result ≡ class_of_owner (owner_at read.owners page) → class_of_page slabs page ≡ class
own_page class page result slabs read same is read_as = ap (λ (s : SlabState). class_of_page s page) (sym same) ∙ (sym read_as ∙ is)

-- what was done, whichever it was
pub swept_one : {A B E : Type 0} {R : Type 0} (result : Result R E) → OnOk result A → OnErr result B → A ⊎ B
swept_one (Ok done) ok err = inl ok
swept_one (Err error) ok err = inr err

-- one chunk more
pub swept_again : (chunk : ChunkId) (now next : View) (left between : SlabState) (chunks : List ChunkId) (view : View) (slabs : SlabState) → SweepsEach chunks view slabs now left → SweepsOne chunk now left next between → SweepsEach (chunks ++ chunk ∷ []) view slabs next between
swept_again chunk now next left between [] view slabs (at_now, at_left) one =
    (next, between, subst (λ (p : View × SlabState). SweepsOne chunk p.0 p.1 next between) (λ k. (at_now k, at_left k)) one, (refl, refl))
swept_again chunk now next left between (first ∷ chunks) view slabs (then, middle, did, rest) one = (then, middle, did, swept_again chunk now next left between chunks then middle rest one)

-- all else stays
sees_one : (chunk : ChunkId) (view : View) (slabs : SlabState) (now : View) (left : SlabState) → SweepsOne chunk view slabs now left → now ≡ with_seen view now
sees_one chunk view slabs now left (inl (back, is)) = back.is ∙ (λ k. with_seen view (sym back.is k))
sees_one chunk view slabs now left (inr (other, is)) = other.is ∙ (λ k. with_seen view (sym other.is k))

pub sees_alone : (chunks : List ChunkId) (view : View) (slabs : SlabState) (now : View) (left : SlabState) → SweepsEach chunks view slabs now left → now ≡ with_seen view now
sees_alone [] view slabs now left (same, is) = same ∙ (λ k. with_seen view (sym same k))
sees_alone (chunk ∷ chunks) view slabs now left (next, between, one, rest) = sees_alone chunks next between now left rest ∙ ap (λ (v : View). with_seen v now) (sees_one chunk view slabs next between one)

-- how far the walk has come then
module _ (view next : View) (slabs between : SlabState) (mine : view.slabs ≡ Some slabs) (class : ℕ) (chunk : ChunkId) (swept : IsSweptTo slabs view.row.looks class (Some chunk)) (once : (other : ChunkId) → times_in other (class_at slabs class).order ≤ 1) (is : HasClass slabs class) (own : class_of_page slabs chunk.page ≡ class) where
  pub swept_on : SweepsOne chunk view slabs next between → GoesOn slabs view.row.looks class chunk swept between next.row.looks
  swept_on (inl (back, left)) =
      let looks : next.row.looks ≡ (view.row.looks ++ Saw chunk back.head ∷ []) ++ PutBack chunk (with_tag_free back.head) ∷ [] =
      ap (λ (v : View). v.row.looks) back.is ∙ ap (λ (v : View). v.row.looks ++ PutBack chunk (with_tag_free back.head) ∷ []) (seen_is view chunk back.head slabs mine) in
      subst (λ (p : SlabState × List Look). GoesOn slabs view.row.looks class chunk swept p.0 p.1) (λ k. (sym left k, sym looks k))
      (sweep_puts_back slabs view.row.looks class chunk swept once back.head (with_tag_free back.head) is own)
  swept_on (inr (other, left)) =
      let asked : other.chunk ≡ chunk = same_chunk chunk other.chunk other.is_asked in
      let looks : next.row.looks ≡ view.row.looks ++ Saw chunk other.head ∷ [] =
      ap (λ (v : View). v.row.looks) other.is ∙ (ap (λ (c : ChunkId). (head_seen c other.head view).row.looks) asked ∙ ap (λ (v : View). v.row.looks) (seen_is view chunk other.head slabs mine)) in
      subst (λ (p : SlabState × List Look). GoesOn slabs view.row.looks class chunk swept p.0 p.1) (λ k. (sym left k, sym looks k))
      (sweep_passes slabs view.row.looks class chunk swept once other.head other.other)
    where
      same_chunk : (a b : ChunkId) → Some a ≡ Some b → b ≡ a
      same_chunk a b e = cc
