-- A walk along a class's free list that looks for a chunk off a page: what it keeps, and what it shows at its end.
use Rattle.std.proofs.Common.{◌≡◌, ◌≢◌, ℕ, ◌≤◌, ◌<◌, ◌==◌, ◌&&◌, ◌||◌, Bool, true, false, not, List, [], ◌∷◌, ◌++◌, Option, None, Some, refl, sym, ap, subst, ◌∙◌, inl, inr, arith, if◌then◌else◌, nat_lt, eq-eqb, append-nil}
use Rattle.std.specs.Prelude.{Contains}
use Rattle.std.specs.List.{list_all}
use Rattle.std.specs.Option.{option_map_or}
use Rattle.std.proofs.lemmas.Bool.{and_from, and_parts, cases_Bool, or_right}
use Rattle.std.proofs.lemmas.List.Sums.{fold-append}
use Rattle.mc_pages.specs.declared.ids.ChunkId.{ChunkId}
use Rattle.mc_pages.specs.Accounted.{is_cut}
use Rattle.mc_pages.specs.ClassState.{is_chunk, times_in}
use Rattle.mc_pages.specs.SlabState.{SlabState, HasClass, class_at, class_of_chunk, class_of_page}
use Rattle.mc_pages.proofs.Chunks.{is_chunk-same, times_from_Contains}
use Rattle.mc_pages.proofs.Cleared.{truth-le_one}
use Rattle.mc_core.specs.declared.head.Head.{Head}
use Rattle.mc_core.specs.declared.look.Look.{Look}
use Rattle.mc_core.specs.declared.look.Look.TheVariants.{Saw}
use Rattle.mc_core.specs.run.Chunks.{most_issue}
use Rattle.mc_core.specs.model.Head.{is_free}
use Rattle.mc_core.specs.law.Judged.{SeesTarget, is_seen_unfit, sees_no_target}
use Rattle.mc_core.specs.law.Seen.{last_head, seen_head}
use Rattle.mc_core.specs.run.Silent.{is_among}
use Rattle.mc_core.specs.model.State.{has_chunk, head_at, is_class}
use Rattle.mc_core.proofs.Places.FreeChunks.{free_placed, near_placed}
use Rattle.mc_core.proofs.Steps.Listed.{Contains_from_among}
use Rattle.mc_words.specs.hand.View.{View}
use Rattle.mc_words.specs.rule.Happens.{LawfulView}
use Rattle.mc_words.specs.chunk.Copies.{FindsFit, PassesAll, PassesOver}
use Rattle.mc_words.specs.hand.Views.{head_seen}
use Rattle.mc_words.proofs.Chunks.Judging.{class_of_slabs, seen_is, seen_last, seen_slabs}
use Rattle.mc_words.proofs.Pages.Owners.{slabs_here}
use Rattle.mc_words.proofs.Chunks.Sweeps.{elsewhere, other_first}

-- a chunk of a class's free list
pub record StandsFree (view : View) (slabs : SlabState) (class : ℕ) (chunk : ChunkId) : Type 0 where
  pub own : class_of_page slabs chunk.page ≡ class
  pub in_range : has_chunk view.setup.table chunk ≡ true
  pub listed : Contains (class_of_chunk slabs chunk).free chunk

-- what stands in a list with these before it is among its chunks
pub among_there : (chunk : ChunkId) (before more : List ChunkId) → is_among (before ++ chunk ∷ more) chunk ≡ true
among_there chunk [] more = ap (λ b. b || is_among more chunk) (is_chunk-same chunk)
among_there chunk (c ∷ before) more = or_right (is_chunk c chunk) (is_among (before ++ chunk ∷ more) chunk) (among_there chunk before more)

module _ (view : View) (was : LawfulView view) (slabs : SlabState) (mine : view.slabs ≡ Some slabs) (class : ℕ) (is : is_class view.setup.table class ≡ true) where
  class_there : HasClass was.moment.state.slabs class
  class_there = subst (λ (x : SlabState). HasClass x class) (sym (slabs_here view was slabs mine).1) (class_of_slabs view was slabs class mine is)

  -- no chunk stands twice in it
  pub free_once : (chunk : ChunkId) → times_in chunk (class_at slabs class).free ≤ 1
  free_once chunk =
      let tag = (head_at was.moment.state chunk).tag in
      let count = was.lawful.placed.free class chunk class_there in
      let most = truth-le_one (is_cut was.moment.state.slabs class chunk && is_free tag) in
      subst (λ (x : SlabState). times_in chunk (class_at x class).free ≤ 1) (slabs_here view was slabs mine).1 (omega arith)

  -- and each that does is of the class
  pub stands_free : (chunk : ChunkId) (before more : List ChunkId) → (class_at slabs class).free ≡ before ++ chunk ∷ more → StandsFree view slabs class chunk
  stands_free chunk before more stands =
      let same = (slabs_here view was slabs mine).1 in
      let there : Contains (class_at slabs class).free chunk = Contains_from_among (class_at slabs class).free chunk (ap (λ chunks. is_among chunks chunk) stands ∙ among_there chunk before more) in
      let some : 1 ≤ times_in chunk (class_at was.moment.state.slabs class).free = subst (λ (x : SlabState). 1 ≤ times_in chunk (class_at x class).free) (sym same) (times_from_Contains chunk (class_at slabs class).free there) in
      let placed = free_placed was.moment was.lawful class chunk class_there some in
      let own : class_of_page slabs chunk.page ≡ class = ap (λ (x : SlabState). class_of_page x chunk.page) (sym same) ∙ placed.0 in record {
        own = own;
        in_range = ap (λ table. has_chunk table chunk) (sym was.same_table) ∙ near_placed was.moment was.lawful chunk placed.1;
        listed = subst (λ (n : ℕ). Contains (class_at slabs n).free chunk) (sym own) there;
      }

-- one chunk more was passed over
pub passes_again : (page : ℕ) (chunk : ChunkId) (now next : View) (chunks : List ChunkId) (view : View) → PassesAll page chunks view now → PassesOver page chunk now next → PassesAll page (chunks ++ chunk ∷ []) view next
passes_again page chunk now next [] view at one = (next, subst (λ (v : View). PassesOver page chunk v next) at one, refl)
passes_again page chunk now next (first ∷ chunks) view (between, did, rest) one = (between, did, passes_again page chunk now next chunks between rest one)

-- a used-up chunk was seen: each that was unfit is so still, and this one is too
module _ (looks : List Look) (page : ℕ) (chunk : ChunkId) (head : Head) where
  abbrev more : List Look
  more = looks ++ Saw chunk head ∷ []

  seen_more : (other : ChunkId) → seen_head more other ≡ (if is_chunk chunk other then Some head else seen_head looks other)
  seen_more other = fold-append (last_head other) None looks (Saw chunk head ∷ [])

  abbrev unfit_by : ChunkId → Option Head → Bool
  unfit_by other seen = other.page == page || option_map_or (λ head. not (nat_lt head.issue most_issue)) seen false

  worn_unfit : not (nat_lt head.issue most_issue) ≡ true → (other : ChunkId) → is_seen_unfit looks page other ≡ true → is_seen_unfit more page other ≡ true
  worn_unfit worn other unfit = elim (cases_Bool (is_chunk chunk other)) [
    | inl same ↦ ap (unfit_by other) (seen_more other ∙ ap (λ (b : Bool). if b then Some head else seen_head looks other) same) ∙ or_right (other.page == page) (not (nat_lt head.issue most_issue)) worn
    | inr apart ↦ ap (unfit_by other) (seen_more other ∙ ap (λ (b : Bool). if b then Some head else seen_head looks other) apart) ∙ unfit
  ]

  worn_itself : not (nat_lt head.issue most_issue) ≡ true → is_seen_unfit more page chunk ≡ true
  worn_itself worn = ap (unfit_by chunk) (seen_more chunk ∙ ap (λ (b : Bool). if b then Some head else seen_head looks chunk) (is_chunk-same chunk)) ∙ or_right (chunk.page == page) (not (nat_lt head.issue most_issue)) worn

  all_worn : not (nat_lt head.issue most_issue) ≡ true → (chunks : List ChunkId) → list_all (is_seen_unfit looks page) chunks ≡ true → list_all (is_seen_unfit more page) chunks ≡ true
  all_worn worn [] all = refl
  all_worn worn (c ∷ chunks) all = let parts = and_parts (is_seen_unfit looks page c) (list_all (is_seen_unfit looks page) chunks) all in and_from _ _ (worn_unfit worn c parts.0) (all_worn worn chunks parts.1)

  -- a look at a chunk that isn't among these says nothing of them
  pub others_unfit : (chunks : List ChunkId) → times_in chunk chunks ≡ 0 → list_all (is_seen_unfit looks page) chunks ≡ true → list_all (is_seen_unfit more page) chunks ≡ true
  others_unfit [] none all = refl
  others_unfit (c ∷ chunks) none all =
      let parts = and_parts (is_seen_unfit looks page c) (list_all (is_seen_unfit looks page) chunks) all in
      let apart = other_first chunk [] c chunks none in
      let turned : is_chunk chunk c ≡ false = elim (cases_Bool (is_chunk chunk c)) [
        | inl same ↦ absurd (let is : is_chunk c chunk ≡ true = ap (λ (x : ChunkId). is_chunk x chunk) (sym (Rattle.mc_pages.proofs.Chunks.same_from_is_chunk chunk c same)) ∙ is_chunk-same chunk in let never : true ≡ false = sym is ∙ apart.0 in cc)
        | inr isnt ↦ isnt
      ] in
      and_from _ _ (ap (unfit_by c) (seen_more c ∙ ap (λ (b : Bool). if b then Some head else seen_head looks c) turned) ∙ parts.0) (others_unfit chunks apart.1 parts.1)

worn_not : (issue : ℕ) → most_issue ≤ issue → not (nat_lt issue most_issue) ≡ true
worn_not issue worn = elim (cases_Bool (nat_lt issue most_issue)) [
  | inl less ↦ absurd (let below = Rattle.std.proofs.Common.ltb-true issue most_issue less in omega arith)
  | inr isnt ↦ ap not isnt
]

same_chunk : (a b : ChunkId) → Some a ≡ Some b → b ≡ a
same_chunk a b e = cc

-- what was passed over is unfit, as the hand saw, and so is what was so before
pub passed_unfit : (page : ℕ) (slabs : SlabState) (chunks done : List ChunkId) (view now : View) → view.slabs ≡ Some slabs → list_all (is_seen_unfit view.row.looks page) done ≡ true → PassesAll page chunks view now
    → (now.slabs ≡ Some slabs) × (list_all (is_seen_unfit now.row.looks page) done ≡ true) × (list_all (is_seen_unfit now.row.looks page) chunks ≡ true)
passed_unfit page slabs [] done view now mine all same = (ap (λ (v : View). v.slabs) same ∙ mine, ap (λ (v : View). list_all (is_seen_unfit v.row.looks page) done) same ∙ all, refl)
passed_unfit page slabs (chunk ∷ chunks) done view now mine all (next, inl (on, same), rest) =
    let here : is_seen_unfit next.row.looks page chunk ≡ true = ap (λ b. b || option_map_or (λ head. not (nat_lt head.issue most_issue)) (seen_head next.row.looks chunk) false) (eq-eqb chunk.page page on) in
    let after = passed_unfit page slabs chunks (chunk ∷ done) next now (ap (λ (v : View). v.slabs) same ∙ mine) (and_from _ _ here (ap (λ (v : View). list_all (is_seen_unfit v.row.looks page) done) same ∙ all)) rest in
    let both = and_parts (is_seen_unfit now.row.looks page chunk) (list_all (is_seen_unfit now.row.looks page) done) after.1 in
    (after.0, both.1, and_from _ _ both.0 after.2)
passed_unfit page slabs (chunk ∷ chunks) done view now mine all (next, inr (off, other), rest) =
    let asked : other.chunk ≡ chunk = same_chunk chunk other.chunk other.is_asked in
    let is : next ≡ head_seen chunk other.head view = other.is ∙ ap (λ (c : ChunkId). head_seen c other.head view) asked in
    let looks : next.row.looks ≡ view.row.looks ++ Saw chunk other.head ∷ [] = ap (λ (v : View). v.row.looks) (is ∙ seen_is view chunk other.head slabs mine) in
    let worn = worn_not other.head.issue other.other in
    let here : is_seen_unfit next.row.looks page chunk ≡ true = ap (λ (l : List Look). is_seen_unfit l page chunk) looks ∙ worn_itself view.row.looks page chunk other.head worn in
    let before : list_all (is_seen_unfit next.row.looks page) done ≡ true = ap (λ (l : List Look). list_all (is_seen_unfit l page) done) looks ∙ all_worn view.row.looks page chunk other.head worn done all in
    let after = passed_unfit page slabs chunks (chunk ∷ done) next now (ap (λ (v : View). v.slabs) is ∙ seen_slabs view chunk other.head slabs mine) (and_from _ _ here before) rest in
    let both = and_parts (is_seen_unfit now.row.looks page chunk) (list_all (is_seen_unfit now.row.looks page) done) after.1 in
    (after.0, both.1, and_from _ _ both.0 after.2)

-- the target that was found, as the core judges it
abbrev pub sees_target : (page : ℕ) (slabs : SlabState) (chunk : ChunkId) (view now : View) → view.slabs ≡ Some slabs → ((other : ChunkId) → times_in other (class_at slabs (class_of_page slabs page)).free ≤ 1)
    → FindsFit slabs (class_of_page slabs page) page chunk view now → SeesTarget slabs now.row.looks page chunk
sees_target page slabs chunk view now mine once finds =
    let after = passed_unfit page slabs finds.before [] view finds.passed mine refl finds.passes in
    let looks : now.row.looks ≡ finds.passed.row.looks ++ Saw chunk finds.fit.head ∷ [] = ap (λ (v : View). v.row.looks) (finds.fit.is ∙ seen_is finds.passed chunk finds.fit.head slabs after.0) in
    let none = (elsewhere chunk finds.after finds.before (subst (λ (cs : List ChunkId). times_in chunk cs ≤ 1) finds.stands (once chunk))).0 in record {
      before = finds.before;
      after = finds.after;
      seen = finds.fit.head;
      stands = finds.stands;
      unfit = ap (λ (l : List Look). list_all (is_seen_unfit l page) finds.before) looks ∙ others_unfit finds.passed.row.looks page chunk finds.fit.head finds.before none after.2;
      off = finds.fit.off;
      last = ap (λ (v : View). seen_head v.row.looks chunk) finds.fit.is ∙ seen_last finds.passed chunk finds.fit.head slabs after.0;
      unused = finds.fit.unused;
    }

-- and that there is none
pub sees_none : (page class : ℕ) (slabs : SlabState) (view now : View) → view.slabs ≡ Some slabs → class_of_page slabs page ≡ class → PassesAll page (class_at slabs class).free view now → sees_no_target slabs now.row.looks page ≡ true
sees_none page class slabs view now mine own passes =
    ap (λ (n : ℕ). list_all (is_seen_unfit now.row.looks page) (class_at slabs n).free) own ∙ (passed_unfit page slabs (class_at slabs class).free [] view now mine refl passes).2

-- a walk leaves all but what was seen
pub passed_holds : (page : ℕ) (chunks : List ChunkId) (view now : View) → PassesAll page chunks view now → now.row.holdings ≡ view.row.holdings
passed_holds page [] view now same = ap (λ (v : View). v.row.holdings) same
passed_holds page (chunk ∷ chunks) view now (next, inl (on, same), rest) = passed_holds page chunks next now rest ∙ ap (λ (v : View). v.row.holdings) same
passed_holds page (chunk ∷ chunks) view now (next, inr (off, other), rest) = passed_holds page chunks next now rest ∙ ap (λ (v : View). v.row.holdings) other.is
