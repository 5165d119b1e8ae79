-- Sweeps of all classes, one after another: one class more, all of them, and what they leave of the view and of the pages.
use Rattle.std.proofs.Common.{◌≡◌, ◌+◌, ℕ, Bool, true, false, List, [], ◌∷◌, ◌++◌, length, Some, refl, sym, ap, subst, ◌∙◌, inl, inr, arith}
use Rattle.std.specs.List.{range_with_len}
use Rattle.std.proofs.lemmas.List.FromFn.{map-range_with_len_more}
use Rattle.std.proofs.lemmas.List.{map-id}
use Rattle.mc_classes.specs.Classes.{Classes}
use Rattle.mc_pages.specs.declared.ids.ChunkId.{ChunkId}
use Rattle.mc_pages.specs.SlabState.{SlabState, class_at}
use Rattle.mc_core.proofs.Places.OfTable.{class_count}
use Rattle.mc_words.specs.hand.View.{View}
use Rattle.mc_words.specs.rule.Happens.{LawfulView}
use Rattle.mc_words.specs.chunk.Sweeps.{Sweeps, SweepsEach, SweepsOne, with_seen}
use Rattle.mc_words.proofs.Pages.Owners.{slabs_here}
use Rattle.mc_words.proofs.Pages.LookedOver.{sees_headers_alone}
use Rattle.mc_words.proofs.Chunks.SweepViews.{sees_alone}
use Rattle.mc_mover.specs.Surveying.{SweepsClasses, classes_swept}

-- there are as many classes as the arena's table has
pub classes_here : (view : View) → LawfulView view → (slabs : SlabState) → view.slabs ≡ Some slabs → length slabs.classes ≡ length view.setup.table.sizes
classes_here view was slabs mine =
    let m = was.moment in
    sym (ap (λ (s : SlabState). length s.classes) (slabs_here view was slabs mine).1) ∙ (class_count m.state.table m.state.slabs was.lawful.paged.of_table ∙ ap (λ (t : Classes). length t.sizes) was.same_table)

-- one class more
pub class_more : (class : ℕ) (now next : View) (left between : SlabState) (classes : List ℕ) (view : View) (slabs : SlabState) → SweepsClasses classes view slabs now left → Sweeps (class_at left class).order now left next between → SweepsClasses (classes ++ class ∷ []) view slabs next between
class_more class now next left between [] view slabs (at_now, at_left) one =
    (next, between, subst (λ (p : View × SlabState). Sweeps (class_at p.1 class).order p.0 p.1 next between) (λ k. (at_now k, at_left k)) one, (refl, refl))
class_more class now next left between (first ∷ classes) view slabs (then, middle, did, rest) one = (then, middle, did, class_more class now next left between classes then middle rest one)

-- the next number
pub numbers_more : (place : ℕ) → range_with_len 1 (place + 1) ≡ range_with_len 1 place ++ (place + 1) ∷ []
numbers_more place =
    sym (map-id (range_with_len 1 (place + 1))) ∙ map-range_with_len_more (λ (i : ℕ). i) 1 place (place + 1) (omega arith) ∙ ap (λ cs. cs ++ (place + 1) ∷ []) (map-id (range_with_len 1 place))

-- all classes, or none
pub all_swept : (sweep : Bool) (slabs : SlabState) (place : ℕ) → sweep ≡ true → place ≡ length slabs.classes → range_with_len 1 place ≡ classes_swept sweep slabs
all_swept true slabs place is count = ap (range_with_len 1) count
all_swept false slabs place is count = absurd (cc)

pub none_swept : (sweep : Bool) (slabs : SlabState) (place : ℕ) → sweep ≡ false → place ≡ 0 → range_with_len 1 place ≡ classes_swept sweep slabs
none_swept true slabs place is none = absurd (cc)
none_swept false slabs place is none = ap (range_with_len 1) none

-- all else of the view stays
sweeps_alone : (order : List ChunkId) (view : View) (slabs : SlabState) (now : View) (left : SlabState) → Sweeps order view slabs now left → now ≡ with_seen view now
sweeps_alone order view slabs now left sweeps =
    let did = sweeps.recovers in sees_alone did.again did.seen slabs now left did.each ∙ ap (λ (v : View). with_seen v now) (sees_headers_alone did.looked view did.seen did.sees)

pub classes_alone : (classes : List ℕ) (view : View) (slabs : SlabState) (now : View) (left : SlabState) → SweepsClasses classes view slabs now left → now ≡ with_seen view now
classes_alone [] view slabs now left (same, is) = same ∙ (λ k. with_seen view (sym same k))
classes_alone (class ∷ classes) view slabs now left (next, between, one, rest) =
    classes_alone classes next between now left rest ∙ ap (λ (v : View). with_seen v now) (sweeps_alone (class_at slabs class).order view slabs next between one)

-- no page is cut, or begun to be
chunks_uncut : (chunks : List ChunkId) (view : View) (slabs : SlabState) (now : View) (left : SlabState) → SweepsEach chunks view slabs now left → left.uncut ≡ slabs.uncut
chunks_uncut [] view slabs now left (same, is) = ap (λ (s : SlabState). s.uncut) is
chunks_uncut (chunk ∷ chunks) view slabs now left (next, between, one, rest) = chunks_uncut chunks next between now left rest ∙ by one
  where
    by : SweepsOne chunk view slabs next between → between.uncut ≡ slabs.uncut
    by (inl (back, is)) = ap (λ (s : SlabState). s.uncut) is
    by (inr (other, is)) = ap (λ (s : SlabState). s.uncut) is

sweeps_uncut : (order : List ChunkId) (view : View) (slabs : SlabState) (now : View) (left : SlabState) → Sweeps order view slabs now left → left.uncut ≡ slabs.uncut
sweeps_uncut order view slabs now left sweeps = let did = sweeps.recovers in chunks_uncut did.again did.seen slabs now left did.each

pub classes_uncut : (classes : List ℕ) (view : View) (slabs : SlabState) (now : View) (left : SlabState) → SweepsClasses classes view slabs now left → left.uncut ≡ slabs.uncut
classes_uncut [] view slabs now left (same, is) = ap (λ (s : SlabState). s.uncut) is
classes_uncut (class ∷ classes) view slabs now left (next, between, one, rest) = classes_uncut classes next between now left rest ∙ sweeps_uncut (class_at slabs class).order view slabs next between one
