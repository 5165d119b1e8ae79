-- What a survey tells of the classes can be told in statistics, as the law holds of the pages and lists that it is of.
use Rattle.std.proofs.Common.{◌≡◌, ℕ, ◌-◌, ◌*◌, ◌<◌, ◌≤◌, Bool, true, not, List, [], ◌∷◌, length, map, Some, refl, sym, ap, subst, ◌∙◌, inl, inr, arith, slice_index_or}
use Rattle.std.proofs.lemmas.Nat.{mul-le}
use Rattle.std.proofs.lemmas.List.{length-map, get_or-map}
use Rattle.std.proofs.lemmas.List.Sums.{count_by-le-length}
use Rattle.std.proofs.lemmas.Simd.{map-map}
use Rattle.mc_classes.specs.Classes.{Classes, IsClass as IsTableClass, IsSound, per_page_of}
use Rattle.mc_pages.specs.declared.ids.ChunkId.{ChunkId}
use Rattle.mc_pages.specs.declared.ledger.Owner.{Owner}
use Rattle.mc_pages.specs.declared.numbers.Numbers.{Numbers}
use Rattle.mc_pages.specs.declared.numbers.Totals.{Totals}
use Rattle.mc_pages.specs.Changes.{after_back}
use Rattle.mc_pages.specs.ClassState.{ClassState, new_class, numbers_of}
use Rattle.mc_pages.specs.SlabState.{SlabState, HasClass, class_at, granted_count, is_untouched}
use Rattle.mc_pages.proofs.GrantedPage.{length-pages_le}
use Rattle.mc_core.specs.declared.event.Step.TheVariants as step
use Rattle.mc_core.specs.model.InOrder.{IsOfTable}
use Rattle.mc_core.specs.law.Lawful.{IsLawful}
use Rattle.mc_core.specs.past.Past.{Moment, moment_after}
use Rattle.mc_core.specs.model.State.{has_slabs}
use Rattle.mc_core.specs.model.Views.{held_slabs}
use Rattle.mc_core.proofs.Law.LawKept.{lawful_events}
use Rattle.mc_core.proofs.Steps.Listed.{per_page_is}
use Rattle.mc_core.proofs.Places.OfTable.{class_count}
use Rattle.mc_watch.specs.Texts.{AreCounts}
use Rattle.mc_words.specs.declared.arena.Arena.{Arena}
use Rattle.mc_words.specs.declared.hand.Hand.{Hand}
use Rattle.mc_words.specs.hand.Arenas.{IsHandOf, setup_of, view}
use Rattle.mc_words.specs.hand.View.{Setup, View}
use Rattle.mc_words.specs.lock.Doing.{HoldsSlabs}
use Rattle.mc_words.specs.rule.Happens.{event_of}
use Rattle.mc_words.specs.page.Owner.{PutsBack}
use Rattle.mc_words.specs.chunk.Sweeps.{SeesHeaders, Sweeps, SweepsEach, SweepsOne}
use Rattle.mc_words.specs.lock.Wait.{WaitsForSlabs}
use Rattle.mc_words.proofs.Locks.Lent.{lent_slabs}
use Rattle.mc_words.proofs.Locks.TakeAndGive.{held_from}
use Rattle.mc_mover.specs.declared.numbers.Survey.{Survey}
use Rattle.mc_mover.specs.Acting.{ActsOnceByNumber}
use Rattle.mc_mover.specs.Surveying.{IsSurvey, Surveys, SweepsClasses, classes_swept, free_in, pages_in}
use Rattle.mc_mover.proofs.HoldsSlabs.{wait_keeps}
use Rattle.mc_workers.specs.Script.{SurveysWhole}
use Rattle.mc_workers.specs.Surveyed.{ArePrintable, granted_in}

-- pages and lists that are taken are of the arena's table, and that is sound
pub taken_of_table : (view : View) (slabs : SlabState) (now : View) → WaitsForSlabs view slabs now → IsOfTable now.setup.table slabs × IsSound now.setup.table
taken_of_table view slabs now waits =
    let before : waits.before.setup.table ≡ now.setup.table = ap (λ (v : View). v.setup.table) (sym waits.is) in (
      (lent_slabs waits.before now slabs waits.taken (ap (λ (v : View). v.slabs) waits.is)).accounted,
      subst IsSound (waits.taken.was.same_table ∙ before) waits.taken.was.lawful.sized.sound,
    )

-- and so are those that a chunk was put back into
put_back_of_table : (view : View) (slabs : SlabState) (chunk : ChunkId) (now : View) → PutsBack view slabs chunk now → IsOfTable now.setup.table (after_back slabs chunk)
put_back_of_table view slabs chunk now puts =
    let h = puts.happens in
    let m : Moment = h.was.moment in
    let after : Moment = moment_after m (event_of h.was.hand [] (step.PutBack chunk)) in
    let law : IsLawful after = lawful_events m (event_of h.was.hand [] (step.PutBack chunk)) h.was.lawful h.allowed in
    let held : held_slabs after.state h.was.hand ≡ Some (after_back slabs chunk) = ap (λ (v : View). v.slabs) (sym h.is ∙ puts.is) in
    let same : after.state.slabs ≡ after_back slabs chunk = (held_from (has_slabs after.state h.was.hand) after.state.slabs (after_back slabs chunk) held).1 in
    let table : after.state.table ≡ now.setup.table = h.was.same_table ∙ ap (λ (v : View). v.setup.table) (sym h.is) in
    subst (λ (p : Classes × SlabState). IsOfTable p.0 p.1) (λ k. (table k, same k)) law.paged.of_table

-- sweeps leave pages and lists of the table
module _ (table : Classes) where
  -- pages and lists of the view's arena, which has this table
  abbrev AreHere : View → SlabState → Type 0
  AreHere view slabs = (view.setup.table ≡ table) × IsOfTable table slabs

  swept_here : (chunk : ChunkId) (view : View) (slabs : SlabState) (now : View) (left : SlabState) → AreHere view slabs → SweepsOne chunk view slabs now left → AreHere now left
  swept_here chunk view slabs now left (here, of) (inl (puts, is)) =
      let same : now.setup.table ≡ table = ap (λ (v : View). v.setup.table) puts.is ∙ here in
      (same, subst (λ (p : Classes × SlabState). IsOfTable p.0 p.1) (λ k. (same k, sym is k)) (put_back_of_table view slabs chunk now puts))
  swept_here chunk view slabs now left (here, of) (inr (sees, is)) = (ap (λ (v : View). v.setup.table) sees.is ∙ here, subst (IsOfTable table) (sym is) of)

  -- looks leave both
  looked_here : (chunks : List ChunkId) (view now : View) (slabs : SlabState) → AreHere view slabs → SeesHeaders chunks view now → AreHere now slabs
  looked_here [] view now slabs here same = subst (λ (v : View). AreHere v slabs) (sym same) here
  looked_here (chunk ∷ chunks) view now slabs (here, of) (next, sees, rest) = looked_here chunks next now slabs (ap (λ (v : View). v.setup.table) sees.is ∙ here, of) rest

  chunks_here : (chunks : List ChunkId) (view : View) (slabs : SlabState) (now : View) (left : SlabState) → AreHere view slabs → SweepsEach chunks view slabs now left → AreHere now left
  chunks_here [] view slabs now left here (same, is) = subst (λ (p : View × SlabState). AreHere p.0 p.1) (λ k. (sym same k, sym is k)) here
  chunks_here (chunk ∷ chunks) view slabs now left here (next, between, one, rest) =
      chunks_here chunks next between now left (swept_here chunk view slabs next between here one) rest

  order_here : (order : List ChunkId) (view : View) (slabs : SlabState) (now : View) (left : SlabState) → AreHere view slabs → Sweeps order view slabs now left → AreHere now left
  order_here order view slabs now left here sweeps =
      let did = sweeps.recovers in chunks_here did.again did.seen slabs now left (looked_here did.looked view did.seen slabs here did.sees) did.each

  classes_here : (classes : List ℕ) (view : View) (slabs : SlabState) (now : View) (left : SlabState) → AreHere view slabs → SweepsClasses classes view slabs now left → AreHere now left
  classes_here [] view slabs now left here (same, is) = subst (λ (p : View × SlabState). AreHere p.0 p.1) (λ k. (sym same k, sym is k)) here
  classes_here (class ∷ classes) view slabs now left here (next, between, one, rest) =
      classes_here classes next between now left (order_here (class_at slabs class).order view slabs next between here one) rest

-- the pages of a class, and its free chunks
abbrev page_count : ClassState → ℕ
page_count class = length class.pages

abbrev free_count : ClassState → ℕ
free_count class = length class.free

-- of pages and lists of a sound table
module _ (table : Classes) (slabs : SlabState) (sound : IsSound table) (of : IsOfTable table slabs) where
  there : (class : ℕ) → IsTableClass table class → HasClass slabs class
  there class valid = let count = class_count table slabs of in (valid.0, omega (arith, valid.1, count))

  -- a class has at most as many pages as there are
  pages_few : (class : ℕ) → HasClass slabs class → length (class_at slabs class).pages ≤ 127
  pages_few class valid =
      omega (arith, length-pages_le slabs class of.accounted valid, of.owners, sound.pages.1, sound.count.1)

  -- and no more free chunks than these have
  free_within : (class : ℕ) → HasClass slabs class → length (class_at slabs class).free ≤ length (class_at slabs class).pages * per_page_of table class
  free_within class valid =
      rw (← per_page_is table slabs class of valid) (omega (arith, of.accounted.total class valid))

  number_of_class : (f : ClassState → ℕ) (class : ℕ) → IsTableClass table class → slice_index_or (map f slabs.classes) (class - 1) 0 ≡ f (class_at slabs class)
  number_of_class f class valid =
      let here = there class valid in
      let inside : class - 1 < length slabs.classes = omega (arith, here.0, here.1) in
      get_or-map f slabs.classes (class - 1) (new_class 0 0) 0 inside

  are_counts : AreCounts table (map page_count slabs.classes) (map free_count slabs.classes)
  are_counts = record {
    pages_of_each = length-map slabs.classes page_count ∙ class_count table slabs of;
    free_of_each = length-map slabs.classes free_count ∙ class_count table slabs of;
    within_limit = λ class valid. rw (number_of_class page_count class valid) (omega (arith, pages_few class (there class valid)));
    within = λ class valid. rw (number_of_class page_count class valid, number_of_class free_count class valid) (free_within class (there class valid));
  }

  -- so the numbers of a survey of them can be told
  are_tellable : (survey : Survey) → IsSurvey slabs survey → ArePrintable table survey
  are_tellable survey is = record {
    counts = subst (λ (p : List ℕ × List ℕ). AreCounts table p.0 p.1) (λ k. (sym pages k, sym free k)) are_counts;
    granted = omega (arith, bytes, within_limit);
  }
    where
      pages : pages_in survey ≡ map page_count slabs.classes
      pages = ap (λ (ns : List Numbers). map (λ (n : Numbers). n.pages) ns) is.classes ∙ map-map (λ (n : Numbers). n.pages) numbers_of slabs.classes

      free : free_in survey ≡ map free_count slabs.classes
      free = ap (λ (ns : List Numbers). map (λ (n : Numbers). n.free) ns) is.classes ∙ map-map (λ (n : Numbers). n.free) numbers_of slabs.classes

      within_limit : granted_count slabs * slabs.page ≤ 127 * 16384
      within_limit =
          let pages = count_by-le-length (λ (owner : Owner). not (is_untouched owner)) slabs.owners in
          mul-le (granted_count slabs) slabs.page 127 16384 (omega (arith, pages, of.owners, sound.pages.1, sound.count.1)) (omega (arith, of.page, sound.page.1))

      bytes : granted_in table survey ≡ granted_count slabs * slabs.page
      bytes = ap (λ (t : Totals). t.granted * table.page) is.totals ∙ ap (λ n. granted_count slabs * n) (sym of.page)

-- what a survey in one hold of the lock leaves: pages and lists of the hand's table, which is sound
module _ (view now : View) (sweep : Bool) (survey : Survey) (holds : HoldsSlabs (Surveys sweep survey) view now) where
  same_table : holds.taken.setup.table ≡ view.setup.table
  same_table = ap (λ (s : Setup). s.table) (wait_keeps (λ (v : View). v.setup) (λ word v. refl) (λ slabs v. refl) view holds.found holds.taken holds.waits)

  pub left_of_table : IsOfTable view.setup.table holds.left × IsSound view.setup.table
  left_of_table =
      let (of, sound) = taken_of_table view holds.found holds.taken holds.waits in
      let here = classes_here holds.taken.setup.table (classes_swept sweep holds.found) holds.taken holds.found holds.last holds.left (refl, of) holds.does.sweeps in
      (subst (λ (t : Classes). IsOfTable t holds.left) same_table here.1, subst IsSound same_table sound)

-- so its numbers can be told
survey_tellable : (view now : View) (sweep : Bool) (survey : Survey) → HoldsSlabs (Surveys sweep survey) view now → ArePrintable view.setup.table survey
survey_tellable view now sweep survey holds =
    let (of, sound) = left_of_table view now sweep survey holds in
    are_tellable view.setup.table holds.left sound of survey holds.does.is

pub survey_told : (arena : Arena) (before now : Hand) (sweep : Bool) (survey : Survey) → IsHandOf arena before → ActsOnceByNumber (λ number. Surveys sweep survey) before now → ArePrintable (setup_of arena).table survey
survey_told arena before now sweep survey of_arena acts =
    subst (λ (s : Setup). ArePrintable s.table survey) of_arena.setup (survey_tellable (view before) (view now) sweep survey acts)

-- and they are those of pages and lists of the table
pub survey_whole : (view now : View) (survey : Survey) → HoldsSlabs (Surveys true survey) view now → HoldsSlabs (SurveysWhole view.setup.table survey) view now
survey_whole view now survey holds = record {
  found = holds.found;
  taken = holds.taken;
  last = holds.last;
  left = holds.left;
  waits = holds.waits;
  does = (holds.does, (left_of_table view now true survey holds).0);
  given = holds.given;
}
