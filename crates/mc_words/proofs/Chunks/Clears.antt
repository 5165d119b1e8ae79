-- A chunk of the moving page that is cleared.
use Rattle.std.proofs.Common.{◌≡◌, ℕ, zero, suc, ◌*◌, ◌/◌, ◌%◌, ◌^◌, ◌<◌, ◌≤◌, ◌==◌, ◌||◌, Bool, true, false, [], Option, Some, None, refl, sym, ap, subst, ◌∙◌, inl, inr, arith, slice_index}
use Rattle.std.specs.Option.{option_map}
use Rattle.std.proofs.lemmas.Bool.{and_parts, cases_Bool}
use Rattle.mc_pages.specs.declared.ids.ChunkId.{ChunkId}
use Rattle.mc_pages.specs.Accounted.{places_in}
use Rattle.mc_pages.specs.Pages.{is_on_the_move}
use Rattle.mc_pages.specs.SlabState.{SlabState, class_of_page}
use Rattle.mc_core.specs.declared.head.Head.{Head}
use Rattle.mc_core.specs.declared.head.Tag.{Tag}
use Rattle.mc_core.specs.declared.head.Tag.TheVariants.{Free}
use Rattle.mc_core.specs.declared.event.Step.TheVariants as core
use Rattle.mc_core.specs.run.Chunks.{can_clear, with_tag_out}
use Rattle.mc_core.specs.model.Codes.{FitsBits, word_minus}
use Rattle.mc_core.specs.model.Head.{code, decode, tag_of, is_dead, is_free, is_unlinked}
use Rattle.mc_core.specs.law.Seen.{seen_head}
use Rattle.mc_core.specs.run.Silent.{is_listed}
use Rattle.mc_core.specs.model.State.{has_chunk, head_at}
use Rattle.mc_core.proofs.ItemWords.Codes.{are_one_word, all_are_sums}
use Rattle.mc_core.proofs.Steps.Listed.{places_from_listed}
use Rattle.mc_words.specs.hand.View.{View}
use Rattle.mc_words.specs.rule.Layout.{head_word}
use Rattle.mc_words.specs.rule.Happens.{LawfulView, Happens, MayWrite}
use Rattle.mc_words.specs.page.Owner.{Clears, is_unused}
use Rattle.mc_words.specs.hand.Views.{chunk_cleared, head_seen}
use Rattle.mc_words.proofs.Chunks.Heads.{head_is, header_written, near_here}
use Rattle.mc_words.proofs.Chunks.Judging.{after_last, after_slabs, seen_last}
use Rattle.mc_words.proofs.Locks.LockViews as views
use Rattle.mc_words.proofs.Pages.OwnerViews.{cleared_chunk}
use Rattle.mc_words.proofs.Pages.Owners.{fits_here, judged, looks_here, slabs_here, summed}

-- what a tag's number tells
free_one : (tag : ℕ) → tag < 4 → is_free (tag_of tag) ≡ true → tag ≡ 1
free_one zero in_range is = absurd (cc)
free_one (suc zero) in_range is = refl
free_one (suc (suc zero)) in_range is = absurd (cc)
free_one (suc (suc (suc tag))) in_range is = absurd (cc)

dead_two : (tag : ℕ) → tag < 4 → is_unlinked (tag_of tag) ≡ true → tag ≡ 2
dead_two zero in_range is = absurd (cc)
dead_two (suc zero) in_range is = absurd (cc)
dead_two (suc (suc zero)) in_range is = refl
dead_two (suc (suc (suc tag))) in_range is = absurd (cc)

free_tag : (tag : Tag) → is_free tag ≡ true → tag ≡ Free
free_tag Free is = refl
free_tag other is = absurd (cc)

-- a free or dead chunk, as its header's word tells
pub word_free : (word : ℕ) → word / 65536 % 4 ≡ 1 → is_unused (decode word) ≡ true
unfolding decode
word_free word is = ap (λ (n : ℕ). is_free (tag_of n) || is_dead (decode word)) is

pub or_dead : (head : Head) → is_dead head ≡ true → is_unused head ≡ true
or_dead head dead = elim (cases_Bool (is_free head.tag)) [
  | inl free ↦ ap (λ (b : Bool). b || is_dead head) free
  | inr isnt ↦ ap (λ (b : Bool). b || is_dead head) isnt ∙ dead
]

pub neither_unused : (word : ℕ) → (word / 65536 % 4 ≡ 1 → ⊥) → is_dead (decode word) ≡ false → is_unused (decode word) ≡ false
unfolding decode
neither_unused word isnt alive = elim (cases_Bool (is_free (decode word).tag)) [
  | inl free ↦ absurd (isnt (free_one (word / 65536 % 4) (omega arith) free))
  | inr other ↦ ap (λ (b : Bool). b || is_dead (decode word)) other ∙ alive
]

-- what is taken from its word is its tag
unused_sum : (word : ℕ) → word < 2 ^ 64 → FitsBits (decode word) → is_unused (decode word) ≡ true → code (with_tag_out (decode word)) ≡ word_minus (word / 65536 % 4 * 65536) (code (decode word))
unfolding decode
unused_sum word fits small unused = elim (cases_Bool (is_free (decode word).tag)) [
  | inl free ↦
      let tag : word / 65536 % 4 ≡ 1 = free_one (word / 65536 % 4) (omega arith) free in
      (all_are_sums (decode word) small).clear_free (free_tag (decode word).tag free) ∙ ap (λ (n : ℕ). word_minus (n * 65536) (code (decode word))) (sym tag)
  | inr isnt ↦
      let dead : is_dead (decode word) ≡ true = ap (λ (b : Bool). b || is_dead (decode word)) (sym isnt) ∙ unused in
      let tag : word / 65536 % 4 ≡ 2 = dead_two (word / 65536 % 4) (omega arith) (and_parts (is_unlinked (decode word).tag) ((decode word).count == 0) dead).0 in
      (all_are_sums (decode word) small).clear_dead dead ∙ ap (λ (n : ℕ). word_minus (n * 65536) (code (decode word))) (sym tag)
]

module _ (view : View) (slabs : SlabState) (chunk : ChunkId) (seen : ℕ) (mine : view.slabs ≡ Some slabs) (in_range : has_chunk view.setup.table chunk ≡ true) (moves : is_on_the_move slabs chunk.page ≡ true) (last : seen_head view.row.looks chunk ≡ Some (decode seen)) (unused : is_unused (decode seen) ≡ true) where
  -- what was seen is so, and may be cleared
  judged_clear : (was : LawfulView view) → (head_at was.moment.state chunk ≡ decode seen) × (can_clear was.moment.state was.hand chunk ≡ true)
  judged_clear was =
      let held = slabs_here view was slabs mine in
      (judged view was slabs mine).clear chunk (decode seen) (near_here view chunk in_range was) (ap (λ (x : SlabState). is_on_the_move x chunk.page) held.1 ∙ moves) (ap (λ looks. seen_head looks chunk) (looks_here view was) ∙ last) unused

  pub may_clear : MayWrite view (core.Clear chunk) (head_word view.setup chunk) (word_minus (seen / 65536 % 4 * 65536))
  may_clear was fits =
      let word = slice_index was.words (head_word view.setup chunk) in
      let judge = judged_clear was in
      let is_word : head_at was.moment.state chunk ≡ decode word = head_is view chunk in_range was in
      let same : word ≡ seen = sym (are_one_word.again word) ∙ (ap code (sym is_word ∙ judge.0) ∙ are_one_word.again seen) in
      let small : FitsBits (decode word) = subst FitsBits is_word (fits_here view was chunk in_range) in
      let unused' : is_unused (decode word) ≡ true = ap (λ (n : ℕ). is_unused (decode n)) same ∙ unused in
      let less : code (with_tag_out (decode word)) ≡ word_minus (seen / 65536 % 4 * 65536) (code (decode word)) = unused_sum word fits small unused' ∙ ap (λ (n : ℕ). word_minus (n / 65536 % 4 * 65536) (code (decode word))) same in
      let out : decode (word_minus (seen / 65536 % 4 * 65536) word) ≡ with_tag_out (head_at was.moment.state chunk) =
      summed word fits with_tag_out (word_minus (seen / 65536 % 4 * 65536)) less (record { issue = small.issue; count = small.count }) ∙ ap with_tag_out (sym is_word) in (
        judge.1,
        header_written view chunk in_range was (word_minus (seen / 65536 % 4 * 65536) word) (with_tag_out (head_at was.moment.state chunk)) out,
      )

  pub clears_it : (now : View) → Happens view [] (core.Clear chunk) now → now ≡ chunk_cleared slabs chunk (decode seen) view
  clears_it now h = cleared_chunk view now slabs mine chunk (decode seen) h (judged_clear h.was).0

  -- it stands in a list of its class
  pub stands_listed : LawfulView view → 1 ≤ places_in slabs (class_of_page slabs chunk.page) chunk
  stands_listed was =
      let can = (judged_clear was).1 in
      let listed : is_listed was.moment.state.slabs (class_of_page was.moment.state.slabs chunk.page) chunk ≡ true = (and_parts _ _ can).1 in
      places_from_listed slabs (class_of_page slabs chunk.page) chunk (ap (λ (x : SlabState). is_listed x (class_of_page x chunk.page) chunk) (sym (slabs_here view was slabs mine).1) ∙ listed)

-- a look, and the clear that follows it
module _ (view seen now : View) (slabs : SlabState) (chunk : ChunkId) (word : ℕ) (mine : view.slabs ≡ Some slabs) (is : seen ≡ head_seen chunk (decode word) view) (looks : Happens view [] (core.Head chunk) seen) where
  pub clear_after : has_chunk seen.setup.table chunk ≡ true → is_on_the_move slabs chunk.page ≡ true → is_unused (decode word) ≡ true → Happens seen [] (core.Clear chunk) now → Clears view slabs chunk now
  clear_after in_range moves unused h = record {
    head = decode word;
    unused = unused;
    looks = subst (Happens view [] (core.Head chunk)) is looks;
    happens = subst (λ (v : View). Happens v [] (core.Clear chunk) now) is h;
    is = clears_it seen slabs chunk word (after_slabs view seen now slabs chunk (decode word) mine is looks) in_range moves (after_last view seen now slabs chunk (decode word) mine is looks) unused now h
        ∙ ap (chunk_cleared slabs chunk (decode word)) is;
  }

-- the header that was seen so
seen_unused : (seen : Option Head) → option_map is_unused seen ≡ Some true → (head : Head) × (seen ≡ Some head) × (is_unused head ≡ true)
seen_unused None unused = absurd (cc)
seen_unused (Some head) unused = (head, refl, cc)

same_head : (a b : Head) → Some a ≡ Some b → a ≡ b
same_head a b e = cc

-- what was seen free or dead is found so again
pub found_unused : (view now : View) (slabs : SlabState) (chunk : ChunkId) (head : Head) → view.slabs ≡ Some slabs → has_chunk view.setup.table chunk ≡ true → is_on_the_move slabs chunk.page ≡ true → option_map is_unused (seen_head view.row.looks chunk) ≡ Some true
    → Happens view [] (core.Head chunk) now → now ≡ head_seen chunk head view → is_unused head ≡ true
found_unused view now slabs chunk head mine in_range moves unused h is =
    let (seen, last, so) = seen_unused (seen_head view.row.looks chunk) unused in
    let word = slice_index h.was.words (head_word view.setup chunk) in
    let held = slabs_here view h.was slabs mine in
    let still : head_at h.was.moment.state chunk ≡ seen =
    ((judged view h.was slabs mine).clear chunk seen (near_here view chunk in_range h.was) (ap (λ (x : SlabState). is_on_the_move x chunk.page) held.1 ∙ moves) (ap (λ looks. seen_head looks chunk) (looks_here view h.was) ∙ last) so).0 in
    let found : now ≡ head_seen chunk (decode word) view = views.seen_head view now chunk word in_range (h, refl) in
    let same : head ≡ decode word =
    same_head head (decode word) (sym (seen_last view chunk head slabs mine) ∙ (ap (λ (v : View). seen_head v.row.looks chunk) (sym is ∙ found) ∙ seen_last view chunk (decode word) slabs mine)) in
    ap is_unused (same ∙ (sym (head_is view chunk in_range h.was) ∙ still)) ∙ so
