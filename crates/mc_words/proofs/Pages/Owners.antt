-- The owner's pass: what the core allows of a hand that knows what its view says, and which word it writes.
use Rattle.std.proofs.Common.{◌≡◌, ℕ, suc, ◌+◌, ◌*◌, ◌^◌, ◌<◌, ◌≤◌, Bool, true, ◌&&◌, ◌||◌, not, List, [], ◌∷◌, length, Some, sym, ap, ap₂, subst, ◌∙◌, inl, inr, arith, slice_set, slice_index, lt-ltb, if◌then◌else◌}
use Rattle.std.proofs.lemmas.Bool.{and_from, cases_Bool}
use Rattle.mc_classes.specs.Classes.{arena_pages_of}
use Rattle.mc_pages.specs.declared.ids.ChunkId.{ChunkId}
use Rattle.mc_pages.specs.ClassState.{first_free}
use Rattle.mc_pages.specs.SlabState.{SlabState, class_at, class_of_page}
use Rattle.mc_pages.specs.Changes as slabs_changes
use Rattle.mc_core.specs.declared.head.Head.{Head}
use Rattle.mc_core.specs.declared.head.Tag.TheVariants.{Out, Free}
use Rattle.mc_core.specs.declared.holding.Holding.{Holding}
use Rattle.mc_core.specs.declared.event.Step.TheVariants as core
use Rattle.mc_core.specs.model.Head.{code, decode, is_free, is_dead}
use Rattle.mc_core.specs.model.Holdings.{is_of_chunk, is_fresh, holding_of, without_first, holding_words}
use Rattle.mc_core.specs.model.State.{State, is_class, has_chunk, has_slabs, head_at, head_place, holdings_at, looks_at, chunk_room, room_in, page_words, with_slabs}
use Rattle.mc_core.specs.run.Chunks as chunks
use Rattle.mc_core.specs.run.Chunks.{most_issue, most_holdings, has_place, next_free, head_after_hand_out, head_after_release, with_tag_free, holds_as, can_fill_in, state_after_pop_of, after_fill, holding_with_word}
use Rattle.mc_core.specs.model.Codes.{word_plus, word_minus, FitsBits}
use Rattle.mc_core.specs.law.Counts.{IsHoldingSized}
use Rattle.mc_core.specs.model.Columns.{place_in}
use Rattle.mc_core.specs.law.Seen.{seen_head}
use Rattle.mc_core.specs.law.Judged.{IsJudged}
use Rattle.mc_core.specs.run.Needless.{AreNeedless}
use Rattle.mc_core.proofs.ItemWords.Codes.{are_one_word, all_are_sums}
use Rattle.mc_core.proofs.Seen.Judged.{all_are_judged}
use Rattle.mc_core.proofs.Steps.Needless.{are_needless}
use Rattle.mc_core.proofs.Known.KnownFills.{fill_at, fill_placed, fill_on}
use Rattle.mc_core.proofs.Counts.Holders.{found_each}
use Rattle.mc_core.proofs.Seen.SeenQuiet.{held_count}
use Rattle.mc_core.proofs.Steps.Base.{word_within}
use Rattle.mc_core.proofs.Places.FreeChunks.{near_placed}
use Rattle.mc_words.specs.hand.View.{View}
use Rattle.mc_words.specs.rule.Layout.{head_word, data_word, data_from, data_count, config_from}
use Rattle.mc_words.specs.rule.Happens.{LawfulView, MayWrite}
use Rattle.mc_words.proofs.Rules.Quiet.{columns}
use Rattle.mc_words.proofs.Chunks.Heads.{AreAll, near_here, head_is, header_written}
use Rattle.mc_words.proofs.Rules.Written.{data_written}
use Rattle.mc_words.proofs.Locks.TakeAndGive.{held_from}

-- a sum on a word is a change of its header
pub summed : (word : ℕ) → word < 2 ^ 64 → (change : Head → Head) (sum : ℕ → ℕ) → code (change (decode word)) ≡ sum (code (decode word)) → FitsBits (change (decode word)) → decode (sum word) ≡ change (decode word)
summed word fits change sum is small = ap (λ n. decode (sum n)) (sym (are_one_word.again word)) ∙ (ap decode (sym is) ∙ are_one_word.back (change (decode word)) small)

module _ (view : View) (was : LawfulView view) where
  abbrev s : State
  s = was.moment.state

  abbrev id : ℕ
  id = was.hand

  pub holdings_here : holdings_at s id ≡ view.row.holdings
  holdings_here = ap (λ (v : View). v.row.holdings) (sym was.is)

  pub looks_here : looks_at s id ≡ view.row.looks
  looks_here = ap (λ (v : View). v.row.looks) (sym was.is)

  -- what the hand has behind the slabs lock
  pub slabs_here : (slabs : SlabState) → view.slabs ≡ Some slabs → (has_slabs s id ≡ true) × (s.slabs ≡ slabs)
  slabs_here slabs mine = held_from (has_slabs s id) s.slabs slabs (ap (λ (v : View). v.slabs) (sym was.is) ∙ mine)

  pub judged : (slabs : SlabState) → view.slabs ≡ Some slabs → IsJudged was.moment id
  judged slabs mine = all_are_judged was.moment was.lawful id (slabs_here slabs mine).0

  pub needless : AreNeedless was.moment
  needless = are_needless was.moment was.lawful

  pub fits_here : (chunk : ChunkId) → has_chunk view.setup.table chunk ≡ true → FitsBits (head_at s chunk)
  fits_here chunk in_range = needless.fits chunk (near_here view chunk in_range was)

-- a fresh chunk is given up
pub may_discard : (view : View) (chunk : ChunkId) (holding : Holding) → has_chunk view.setup.table chunk ≡ true → holding_of chunk view.row.holdings ≡ Some holding → is_fresh holding ≡ true → MayWrite view (core.Discard chunk) (head_word view.setup chunk) (word_minus 1)
may_discard view chunk holding in_range found fresh was fits =
    let m = was.moment in
    let word = slice_index was.words (head_word view.setup chunk) in
    let here : holding_of chunk (holdings_at m.state was.hand) ≡ Some holding = ap (holding_of chunk) (holdings_here view was) ∙ found in
    let is : head_at m.state chunk ≡ decode word = head_is view chunk in_range was in
    let count : 1 ≤ (decode word).count = subst (λ (h : Head). 1 ≤ h.count) is (held_count m was.lawful was.hand chunk holding here) in
    let small : FitsBits (decode word) = subst FitsBits is (fits_here view was chunk in_range) in
    let gone : decode (word_minus 1 word) ≡ head_after_release (head_at m.state chunk) =
    summed word fits head_after_release (word_minus 1) ((all_are_sums (decode word) small).release count) (record { issue = small.issue; count = let c = small.count in omega arith }) ∙ ap head_after_release (sym is) in (
      ap (holds_as true) here ∙ ap (λ b. b && true || not b && not true) fresh,
      header_written view chunk in_range was (word_minus 1 word) (head_after_release (head_at m.state chunk)) gone,
    )

-- a word of it is written
module _ (view : View) (chunk : ChunkId) (holding : Holding) (place : ℕ) (found : holding_of chunk view.row.holdings ≡ Some holding) (fresh : is_fresh holding ≡ true) (in_range : place < length (holding_words holding)) (was : LawfulView view) where
  filled_here : holding_of chunk (holdings_at was.moment.state was.hand) ≡ Some holding
  filled_here = ap (holding_of chunk) (holdings_here view was) ∙ found

  filled_can : can_fill_in place (Some holding) ≡ true
  filled_can = and_from _ _ fresh (lt-ltb place (length (holding_words holding)) in_range)

  -- how many words it has
  pub room_is : chunk_room was.moment.state chunk ≡ length (holding_words holding)
  room_is =
      let m = was.moment in
      let sized = found_each (λ h. IsHoldingSized (room_in m.state.table (class_of_page m.state.slabs h.chunk.page)) h) m.state.holdings was.hand (is_of_chunk chunk) holding filled_here was.lawful.held.sized in
      ap (λ (c : ChunkId). room_in m.state.table (class_of_page m.state.slabs c.page)) (sym (fill_at m was.lawful was.hand chunk place holding filled_here filled_can)) ∙ sym (sized.0 fresh)

  -- where the word stands
  pub place_is : data_word view.setup (length (holding_words holding)) chunk place ≡ data_from view.setup + place_in was.moment.state.table was.moment.state.slabs chunk place
  place_is = ap₂ (λ (a b : ℕ). data_from view.setup + (chunk.page * a + chunk.index * b + place)) (ap page_words (sym was.same_table)) (sym room_is)

  pub place_near : place_in was.moment.state.table was.moment.state.slabs chunk place < data_count view.setup
  place_near =
      let m = was.moment in
      let placed = fill_placed m was.lawful was.hand chunk place holding filled_here filled_can in
      let inside = word_within m was.lawful chunk place (near_placed m was.lawful chunk placed) placed (fill_on m was.lawful was.hand chunk place holding filled_here filled_can) in
      let long = was.lawful.sized.places in
      let count : arena_pages_of m.state.table * page_words m.state.table ≡ data_count view.setup = ap (λ table. arena_pages_of table * page_words table) was.same_table in
      omega arith

  -- it is a data word
  pub fill_near : data_word view.setup (length (holding_words holding)) chunk place < config_from view.setup
  fill_near = let is = place_is in let in_range = place_near in omega arith

  pub can_fill_here : (word : ℕ) → (chunks.can_fill was.moment.state was.hand chunk place ≡ true) × AreAll view.setup was.cuts (slice_set was.words (data_word view.setup (length (holding_words holding)) chunk place) word) (columns (after_fill was.moment.state was.hand chunk place word))
  can_fill_here word =
      let s : State = was.moment.state in (
        ap (can_fill_in place) filled_here ∙ filled_can,
        subst (λ (n : ℕ). AreAll view.setup was.cuts (slice_set was.words n word) (columns (after_fill s was.hand chunk place word))) (sym place_is)
            (data_written view.setup was.cuts was.words s.slabs_lock s.stripe_locks s.heads s.words was.are (place_in s.table s.slabs chunk place) word place_near),
      )

pub may_fill : (view : View) (chunk : ChunkId) (holding : Holding) (place word : ℕ) → holding_of chunk view.row.holdings ≡ Some holding → is_fresh holding ≡ true → place < length (holding_words holding)
    → MayWrite view (core.Fill chunk place word) (data_word view.setup (length (holding_words holding)) chunk place) (λ found. word)
may_fill view chunk holding place word found fresh in_range was fits = can_fill_here view chunk holding place found fresh in_range was word

-- the next free chunk of a class is handed out
pub may_pop : (view : View) (slabs : SlabState) (class : ℕ) (chunk : ChunkId) (seen : Head) → view.slabs ≡ Some slabs → is_class view.setup.table class ≡ true → first_free (class_at slabs class) ≡ Some chunk → has_chunk view.setup.table chunk ≡ true
    → length view.row.holdings < most_holdings → seen_head view.row.looks chunk ≡ Some seen → seen.issue < most_issue → MayWrite view (core.Pop class) (head_word view.setup chunk) (word_plus 327681)
may_pop view slabs class chunk seen mine is first in_range within_limit last left was fits =
    let m = was.moment in
    let word = slice_index was.words (head_word view.setup chunk) in
    let held = slabs_here view was slabs mine in
    let class_is : is_class m.state.table class ≡ true = ap (λ table. is_class table class) was.same_table ∙ is in
    let next : next_free m.state class ≡ Some chunk = ap (λ slabs. first_free (class_at slabs class)) held.1 ∙ first in
    let looked : seen_head (looks_at m.state was.hand) chunk ≡ Some seen = ap (λ looks. seen_head looks chunk) (looks_here view was) ∙ last in
    let place : has_place m.state was.hand ≡ true = lt-ltb (length (holdings_at m.state was.hand)) most_holdings (let e = ap length (holdings_here view was) in omega arith) in
    let judge = judged view was slabs mine in
    let still : head_at m.state chunk ≡ seen = judge.next class chunk seen class_is next looked in
    let free : (head_at m.state chunk).tag ≡ Free = ((needless view was).next class chunk class_is next).1 in
    let count : (head_at m.state chunk).count ≡ 0 = was.lawful.counted.shut chunk (near_here view chunk in_range was) (inl (ap is_free free)) in
    let is_word : head_at m.state chunk ≡ decode word = head_is view chunk in_range was in
    let small : FitsBits (decode word) = subst FitsBits is_word (fits_here view was chunk in_range) in
    let left' : (decode word).issue < most_issue = subst (λ (h : Head). h.issue < most_issue) (sym still ∙ is_word) left in
    let out : decode (word_plus 327681 word) ≡ head_after_hand_out (head_at m.state chunk) =
    summed word fits head_after_hand_out (word_plus 327681) ((all_are_sums (decode word) small).hand_out (sym (ap (λ (h : Head). h.tag) is_word) ∙ free) (sym (ap (λ (h : Head). h.count) is_word) ∙ count) left') (record { issue = omega arith; count = omega arith })
    ∙ ap head_after_hand_out (sym is_word) in
    let after : columns (chunks.state_after_pop m.state was.hand class) ≡ (m.state.slabs_lock, m.state.stripe_locks, slice_set m.state.heads (head_place m.state.table chunk) (head_after_hand_out (head_at m.state chunk)), m.state.words) =
    ap (λ o. columns (state_after_pop_of (with_slabs m.state (slabs_changes.after_pop m.state.slabs class)) was.hand o)) next in (
      judge.pop class chunk seen class_is place next looked left,
      subst (AreAll view.setup was.cuts (slice_set was.words (head_word view.setup chunk) (word_plus 327681 word))) (sym after) (header_written view chunk in_range was (word_plus 327681 word) (head_after_hand_out (head_at m.state chunk)) out),
    )

-- a dead chunk is put back
pub may_put_back : (view : View) (slabs : SlabState) (chunk : ChunkId) (seen : Head) → view.slabs ≡ Some slabs → has_chunk view.setup.table chunk ≡ true → seen_head view.row.looks chunk ≡ Some seen → is_dead seen ≡ true → MayWrite view (core.PutBack chunk) (head_word view.setup chunk) (word_minus 65536)
may_put_back view slabs chunk seen mine in_range last dead was fits =
    let m = was.moment in
    let word = slice_index was.words (head_word view.setup chunk) in
    let looked : seen_head (looks_at m.state was.hand) chunk ≡ Some seen = ap (λ looks. seen_head looks chunk) (looks_here view was) ∙ last in
    let judge = (judged view was slabs mine).put_back chunk seen (near_here view chunk in_range was) looked dead in
    let is_word : head_at m.state chunk ≡ decode word = head_is view chunk in_range was in
    let small : FitsBits (decode word) = subst FitsBits is_word (fits_here view was chunk in_range) in
    let dead' : is_dead (decode word) ≡ true = subst (λ (h : Head). is_dead h ≡ true) (sym judge.0 ∙ is_word) dead in
    let back : decode (word_minus 65536 word) ≡ with_tag_free (head_at m.state chunk) =
    summed word fits with_tag_free (word_minus 65536) ((all_are_sums (decode word) small).put_back dead') (record { issue = small.issue; count = small.count }) ∙ ap with_tag_free (sym is_word) in (
      judge.1,
      header_written view chunk in_range was (word_minus 65536 word) (with_tag_free (head_at m.state chunk)) back,
    )

-- the lowest uncut chunk is cut
pub may_cut : (view : View) (slabs : SlabState) (page index : ℕ) → view.slabs ≡ Some slabs → has_chunk view.setup.table (record { page = page; index = index }) ≡ true → slabs.uncut ≡ Some (record { page = page; index = index })
    → MayWrite view (core.Cut page index) (head_word view.setup (record { page = page; index = index })) (word_plus 65536)
may_cut view slabs page index mine in_range next was fits =
    let m = was.moment in
    let chunk : ChunkId = record { page = page; index = index } in
    let word = slice_index was.words (head_word view.setup chunk) in
    let held = slabs_here view was slabs mine in
    let uncut : m.state.slabs.uncut ≡ Some chunk = ap (λ (x : SlabState). x.uncut) held.1 ∙ next in
    let is_word : head_at m.state chunk ≡ decode word = head_is view chunk in_range was in
    let small : FitsBits (decode word) = subst FitsBits is_word (fits_here view was chunk in_range) in
    let out : (decode word).tag ≡ Out = sym (ap (λ (h : Head). h.tag) is_word) ∙ ((needless view was).uncut chunk uncut).1 in
    let cut : decode (word_plus 65536 word) ≡ with_tag_free (head_at m.state chunk) =
    summed word fits with_tag_free (word_plus 65536) ((all_are_sums (decode word) small).cut out) (record { issue = small.issue; count = small.count }) ∙ ap with_tag_free (sym is_word) in (
      (judged view was slabs mine).cut chunk uncut,
      header_written view chunk in_range was (word_plus 65536 word) (with_tag_free (head_at m.state chunk)) cut,
    )

-- chunks that the values name are near
pub first_near : (view : View) → LawfulView view → (slabs : SlabState) (class : ℕ) (chunk : ChunkId) → view.slabs ≡ Some slabs → is_class view.setup.table class ≡ true → first_free (class_at slabs class) ≡ Some chunk → has_chunk view.setup.table chunk ≡ true
first_near view was slabs class chunk mine is first =
    let held = slabs_here view was slabs mine in
    ap (λ table. has_chunk table chunk) (sym was.same_table)
    ∙ ((needless view was).next class chunk (ap (λ table. is_class table class) was.same_table ∙ is) (ap (λ slabs. first_free (class_at slabs class)) held.1 ∙ first)).0

pub uncut_near : (view : View) → LawfulView view → (slabs : SlabState) (chunk : ChunkId) → view.slabs ≡ Some slabs → slabs.uncut ≡ Some chunk → has_chunk view.setup.table chunk ≡ true
uncut_near view was slabs chunk mine next =
    let held = slabs_here view was slabs mine in
    ap (λ table. has_chunk table chunk) (sym was.same_table) ∙ ((needless view was).uncut chunk (ap (λ (x : SlabState). x.uncut) held.1 ∙ next)).0

pub holding_near : (view : View) → LawfulView view → (chunk : ChunkId) (holding : Holding) → holding_of chunk view.row.holdings ≡ Some holding → is_fresh holding ≡ true → has_chunk view.setup.table chunk ≡ true
holding_near view was chunk holding found fresh =
    ap (λ table. has_chunk table chunk) (sym was.same_table) ∙ ((needless view was).fresh was.hand chunk holding (ap (holding_of chunk) (holdings_here view was) ∙ found) fresh).0

-- one holding less
pub one_less : (chunk : ChunkId) (holdings : List Holding) (holding : Holding) → holding_of chunk holdings ≡ Some holding → suc (length (without_first (is_of_chunk chunk) holdings)) ≡ length holdings
one_less chunk [] holding found = absurd (cc)
one_less chunk (first ∷ more) holding found = elim (cases_Bool (is_of_chunk chunk first)) [
  | inl is ↦ ap (λ (b : Bool). suc (length (if b then more else first ∷ without_first (is_of_chunk chunk) more))) is
  | inr isnt ↦ ap (λ (b : Bool). suc (length (if b then more else first ∷ without_first (is_of_chunk chunk) more))) isnt ∙ ap suc (one_less chunk more holding (ap (λ (b : Bool). if b then Some first else holding_of chunk more) (sym isnt) ∙ found))
]
