-- Words that are copied from one chunk into another: what was read of the one, and that a linked chunk has room for three.
use Rattle.std.proofs.Common.{◌≡◌, ℕ, ◌+◌, ◌/◌, ◌<◌, ◌≤◌, ◌==◌, ◌&&◌, Bool, true, false, List, [], ◌∷◌, ◌++◌, length, Some, None, refl, sym, ap, subst, ◌∙◌, arith, is_some, slice_index, le-leb, if◌then◌else◌, zero, suc}
use Rattle.std.specs.List.{fold}
use Rattle.std.proofs.lemmas.Bool.{and_from}
use Rattle.std.proofs.lemmas.List.Sums.{fold-append}
use Rattle.mc_classes.specs.Classes.{size_of}
use Rattle.mc_pages.specs.declared.ids.ChunkId.{ChunkId}
use Rattle.mc_pages.specs.SlabState.{SlabState, class_of_page}
use Rattle.mc_pages.proofs.Chunks.{is_chunk-same}
use Rattle.mc_stripe.proofs.Entries.{nat_eq_other, nat_eq_same}
use Rattle.mc_core.specs.declared.look.Look.TheVariants.{Read}
use Rattle.mc_core.specs.model.Columns.{IsHandedOut}
use Rattle.mc_core.specs.model.Looks.{stays_linked, was_linked}
use Rattle.mc_core.specs.law.Seen.{last_read, linked_issue}
use Rattle.mc_core.specs.model.State.{has_chunk, head_at, is_class, looks_at, room_in}
use Rattle.mc_core.proofs.Steps.Base.{placed_at}
use Rattle.mc_core.proofs.Places.OfTable.{class_count}
use Rattle.mc_core.proofs.Seen.SeenAdds.{was_linked_is}
use Rattle.mc_core.proofs.Seen.SeenLooks.{some_is}
use Rattle.mc_words.specs.rule.Happens.{LawfulView}
use Rattle.mc_words.specs.item.Items.{word_read}
use Rattle.mc_words.specs.hand.View.{Setup, View}
use Rattle.mc_words.specs.hand.Views.{held_word_seen, word_filled}
use Rattle.mc_words.proofs.Chunks.Heads.{near_here}
use Rattle.mc_words.proofs.Chunks.Judging.{room_of}
use Rattle.mc_words.proofs.Pages.Owners.{looks_here, slabs_here}
use Rattle.mc_mover.specs.Copying.{words_copied}

-- a linked chunk has room for key, stamp and length, and for no more words than a page has
three_fit : (view : View) → LawfulView view → (slabs : SlabState) → view.slabs ≡ Some slabs → (chunk : ChunkId) → has_chunk view.setup.table chunk ≡ true → was_linked view.row.looks chunk ≡ true
    → (3 ≤ room_in view.setup.table (class_of_page slabs chunk.page)) × (room_in view.setup.table (class_of_page slabs chunk.page) ≤ 2048)
three_fit view was slabs mine chunk in_range linked =
    let m = was.moment in
    let there = near_here view chunk in_range was in
    let held = slabs_here view was slabs mine in
    let found : is_some (fold (linked_issue chunk) None (looks_at m.state was.hand)) ≡ true =
    sym (was_linked_is (looks_at m.state was.hand) chunk) ∙ (ap (λ looks. was_linked looks chunk) (looks_here view was) ∙ linked) in
    let (issue, is) = some_is (fold (linked_issue chunk) None (looks_at m.state was.hand)) found in
    let out : IsHandedOut (head_at m.state chunk) issue = ((was.lawful.seen was.hand held.0).linked chunk issue there is).0 in
    let (low, high) = (placed_at m was.lawful chunk issue there out).0.class in
    let class : ℕ = class_of_page m.state.slabs chunk.page in
    let count = class_count m.state.table m.state.slabs was.lawful.paged.of_table in
    let below : class ≤ length m.state.table.sizes = omega (arith, high, count) in
    let size = was.lawful.sized.sound.sizes class (low, below) in
    let of : is_class m.state.table class ≡ true = and_from _ _ (le-leb 1 class low) (le-leb class (length m.state.table.sizes) below) in
    let room = room_of m.state.table class (size_of m.state.table class) of refl in
    let same : room_in m.state.table class ≡ room_in view.setup.table (class_of_page slabs chunk.page) = (λ k. room_in (was.same_table k) (class_of_page (held.1 k) chunk.page)) in
    subst (λ n. (3 ≤ n) × (n ≤ 2048)) (room ∙ same) (wide (size_of m.state.table class) m.state.table.page size.0 size.1 was.lawful.sized.sound.page.1)
  where
    wide : (size page : ℕ) → 24 ≤ size → size ≤ page → page ≤ 16384 → (3 ≤ size / 8) × (size / 8 ≤ 2048)
    wide size page least most bound = (omega arith, omega arith)

-- the same of the arena's setup, and of a fresh chunk with as much room
pub three_places : (view : View) (setup : Setup) → LawfulView view → view.setup ≡ setup → (slabs : SlabState) → view.slabs ≡ Some slabs → (chunk : ChunkId) → has_chunk setup.table chunk ≡ true → was_linked view.row.looks chunk ≡ true → (room : ℕ) → room ≡ room_in setup.table (class_of_page slabs chunk.page)
    → (3 ≤ room) × (room ≤ 2048)
three_places view setup was of slabs mine chunk in_range linked room is =
    let fits = three_fit view was slabs mine chunk (ap (λ (s : Setup). has_chunk s.table chunk) of ∙ in_range) linked in
    subst (λ n. (3 ≤ n) × (n ≤ 2048)) (ap (λ (s : Setup). room_in s.table (class_of_page slabs chunk.page)) of ∙ sym is) fits

-- a chunk that was found linked is so still, whatever word is read of a chunk
pub linked_read : (chunk read : ChunkId) (place word : ℕ) (view : View) → was_linked (held_word_seen read place word view).row.looks chunk ≡ was_linked view.row.looks chunk
linked_read chunk read place word view = fold-append (stays_linked chunk) false view.row.looks (Read read place word ∷ [])

module _ (chunk copy : ChunkId) where
  -- one word that is read and written
  abbrev pub word_copied : ℕ → ℕ → View → View
  word_copied place word view = word_filled copy place word (held_word_seen chunk place word view)

  -- one word more behind those that were copied
  pub copied_more : (word at place : ℕ) (words : List ℕ) (view : View) → at ≡ place + length words → words_copied chunk copy place (words ++ word ∷ []) view ≡ word_copied at word (words_copied chunk copy place words view)
  copied_more word at place [] view is = let same : place ≡ at = omega arith in λ k. word_copied (same k) word view
  copied_more word at place (first ∷ words) view is = copied_more word at (place + 1) words (word_copied place first view) (omega arith)

  -- what is read of the chunk after a word was copied
  read_one : (at place word : ℕ) (view : View) → word_read (word_copied place word view) chunk at ≡ (if place == at then Some word else word_read view chunk at)
  read_one at place word view =
      fold-append (last_read chunk at) None view.row.looks (Read chunk place word ∷ [])
      ∙ ap (λ (b : Bool). if b && place == at then Some word else word_read view chunk at) (is_chunk-same chunk)

  -- what stands before them is as it was
  read_before : (at place : ℕ) (words : List ℕ) (view : View) → at < place → word_read (words_copied chunk copy place words view) chunk at ≡ word_read view chunk at
  read_before at place [] view below = refl
  read_before at place (word ∷ words) view below =
      read_before at (place + 1) words (word_copied place word view) (omega arith)
      ∙ (read_one at place word view ∙ ap (λ (b : Bool). if b then Some word else word_read view chunk at) (nat_eq_other place at (λ e. let same : place ≡ at = e in omega arith)))

  -- and each of them was read
  pub read_copied : (i at place : ℕ) (words : List ℕ) (view : View) → i < length words → at ≡ place + i → word_read (words_copied chunk copy place words view) chunk at ≡ Some (slice_index words i)
  read_copied i at place [] view within is = absurd (omega arith)
  read_copied zero at place (word ∷ words) view within is =
      read_before at (place + 1) words (word_copied place word view) (omega arith)
      ∙ (read_one at place word view ∙ ap (λ (b : Bool). if b then Some word else word_read view chunk at) (nat_eq_same place at (omega arith)))
  read_copied (suc i) at place (word ∷ words) view within is = read_copied i at (place + 1) words (word_copied place word view) (omega arith) (omega arith)

  -- all but looks and holdings stays
  pub copied_keeps : {X : Type 0} (part : View → X) → ((place word : ℕ) (v : View) → part (word_copied place word v) ≡ part v) → (place : ℕ) (words : List ℕ) (view : View) → part (words_copied chunk copy place words view) ≡ part view
  copied_keeps part keeps place [] view = refl
  copied_keeps part keeps place (word ∷ words) view = copied_keeps part keeps (place + 1) words (word_copied place word view) ∙ keeps place word view

-- the item's own words stand behind its key and its stamp
pub not_first : (place : ℕ) → 3 ≤ place → (place == 0) ≡ false
not_first place behind = nat_eq_other place 0 (λ e. let same : place ≡ 0 = e in omega arith)

pub not_second : (place : ℕ) → 3 ≤ place → (place == 1) ≡ false
not_second place behind = nat_eq_other place 1 (λ e. let same : place ≡ 1 = e in omega arith)

-- a list with one more word at its end
pub one_longer : (words : List ℕ) (word : ℕ) → length (words ++ word ∷ []) ≡ length words + 1
one_longer [] word = refl
one_longer (first ∷ words) word = let rest : length (words ++ word ∷ []) ≡ length words + 1 = one_longer words word in omega arith
