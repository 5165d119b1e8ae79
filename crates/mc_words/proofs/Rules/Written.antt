-- The words of a table after one of them was written.
use Rattle.std.proofs.Common.{◌≡◌, ℕ, suc, ◌+◌, ◌*◌, ◌<◌, ◌≤◌, true, List, ◌∷◌, map, length, take, drop, refl, sym, ap, subst, ◌∙◌, arith, slice_set, slice_index, slice_index_or, length-set, length-drop, mul_comm}
use Rattle.std.proofs.lemmas.List.{drop-set-add, drop-set-lt, take-set-le, map-set, get_or-map, get_or-take, get_or-drop, set-get_or, length-take-le}
use Rattle.std.proofs.Math.Seq.{take-set-lt}
use Rattle.std.proofs.lemmas.Nat.{mul-add-lt}
use Rattle.mc_classes.specs.Classes.{arena_pages_of}
use Rattle.mc_pages.specs.declared.ids.ChunkId.{ChunkId}
use Rattle.mc_core.specs.declared.head.Head.{Head}
use Rattle.mc_core.specs.model.Head.{decode}
use Rattle.mc_core.specs.model.State.{has_chunk, head_place, most_of}
use Rattle.mc_core.proofs.Steps.Base.{chunk_within}
use Rattle.mc_words.specs.hand.View.{Setup}
use Rattle.mc_words.specs.rule.Layout.{words_apart, words_between, spread, slabs_word, lock_address, pages_from, heads_from, head_count, data_from, data_count, config_from}
use Rattle.mc_words.specs.rule.Meaning.{WordsAreColumns}
use Rattle.mc_words.proofs.Rules.Spread.{spread_set, spread_get}

-- a group of words that begins at `first`
module _ (first count : ℕ) (words : List ℕ) where
  -- where a word before it is written
  before : (at word : ℕ) → at < first → take count (drop first (slice_set words at word)) ≡ take count (drop first words)
  before at word in_range = ap (take count) (drop-set-lt first words at word in_range)

  -- where a word of it is written
  inside : (at word : ℕ) → at < count → take count (drop first (slice_set words (first + at) word)) ≡ slice_set (take count (drop first words)) at word
  inside at word in_range = ap (take count) (drop-set-add first words at word) ∙ take-set-lt count (drop first words) at word in_range

  -- where a word behind it is written
  behind : (i at word : ℕ) → i ≡ first + at → count ≤ at → take count (drop first (slice_set words i word)) ≡ take count (drop first words)
  behind i at word is past = ap (λ j. take count (drop first (slice_set words j word))) is ∙ (ap (take count) (drop-set-add first words at word) ∙ take-set-le count (drop first words) at word past)

module _ (setup : Setup) (cuts words : List ℕ) (lock : ℕ) (locks : List ℕ) (heads : List Head) (stored : List ℕ) (are : WordsAreColumns setup cuts words lock locks heads stored) where
  -- how many there are of each
  abbrev stripes : ℕ
  stripes = setup.config.stripes

  abbrev pages : ℕ
  pages = arena_pages_of setup.table

  abbrev headers : ℕ
  headers = head_count setup

  abbrev words_count : ℕ
  words_count = data_count setup

  -- where they begin
  abbrev P : ℕ
  P = pages_from setup

  abbrev H : ℕ
  H = heads_from setup

  abbrev D : ℕ
  D = data_from setup

  abbrev C : ℕ
  C = config_from setup

  -- the word of a lock: of all that is before the pages, only it changes
  locks_written : (place index word : ℕ) (after : List ℕ) → place ≡ words_apart * index → place < P → slice_set (0 ∷ lock ∷ locks) index word ≡ after → take P (slice_set words place word) ≡ spread words_between 0 after
  locks_written place index word after is in_range same =
      take-set-lt P words place word in_range
      ∙ (ap (λ (l : List ℕ). slice_set l place word) are.locks
      ∙ (ap (λ (i : ℕ). slice_set (spread words_between 0 (0 ∷ lock ∷ locks)) i word) is
      ∙ (spread_set words_between 0 (0 ∷ lock ∷ locks) index word ∙ ap (spread words_between 0) same)))

  -- of the slabs
  pub slabs_lock_written : (word : ℕ) → WordsAreColumns setup cuts (slice_set words slabs_word word) word locks heads stored
  slabs_lock_written word = let wide = are.wide in record {
    wide = length-set words slabs_word word ∙ are.wide;
    locks = locks_written slabs_word 1 word (0 ∷ word ∷ locks) refl (omega arith) refl;
    pages = before P pages words slabs_word word (omega arith) ∙ are.pages;
    heads = ap (map decode) (before H headers words slabs_word word (omega arith)) ∙ are.heads;
    items = before D words_count words slabs_word word (omega arith) ∙ are.items;
    configured = drop-set-lt C words slabs_word word (omega arith) ∙ are.configured;
  }

  -- of a stripe
  pub lock_written : (stripe word : ℕ) → stripe < stripes → WordsAreColumns setup cuts (slice_set words (lock_address (suc stripe)) word) lock (slice_set locks stripe word) heads stored
  lock_written stripe word in_range = let wide = are.wide in record {
    wide = length-set words (lock_address (suc stripe)) word ∙ are.wide;
    locks = locks_written (lock_address (suc stripe)) (suc (suc stripe)) word (0 ∷ lock ∷ slice_set locks stripe word) (omega arith) (omega arith) refl;
    pages = before P pages words (lock_address (suc stripe)) word (omega arith) ∙ are.pages;
    heads = ap (map decode) (before H headers words (lock_address (suc stripe)) word (omega arith)) ∙ are.heads;
    items = before D words_count words (lock_address (suc stripe)) word (omega arith) ∙ are.items;
    configured = drop-set-lt C words (lock_address (suc stripe)) word (omega arith) ∙ are.configured;
  }

  -- the word of a page
  pub page_written : (page word : ℕ) → page < pages → WordsAreColumns setup (slice_set cuts page word) (slice_set words (P + page) word) lock locks heads stored
  page_written page word in_range = let wide = are.wide in record {
    wide = length-set words (P + page) word ∙ are.wide;
    locks = take-set-le P words (P + page) word (omega arith) ∙ are.locks;
    pages = inside P pages words page word in_range ∙ ap (λ (l : List ℕ). slice_set l page word) are.pages;
    heads = ap (map decode) (before H headers words (P + page) word (omega arith)) ∙ are.heads;
    items = before D words_count words (P + page) word (omega arith) ∙ are.items;
    configured = drop-set-lt C words (P + page) word (omega arith) ∙ are.configured;
  }

  -- a header
  pub head_written : (at word : ℕ) → at < headers → WordsAreColumns setup cuts (slice_set words (H + at) word) lock locks (slice_set heads at (decode word)) stored
  head_written at word in_range = let wide = are.wide in record {
    wide = length-set words (H + at) word ∙ are.wide;
    locks = take-set-le P words (H + at) word (omega arith) ∙ are.locks;
    pages = behind P pages words (H + at) (pages + at) word (omega arith) (omega arith) ∙ are.pages;
    heads = ap (map decode) (inside H headers words at word in_range) ∙ (map-set decode (take headers (drop H words)) at word ∙ ap (λ (l : List Head). slice_set l at (decode word)) are.heads);
    items = before D words_count words (H + at) word (omega arith) ∙ are.items;
    configured = drop-set-lt C words (H + at) word (omega arith) ∙ are.configured;
  }

  -- a data word
  pub data_written : (at word : ℕ) → at < words_count → WordsAreColumns setup cuts (slice_set words (D + at) word) lock locks heads (slice_set stored at word)
  data_written at word in_range = let wide = are.wide in record {
    wide = length-set words (D + at) word ∙ are.wide;
    locks = take-set-le P words (D + at) word (omega arith) ∙ are.locks;
    pages = behind P pages words (D + at) (pages + (headers + at)) word (omega arith) (omega arith) ∙ are.pages;
    heads = ap (map decode) (behind H headers words (D + at) (headers + at) word (omega arith) (omega arith)) ∙ are.heads;
    items = inside D words_count words at word in_range ∙ ap (λ (l : List ℕ). slice_set l at word) are.items;
    configured = drop-set-lt C words (D + at) word (omega arith) ∙ are.configured;
  }

  -- no word
  pub unwritten : (at : ℕ) → WordsAreColumns setup cuts (slice_set words at (slice_index words at)) lock locks heads stored
  unwritten at = subst (λ (l : List ℕ). WordsAreColumns setup cuts l lock locks heads stored) (sym (set-get_or words at 0)) are

  -- what a header's word means
  pub head_read : (at : ℕ) (none : Head) → at < headers → slice_index_or heads at none ≡ decode (slice_index words (H + at))
  head_read at none in_range =
      let wide = are.wide in
      let left = length-drop H words in
      let long : length (take headers (drop H words)) ≡ headers = length-take-le headers (drop H words) (omega arith) in
      ap (λ (l : List Head). slice_index_or l at none) (sym are.heads)
      ∙ (get_or-map decode (take headers (drop H words)) at 0 none (omega arith) ∙ ap decode (get_or-take headers (drop H words) at 0 in_range ∙ get_or-drop H words at 0))

  pub cuts_long : length cuts ≡ pages
  cuts_long = let wide = are.wide in let left = length-drop P words in ap length (sym are.pages) ∙ length-take-le pages (drop P words) (omega arith)

  -- the word of a page
  pub page_read : (page : ℕ) → page < pages → slice_index words (P + page) ≡ slice_index cuts page
  page_read page in_range = sym (get_or-drop P words page 0) ∙ (sym (get_or-take pages (drop P words) page 0 in_range) ∙ ap (λ (l : List ℕ). slice_index l page) are.pages)

  -- a data word
  pub data_read : (at : ℕ) → at < words_count → slice_index words (D + at) ≡ slice_index stored at
  data_read at in_range = sym (get_or-drop D words at 0) ∙ (sym (get_or-take words_count (drop D words) at 0 in_range) ∙ ap (λ (l : List ℕ). slice_index l at) are.items)

  -- the word of a lock
  locks_read : (place index : ℕ) → place ≡ words_apart * index → place < P → slice_index words place ≡ slice_index (0 ∷ lock ∷ locks) index
  locks_read place index is in_range =
      sym (get_or-take P words place 0 in_range)
      ∙ (ap (λ (l : List ℕ). slice_index l place) are.locks ∙ (ap (slice_index (spread words_between 0 (0 ∷ lock ∷ locks))) is ∙ spread_get words_between 0 (0 ∷ lock ∷ locks) index 0))

  -- of the slabs
  pub slabs_lock_read : slice_index words slabs_word ≡ lock
  slabs_lock_read = locks_read slabs_word 1 refl (omega arith)

  -- of a stripe
  pub lock_read : (stripe : ℕ) → stripe < stripes → slice_index words (lock_address (suc stripe)) ≡ slice_index locks stripe
  lock_read stripe in_range = locks_read (lock_address (suc stripe)) (suc (suc stripe)) (omega arith) (omega arith)

-- a header is among the words
pub head_near : (setup : Setup) (chunk : ChunkId) → has_chunk setup.table chunk ≡ true → head_place setup.table chunk < head_count setup
head_near setup chunk in_range =
    let w = chunk_within setup.table chunk in_range in
    let below : chunk.page * most_of setup.table + chunk.index < most_of setup.table * arena_pages_of setup.table = mul-add-lt chunk.page (most_of setup.table) chunk.index (arena_pages_of setup.table) w.0 w.1 in
    omega (arith, mul_comm (most_of setup.table) (arena_pages_of setup.table), below)
