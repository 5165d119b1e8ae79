-- Reads of an item's words, one after another, and what is known of the words then.
use Rattle.std.proofs.Common.{◌≡◌, ℕ, ◌+◌, ◌-◌, ◌*◌, ◌/◌, ◌^◌, ◌<◌, ◌≤◌, List, [], ◌++◌, length, take, drop, get_or, ap, sym, ◌∙◌, append_assoc, arith, lit<, refl, subst, ⊎_elim}
use Rattle.std.proofs.lemmas.Bool.{cases_lt}
use Rattle.std.proofs.lemmas.List.{get_or-drop, get_or-take, get_or_past, length-drop, length-take, take_all}
use Rattle.mc_packing.specs.Packing.{AreWords, FillsFrom, IsPackingOf, LooksPacked, bytes_of_word, bytes_of_words, key_words, value_in, value_words, packed_word, word_count_for, packed_words}
use Rattle.std.proofs.lemmas.Slice.{take-put_mid}
use Rattle.mc_packing.proofs.Bytes.{all_eight, length_bytes_in}
use Rattle.mc_packing.proofs.Loops.{ArePut, all_put, IsWritten, all_written, differs, none_written, put_more, same_more}
use Rattle.mc_packing.proofs.Looks.{is_packed, looks_packed, value_of_looks}
use Rattle.mc_words.specs.declared.arena.Arena.{Arena}
use Rattle.mc_words.specs.declared.hand.Hand.{Hand}
use Rattle.mc_words.specs.hand.Arenas.{view}
use Rattle.mc_words.specs.hand.View.{View}
use Rattle.mc_items.specs.declared.refs.Ref.{Ref}
use Rattle.mc_items.specs.ItemRefs.{IsItemRef, item_chunk, item_words}
use Rattle.mc_words.specs.item.Items.{held_item}
use Rattle.mc_shard.specs.Finding.{PutsValue}
use Rattle.mc_shard.specs.Reading.{OnlyReads, RefersTo}

pub reads_none : (arena : Arena) (item : Ref) (hand : Hand) → RefersTo arena item hand → OnlyReads arena item hand hand
reads_none arena item hand refers = record { hand = refers; number = refl; words = refl; holdings = refl; stores_nothing = refl; calls = refl; slabs = refl }

pub reads_on : (arena : Arena) (item : Ref) (before next now : Hand) → OnlyReads arena item before next → OnlyReads arena item next now → OnlyReads arena item before now
reads_on arena item before next now first second = record {
  hand = second.hand;
  number = second.number ∙ first.number;
  words = second.words ∙ first.words;
  holdings = second.holdings ∙ first.holdings;
  stores_nothing = second.stores_nothing ∙ first.stores_nothing;
  calls = second.calls ∙ first.calls;
  slabs = second.slabs ∙ first.slabs;
}

-- a word that was read behind other reads is the same
pub word_still : (arena : Arena) (item : Ref) (before now : Hand) (place word : ℕ) → OnlyReads arena item before now → word ≡ get_or (item_words (view now) item) place 0 → word ≡ get_or (item_words (view before) item) place 0
word_still arena item before now place word reads is = is ∙ ap (λ (ws : List ℕ). get_or ws place 0) reads.words

-- an item has as many words as its reference says
pub words_len : (v : View) (item : Ref) → IsItemRef v item → length (item_words v item) ≡ item.len
words_len v item is = let len = is.len in omega (arith, length-drop 3 (held_item v (item_chunk item)))

-- the key's words, as they are compared
module _ (key ws : List ℕ) (long : 2 + word_count_for (length key) ≤ length ws) where
  abbrev key_count : ℕ
  key_count = word_count_for (length key)

  key_words_len : length (key_words key ws) ≡ key_count
  key_words_len = omega (arith, length-take key_count (drop 2 ws), length-drop 2 ws)

  key_word_at : (place : ℕ) → place < key_count → get_or (key_words key ws) place 0 ≡ get_or ws (2 + place) 0
  key_word_at place less = get_or-take key_count (drop 2 ws) place 0 less ∙ get_or-drop 2 ws place 0

  pub none_same : IsWritten key (key_words key ws) 0 key
  none_same = none_written key (key_words key ws) key_words_len

  pub next_same : (place word : ℕ) (rest next : List ℕ) → place < key_count → word ≡ get_or ws (2 + place) 0 → word ≡ packed_word rest → next ≡ drop 8 rest → IsWritten key (key_words key ws) place rest → IsWritten key (key_words key ws) (place + 1) next
  next_same place word rest next less is same then h =
      same_more key (key_words key ws) place rest next (omega (arith, key_words_len)) (key_word_at place less ∙ sym is ∙ same) then h

  pub all_same : (place : ℕ) (rest : List ℕ) → key_count ≤ place → IsWritten key (key_words key ws) place rest → key_words key ws ≡ packed_words key
  all_same place rest ended h = all_written key (key_words key ws) place rest (omega (arith, key_words_len)) h

  pub not_same : (place word : ℕ) (rest : List ℕ) → place < key_count → word ≡ get_or ws (2 + place) 0 → (word ≡ packed_word rest → ⊥) → IsWritten key (key_words key ws) place rest → key_words key ws ≡ packed_words key → ⊥
  not_same place word rest less is other h same =
      differs key (key_words key ws) place rest (omega (arith, key_words_len)) (λ (e : get_or (key_words key ws) place 0 ≡ packed_word rest). other (is ∙ sym (key_word_at place less) ∙ e)) h same

-- words from a place on, as they are read
module _ (begin : ℕ) (ws : List ℕ) where
  abbrev rest_of : List ℕ
  rest_of = drop begin ws

  pub fit_more : (place word : ℕ) → word < 2 ^ 64 → word ≡ get_or ws (begin + place) 0 → ((k : ℕ) → k < place → get_or rest_of k 0 < 2 ^ 64) → (k : ℕ) → k < place + 1 → get_or rest_of k 0 < 2 ^ 64
  fit_more place word fits is h k less =
      ⊎_elim
      (λ (below : k < place). h k below)
      (λ (not : place ≤ k).
      let here : k ≡ place = omega arith in
      let same : get_or rest_of k 0 ≡ word = ap (λ (n : ℕ). get_or rest_of n 0) here ∙ get_or-drop begin ws place 0 ∙ sym is in
      subst (λ (n : ℕ). n < 2 ^ 64) (sym same) fits)
      (cases_lt k place)

  pub all_fit : (place : ℕ) → length ws ≤ begin + place → ((k : ℕ) → k < place → get_or rest_of k 0 < 2 ^ 64) → AreWords rest_of
  all_fit place ended h k =
      ⊎_elim
      (λ (below : k < place). h k below)
      (λ (past : place ≤ k). subst (λ (n : ℕ). n < 2 ^ 64) (sym (get_or_past rest_of k 0 (omega (arith, length-drop begin ws)))) (lit< tt))
      (cases_lt k place)

  pub put_next : (old : List ℕ) (count : ℕ) (now new : List ℕ) (left next place word : ℕ) → begin + place < length ws → word ≡ get_or ws (begin + place) 0 → new ≡ now ++ take left (bytes_of_word word) → next ≡ left - 8 → ArePut old count rest_of now left place → ArePut old count rest_of new next (place + 1)
  put_next old count now new left next place word less is put then h =
      let here : word ≡ get_or rest_of place 0 = is ∙ sym (get_or-drop begin ws place 0) in
      let bytes : now ++ take left (bytes_of_word (get_or rest_of place 0)) ≡ new = ap (λ (w : ℕ). now ++ take left (bytes_of_word w)) (sym here) ∙ sym put in
      subst (λ (b : List ℕ). ArePut old count rest_of b next (place + 1)) bytes
      (put_more old count rest_of now left next place (omega (arith, length-drop begin ws)) then h)

  -- a full word of the value is written over the room for it
  pub write_next : (count : ℕ) (room new : List ℕ) (place word : ℕ) → length ws ≡ begin + word_count_for count → length room ≡ count → place < count / 8 → word ≡ get_or ws (begin + place) 0 → new ≡ (take (8 * place) room ++ bytes_of_word word) ++ drop 8 (drop (8 * place) room)
      → ArePut [] count rest_of (take (8 * place) room) (count - 8 * place) place → ArePut [] count rest_of (take (8 * (place + 1)) new) (count - 8 * (place + 1)) (place + 1)
  write_next count room new place word len long less is written h =
      let front : take (8 * (place + 1)) new ≡ take (8 * place) room ++ take (count - 8 * place) (bytes_of_word word) =
      ap (λ (b : List ℕ). take (8 * (place + 1)) b) (written ∙ append_assoc (take (8 * place) room) (bytes_of_word word) (drop 8 (drop (8 * place) room)))
      ∙ take-put_mid (8 * place) 8 room (bytes_of_word word) (8 * (place + 1)) (omega (arith, length_bytes_in word)) (omega arith)
      ∙ ap (λ (b : List ℕ). take (8 * place) room ++ b) (sym (all_eight (count - 8 * place) word (omega arith))) in
      put_next [] count (take (8 * place) room) (take (8 * (place + 1)) new) (count - 8 * place) (count - 8 * (place + 1)) place word (omega arith) is front (omega arith) h

  -- and what is left of it
  pub write_last : (count : ℕ) (room new : List ℕ) (place word : ℕ) → length ws ≡ begin + word_count_for count → length room ≡ count → place ≡ count / 8 → 8 * place < count → word ≡ get_or ws (begin + place) 0 → new ≡ take (8 * place) room ++ take (length room - 8 * place) (bytes_of_word word)
      → ArePut [] count rest_of (take (8 * place) room) (count - 8 * place) place → new ≡ bytes_of_words count rest_of
  write_last count room new place word len long full some is written h =
      let front : new ≡ take (8 * place) room ++ take (count - 8 * place) (bytes_of_word word) = written ∙ ap (λ (n : ℕ). take (8 * place) room ++ take (n - 8 * place) (bytes_of_word word)) long in
      all_put [] count rest_of new (count - 8 * place - 8) (place + 1) (omega (arith, length-drop begin ws))
      (put_next [] count (take (8 * place) room) new (count - 8 * place) (count - 8 * place - 8) place word (omega arith) is front refl h)

  -- where nothing is left
  pub write_all : (count : ℕ) (room : List ℕ) (place : ℕ) → length ws ≡ begin + word_count_for count → length room ≡ count → place ≡ count / 8 → count ≤ 8 * place → ArePut [] count rest_of (take (8 * place) room) (count - 8 * place) place → room ≡ bytes_of_words count rest_of
  write_all count room place len long full none h =
      sym (take_all (8 * place) room (omega arith)) ∙ all_put [] count rest_of (take (8 * place) room) (count - 8 * place) place (omega (arith, length-drop begin ws)) h

-- words that aren't a packing of the key, as each test tells
module _ (key ws : List ℕ) where
  pub not_long : length ws < 2 + word_count_for (length key) → IsPackingOf key ws → ⊥
  not_long short is = let looks = looks_packed key ws is in omega (arith, looks.value.len)

  pub not_key_len : (get_or ws 0 0 ≡ length key → ⊥) → IsPackingOf key ws → ⊥
  not_key_len other is = other (looks_packed key ws is).key_len

  pub not_filled : (count : ℕ) → count ≡ get_or ws 1 0 → (FillsFrom (2 + word_count_for (length key)) count ws → ⊥) → IsPackingOf key ws → ⊥
  not_filled count is other packing = other (subst (λ (n : ℕ). FillsFrom (2 + word_count_for (length key)) n ws) (sym is) (looks_packed key ws packing).value)

  pub not_own : (key_words key ws ≡ packed_words key → ⊥) → IsPackingOf key ws → ⊥
  not_own other is = other (looks_packed key ws is).own

-- and how they are, in another hand's view that has the same words
pub filled_of : (ws known : List ℕ) (place begin count : ℕ) → known ≡ ws → place ≡ begin → FillsFrom place count known → FillsFrom begin count ws
filled_of ws known place begin count same is filled = subst (λ (n : ℕ). FillsFrom n count ws) is (subst (λ (l : List ℕ). FillsFrom place count l) same filled)

-- what the words are, once those of the value are known to be words
module _ (key ws : List ℕ) (count place : ℕ) (at : place ≡ 2 + word_count_for (length key)) (looks : LooksPacked key count ws) (fits : AreWords (drop place ws)) where
  value_fits : AreWords (value_words key ws)
  value_fits = subst (λ (n : ℕ). AreWords (drop n ws)) at fits

  pub is_of_key : IsPackingOf key ws
  is_of_key = is_packed key ws count value_fits looks

  pub puts_value : (old new : List ℕ) → new ≡ old ++ bytes_of_words count (drop place ws) → PutsValue key ws old new
  puts_value old new put =
      let value : bytes_of_words count (drop place ws) ≡ value_in ws = ap (λ (n : ℕ). bytes_of_words count (drop n ws)) at ∙ sym (value_of_looks key ws count looks) in
      (value_in ws, is_of_key, put ∙ ap (λ (b : List ℕ). old ++ b) value)
