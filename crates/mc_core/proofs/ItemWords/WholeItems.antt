-- Whole items: the words of a chunk's item, as they are read and as they were filled.
use Rattle.std.proofs.Common.{◌≡◌, ℕ, zero, suc, ◌+◌, ◌≤◌, true, List, [], ◌∷◌, length, map, min, take, Some, None, Option, refl, ap, ◌∙◌, arith, slice_get, is_some, unwrap_or, le-leb, leb-true, sym, subst}
use Rattle.std.specs.List.{range_with_len, list_all}
use Rattle.std.proofs.lemmas.Bool.{and_parts, and_from}
use Rattle.std.proofs.lemmas.List.{length-take-le, get_or-take, get_or-map, take_all}
use Rattle.std.proofs.lemmas.List.FromFn.{length-map-range_with_len, length-range_with_len, get_or-range_with_len}
use Rattle.mc_pages.specs.declared.ids.ChunkId.{ChunkId}
use Rattle.mc_pages.specs.SlabState.{class_of_page}
use Rattle.mc_core.specs.model.Holdings.{Words, word_in, item_length, words_of_item, has_whole_item, is_complete, all_known}
use Rattle.mc_core.specs.model.State.{State, room_in, word_at, item_at}
use Rattle.mc_core.specs.model.Columns.{Shows}
use Rattle.mc_core.proofs.Steps.Lists.{all_known_map}

-- as many words as the item takes, all of them known
abbrev pub IsWhole : Words → Type 0
IsWhole words = (length words ≡ item_length words) × (is_complete words ≡ true)

whole_from : (words : Words) → length words ≡ item_length words → list_all is_some words ≡ true → IsWhole words
whole_from words long known =
    (long, and_from _ _ (le-leb (item_length words) (length words) (omega arith)) (ap (list_all is_some) (take_all (item_length words) words (omega arith)) ∙ known))

-- the words that were filled, as far as the item goes
pub filled_whole : (words : Words) → is_complete words ≡ true → IsWhole (words_of_item words) × (length (words_of_item words) ≤ length words)
filled_whole words complete =
    let parts = and_parts (has_whole_item words) (list_all is_some (words_of_item words)) complete in
    let enough = leb-true (item_length words) (length words) parts.0 in
    let long = length-take-le (item_length words) words enough in
    let same : word_in (words_of_item words) 2 ≡ word_in words 2 = ap (λ (o : Option ℕ). unwrap_or o 0) (get_or-take (item_length words) words 2 None (omega arith)) in
    (whole_from (words_of_item words) (omega arith) parts.1, omega arith)

-- a word of the front is a word of the whole
pub in_front : (n : ℕ) (words : Words) (place word : ℕ) → slice_get (take n words) place ≡ Some (Some word) → slice_get words place ≡ Some (Some word)
in_front zero words place word at = absurd (cc)
in_front (suc n) [] place word at = at
in_front (suc n) (first ∷ words) zero word at = at
in_front (suc n) (first ∷ words) (suc place) word at = in_front n words place word at

each_known : (f : ℕ → ℕ) (places : List ℕ) → list_all is_some (map (λ place. Some (f place)) places) ≡ true
each_known f [] = refl
each_known f (place ∷ places) = each_known f places

read_at : (f : ℕ → ℕ) (from n place word : ℕ) → slice_get (map (λ place. Some (f place)) (range_with_len from n)) place ≡ Some (Some word) → f (from + place) ≡ word
read_at f from zero place word at = absurd (cc)
read_at f from (suc n) zero word at = let here : f from ≡ word = cc in let same : from + 0 ≡ from = omega arith in ap f same ∙ here
read_at f from (suc n) (suc place) word at = let same : from + suc place ≡ from + 1 + place = omega arith in ap f same ∙ read_at f (from + 1) n place word at

-- the words that are read
module _ (f : ℕ → ℕ) (room : ℕ) (fit : 3 + f 2 ≤ room) where
  abbrev words : Words
  words = map (λ place. Some (f place)) (range_with_len 0 (min (3 + f 2) room))

  long : length words ≡ 3 + f 2
  long = let all = length-map-range_with_len (λ place. Some (f place)) 0 (min (3 + f 2) room) in omega arith

  third : word_in words 2 ≡ f 2
  third =
      let places = range_with_len 0 (min (3 + f 2) room) in
      let count = length-range_with_len 0 (min (3 + f 2) room) in
      let at = get_or-range_with_len 0 (min (3 + f 2) room) 2 0 (omega arith) in
      ap (λ (o : Option ℕ). unwrap_or o 0) (get_or-map (λ place. Some (f place)) places 2 0 None (omega arith)) ∙ ap f at

  pub read_whole : IsWhole words
  read_whole = let all = long in let last = third in whole_from words (omega arith) (each_known f (range_with_len 0 (min (3 + f 2) room)))

-- the item in a chunk is whole, and the chunk's words
pub item_whole : (state : State) (chunk : ChunkId) → 3 + word_at state chunk 2 ≤ room_in state.table (class_of_page state.slabs chunk.page) → IsWhole (all_known (item_at state chunk))
item_whole state chunk fit = subst IsWhole (sym (all_known_map (word_at state chunk) (range_with_len 0 (min (3 + word_at state chunk 2) (room_in state.table (class_of_page state.slabs chunk.page))))))
    (read_whole (word_at state chunk) (room_in state.table (class_of_page state.slabs chunk.page)) fit)

pub item_shows : (state : State) (chunk : ChunkId) → 3 + word_at state chunk 2 ≤ room_in state.table (class_of_page state.slabs chunk.page) → Shows state.table state.slabs state.words chunk (all_known (item_at state chunk))
item_shows state chunk fit = subst (Shows state.table state.slabs state.words chunk) (sym (all_known_map (word_at state chunk) (range_with_len 0 (min (3 + word_at state chunk 2) (room_in state.table (class_of_page state.slabs chunk.page)))))) (record {
  fits = let all = long (word_at state chunk) (room_in state.table (class_of_page state.slabs chunk.page)) fit in omega arith;
  known_words = λ place word at. ap (word_at state chunk) (zero_less place) ∙ read_at (word_at state chunk) 0 (min (3 + word_at state chunk 2) (room_in state.table (class_of_page state.slabs chunk.page))) place word at;
})
  where
    zero_less : (place : ℕ) → place ≡ 0 + place
    zero_less place = omega arith
