-- Whole items, and the chunks that show them.
use Rattle.std.proofs.Common.{◌≡◌, ℕ, zero, suc, ◌+◌, ◌*◌, ◌<◌, ◌≤◌, min, true, List, [], ◌∷◌, length, take, refl, sym, ap, subst, ◌∙◌, arith, leb-true, le-leb, slice_get, slice_index, Some, None, Option, is_some, length-take-le, get_or-take, take_all, unwrap_or}
use Rattle.std.specs.List.{list_all, range_with_len}
use Rattle.std.proofs.lemmas.Bool.{and_parts, and_from}
use Rattle.std.proofs.lemmas.List.FromFn.{fill_by_all}
use Rattle.std.proofs.lemmas.Option.{get_or_from_slice_get}
use Rattle.mc_classes.specs.Classes.{Classes}
use Rattle.mc_pages.specs.declared.ids.ChunkId.{ChunkId}
use Rattle.mc_pages.specs.SlabState.{SlabState, class_of_page}
use Rattle.mc_core.specs.model.Holdings.{Words, word_in, stamp_in, item_length, words_of_item, has_whole_item, is_complete, all_known}
use Rattle.mc_core.specs.model.State.{State, room_in, chunk_room, word_at, item_at, page_words}
use Rattle.mc_core.specs.model.Columns.{Shows}
use Rattle.mc_core.proofs.Steps.Lists.{all_known_map}

-- all words are known, and there are as many as the item takes
pub record IsWhole (words : Words) : Type 0 where
  pub complete : is_complete words ≡ true
  pub long : length words ≡ item_length words

-- a word by its place
pub word_there : (words : Words) (place : ℕ) → list_all is_some words ≡ true → place < length words → slice_get words place ≡ Some (Some (word_in words place))
word_there [] place all within = absurd (omega arith)
word_there (None ∷ words) zero all within = absurd (cc)
word_there (Some word ∷ words) zero all within = refl
word_there (word ∷ words) (suc place) all within = word_there words place (and_parts (is_some word) (list_all is_some words) all).1 (omega arith)

-- of a whole item the item is all words
pub whole_item : (words : Words) → IsWhole words → words_of_item words ≡ words
whole_item words is = take_all (item_length words) words (let long = is.long in omega arith)

pub whole_word : (words : Words) (place : ℕ) → IsWhole words → place < length words → slice_get words place ≡ Some (Some (word_in words place))
whole_word words place is within =
    let parts = and_parts (has_whole_item words) (list_all is_some (words_of_item words)) is.complete in
    word_there words place (subst (λ (ws : Words). list_all is_some ws ≡ true) (whole_item words is) parts.1) within

-- the chunk that shows a whole item has that item
pub shown_item : (state : State) (chunk : ChunkId) (known : Words) → Shows state.table state.slabs state.words chunk known → IsWhole known → all_known (item_at state chunk) ≡ known
shown_item state chunk known shows is =
    let room = chunk_room state chunk in
    let shown = λ (place : ℕ) (within : place < length known). shows.known_words place (word_in known place) (whole_word known place is within) in
    let long = is.long in
    let last : word_at state chunk 2 ≡ word_in known 2 = shown 2 (omega arith) in
    let fit : length known ≤ room = shows.fits in
    let count : length known ≡ min (3 + word_at state chunk 2) room = omega arith in
    all_known_map (word_at state chunk) (range_with_len 0 (min (3 + word_at state chunk 2) room))
    ∙ sym (fill_by_all (λ place. Some (word_at state chunk place)) known (min (3 + word_at state chunk 2) room) None count
    (λ place within.
    let inside : place < length known = omega arith in
    get_or_from_slice_get known place (Some (word_in known place)) None (whole_word known place is inside) ∙ ap Some (sym (shown place inside))))

-- the item that a chunk's words begin with
module _ (words : Words) (complete : is_complete words ≡ true) where
  item_fits : item_length words ≤ length words
  item_fits = leb-true (item_length words) (length words) (and_parts (has_whole_item words) (list_all is_some (words_of_item words)) complete).0

  item_long : length (words_of_item words) ≡ item_length words
  item_long = length-take-le (item_length words) words item_fits

  item_word : (place : ℕ) → place < item_length words → word_in (words_of_item words) place ≡ word_in words place
  item_word place within = ap (λ w. unwrap_or w 0) (get_or-take (item_length words) words place None within)

  same_length : item_length (words_of_item words) ≡ item_length words
  same_length = ap (λ n. 3 + n) (item_word 2 (omega arith))

  -- is whole
  pub item_whole : IsWhole (words_of_item words)
  item_whole =
      let long : length (words_of_item words) ≡ item_length (words_of_item words) = item_long ∙ sym same_length in
      let all = (and_parts (has_whole_item words) (list_all is_some (words_of_item words)) complete).1 in
      let again : words_of_item (words_of_item words) ≡ words_of_item words = take_all (item_length (words_of_item words)) (words_of_item words) (omega arith) in
      record {
        complete = and_from (has_whole_item (words_of_item words)) (list_all is_some (words_of_item (words_of_item words))) (le-leb (item_length (words_of_item words)) (length (words_of_item words)) (omega arith))
            (subst (λ (ws : Words). list_all is_some ws ≡ true) (sym again) all);
        long = long;
      }

  -- and has the same stamp
  pub item_stamp : stamp_in (words_of_item words) ≡ stamp_in words
  item_stamp = item_word 1 (omega arith)

take_part : (n : ℕ) (words : Words) (place : ℕ) (word : Option ℕ) → slice_get (take n words) place ≡ Some word → slice_get words place ≡ Some word
take_part zero words place word e = absurd (cc)
take_part (suc n) [] place word e = absurd (cc)
take_part (suc n) (w ∷ words) zero word e = e
take_part (suc n) (w ∷ words) (suc place) word e = take_part n words place word e

-- the chunk shows the item, too
pub shows_item : (table : Classes) (slabs : SlabState) (words : List ℕ) (chunk : ChunkId) (known : Words) → is_complete known ≡ true → Shows table slabs words chunk known → Shows table slabs words chunk (words_of_item known)
shows_item table slabs words chunk known complete shows =
    let long = item_long known complete in let fit = item_fits known complete in let room = shows.fits in
    record { fits = omega arith; known_words = λ place word at. shows.known_words place word (take_part (item_length known) known place (Some word) at) }

-- another order of the lists, and the same class
pub shows_class : (table : Classes) (old new : SlabState) (words : List ℕ) (chunk : ChunkId) (known : Words) → class_of_page new chunk.page ≡ class_of_page old chunk.page → Shows table old words chunk known → Shows table new words chunk known
shows_class table old new words chunk known same shows = record {
  fits = subst (λ class. length known ≤ room_in table class) (sym same) shows.fits;
  known_words = λ place word at.
      ap (λ class. slice_index words (chunk.page * page_words table + chunk.index * room_in table class + place)) same ∙ shows.known_words place word at;
}
