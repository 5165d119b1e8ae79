-- Known words as numbers, and back.
use Rattle.std.proofs.Common.{◌≡◌, ℕ, zero, suc, true, List, [], ◌∷◌, length, Some, None, refl, ap, ◌∙◌, arith, slice_index, is_some, unwrap_or, le-leb, ◌≢◌, ◌&&◌, false, nat_eq}
use Rattle.std.specs.List.{list_all}
use Rattle.std.specs.Option.{option_eq}
use Rattle.std.proofs.lemmas.Bool.{and_from}
use Rattle.std.proofs.lemmas.List.{length-map, take_all}
use Rattle.mc_core.specs.model.Holdings.{Words, all_known, numbers_of_known, word_in, length_of_item, item_length, words_of_item}
use Rattle.mc_core.specs.run.Items.{are_same}
use Rattle.mc_core.proofs.ItemWords.ShownItems.{IsWhole}

pub numbers_known : (item : List ℕ) → numbers_of_known (all_known item) ≡ item
numbers_known [] = refl
numbers_known (word ∷ item) = ap (λ rest. word ∷ rest) (numbers_known item)

pub known_numbers : (words : Words) → list_all is_some words ≡ true → all_known (numbers_of_known words) ≡ words
known_numbers [] all = refl
known_numbers (None ∷ words) all = absurd (cc)
known_numbers (Some word ∷ words) all = ap (λ (rest : Words). Some word ∷ rest) (known_numbers words all)

pub numbers_at : (words : Words) (place : ℕ) → slice_index (numbers_of_known words) place ≡ word_in words place
numbers_at [] place = refl
numbers_at (word ∷ words) zero = refl
numbers_at (word ∷ words) (suc place) = numbers_at words place

pub known_at : (item : List ℕ) (place : ℕ) → word_in (all_known item) place ≡ slice_index item place
known_at [] place = refl
known_at (word ∷ item) zero = refl
known_at (word ∷ item) (suc place) = known_at item place

pub numbers_long : (words : Words) → length (numbers_of_known words) ≡ length words
numbers_long words = length-map words (λ word. unwrap_or word 0)

pub known_long : (item : List ℕ) → length (all_known item) ≡ length item
known_long item = length-map item (λ word. Some word)

each_known : (item : List ℕ) → list_all is_some (all_known item) ≡ true
each_known [] = refl
each_known (word ∷ item) = each_known item

-- an item that has as many words as it takes is whole
pub whole_known : (item : List ℕ) → length item ≡ length_of_item item → IsWhole (all_known item)
whole_known item long =
    let count = known_long item in
    let third = known_at item 2 in
    let all : words_of_item (all_known item) ≡ all_known item = take_all (item_length (all_known item)) (all_known item) (omega arith) in
    record {
      complete = and_from _ _ (le-leb (item_length (all_known item)) (length (all_known item)) (omega arith)) (ap (list_all is_some) all ∙ each_known item);
      long = omega arith;
    }

-- and so it is of known words
pub known_whole : (item : List ℕ) → length (all_known item) ≡ item_length (all_known item) → length item ≡ length_of_item item
known_whole item long = let count = known_long item in let third = known_at item 2 in omega arith

-- and a whole one has as many
pub numbers_whole : (words : Words) → length words ≡ item_length words → length (numbers_of_known words) ≡ length_of_item (numbers_of_known words)
numbers_whole words long = let count = numbers_long words in let third = numbers_at words 2 in omega arith

-- words are an item's only where they are as many
pub other_length : (words : Words) (item : List ℕ) → length words ≢ length item → false ≡ are_same words item
other_length [] [] other = absurd (other refl)
other_length [] (number ∷ item) other = refl
other_length (word ∷ words) [] other = refl
other_length (word ∷ words) (number ∷ item) other =
    elim (option_eq nat_eq word (Some number)) as (λ b. false ≡ (b && are_same words item)) [
      | true ↦ other_length words item (λ e. other (ap suc e))
      | false ↦ refl
    ]
