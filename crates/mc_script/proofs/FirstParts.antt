-- The first word of a line, and the words behind it.
use Rattle.std.proofs.Common.{◌≡◌, ℕ, suc, zero, ◌+◌, ◌==◌, ◌<◌, ◌≤◌, Bool, true, false, not, cond, filter, List, [], ◌∷◌, length, take, drop, map, ◌++◌, Some, None, refl, ap, ap₂, sym, ◌∙◌, inl, inr, subst, unwrap_or, arith}
use Rattle.std.proofs.Math.ListN.{get_or, set, drop_of_length-le}
use Rattle.std.proofs.Math.Seq.{drop-cons, take-append_seam}
use Rattle.std.proofs.lemmas.Bool.{cases_lt, cond-true, ltb-true, ltb-false}
use Rattle.std.proofs.lemmas.Grind.{take-set_at}
use Rattle.std.proofs.lemmas.List.{append-nil, append_assoc, map_push, take_all, length-take-le, length-drop, get_or-drop}
use Rattle.std.proofs.lemmas.List.Splits.{slice_split_first, slice_split_none}
use Rattle.std.proofs.lemmas.List.Sums.{fails_before_first, passes_at_first, position_or_len_is}
use Rattle.std.proofs.lemmas.Option.{cond_some}
use Rattle.std.specs.List.{slice_split, onto_first, position, position_or_len}
use Rattle.mc_script.specs.Words.{line_words}

abbrev is_space : ℕ → Bool
is_space byte = byte == 32

abbrev is_other : ℕ → Bool
is_other byte = not (byte == 32)

abbrev with_letters : List (List ℕ) → List (List ℕ)
with_letters parts = filter (λ word. not (length word == 0)) parts

not_is : (b : Bool) → not b ≡ false → b ≡ true
not_is true h = refl
not_is false h = absurd (cc)

is_not : (b : Bool) → not b ≡ true → b ≡ false
is_not true h = absurd (cc)
is_not false h = refl

-- a space in front makes no word
space_front : (byte : ℕ) (line : List ℕ) → (byte == 32) ≡ true → line_words (byte ∷ line) ≡ line_words line
space_front byte line passes = ap (λ b. with_letters (cond b ([] ∷ slice_split is_space line) (onto_first byte (slice_split is_space line)))) passes

-- spaces in front make none
spaces_front : (start : ℕ) (line : List ℕ) → ((k : ℕ) → k < start → (get_or line k 0 == 32) ≡ true) → start ≤ length line → line_words line ≡ line_words (drop start line)
spaces_front zero line all within = refl
spaces_front (suc n) [] all within = absurd (omega arith)
spaces_front (suc n) (byte ∷ line) all within = space_front byte line (all 0 (omega arith)) ∙ spaces_front n line (λ k lt. all (suc k) (omega arith)) (omega arith)

-- a position is missing only where the test failed
not_found : (found : Bool) (at : ℕ) → cond found (Some at) None ≡ None → found ≡ false
not_found true at h = absurd (cc)
not_found false at h = refl

-- a line with nothing but spaces has no words
pub no_words : (line : List ℕ) → position is_other line ≡ None → line_words line ≡ []
no_words line none =
    let past = ltb-false _ _ (not_found _ _ none) in
    spaces_front (length line) line (λ k lt. not_is _ (fails_before_first is_other line k 0 (omega arith))) (omega arith)
    ∙ ap line_words (drop_of_length-le line (omega arith))

-- what stands before the first word doesn't count
pub words_from_start : (line : List ℕ) (start : ℕ) → position is_other line ≡ Some start →
    (line_words line ≡ line_words (drop start line)) × (start < length line) × ((get_or line start 0 == 32) ≡ false)
words_from_start line start some =
    let found = cond_some _ _ _ some in
    let within = ltb-true _ _ found.0 in (
      spaces_front start line (λ k lt. not_is _ (fails_before_first is_other line k 0 (let same = found.1 in omega arith))) (let same = found.1 in omega arith),
      (let same = found.1 in omega arith),
      is_not _ (subst (λ (n : ℕ). not (get_or line n 0 == 32) ≡ true) found.1 (passes_at_first is_other line 0 within)),
    )

-- a word has a letter
has_letter : (from : List ℕ) (n : ℕ) → (n < length from → (get_or from n 0 == 32) ≡ true) → 0 < length from → (get_or from 0 0 == 32) ≡ false → 0 < n
has_letter from zero ends some first = absurd (let yes = ends some in cc)
has_letter from (suc n) ends some first = omega arith

-- the word in front goes up to the first space
pub word_front : (from : List ℕ) → 0 < length from → (get_or from 0 0 == 32) ≡ false →
    line_words from ≡ take (position_or_len is_space from) from ∷ line_words (drop (position_or_len is_space from) from)
word_front from some first =
    let n : ℕ = position_or_len is_space from in
    let letter : 0 < n = has_letter from n (passes_at_first is_space from 0) some first in
    elim (cases_lt n (length from)) [
      | inl within ↦
          let long : length (take n from) ≡ n = length-take-le n from (omega arith) in
          let behind : line_words (drop n from) ≡ line_words (drop (n + 1) from) =
          ap line_words (drop-cons from n 0 within) ∙ space_front (get_or from n 0) (drop (suc n) from) (passes_at_first is_space from 0 within)
          ∙ ap (λ (k : ℕ). line_words (drop k from)) (let e : suc n ≡ n + 1 = omega arith in e) in
          ap with_letters (slice_split_first is_space from 0 within)
          ∙ cond-true (not (length (take n from) == 0)) (take n from ∷ line_words (drop (n + 1) from)) (line_words (drop (n + 1) from)) (grind arith)
          ∙ ap (λ ws. take n from ∷ ws) (sym behind)
      | inr past ↦
          ap with_letters (slice_split_none is_space from (λ k d lt. fails_before_first is_space from k d (omega arith)))
          ∙ cond-true (not (length from == 0)) (from ∷ []) [] (grind arith)
          ∙ ap₂ (λ word rest. word ∷ line_words rest) (sym (take_all n from past)) (sym (drop_of_length-le from past))
    ]

-- where nothing passes, the length stands for the place
either : (found : Bool) (place length : ℕ) → (found ≡ false → place ≡ length) → unwrap_or (cond found (Some place) None) length ≡ place
either true place length h = refl
either false place length h = sym (h refl)

-- how many bytes stand before the first space
pub length_is : (from : List ℕ) → unwrap_or (position is_space from) (length from) ≡ position_or_len is_space from
length_is from = either _ (position_or_len is_space from) (length from) (λ none.
    let past = ltb-false _ _ none in
    position_or_len_is is_space from (length from) 0 (omega arith) (λ k lt. fails_before_first is_space from k 0 (omega arith)) (λ lt. absurd (omega arith)))

-- the next word, and what is left behind it
pub next_word : (line from : List ℕ) (start count : ℕ) → position is_other line ≡ Some start → from ≡ drop start line → count ≡ position_or_len is_space from →
    line_words line ≡ take count from ∷ line_words (drop count from)
next_word line from start count some is counted =
    let (same, within, first) = words_from_start line start some in
    let letters : (0 < length from) × ((get_or from 0 0 == 32) ≡ false) =
    subst (λ (f : List ℕ). (0 < length f) × ((get_or f 0 0 == 32) ≡ false)) (sym is)
    ((let long = length-drop start line in omega arith), ap (λ byte. byte == 32) (get_or-drop start line 0 0) ∙ ap (λ (k : ℕ). get_or line k 0 == 32) (let e : start + 0 ≡ start = omega arith in e) ∙ first) in
    same ∙ ap line_words (sym is) ∙ word_front from letters.0 letters.1
    ∙ ap (λ (n : ℕ). take n from ∷ line_words (drop n from)) (sym counted)

-- a word more, written behind those so far
pub one_more : {A B : Type 0} (f : A → B) (xs : List A) (n : ℕ) (x : A) (rest all : List B) → n < length xs → map f (take n xs) ++ f x ∷ rest ≡ all →
    map f (take (n + 1) (set xs n x)) ++ rest ≡ all
one_more f xs n x rest all within is =
    ap (λ ys. map f ys ++ rest) (take-set_at xs n (n + 1) x refl within)
    ∙ ap (λ ys. ys ++ rest) (map_push f (take n xs) x)
    ∙ append_assoc (map f (take n xs)) (f x ∷ []) rest
    ∙ is

-- the first six of a list that begins with six
pub six_first : (front rest all : List (List ℕ)) → length front ≡ 6 → front ++ rest ≡ all → front ≡ take 6 all
six_first front rest all long is = sym (subst (λ (n : ℕ). take n (front ++ rest) ≡ front) long (take-append_seam front rest)) ∙ ap (take 6) is

-- the first six of a list with no more
pub no_more : (front all : List (List ℕ)) → length front ≤ 6 → front ++ [] ≡ all → front ≡ take 6 all
no_more front all within_limit is = let same = sym (append-nil front) ∙ is in same ∙ sym (take_all 6 all (let e = ap length same in omega arith))
