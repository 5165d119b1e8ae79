-- Words that are just those of so many bytes.
use Rattle.std.proofs.Common.{◌≡◌, ℕ, zero, suc, ◌+◌, ◌-◌, ◌/◌, ◌%◌, ◌^◌, ◌<◌, ◌≤◌, min, List, [], ◌∷◌, ◌++◌, length, take, drop, get_or, refl, ap, sym, ◌∙◌, subst, arith, ⊎_elim, length-append, append-nil}
use Rattle.std.proofs.lemmas.Bool.{cases_lt}
use Rattle.std.proofs.lemmas.List.{drop_all, drop_at, get_or_append_left, length-drop, length-take, take_all}
use Rattle.mc_packing.specs.Packing.{AreBytes, AreWordsOfBytes, bytes_of_word, bytes_of_words, packed_word, word_count_for, packed_words_from}
use Rattle.mc_packing.proofs.Bytes.{bytes_drop, bytes_of_bytes, length_bytes_in, length_words_from, no_bytes, same_word, word_again, word_of_eight, word_unpacks}

-- the same word by word: each has its bytes and no more
pub Whole : ℕ → List ℕ → Type 0
Whole count [] = count ≡ 0
Whole count (word ∷ words) = (0 < count) × (packed_word (take count (bytes_of_word word)) ≡ word) × Whole (count - 8) words

length_front : (count word : ℕ) → length (take count (bytes_of_word word)) ≡ min count 8
length_front count word = length-take count (bytes_of_word word) ∙ ap (λ (n : ℕ). min count n) (length_bytes_in word)

whole_bytes : (words : List ℕ) (count : ℕ) → Whole count words → length (bytes_of_words count words) ≡ count
unfolding Whole bytes_of_words
whole_bytes [] count h = sym h
whole_bytes (word ∷ words) count h =
    let rest = whole_bytes words (count - 8) h.2 in
    omega (arith, length-append (take count (bytes_of_word word)) (bytes_of_words (count - 8) words), length_front count word)

-- what follows a word's bytes
rest_of : (words : List ℕ) (count word : ℕ) → drop 8 (take count (bytes_of_word word) ++ bytes_of_words (count - 8) words) ≡ bytes_of_words (count - 8) words
rest_of words count word =
    ⊎_elim
    (λ (within_limit : count < 8).
    let none : count - 8 ≡ 0 = omega arith in
    let nil : bytes_of_words (count - 8) words ≡ [] = ap (λ (k : ℕ). bytes_of_words k words) none ∙ no_bytes words in
    ap (λ (more : List ℕ). drop 8 (take count (bytes_of_word word) ++ more)) nil
    ∙ drop_all 8 (take count (bytes_of_word word) ++ []) (omega (arith, length-append {A = ℕ} (take count (bytes_of_word word)) [], length_front count word)) ∙ sym nil)
    (λ (at_limit : 8 ≤ count). drop_at (take count (bytes_of_word word)) (bytes_of_words (count - 8) words) 8 (omega (arith, length_front count word)))
    (cases_lt count 8)

first_of : (words : List ℕ) (count word : ℕ) → packed_word (take count (bytes_of_word word) ++ bytes_of_words (count - 8) words) ≡ packed_word (take count (bytes_of_word word))
first_of words count word =
    ⊎_elim
    (λ (within_limit : count < 8).
    let none : count - 8 ≡ 0 = omega arith in
    let nil : bytes_of_words (count - 8) words ≡ [] = ap (λ (k : ℕ). bytes_of_words k words) none ∙ no_bytes words in
    ap (λ (more : List ℕ). packed_word (take count (bytes_of_word word) ++ more)) nil ∙ ap packed_word (append-nil (take count (bytes_of_word word))))
    (λ (at_limit : 8 ≤ count).
    same_word (take count (bytes_of_word word) ++ bytes_of_words (count - 8) words) (take count (bytes_of_word word))
    (λ i less. get_or_append_left (take count (bytes_of_word word)) (bytes_of_words (count - 8) words) 0 i (omega (arith, length_front count word))))
    (cases_lt count 8)

whole_again : (words : List ℕ) (count : ℕ) → Whole count words → packed_words_from (word_count_for count) (bytes_of_words count words) ≡ words
unfolding Whole bytes_of_words packed_words_from
whole_again [] count h = let none : word_count_for count ≡ 0 = omega arith in ap (λ (k : ℕ). packed_words_from k []) none
whole_again (word ∷ words) count h =
    let bytes : List ℕ = take count (bytes_of_word word) ++ bytes_of_words (count - 8) words in
    let more : word_count_for count ≡ suc (word_count_for (count - 8)) = omega (arith, h.0) in
    let rest : packed_words_from (word_count_for (count - 8)) (drop 8 bytes) ≡ words = ap (λ (b : List ℕ). packed_words_from (word_count_for (count - 8)) b) (rest_of words count word) ∙ whole_again words (count - 8) h.2 in
    let first : packed_word bytes ≡ word = first_of words count word ∙ h.1 in
    ap (λ (k : ℕ). packed_words_from k bytes) more ∙ (λ i. first i ∷ rest i)

-- the words of bytes are whole
pub whole_words_of : (n : ℕ) (b : List ℕ) → AreBytes b → n ≡ word_count_for (length b) → Whole (length b) (packed_words_from n b)
unfolding Whole packed_words_from
whole_words_of zero b h is = omega arith
whole_words_of (suc n) b h is =
    let len : length (drop 8 b) ≡ length b - 8 = length-drop 8 b in
    let rest : Whole (length (drop 8 b)) (packed_words_from n (drop 8 b)) = whole_words_of n (drop 8 b) (bytes_drop 8 b h) (omega arith) in
    (omega arith, ap packed_word (word_unpacks b h) ∙ word_of_eight b, subst (λ (k : ℕ). Whole k (packed_words_from n (drop 8 b))) len rest)

pub are_whole : (words : List ℕ) (count : ℕ) → Whole count words → AreWordsOfBytes count words
are_whole words count h =
    let len = whole_bytes words count h in
    (sym (ap (λ (k : ℕ). packed_words_from (word_count_for k) (bytes_of_words count words)) len ∙ whole_again words count h), len)

pub from_whole : (words : List ℕ) (count : ℕ) → AreWordsOfBytes count words → Whole count words
from_whole words count h =
    let b : List ℕ = bytes_of_words count words in
    let whole : Whole (length b) (packed_words_from (word_count_for (length b)) b) = whole_words_of (word_count_for (length b)) b (bytes_of_bytes words count) refl in
    subst (λ (k : ℕ). Whole k words) h.1 (subst (λ (ws : List ℕ). Whole (length b) ws) (sym h.0) whole)

pub length_whole : (words : List ℕ) (count : ℕ) → Whole count words → length words ≡ word_count_for count
length_whole words count h = sym (ap length (whole_again words count h)) ∙ length_words_from (word_count_for count) (bytes_of_words count words)

-- the test of the last word alone, where it has fewer than eight bytes
pub EndsWhole : ℕ → List ℕ → Type 0
EndsWhole count words = 0 < count % 8 → packed_word (take (count % 8) (bytes_of_word (get_or words (count / 8) 0))) ≡ get_or words (count / 8) 0

last_at : ℕ → ℕ → List ℕ → Type 0
last_at more full words = packed_word (take more (bytes_of_word (get_or words full 0))) ≡ get_or words full 0

next_end : (word : ℕ) (words : List ℕ) (count : ℕ) → (count - 8) % 8 ≡ count % 8 → count / 8 ≡ suc ((count - 8) / 8) → last_at (count % 8) (count / 8) (word ∷ words) → last_at ((count - 8) % 8) ((count - 8) / 8) words
unfolding last_at
next_end word words count more full h = subst (λ (m : ℕ). last_at m ((count - 8) / 8) words) (sym more) (subst (λ (f : ℕ). last_at (count % 8) f (word ∷ words)) full h)

this_end : (word : ℕ) (words : List ℕ) (count : ℕ) → (count - 8) % 8 ≡ count % 8 → count / 8 ≡ suc ((count - 8) / 8) → last_at ((count - 8) % 8) ((count - 8) / 8) words → last_at (count % 8) (count / 8) (word ∷ words)
unfolding last_at
this_end word words count more full h = subst (λ (f : ℕ). last_at (count % 8) f (word ∷ words)) (sym full) (subst (λ (m : ℕ). last_at m ((count - 8) / 8) words) more h)

pub whole_by_end : (words : List ℕ) (count : ℕ) → ((k : ℕ) → get_or words k 0 < 2 ^ 64) → length words ≡ word_count_for count → EndsWhole count words → Whole count words
unfolding Whole EndsWhole last_at
whole_by_end [] count fits len ends = omega arith
whole_by_end (word ∷ words) count fits len ends =
    let some : 0 < count = omega arith in
    let fewer : length words ≡ word_count_for (count - 8) = omega arith in
    ⊎_elim
    (λ (within_limit : count < 8).
    let more : count % 8 ≡ count = omega arith in
    let full : count / 8 ≡ 0 = omega arith in
    let own : packed_word (take count (bytes_of_word word)) ≡ word = rw (full, more) at (ends (omega arith)) in
    (some, own, whole_by_end words (count - 8) (λ k. fits (suc k)) fewer (λ left. absurd (omega arith))))
    (λ (at_limit : 8 ≤ count).
    let more : (count - 8) % 8 ≡ count % 8 = omega arith in
    let full : count / 8 ≡ suc ((count - 8) / 8) = omega arith in
    let own : packed_word (take count (bytes_of_word word)) ≡ word = ap packed_word (take_all count (bytes_of_word word) (omega (arith, length_bytes_in word))) ∙ word_again word (fits 0) in
    let next : EndsWhole (count - 8) words = λ left. next_end word words count more full (ends (omega arith)) in
    (some, own, whole_by_end words (count - 8) (λ k. fits (suc k)) fewer next))
    (cases_lt count 8)

pub end_of_whole : (words : List ℕ) (count : ℕ) → Whole count words → EndsWhole count words
unfolding Whole EndsWhole last_at
end_of_whole [] count h = λ left. absurd (omega arith)
end_of_whole (word ∷ words) count h =
    ⊎_elim
    (λ (within_limit : count < 8).
    let more : count % 8 ≡ count = omega arith in
    let full : count / 8 ≡ 0 = omega arith in
    λ left. rw (full, more) (h.1))
    (λ (at_limit : 8 ≤ count).
    let more : (count - 8) % 8 ≡ count % 8 = omega arith in
    let full : count / 8 ≡ suc ((count - 8) / 8) = omega arith in
    let next : EndsWhole (count - 8) words = end_of_whole words (count - 8) h.2 in
    λ left. this_end word words count more full (next (omega arith)))
    (cases_lt count 8)

-- the ways out of the test
module _ (words : List ℕ) (count : ℕ) where
  pub full : ((k : ℕ) → get_or words k 0 < 2 ^ 64) → count % 8 ≡ 0 → length words ≡ count / 8 → AreWordsOfBytes count words
  unfolding EndsWhole
  full fits none same = are_whole words count (whole_by_end words count fits (omega arith) (λ left. absurd (omega arith)))

  -- of whole words there are as many as the bytes fill
  pub as_many : AreWordsOfBytes count words → length words ≡ word_count_for count
  as_many whole = length_whole words count (from_whole words count whole)

  pub last : (word : ℕ) → ((k : ℕ) → get_or words k 0 < 2 ^ 64) → (count % 8 ≡ 0 → ⊥) → length words ≡ count / 8 + 1 → word ≡ packed_word (take (count % 8) (bytes_of_word (get_or words (count / 8) 0))) → word ≡ get_or words (count / 8) 0 → AreWordsOfBytes count words
  unfolding EndsWhole
  last word fits some len is same = are_whole words count (whole_by_end words count fits (omega arith) (λ left. sym is ∙ same))

  pub last_back : AreWordsOfBytes count words → (count % 8 ≡ 0 → ⊥) → packed_word (take (count % 8) (bytes_of_word (get_or words (count / 8) 0))) ≡ get_or words (count / 8) 0
  unfolding EndsWhole
  last_back whole some = end_of_whole words count (from_whole words count whole) (omega arith)
