-- Steps of the loops over words.
use Rattle.std.proofs.Common.{◌≡◌, ℕ, ◌+◌, ◌-◌, ◌*◌, ◌/◌, ◌<◌, ◌≤◌, List, [], ◌∷◌, ◌++◌, length, length-append, take, drop, get_or, set, ap, sym, ◌∙◌, arith, append_assoc, append-nil}
use Rattle.std.proofs.lemmas.List.{drop_all, drop_more, get_or_at, length-drop, length-take-le, set-append_right, take_all, take_more, take_more_set}
use Rattle.mc_packing.specs.Packing.{bytes_of_word, bytes_of_words, packed_word, word_count_for, packed_words_from, packed_words}
use Rattle.mc_packing.proofs.Bytes.{word_of_eight, words_step}

-- the words up to a place, and behind them those of what is left of the bytes
pub record IsWritten (bytes words : List ℕ) (place : ℕ) (rest : List ℕ) : Type 0 where
  pub all : take place words ++ packed_words_from (length words - place) rest ≡ packed_words bytes

pub none_written : (bytes words : List ℕ) → length words ≡ word_count_for (length bytes) → IsWritten bytes words 0 bytes
none_written bytes words len = record { all = ap (λ (n : ℕ). packed_words_from n bytes) (let e : length words - 0 ≡ word_count_for (length bytes) = omega arith in e) }

one_more : (words : List ℕ) (n : ℕ) (front rest all : List ℕ) → 0 < n → front ++ packed_words_from n rest ≡ all → (front ++ packed_word rest ∷ []) ++ packed_words_from (n - 1) (drop 8 rest) ≡ all
one_more words n front rest all some h = append_assoc front (packed_word rest ∷ []) (packed_words_from (n - 1) (drop 8 rest)) ∙ ap (λ (more : List ℕ). front ++ more) (sym (words_step n rest some)) ∙ h

pub same_more : (bytes words : List ℕ) (place : ℕ) (rest next : List ℕ) → place < length words → get_or words place 0 ≡ packed_word rest → next ≡ drop 8 rest → IsWritten bytes words place rest → IsWritten bytes words (place + 1) next
same_more bytes words place rest next within is then h =
    let left : length words - (place + 1) ≡ length words - place - 1 = omega arith in
    let front : take (place + 1) words ≡ take place words ++ packed_word rest ∷ [] = take_more words place 0 within ∙ ap (λ (w : ℕ). take place words ++ w ∷ []) is in
    let step = one_more words (length words - place) (take place words) rest (packed_words bytes) (omega arith) h.all in
    record { all = (λ i. front i ++ packed_words_from (left i) (then i)) ∙ step }

pub all_written : (bytes words : List ℕ) (place : ℕ) (rest : List ℕ) → length words ≤ place → IsWritten bytes words place rest → words ≡ packed_words bytes
unfolding packed_words_from
all_written bytes words place rest ended h =
    let none : length words - place ≡ 0 = omega arith in
    let gone : take place words ++ packed_words_from (length words - place) rest ≡ words ++ [] = λ i. take_all place words ended i ++ packed_words_from (none i) rest in
    sym (append-nil words) ∙ sym gone ∙ h.all

-- where the word at the place is another, the words are not those of the bytes
pub differs : (bytes words : List ℕ) (place : ℕ) (rest : List ℕ) → place < length words → (get_or words place 0 ≡ packed_word rest → ⊥) → IsWritten bytes words place rest → words ≡ packed_words bytes → ⊥
differs bytes words place rest within other h same =
    let all : words ≡ take place words ++ packed_word rest ∷ packed_words_from (length words - place - 1) (drop 8 rest) = same ∙ sym h.all ∙ ap (λ (more : List ℕ). take place words ++ more) (words_step (length words - place) rest (omega arith)) in
    other (ap (λ (ws : List ℕ). get_or ws place 0) all ∙ get_or_at (take place words) (packed_word rest) (packed_words_from (length words - place - 1) (drop 8 rest)) 0 place (length-take-le place words (omega arith)))

-- the words up to a place: with words of what is left behind them they are words of the bytes
pub record IsWrittenWhole (bytes words : List ℕ) (place : ℕ) (rest : List ℕ) : Type 0 where
  pub all : (more : ℕ) → take place words ++ packed_words_from more rest ≡ packed_words_from (place + more) bytes
  pub len : length rest + 8 * place ≡ length bytes

pub none_whole : (bytes words : List ℕ) → IsWrittenWhole bytes words 0 bytes
none_whole bytes words = record { all = λ more. ap (λ (n : ℕ). packed_words_from n bytes) (let e : more ≡ 0 + more = omega arith in e); len = omega arith }

pub whole_more : (bytes words : List ℕ) (place word : ℕ) (rest eight next : List ℕ) → place < length words → word ≡ packed_word eight → eight ≡ take 8 rest → next ≡ drop 8 rest → length next + 8 ≡ length rest → IsWrittenWhole bytes words place rest → IsWrittenWhole bytes (set words place word) (place + 1) next
whole_more bytes words place word rest eight next within is first then shorter h =
    let same : word ≡ packed_word rest = is ∙ ap packed_word first ∙ word_of_eight rest in
    let front : take (place + 1) (set words place word) ≡ take place words ++ packed_word rest ∷ [] = take_more_set words place word within ∙ ap (λ (w : ℕ). take place words ++ w ∷ []) same in
    record {
      all = λ more.
          let step : packed_words_from (more + 1) rest ≡ packed_word rest ∷ packed_words_from (more + 1 - 1) (drop 8 rest) = words_step (more + 1) rest (omega arith) in
          let back : more + 1 - 1 ≡ more = omega arith in
          let one : packed_words_from (more + 1) rest ≡ packed_word rest ∷ packed_words_from more next = step ∙ (λ i. packed_word rest ∷ packed_words_from (back i) (sym then i)) in
          let count : place + (more + 1) ≡ place + 1 + more = omega arith in
          ap (λ (f : List ℕ). f ++ packed_words_from more next) front
          ∙ append_assoc (take place words) (packed_word rest ∷ []) (packed_words_from more next)
          ∙ ap (λ (m : List ℕ). take place words ++ m) (sym one)
          ∙ h.all (more + 1)
          ∙ ap (λ (n : ℕ). packed_words_from n bytes) count;
      len = omega (arith, h.len);
    }

pub all_whole_words : (bytes words : List ℕ) (place : ℕ) (rest : List ℕ) → place ≡ length words → IsWrittenWhole bytes words place rest → (more : ℕ) → words ++ packed_words_from more rest ≡ packed_words_from (length words + more) bytes
all_whole_words bytes words place rest ended h more =
    ap (λ (f : List ℕ). f ++ packed_words_from more rest) (sym (take_all place words (omega arith))) ∙ h.all more ∙ ap (λ (n : ℕ). packed_words_from (n + more) bytes) ended

-- the whole words are all words, where behind them there is no place
pub no_part : (bytes old whole rest : List ℕ) → length old ≡ word_count_for (length bytes) → length whole ≡ length (take (length bytes / 8) old) → length (whole ++ drop (length bytes / 8) old) ≤ length bytes / 8 → ((more : ℕ) → whole ++ packed_words_from more rest ≡ packed_words_from (length (take (length bytes / 8) old) + more) bytes) → whole ++ drop (length bytes / 8) old ≡ packed_words bytes
unfolding packed_words_from
no_part bytes old whole rest len same ended h =
    let n : ℕ = length bytes / 8 in
    let front : length (take n old) ≡ n = length-take-le n old (omega arith) in
    let sum : length (whole ++ drop n old) ≡ length whole + length (drop n old) = length-append whole (drop n old) in
    let behind : length (drop n old) ≡ length old - n = length-drop n old in
    let count : length (take n old) + 0 ≡ word_count_for (length bytes) = omega arith in
    ap (λ (part : List ℕ). whole ++ part) (drop_all n old (omega arith)) ∙ h 0 ∙ ap (λ (k : ℕ). packed_words_from k bytes) count

one_at_most : (n : ℕ) (old : List ℕ) (word : ℕ) → length old ≡ n + 1 → set (drop n old) (n - n) word ≡ word ∷ []
one_at_most n old word len =
    let first : drop n old ≡ get_or old n 0 ∷ drop (n + 1) old = drop_more old n 0 (omega arith) in
    let none : drop (n + 1) old ≡ [] = drop_all (n + 1) old (omega arith) in
    let here : n - n ≡ 0 = omega arith in
    (λ i. set (first i) (here i) word) ∙ ap (λ (part : List ℕ). word ∷ part) none

-- the whole words and one word of a part are all words, where there is a place behind the whole words
pub with_part : (bytes old whole rest : List ℕ) (word : ℕ) → length old ≡ word_count_for (length bytes) → length whole ≡ length (take (length bytes / 8) old) → length bytes / 8 < length (whole ++ drop (length bytes / 8) old) → word ≡ packed_word rest → ((more : ℕ) → whole ++ packed_words_from more rest ≡ packed_words_from (length (take (length bytes / 8) old) + more) bytes) → set (whole ++ drop (length bytes / 8) old) (length bytes / 8) word ≡ packed_words bytes
unfolding packed_words_from
with_part bytes old whole rest word len same there is h =
    let n : ℕ = length bytes / 8 in
    let front : length (take n old) ≡ n = length-take-le n old (omega arith) in
    let sum : length (whole ++ drop n old) ≡ length whole + length (drop n old) = length-append whole (drop n old) in
    let behind : length (drop n old) ≡ length old - n = length-drop n old in
    let more : length old ≡ n + 1 = omega arith in
    let count : length (take n old) + 1 ≡ word_count_for (length bytes) = omega arith in
    set-append_right whole (drop n old) n n word (omega arith) (omega arith)
    ∙ ap (λ (part : List ℕ). whole ++ part) (one_at_most n old word more ∙ ap (λ (w : ℕ). w ∷ []) is)
    ∙ h 1 ∙ ap (λ (k : ℕ). packed_words_from k bytes) count

-- what was put in place so far, and behind it what is left of the words
pub record ArePut (old : List ℕ) (count : ℕ) (words now : List ℕ) (left place : ℕ) : Type 0 where
  pub all : now ++ bytes_of_words left (drop place words) ≡ old ++ bytes_of_words count words

pub put_more : (old : List ℕ) (count : ℕ) (words now : List ℕ) (left next place : ℕ) → place < length words → next ≡ left - 8 → ArePut old count words now left place → ArePut old count words (now ++ take left (bytes_of_word (get_or words place 0))) next (place + 1)
unfolding bytes_of_words
put_more old count words now left next place within is h =
    let word : ℕ = get_or words place 0 in
    let step : bytes_of_words left (drop place words) ≡ take left (bytes_of_word word) ++ bytes_of_words (left - 8) (drop (place + 1) words) = ap (λ (ws : List ℕ). bytes_of_words left ws) (drop_more words place 0 within) in
    record { all = (λ i. (now ++ take left (bytes_of_word word)) ++ bytes_of_words (is i) (drop (place + 1) words)) ∙ append_assoc now (take left (bytes_of_word word)) (bytes_of_words (left - 8) (drop (place + 1) words)) ∙ ap (λ (b : List ℕ). now ++ b) (sym step) ∙ h.all }

pub all_put : (old : List ℕ) (count : ℕ) (words now : List ℕ) (left place : ℕ) → length words ≤ place → ArePut old count words now left place → now ≡ old ++ bytes_of_words count words
unfolding bytes_of_words
all_put old count words now left place ended h = sym (append-nil now) ∙ ap (λ (ws : List ℕ). now ++ bytes_of_words left ws) (sym (drop_all place words ended)) ∙ h.all
