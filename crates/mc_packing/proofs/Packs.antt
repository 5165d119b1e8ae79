-- Packings: their parts, that they unpack, and that they are apart.
use Rattle.std.proofs.Common.{◌≡◌, ℕ, suc, ◌+◌, ◌-◌, ◌≤◌, List, [], ◌∷◌, ◌++◌, length, take, drop, get_or, set, ap, sym, ◌∙◌, subst, arith, length-append, append-nil}
use Rattle.std.proofs.lemmas.List.{drop-drop, drop_all, drop_at, drop_more, length-drop, take-append-drop, take_at, take_rest}
use Rattle.std.proofs.lemmas.Slice.{drop-put_mid, take-put_mid}
use borrow.Rule.Slice.PartMut.{post_of, put_mid}
use Rattle.mc_packing.specs.Packing.{AreBytes, AreWordsOfBytes, IsPackingOf, bytes_of_words, packed_key, packed_item, value_in, word_count_for, packed_words}
use Rattle.mc_packing.proofs.Bytes.{bytes_back, length_words_from}

pub length_packed : (key value : List ℕ) → length (packed_item key value) ≡ 2 + word_count_for (length key) + word_count_for (length value)
unfolding packed_item
length_packed key value = omega (arith, length-append (packed_words key) (packed_words value), length_words_from (word_count_for (length key)) key, length_words_from (word_count_for (length value)) value)

value_words : (key value : List ℕ) → drop (2 + word_count_for (length key)) (packed_item key value) ≡ packed_words value
unfolding packed_item
value_words key value =
    let two : 2 + word_count_for (length key) ≡ suc (suc (word_count_for (length key))) = omega arith in
    ap (λ (n : ℕ). drop n (packed_item key value)) two ∙ drop_at (packed_words key) (packed_words value) (word_count_for (length key)) (length_words_from (word_count_for (length key)) key)

back : (bytes more : List ℕ) → AreBytes bytes → bytes_of_words (length bytes) (packed_words bytes ++ more) ≡ bytes
back bytes more h = bytes_back (word_count_for (length bytes)) bytes more h (omega arith)

pub value_unpacks : (key value : List ℕ) → AreBytes value → value_in (packed_item key value) ≡ value
unfolding packed_item
value_unpacks key value h =
    ap (λ (ws : List ℕ). bytes_of_words (length value) ws) (value_words key value ∙ sym (append-nil (packed_words value))) ∙ back value [] h

pub key_unpacks : (key value : List ℕ) → AreBytes key → packed_key (packed_item key value) ≡ key
unfolding packed_item
key_unpacks key value h = back key (packed_words value) h

pub own_packing : (key value : List ℕ) → AreBytes value → IsPackingOf key (packed_item key value)
own_packing key value h = ap (packed_item key) (sym (value_unpacks key value h))

pub keys_apart : (k l v w : List ℕ) → AreBytes k → AreBytes l → packed_item k v ≡ packed_item l w → k ≡ l
keys_apart k l v w hk hl same = sym (key_unpacks k v hk) ∙ ap packed_key same ∙ key_unpacks l w hl

pub values_apart : (k l v w : List ℕ) → AreBytes v → AreBytes w → packed_item k v ≡ packed_item l w → v ≡ w
values_apart k l v w hv hw same = sym (value_unpacks k v hv) ∙ ap value_in same ∙ value_unpacks l w hw

pub one_key : (k l words : List ℕ) → AreBytes k → AreBytes l → IsPackingOf k words → IsPackingOf l words → k ≡ l
one_key k l words hk hl of_k of_l = keys_apart k l (value_in words) (value_in words) hk hl (sym of_k ∙ of_l)

-- what the test of words looks at
module _ (key words : List ℕ) where
  abbrev pub begin : ℕ
  begin = 2 + word_count_for (length key)

  pub packing_len : IsPackingOf key words → begin ≤ length words
  packing_len is = omega (arith, ap length is, length_packed key (value_in words))

  pub packing_key_len : IsPackingOf key words → get_or words 0 0 ≡ length key
  unfolding packed_item
  packing_key_len is = ap (λ (ws : List ℕ). get_or ws 0 0) is

  packing_value_len : IsPackingOf key words → get_or words 1 0 ≡ length (value_in words)
  unfolding packed_item
  packing_value_len is = ap (λ (ws : List ℕ). get_or ws 1 0) is

  pub packing_key : IsPackingOf key words → take (word_count_for (length key)) (drop 2 words) ≡ packed_words key
  unfolding packed_item
  packing_key is =
      ap (λ (ws : List ℕ). take (word_count_for (length key)) (drop 2 ws)) is
      ∙ take_at (packed_words key) (packed_words (value_in words)) (word_count_for (length key)) (length_words_from (word_count_for (length key)) key)

  pub packing_value : IsPackingOf key words → value_in words ≡ bytes_of_words (get_or words 1 0) (drop begin words)
  packing_value is = ap (λ (n : ℕ). bytes_of_words (get_or words 1 0) (drop (2 + word_count_for n) words)) (packing_key_len is)

  pub packing_whole : IsPackingOf key words → AreWordsOfBytes (get_or words 1 0) (drop begin words)
  packing_whole is =
      let value = packing_value is in
      let words_are : drop begin words ≡ packed_words (value_in words) = ap (λ (ws : List ℕ). drop begin ws) is ∙ value_words key (value_in words) in
      (words_are ∙ ap packed_words value, sym (ap length value) ∙ sym (packing_value_len is))

  pub is_packing : begin ≤ length words → get_or words 0 0 ≡ length key → take (word_count_for (length key)) (drop 2 words) ≡ packed_words key → AreWordsOfBytes (get_or words 1 0) (drop begin words) → IsPackingOf key words
  unfolding packed_item
  is_packing long key_len key_words whole =
      let value : value_in words ≡ bytes_of_words (get_or words 1 0) (drop begin words) = ap (λ (n : ℕ). bytes_of_words (get_or words 1 0) (drop (2 + word_count_for n) words)) key_len in
      let value_len : get_or words 1 0 ≡ length (value_in words) = sym whole.1 ∙ sym (ap length value) in
      let rest : drop (word_count_for (length key)) (drop 2 words) ≡ packed_words (value_in words) = drop-drop (word_count_for (length key)) 2 words ∙ whole.0 ∙ sym (ap packed_words value) in
      let two : words ≡ get_or words 0 0 ∷ get_or words 1 0 ∷ drop 2 words = drop_more words 0 0 (omega arith) ∙ ap (λ (ws : List ℕ). get_or words 0 0 ∷ ws) (drop_more words 1 0 (omega arith)) in
      let halves : drop 2 words ≡ packed_words key ++ packed_words (value_in words) = sym (take-append-drop (word_count_for (length key)) (drop 2 words)) ∙ (λ i. key_words i ++ rest i) in
      two ∙ (λ i. key_len i ∷ value_len i ∷ halves i)

  -- the same at the place where the value begins, as the test has the parts
  module _ (place : ℕ) (is : place ≡ 2 + word_count_for (length key)) where
    pub is_packing_at : place ≤ length words → get_or words 0 0 ≡ length key → take (place - 2) (drop 2 words) ≡ packed_words key → AreWordsOfBytes (get_or words 1 0) (take (length words - place) (drop place words)) → IsPackingOf key words
    is_packing_at long key_len keys whole =
        let same : place - 2 ≡ word_count_for (length key) = omega arith in
        let all : AreWordsOfBytes (get_or words 1 0) (drop place words) = subst (λ (ws : List ℕ). AreWordsOfBytes (get_or words 1 0) ws) (take_rest words place) whole in
        is_packing (omega arith) key_len (subst (λ (n : ℕ). take n (drop 2 words) ≡ packed_words key) same keys) (subst (λ (n : ℕ). AreWordsOfBytes (get_or words 1 0) (drop n words)) is all)

    pub packing_key_at : IsPackingOf key words → take (place - 2) (drop 2 words) ≡ packed_words key
    packing_key_at packing = let same : place - 2 ≡ word_count_for (length key) = omega arith in ap (λ (n : ℕ). take n (drop 2 words)) same ∙ packing_key packing

    pub packing_whole_at : IsPackingOf key words → AreWordsOfBytes (get_or words 1 0) (take (length words - place) (drop place words))
    packing_whole_at packing =
        subst (λ (ws : List ℕ). AreWordsOfBytes (get_or words 1 0) ws) (sym (take_rest words place)) (subst (λ (n : ℕ). AreWordsOfBytes (get_or words 1 0) (drop n words)) (sym is) (packing_whole packing))

-- the packing as it is written, part by part, over words that are there
pub packs : (begin : ℕ) (key value words key_words value_words : List ℕ) → begin ≡ 2 + word_count_for (length key) → length words ≡ begin + word_count_for (length value) → key_words ≡ packed_words key → value_words ≡ packed_words value
    → put_mid begin (length (put_mid 2 (begin - 2) (set (set words 0 (length key)) 1 (length value)) key_words) - begin) (put_mid 2 (begin - 2) (set (set words 0 (length key)) 1 (length value)) key_words) value_words ≡ packed_item key value
unfolding packed_item
packs begin key value [] kw vw is len key_is value_is = absurd (omega arith)
packs begin key value (a ∷ []) kw vw is len key_is value_is = absurd (omega arith)
packs begin key value (a ∷ b ∷ rest) kw vw is len key_is value_is =
    let two : List ℕ = length key ∷ length value ∷ rest in
    let all : List ℕ = put_mid 2 (begin - 2) two kw in
    let key_len : length kw ≡ word_count_for (length key) = ap length key_is ∙ length_words_from (word_count_for (length key)) key in
    let front : take begin all ≡ take 2 two ++ kw = take-put_mid 2 (begin - 2) two kw begin (omega arith) (omega arith) in
    let behind : drop begin all ≡ drop begin two = drop-put_mid 2 (begin - 2) two kw begin (omega arith) (omega arith) (omega arith) in
    let none : post_of begin (length all - begin) all ≡ [] = drop_all (length all - begin) (drop begin all) (omega (arith, length-drop begin all)) in
    (λ i. front i ++ (vw ++ none i)) ∙ (λ i. length key ∷ length value ∷ (key_is i ++ append-nil vw i)) ∙ ap (λ (ws : List ℕ). length key ∷ length value ∷ (packed_words key ++ ws)) value_is
