-- Words that look like a packing.
use Rattle.std.proofs.Common.{◌≡◌, ℕ, ◌+◌, ◌-◌, ◌/◌, ◌%◌, ◌<◌, ◌≤◌, List, length, drop, get_or, refl, ap, sym, ◌∙◌, subst, arith, ⊎_elim}
use Rattle.std.proofs.lemmas.Bool.{cases_lt}
use Rattle.std.proofs.lemmas.List.{get_or-drop, length-drop}
use Rattle.mc_packing.specs.Packing.{AreWordsOfBytes, AreWords, EndsInZeros, IsPackingOf, LooksPacked, bytes_of_words, value_in, value_words, word_count_for}
use Rattle.mc_packing.proofs.Packs.{is_packing, packing_key, packing_key_len, packing_len, packing_whole}
use Rattle.mc_packing.proofs.Whole.{as_many, full, last, last_back}

-- the last word of the value, where it is filled in part, is the last of all
last_of_value : (begin count : ℕ) (words : List ℕ) → length words ≡ begin + word_count_for count → 0 < count % 8 → get_or (drop begin words) (count / 8) 0 ≡ get_or words (length words - 1) 0
last_of_value begin count words len some =
    let place : begin + count / 8 ≡ length words - 1 = omega arith in
    get_or-drop begin words (count / 8) 0 ∙ ap (λ (k : ℕ). get_or words k 0) place

module _ (key words : List ℕ) where
  abbrev begin : ℕ
  begin = 2 + word_count_for (length key)

  pub looks_packed : IsPackingOf key words → LooksPacked key (get_or words 1 0) words
  looks_packed is =
      let count : ℕ = get_or words 1 0 in
      let whole : AreWordsOfBytes count (drop begin words) = packing_whole key words is in
      let at_limit : length (drop begin words) ≡ word_count_for count = as_many (drop begin words) count whole in
      let long = packing_len key words is in
      let len : length words ≡ begin + word_count_for count = omega (arith, length-drop begin words) in
      record {
        key_len = packing_key_len key words is;
        value_len = refl;
        own = packing_key key words is;
        value = record {
          len = len;
          zeros = λ some.
              let same : get_or (drop begin words) (count / 8) 0 ≡ get_or words (length words - 1) 0 = last_of_value begin count words len some in
              subst (λ (word : ℕ). EndsInZeros (count % 8) word) same (last_back (drop begin words) count whole (λ none. absurd (omega arith)));
        };
      }

  pub is_packed : (count : ℕ) → AreWords (value_words key words) → LooksPacked key count words → IsPackingOf key words
  is_packed count fits looks =
      let long : length (drop begin words) ≡ word_count_for count = omega (arith, length-drop begin words, looks.value.len) in
      let whole : AreWordsOfBytes count (drop begin words) =
      ⊎_elim
      (λ (none : count % 8 < 1). full (drop begin words) count fits (omega arith) (omega arith))
      (λ (some : 1 ≤ count % 8).
      let same : get_or (drop begin words) (count / 8) 0 ≡ get_or words (length words - 1) 0 = last_of_value begin count words looks.value.len some in
      let ends : EndsInZeros (count % 8) (get_or (drop begin words) (count / 8) 0) = subst (λ (word : ℕ). EndsInZeros (count % 8) word) (sym same) (looks.value.zeros some) in
      last (drop begin words) count (get_or (drop begin words) (count / 8) 0) fits (λ none. omega arith) (omega arith) (sym ends) refl)
      (cases_lt (count % 8) 1) in
      is_packing key words (omega (arith, looks.value.len)) looks.key_len looks.own (subst (λ (n : ℕ). AreWordsOfBytes n (drop begin words)) (sym looks.value_len) whole)

  pub value_of_looks : (count : ℕ) → LooksPacked key count words → value_in words ≡ bytes_of_words count (value_words key words)
  value_of_looks count looks =
      ap (λ (n : ℕ). bytes_of_words (get_or words 1 0) (drop (2 + word_count_for n) words)) looks.key_len ∙ ap (λ (n : ℕ). bytes_of_words n (drop begin words)) looks.value_len
