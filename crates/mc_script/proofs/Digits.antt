-- Words of digits and their numbers.
use Rattle.std.proofs.Common.{◌≡◌, ℕ, ◌+◌, ◌-◌, ◌*◌, ◌^◌, ◌<◌, ◌≤◌, true, ◌&&◌, if◌then◌else◌, nat_lt, List, [], ◌∷◌, length, Option, Some, None, ap, sym, ◌∙◌, arith}
use Rattle.std.proofs.lemmas.Bool.{and_parts, and_from, false_from_ne_true, le-leb, leb-true, lt-ltb, ltb-true, cond-true, cond-false}
use Rattle.std.proofs.lemmas.Str.Parse.{IsNumeralModel, numerals_by_value, tells_all_ascii_digits}
use Rattle.std.specs.Char.{digit_value, is_ascii_digit}
use Rattle.std.specs.Str.{all_ascii_digits}
use Rattle.std.specs.Str.Parse.{digits_value, digits_value_after}
use Rattle.mc_script.specs.Words.{is_number, parsed_number}

-- the definitions are those that std's lemmas are about
pub own : IsNumeralModel (λ ds. all_ascii_digits ds ≡ true) (digits_value 10)
own = numerals_by_value _ tells_all_ascii_digits

-- what makes a number
pub number_parts : (word : List ℕ) → is_number word ≡ true → (1 ≤ length word) × (length word ≤ 20) × (all_ascii_digits word ≡ true) × (digits_value 10 word < 2 ^ 64)
number_parts word h =
    let all = and_parts _ _ h in
    let three = and_parts _ _ all.0 in
    let two = and_parts _ _ three.0 in
    (leb-true _ _ two.0, leb-true _ _ two.1, three.1, ltb-true _ _ all.1)

-- and these make a number
pub number_from_parts : (word : List ℕ) → 1 ≤ length word → length word ≤ 20 → all_ascii_digits word ≡ true → digits_value 10 word < 2 ^ 64 → is_number word ≡ true
number_from_parts word some within_limit digits fits = and_from _ _ (and_from _ _ (and_from _ _ (le-leb _ _ some) (le-leb _ _ within_limit)) digits) (lt-ltb _ _ fits)

-- a word that lacks one of these is none
pub no_number : (word : List ℕ) → (is_number word ≡ true → ⊥) → None ≡ parsed_number word
no_number word h = sym (cond-false _ _ _ (false_from_ne_true _ h))

-- a number only grows by more digits
value_grows : (n : ℕ) (digits : List ℕ) → n ≤ digits_value_after 10 n digits
value_grows n [] = omega arith
value_grows n (c ∷ digits) = let more = value_grows (n * 10 + digit_value c) digits in omega arith

-- what a digit stands for
value_of_digit : (c : ℕ) → is_ascii_digit c ≡ true → digit_value c ≡ c - 48
value_of_digit c h = grind arith

-- a number and one digit more, where it isn't too great
abbrev pub with_digit : ℕ → ℕ → Option ℕ
with_digit value c = if is_ascii_digit c && nat_lt (value * 10 + (c - 48)) (2 ^ 64) then Some (value * 10 + (c - 48)) else None

-- a byte that is no digit, or makes it too great: the word is no number
pub stops_there : (value c : ℕ) (rest word : List ℕ) → None ≡ with_digit value c → all_ascii_digits (c ∷ rest) ≡ all_ascii_digits word
    → digits_value_after 10 value (c ∷ rest) ≡ digits_value 10 word → None ≡ parsed_number word
stops_there value c rest word none digits told =
    no_number word (λ is.
    let parts = number_parts word is in
    let is_digit : is_ascii_digit c ≡ true = (and_parts _ _ (digits ∙ parts.2)).0 in
    let grows = value_grows (value * 10 + digit_value c) rest in
    let same = value_of_digit c is_digit in
    let below : value * 10 + (c - 48) < 2 ^ 64 = omega (arith, parts.3) in
    let some = none ∙ cond-true _ (Some (value * 10 + (c - 48))) None (and_from _ _ is_digit (lt-ltb _ _ below)) in
    cc)

-- all bytes are read
pub all_read : (value : ℕ) (rest word : List ℕ) → rest ≡ [] → 0 < length word → length word ≤ 20 → value < 2 ^ 64 → all_ascii_digits rest ≡ all_ascii_digits word
    → digits_value_after 10 value rest ≡ digits_value 10 word → Some value ≡ parsed_number word
all_read value rest word none some within_limit fits digits told =
    let is : value ≡ digits_value 10 word = sym (ap (digits_value_after 10 value) none) ∙ told in
    ap Some is
    ∙ sym (cond-true _ _ _ (number_from_parts word (omega arith) within_limit (sym digits ∙ ap all_ascii_digits none) (omega arith)))
