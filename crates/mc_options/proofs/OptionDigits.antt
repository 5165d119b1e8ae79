-- Digits, as std's `parse` reads them.
use Rattle.std.proofs.Common.{◌≡◌, ◌∙◌, ℕ, ◌^◌, ◌<◌, ◌≤◌, ◌&&◌, Bool, true, List, [], ◌∷◌, length, Some, Result, Ok, Err, refl, ap, sym, arith, lit≤, lt_of_lt_of_le}
use Rattle.std.proofs.lemmas.Bool.{and_parts, cond-true, leb-true}
use Rattle.std.proofs.lemmas.Str.Parse.{IsNumeralModel, digits_value_short, numerals_by_value, tells_all_ascii_digits, parse_digits}
use Rattle.std.specs.Char.{is_ascii_digit}
use Rattle.std.specs.List.{list_all}
use Rattle.std.specs.Result.{result_ok, OkIff}
use Rattle.std.specs.Str.{all_ascii_digits}
use Rattle.std.specs.Str.Parse.{ParsesUnsigned, digits_value}
use Rattle.mc_options.specs.Options.{is_short_number, short_number_of}

-- the two words for "each byte is a digit" are one
pub list_all_digits : (word : List ℕ) → list_all is_ascii_digit word ≡ all_ascii_digits word
list_all_digits [] = refl
list_all_digits (byte ∷ word) = ap (λ (b : Bool). is_ascii_digit byte && b) (list_all_digits word)

model : IsNumeralModel (λ ds. all_ascii_digits ds ≡ true) (digits_value 10)
model = numerals_by_value _ tells_all_ascii_digits

-- five digits are a number below 100,000
small : (word : List ℕ) → all_ascii_digits word ≡ true → length word ≤ 5 → digits_value 10 word < 2 ^ 64
small word digits within_limit = lt_of_lt_of_le (digits_value_short model word 5 digits within_limit) (lit≤ tt)

from_result : {E : Type 0} (word : List ℕ) (r : Result ℕ E) → OkIff r ((0 < length word) × (digits_value 10 word < 2 ^ 64)) (digits_value 10 word) → is_short_number word ≡ true → result_ok r ≡ short_number_of word
from_result word (Ok value) h short = ap Some h.1 ∙ sym (cond-true _ _ _ short)
from_result word (Err e) h short =
    let all = and_parts _ _ short in
    let two = and_parts _ _ all.0 in
    let some : 1 ≤ length word = leb-true _ _ two.0 in
    absurd (h (omega arith, small word all.1 (leb-true _ _ two.1)))

-- what `parse` reads
pub short_number_from_parse : {E : Type 0} (word : List ℕ) (r : Result ℕ E) → ParsesUnsigned 64 10 word r → is_short_number word ≡ true → result_ok r ≡ short_number_of word
short_number_from_parse word r h short = from_result word r (parse_digits model 64 word r h (and_parts _ _ short).1) short
