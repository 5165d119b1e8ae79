-- The number that a count returns.
use Rattle.std.proofs.Common.{◌≡◌, ◌∙◌, ◌^◌, ◌<◌, ℕ, Bool, true, false, List, Option, None, Some, Result, Ok, Err, IfErr, IfOk, IfSome, ap, arith, if◌then◌else◌, refl, subst, sym}
use Rattle.std.proofs.lemmas.Bool.{and_from, and_parts, cond-true, le-leb, lt-ltb, ltb-true}
use Rattle.std.proofs.lemmas.Fmt.{decimal_nonempty, digits_decimal, digits_value-decimal, length-decimal-le}
use Rattle.std.proofs.lemmas.Str.Parse.{IsNumeralModel, numerals_by_value, tells_all_ascii_digits}
use Rattle.std.specs.Fmt.{decimal}
use Rattle.std.specs.Option.{option_map}
use Rattle.std.specs.Str.{all_ascii_digits}
use Rattle.std.specs.Str.Parse.{digits_value}
use Rattle.mc_script.specs.Words.{is_number, parsed_number}
use Rattle.mc_cache.specs.declared.cache.Cache.{Cache}
use Rattle.mc_cache.specs.declared.cache.Worker.{Worker}
use Rattle.mc_update.specs.Changes.{changed_by, digits_after}
use Rattle.mc_update.specs.Counting.{ReturnsNumber}
use Rattle.mc_update.specs.Updates.{ChangesValue}
use Rattle.mc_update.specs.declared.change.Change.{Change}
use Rattle.mc_update.specs.declared.updater.ChangeError.{ChangeError}

-- the definitions of numbers are those that std's lemmas are about
own : IsNumeralModel (λ ds. all_ascii_digits ds ≡ true) (digits_value 10)
own = numerals_by_value _ tells_all_ascii_digits

-- a decimal is read as its number
number_again : (n : ℕ) → n < 2 ^ 64 → parsed_number (decimal n) ≡ Some n
number_again n below =
    let value = digits_value-decimal own n below in
    let few = le-leb _ 20 (length-decimal-le 20 n (omega arith) (omega arith) below) in
    let some = le-leb 1 _ (decimal_nonempty n below) in
    cond-true _ _ _ (and_from _ _ (and_from _ _ (and_from _ _ some few) (digits_decimal own n below)) (lt-ltb _ _ (subst (λ (m : ℕ). m < 2 ^ 64) (sym value) below)))
    ∙ ap Some value

-- a number that is read is below 2^64
number_below : (bytes : List ℕ) (b : Bool) (n : ℕ) → is_number bytes ≡ b → (if b then Some (digits_value 10 bytes) else None) ≡ Some n → n < 2 ^ 64
number_below bytes true n is read = let same : digits_value 10 bytes ≡ n = cc in subst (λ (m : ℕ). m < 2 ^ 64) same (ltb-true _ _ (and_parts _ _ is).1)
number_below bytes false n is read = absurd (cc)

-- the digits of a number that became another
pub digits_of : (next : ℕ → ℕ) (old : List ℕ) (o : Option ℕ) (value : List ℕ) → parsed_number old ≡ o → option_map (λ n. decimal (next n)) o ≡ Some value → (n : ℕ) × (parsed_number old ≡ Some n) × (value ≡ decimal (next n))
digits_of next old (Some n) value is made = let same : decimal (next n) ≡ value = cc in (n, is, sym same)
digits_of next old None value is made = absurd (cc)

module _ (cache : Cache) (key : List ℕ) (change : Change) (next : ℕ → ℕ) (counts : (old : List ℕ) → changed_by change old ≡ digits_after next old) (below : (n : ℕ) → n < 2 ^ 64 → next n < 2 ^ 64) where
  -- what was counted returns the number that was stored
  pub returns_number : (value : List ℕ) (changed result : Result (Option ℕ) ChangeError) (before now : Worker) → ChangesValue cache key change value changed before now
      → IfOk changed (λ found. IfSome found (λ stamp. result ≡ Ok (parsed_number value))) → (changed ≡ Ok None → result ≡ Ok None) → IfErr changed (λ error. result ≡ Err error) → ReturnsNumber changed value result
  returns_number value (Ok (Some stamp)) result before now did stored none refused =
      let set = did.ends in
      let (n, read, digits) = digits_of next set.old (parsed_number set.old) value refl (sym (counts set.old) ∙ set.changes) in
      let fits = below n (number_below set.old (is_number set.old) n refl read) in
      (next n, digits, stored ∙ ap Ok (ap parsed_number digits ∙ number_again (next n) fits))
  returns_number value (Ok None) result before now did stored none refused = none refl
  returns_number value (Err error) result before now did stored none refused = refused
