-- The first line of a script, and the lines after it.
use Rattle.std.proofs.Common.{◌≡◌, ℕ, suc, ◌+◌, ◌==◌, ◌<◌, ◌≤◌, Bool, true, false, cond, List, [], ◌∷◌, length, take, drop, Some, None, refl, ap, sym, ◌∙◌, subst, arith}
use Rattle.std.proofs.lemmas.Bool.{ltb-true, ltb-false, ne_eqb, cond-false}
use Rattle.std.proofs.lemmas.List.Splits.{slice_split_first, slice_split_none, length-slice_split}
use Rattle.std.proofs.lemmas.List.Sums.{fails_before_first}
use Rattle.std.proofs.lemmas.Option.{cond_some}
use Rattle.std.specs.List.{slice_split, onto_first, position, after_first}
use Rattle.std.specs.Str.Lines.{lines, lines_of_parts, strip_carriage_return}

-- a part with another one after it is a line
pub more_lines : (part : List ℕ) (parts : List (List ℕ)) → 0 < length parts → lines_of_parts (part ∷ parts) ≡ strip_carriage_return part ∷ lines_of_parts parts
more_lines part [] h = absurd (omega arith)
more_lines part (next ∷ parts) h = refl

-- there is always a part
pub parts_exist : (bytes : List ℕ) → 0 < length (slice_split (λ byte. byte == 10) bytes)
parts_exist bytes = omega (arith, length-slice_split (λ byte. byte == 10) bytes)

-- the first LF ends the first line
pub lines_at : (bytes : List ℕ) (end : ℕ) → position (λ byte. byte == 10) bytes ≡ Some end → lines bytes ≡ strip_carriage_return (take end bytes) ∷ lines (drop (end + 1) bytes)
lines_at bytes end h =
    let found = cond_some _ _ _ h in
    let cut = slice_split_first (λ byte. byte == 10) bytes 0 (ltb-true _ _ found.0) in
    subst (λ (e : ℕ). lines bytes ≡ strip_carriage_return (take e bytes) ∷ lines (drop (e + 1) bytes)) found.1
    (ap lines_of_parts cut ∙ more_lines _ _ (parts_exist (after_first (λ byte. byte == 10) bytes)))

-- a position is missing only where the test failed
not_found : (found : Bool) (at : ℕ) → cond found (Some at) None ≡ None → found ≡ false
not_found true at h = absurd (cc)
not_found false at h = refl

-- with no LF all of the bytes are a line
pub lines_last : (bytes : List ℕ) → position (λ byte. byte == 10) bytes ≡ None → 0 < length bytes → lines bytes ≡ bytes ∷ []
lines_last bytes h some =
    let past = ltb-false _ _ (not_found _ _ h) in
    ap lines_of_parts (slice_split_none (λ byte. byte == 10) bytes (λ k d lt. fails_before_first (λ byte. byte == 10) bytes k d (omega arith)))
    ∙ cond-false _ _ _ (ne_eqb (length bytes) 0 (λ e. omega arith))

-- one byte more makes at most one line more
more_at_front : (newline : Bool) (byte : ℕ) (parts : List (List ℕ)) (n : ℕ) → length (lines_of_parts parts) ≤ n → 0 < length parts → length (lines_of_parts (cond newline ([] ∷ parts) (onto_first byte parts))) ≤ suc n
more_at_front newline byte [] n h some = absurd (omega arith)
more_at_front true byte (part ∷ parts) n h some = omega arith
more_at_front false byte (part ∷ []) n h some = subst (λ (ls : List (List ℕ)). length ls ≤ suc n) (sym (cond-false (length (byte ∷ part) == 0) [] ((byte ∷ part) ∷ []) (ne_eqb _ 0 (λ e. omega arith)))) (omega arith)
more_at_front false byte (part ∷ next ∷ parts) n h some = omega arith

-- there are no more lines than bytes
pub length-lines : (bytes : List ℕ) → length (lines bytes) ≤ length bytes
length-lines [] = omega arith
length-lines (byte ∷ bytes) = more_at_front (byte == 10) byte (slice_split (λ b. b == 10) bytes) (length bytes) (length-lines bytes) (parts_exist bytes)
