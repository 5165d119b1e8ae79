-- What was read is the front of what was there.
use Rattle.std.proofs.Common.{◌≡◌, ℕ, ◌+◌, ◌≤◌, List, [], ◌++◌, length, take, Option, Some, None, ap, sym, ◌∙◌, arith}
use Rattle.std.specs.Prelude.{IfSome}
use Rattle.std.specs.Io.KnownBytes.{Consumes, IsAtEnd}
use Rattle.std.proofs.KnownBytes.{Consumes-trans}
use Rattle.std.proofs.lemmas.List.{take_all, nil_from_length, append-nil, append_assoc, length-append}
use Rattle.std.proofs.Math.Seq.{take-append_seam}
use Rattle.mc_driver.specs.Reading.{GivesAtMost, TakesAtMost, TakesPiece}

-- as much as was asked for
pub taken_full : (n : ℕ) (a b : Option (List ℕ)) (bytes : List ℕ) → Consumes a b bytes → length bytes ≡ n → IfSome a (λ all. bytes ≡ take n all)
taken_full n None b bytes taken long = tt
taken_full n (Some xs) None bytes taken long = absurd taken
taken_full n (Some xs) (Some ys) bytes taken long = rw taken (rw (← long) (sym (take-append_seam bytes ys)))

-- all there was
taken_all : (n : ℕ) (a b : Option (List ℕ)) (bytes : List ℕ) → Consumes a b bytes → IsAtEnd b → length bytes ≤ n → IfSome a (λ all. bytes ≡ take n all)
taken_all n None b bytes taken end short = tt
taken_all n (Some xs) None bytes taken end short = absurd taken
taken_all n (Some xs) (Some ys) bytes taken end short =
    let whole : xs ≡ bytes = taken ∙ ap (λ zs. bytes ++ zs) end ∙ append-nil bytes in
    rw whole (sym (take_all n bytes short))

pub taken_end : (n : ℕ) (a b c : Option (List ℕ)) (g h old new : List ℕ) → Consumes a b old → TakesPiece g h b c old new 0 → IsAtEnd c → length old ≤ n
    → IfSome a (λ all. new ≡ take n all)
taken_end n a b c g h old new taken last end short =
    let nothing : last.piece ≡ [] = nil_from_length last.piece last.counted in
    let same : new ≡ old = last.appended ∙ ap (λ zs. old ++ zs) nothing ∙ append-nil old in
    let taken_then : Consumes a c (old ++ last.piece) = Consumes-trans a b c old last.piece taken last.consumed in
    let taken_now : Consumes a c new = rw last.appended taken_then in
    taken_all n a c new taken_now end (rw same short)

-- what was taken, and then at most so much more
pub takes_more : (n most : ℕ) (a b c : Option (List ℕ)) (taken : List ℕ) → Consumes a b taken → TakesAtMost n b c → length taken + n ≤ most → TakesAtMost most a c
takes_more n most a b c taken first more fits =
    (taken ++ more.0, Consumes-trans a b c taken more.0 first more.1, omega (arith, more.2, fits, length-append taken more.0))

-- what was given so far, with the piece that came last
pub gave_piece : (first mid last old new : List ℕ) (b c : Option (List ℕ)) (count : ℕ) → mid ≡ first ++ old → TakesPiece mid last b c old new count → last ≡ first ++ new
gave_piece first mid last old new b c count is took =
    took.gave ∙ ap (λ bytes. bytes ++ took.piece) is ∙ append_assoc first old took.piece ∙ ap (λ bytes. first ++ bytes) (sym took.appended)

-- what was given so far, and then at most so much more
pub gives_more : (n most : ℕ) (first mid last old : List ℕ) → mid ≡ first ++ old → GivesAtMost n mid last → length old + n ≤ most → GivesAtMost most first last
gives_more n most first mid last old is (piece, gave, within_limit) fits =
    (old ++ piece, gave ∙ ap (λ bytes. bytes ++ piece) is ∙ append_assoc first old piece, omega (arith, within_limit, fits, length-append old piece))
