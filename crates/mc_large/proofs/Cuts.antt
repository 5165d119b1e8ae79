-- A value is cut in one way.
use Rattle.std.proofs.Common.{◌≡◌, ◌∙◌, ◌≤◌, ◌<◌, ◌+◌, ◌*◌, ◌/◌, ◌%◌, ◌++◌, ◌∷◌, [], ℕ, suc, List, length, take, drop, ap, arith, inl, inr, refl, sym, length-append, append-nil}
use Rattle.std.proofs.lemmas.Bool.{cases_lt}
use Rattle.std.proofs.lemmas.List.{drop_at, take_at}
use Rattle.std.proofs.lemmas.Nat.{div-mul-add, mod-mul-add}
use Rattle.std.specs.Int.{div_ceil}
use Rattle.std.specs.List.{concat}
use Rattle.mc_large.specs.Pieces.{CutsAreUnique, FillParts, PiecesAreCounted}

-- lists of one length that begin one list are the same, and what follows them, too
pub begins_apart : (a b v w : List ℕ) → length a ≡ length b → a ++ v ≡ b ++ w → (a ≡ b) × (v ≡ w)
begins_apart a b v w lengths same =
    (sym (take_at a v (length b) lengths) ∙ ap (take (length b)) same ∙ take_at b w (length b) refl, sym (drop_at a v (length b) lengths) ∙ ap (drop (length b)) same ∙ drop_at b w (length b) refl)

-- some pieces have some bytes
some_bytes : (room : ℕ) (piece : List ℕ) (more : List (List ℕ)) → 1 ≤ room → FillParts room (piece ∷ more) → 1 ≤ length (concat (piece ∷ more))
some_bytes room piece [] some fill = let long : 1 ≤ length piece = fill.0 in omega (arith, long, length-append piece [])
some_bytes room piece (next ∷ more) some fill = let full : length piece ≡ room = fill.0 in omega (arith, some, full, length-append piece (concat (next ∷ more)))

-- pieces with the same bytes are the same
pub one_cut : (room : ℕ) (pieces others : List (List ℕ)) → 1 ≤ room → FillParts room pieces → FillParts room others → concat pieces ≡ concat others → pieces ≡ others
one_cut room [] [] some fill fill_too same = refl
one_cut room [] (other ∷ others) some fill fill_too same = absurd (omega (arith, ap length same, some_bytes room other others some fill_too))
one_cut room (piece ∷ pieces) [] some fill fill_too same = absurd (omega (arith, ap length same, some_bytes room piece pieces some fill))
one_cut room (piece ∷ []) (other ∷ []) some fill fill_too same = ap (λ (p : List ℕ). p ∷ []) (sym (append-nil piece) ∙ same ∙ append-nil other)
one_cut room (piece ∷ []) (other ∷ next ∷ others) some fill fill_too same =
    let short : length piece ≤ room = fill.1 in
    let full : length other ≡ room = fill_too.0 in
    absurd (omega (arith, short, full, ap length same, length-append piece [], length-append other (concat (next ∷ others)), some_bytes room next others some fill_too.1))
one_cut room (piece ∷ next ∷ pieces) (other ∷ []) some fill fill_too same =
    let short : length other ≤ room = fill_too.1 in
    let full : length piece ≡ room = fill.0 in
    absurd (omega (arith, short, full, ap length same, length-append other [], length-append piece (concat (next ∷ pieces)), some_bytes room next pieces some fill.1))
one_cut room (piece ∷ next ∷ pieces) (other ∷ also ∷ others) some fill fill_too same =
    let parts = begins_apart piece other (concat (next ∷ pieces)) (concat (also ∷ others)) (fill.0 ∙ sym fill_too.0) same in
    let behind : next ∷ pieces ≡ also ∷ others = one_cut room (next ∷ pieces) (also ∷ others) some fill.1 fill_too.1 parts.1 in
    ap (λ (p : List ℕ). p ∷ next ∷ pieces) parts.0 ∙ ap (λ (ps : List (List ℕ)). other ∷ ps) behind

pub cuts_are_unique : CutsAreUnique
cuts_are_unique room value pieces others some cut other = one_cut room pieces others some cut.fill other.fill (cut.together ∙ sym other.together)

-- the bytes of the last piece, behind full ones
last_bytes : (room : ℕ) (piece : List ℕ) (more : List (List ℕ)) → FillParts room (piece ∷ more) → (last : ℕ) × (1 ≤ last) × (last ≤ room) × (length (concat (piece ∷ more)) ≡ length more * room + last)
last_bytes room piece [] fill = (length piece, fill.0, fill.1, omega (arith, length-append piece []))
last_bytes room piece (next ∷ more) fill =
    let (last, some, few, sums) = last_bytes room next more fill.1 in
    let full : length piece ≡ room = fill.0 in
    (last, some, few, omega (arith, full, sums, length-append piece (concat (next ∷ more))))

-- a count of full rooms and one that is full in part, rounded up
pub rounds_up : (room count last len : ℕ) → 1 ≤ last → last ≤ room → len ≡ count * room + last → div_ceil len room ≡ suc count
rounds_up room count last len some few sums = elim (cases_lt last room) [
  | inl part ↦
      let quotient : len / room ≡ count = ap (λ (n : ℕ). n / room) sums ∙ div-mul-add count room last part in
      let left_over : len % room ≡ last = ap (λ (n : ℕ). n % room) sums ∙ mod-mul-add count room last part in
      omega (arith, quotient, left_over, some)
  | inr whole ↦
      let sums_too : len ≡ suc count * room + 0 = omega (arith, sums, whole, few) in
      let positive : 0 < room = omega (arith, some, few) in
      let quotient : len / room ≡ suc count = ap (λ (n : ℕ). n / room) sums_too ∙ div-mul-add (suc count) room 0 positive in
      let left_over : len % room ≡ 0 = ap (λ (n : ℕ). n % room) sums_too ∙ mod-mul-add (suc count) room 0 positive in
      omega (arith, quotient, left_over)
]

-- no byte has no part
none_rounds : (room : ℕ) → 1 ≤ room → div_ceil 0 room ≡ 0
none_rounds room some =
    let nothing : 0 ≡ 0 * room + 0 = omega arith in
    let quotient : 0 / room ≡ 0 = ap (λ (n : ℕ). n / room) nothing ∙ div-mul-add 0 room 0 some in
    let left_over : 0 % room ≡ 0 = ap (λ (n : ℕ). n % room) nothing ∙ mod-mul-add 0 room 0 some in
    omega (arith, quotient, left_over)

pub pieces_are_counted : PiecesAreCounted
pieces_are_counted room value [] some cut = sym (ap (λ (n : ℕ). div_ceil n room) (ap length (sym cut.together)) ∙ none_rounds room some)
pieces_are_counted room value (piece ∷ more) some cut =
    let (last, one, few, sums) = last_bytes room piece more cut.fill in
    sym (rounds_up room (length more) last (length value) one few (ap length (sym cut.together) ∙ sums))
