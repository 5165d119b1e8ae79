-- The first byte that is no space tells whether a line is skipped.
use Rattle.std.proofs.Common.{◌≡◌, ℕ, ◌==◌, Bool, true, false, not, cond, find, filter, List, [], ◌∷◌, length, Option, Some, None, refl, ap, arith}
use Rattle.std.proofs.lemmas.Bool.{cond-true}
use Rattle.std.specs.List.{slice_split, onto_first}
use Rattle.mc_script.specs.Script.{is_skipped}
use Rattle.mc_script.specs.Words.{line_words}

-- nothing but spaces, or `#`
abbrev pub skips : Option ℕ → Bool
skips None = true
skips (Some byte) = byte == 35

-- one more byte in front, which is a space or isn't
one_more : (space : Bool) (byte : ℕ) (parts : List (List ℕ)) (first : Option ℕ) → is_skipped (filter (λ word. not (length word == 0)) parts) ≡ skips first → is_skipped (filter (λ word. not (length word == 0)) (cond space ([] ∷ parts) (onto_first byte parts))) ≡ skips (cond (not space) (Some byte) first)
one_more true byte parts first h = h
one_more false byte [] first h = refl
one_more false byte (part ∷ parts) first h = ap is_skipped (cond-true (not (length (byte ∷ part) == 0)) ((byte ∷ part) ∷ filter (λ word. not (length word == 0)) parts) (filter (λ word. not (length word == 0)) parts) (grind arith))

-- the first byte that is no space decides
pub skipped_by_first : (line : List ℕ) → is_skipped (line_words line) ≡ skips (find (λ byte. not (byte == 32)) line)
skipped_by_first [] = refl
skipped_by_first (byte ∷ line) = one_more (byte == 32) byte (slice_split (λ b. b == 32) line) (find (λ b. not (b == 32)) line) (skipped_by_first line)
