-- Plain words, joined to a line, are its words again.
use Rattle.std.proofs.Common.{◌≡◌, ℕ, ◌-◌, ◌==◌, ◌<◌, ◌≤◌, true, not, ◌&&◌, List, [], ◌∷◌, ◌++◌, length, get_or, filter, All, nat_lt, refl, ap, ◌∙◌, append_assoc, arith, ⊎_elim}
use Rattle.std.proofs.lemmas.Bool.{cases_lt, cond-true, cond-false, and_parts, ltb-true, ne_eqb}
use Rattle.std.proofs.lemmas.List.{get_or_past}
use Rattle.std.proofs.lemmas.List.Elements.{All-append, All-cons, All-nil}
use Rattle.std.proofs.lemmas.List.Splits.{slice_split_at, slice_split_none}
use Rattle.std.proofs.lemmas.List.Sums.{AllPass-from_list_all}
use Rattle.std.specs.List.{AllByRecursion, join_with_byte, list_all, slice_split}
use Rattle.std.specs.Str.Lines.{lines, lines_of_parts, strip_carriage_return}
use Rattle.mc_script.specs.Words.{line_words}
use Rattle.mc_script.proofs.FirstLine.{more_lines, parts_exist}

-- a word with no space, no LF and no CR in it
abbrev pub IsPlain : List ℕ → Type 0
IsPlain word = (0 < length word) × All (λ byte. 32 < byte) word

-- a text is plain if it has a byte and each is above a space
pub text_plain : (text : List ℕ) → (nat_lt 0 (length text) && list_all (nat_lt 32) text) ≡ true → IsPlain text
text_plain text test =
    let parts = and_parts _ _ test in
    (ltb-true 0 (length text) parts.0, λ k d lt. ltb-true 32 _ (AllPass-from_list_all (nat_lt 32) text parts.1 k d lt))

-- ---- the words of a line

-- words joined by spaces are split into themselves
words_split : (word : List ℕ) (words : List (List ℕ)) → AllByRecursion IsPlain (word ∷ words) → slice_split (λ byte. byte == 32) (join_with_byte 32 (word ∷ words)) ≡ word ∷ words
words_split word [] plain = slice_split_none (λ byte. byte == 32) word (λ k d lt. ne_eqb _ 32 (λ e. omega (arith, plain.0.1 k d lt)))
words_split word (next ∷ words) plain =
    slice_split_at (λ byte. byte == 32) word 32 (join_with_byte 32 (next ∷ words)) (λ k d lt. ne_eqb _ 32 (λ e. omega (arith, plain.0.1 k d lt))) refl
    ∙ ap (λ (others : List (List ℕ)). word ∷ others) (words_split next words plain.1)

-- no plain word is left out
none_empty : (words : List (List ℕ)) → AllByRecursion IsPlain words → filter (λ word. not (length word == 0)) words ≡ words
none_empty [] plain = refl
none_empty (word ∷ words) plain =
    cond-true (not (length word == 0)) (word ∷ filter (λ w. not (length w == 0)) words) (filter (λ w. not (length w == 0)) words) (ap not (ne_eqb (length word) 0 (λ e. omega (arith, plain.0.0))))
    ∙ ap (λ (others : List (List ℕ)). word ∷ others) (none_empty words plain.1)

-- the words of a line that they were joined to
pub words_again : (words : List (List ℕ)) → AllByRecursion IsPlain words → 0 < length words → line_words (join_with_byte 32 words) ≡ words
words_again [] plain some = absurd (omega arith)
words_again (word ∷ words) plain some = ap (filter (λ w. not (length w == 0))) (words_split word words plain) ∙ none_empty (word ∷ words) plain

-- ---- the lines of a script

-- such a line has no LF and no CR
pub line_plain : (words : List (List ℕ)) → AllByRecursion IsPlain words → All (λ byte. 31 < byte) (join_with_byte 32 words)
line_plain [] plain = All-nil (λ byte. 31 < byte)
line_plain (word ∷ []) plain = λ k d lt. omega (arith, plain.0.1 k d lt)
line_plain (word ∷ next ∷ words) plain =
    All-append (λ byte. 31 < byte) word (32 ∷ join_with_byte 32 (next ∷ words)) (λ k d lt. omega (arith, plain.0.1 k d lt))
    (All-cons (λ byte. 31 < byte) 32 (join_with_byte 32 (next ∷ words)) (omega arith) (line_plain (next ∷ words) plain.1))

-- so it loses none at its end
no_carriage_return : (text : List ℕ) → All (λ byte. 31 < byte) text → strip_carriage_return text ≡ text
no_carriage_return text plain =
    cond-false _ _ _ (ne_eqb (get_or text (length text - 1) 0) 13
    (⊎_elim
    (λ (some : 0 < length text) (e : get_or text (length text - 1) 0 ≡ 13). omega (arith, plain (length text - 1) 0 (omega arith)))
    (λ (none : length text ≤ 0) (e : get_or text (length text - 1) 0 ≡ 13). omega (arith, get_or_past text (length text - 1) 0 (omega arith)))
    (cases_lt 0 (length text))))

-- it is the first line, with LF behind it
pub lines_again : (text rest : List ℕ) → All (λ byte. 31 < byte) text → lines ((text ++ 10 ∷ []) ++ rest) ≡ text ∷ lines rest
lines_again text rest plain =
    ap lines (append_assoc text (10 ∷ []) rest)
    ∙ ap lines_of_parts (slice_split_at (λ byte. byte == 10) text 10 rest (λ k d lt. ne_eqb _ 10 (λ e. omega (arith, plain k d lt))) refl)
    ∙ more_lines text _ (parts_exist rest)
    ∙ ap (λ (line : List ℕ). line ∷ lines rest) (no_carriage_return text plain)
