-- What is written is read.
use Rattle.std.proofs.Common.{◌≡◌, ℕ, ◌+◌, ◌==◌, ◌^◌, ◌<◌, ◌≤◌, false, List, [], ◌∷◌, length, get_or, codes, Option, Some, None, Ok, All, refl, ap, sym, ◌∙◌, subst, arith}
use Rattle.std.proofs.lemmas.Bool.{cond-true, cond-false, false_from_ne_true, ne_eqb, and_from, le-leb}
use Rattle.std.proofs.lemmas.Fmt.{decimal_nonempty, digits_decimal, digits_value-decimal, length-decimal-le}
use Rattle.std.proofs.lemmas.Grind.{get_or_default_zero}
use Rattle.std.proofs.lemmas.List.Elements.{recursion_from_All}
use Rattle.std.proofs.lemmas.Slice.Eq.{bytes_eq-Decides}
use Rattle.std.proofs.lemmas.Str.Parse.{digit_at}
use Rattle.std.specs.Fmt.{decimal}
use Rattle.std.specs.List.{AllByRecursion, flat_map, join_with_byte}
use Rattle.std.specs.Str.{bytes_eq}
use Rattle.std.specs.Str.Lines.{lines}
use Rattle.mc_script.specs.declared.command.Command.{Command}
use Rattle.mc_script.specs.declared.command.Command.TheVariants.{Set, Delete, Get, Hold, Drop, Touch, Reassign, Automove, Window, Turn, Stats, StatsSlabs}
use Rattle.mc_script.specs.Command.{IsWorker, IsSource, IsValid}
use Rattle.mc_script.specs.Forms.{◌or◌, parsed_source, set_of, key_command_of, on_key_of, reassign_of, with_number_of, bare_of, command_of}
use Rattle.mc_script.specs.Script.{commands_of, commands_with, is_skipped, number_sign, script_of}
use Rattle.mc_script.specs.Words.{◌>>=◌, parsed_number, number_between}
use Rattle.mc_script.specs.Written.{source_word, command_words, text_of}
use Rattle.mc_script.proofs.Digits.{own, number_from_parts}
use Rattle.mc_script.proofs.Plain.{IsPlain, text_plain, words_again, line_plain, lines_again}

-- ---- numbers

-- a `do` goes on with the value
then_some : {A B : Type 0} (found : Option A) (next : A → Option B) (x : A) → found ≡ Some x → (found >>= next) ≡ next x
then_some found next x e = ap (λ (o : Option _). o >>= next) e

-- each byte of a decimal is a digit
digits_of_decimal : (n : ℕ) → n < 2 ^ 64 → (k d : ℕ) → k < length (decimal n) → (48 ≤ get_or (decimal n) k d) × (get_or (decimal n) k d ≤ 57)
digits_of_decimal n h k d lt =
    subst (λ (x : ℕ). (48 ≤ x) × (x ≤ 57)) (sym (get_or_default_zero (decimal n) k d lt)) (digit_at (decimal n) k (own.to (decimal n) (digits_decimal own n h)) lt)

-- a decimal is a plain word
decimal_plain : (n : ℕ) → n < 2 ^ 64 → IsPlain (decimal n)
decimal_plain n h = (decimal_nonempty n h, λ k d lt. omega (arith, (digits_of_decimal n h k d lt).0))

-- a decimal is read as its number
number_again : (n : ℕ) → n < 2 ^ 64 → parsed_number (decimal n) ≡ Some n
number_again n h =
    let value = digits_value-decimal own n h in
    cond-true _ _ _ (number_from_parts (decimal n) (decimal_nonempty n h) (length-decimal-le 20 n (omega arith) (omega arith) h) (digits_decimal own n h) (subst (λ (m : ℕ). m < 2 ^ 64) (sym value) h))
    ∙ ap Some value

-- and within its limits
between_again : (low high n : ℕ) → low ≤ n → n ≤ high → n < 2 ^ 64 → number_between low high (decimal n) ≡ Some n
between_again low high n above below h = then_some _ _ n (number_again n h) ∙ cond-true _ _ _ (and_from _ _ (le-leb low n above) (le-leb n high below))

-- ---- the forms

-- a worker, a plain verb and a key are plain
named_plain : (verb : List ℕ) (worker key : ℕ) → IsPlain verb → IsWorker worker → key < 2 ^ 64 → AllByRecursion IsPlain (decimal worker ∷ verb ∷ decimal key ∷ [])
named_plain verb worker key plain is_worker fits = (decimal_plain worker (omega (arith, is_worker.1)), (plain, (decimal_plain key fits, tt)))

-- the word of a source is plain
source_plain : (src : Option ℕ) → IsSource src → IsPlain (source_word src)
source_plain None fits = text_plain (codes "-1") refl
source_plain (Some class) fits = decimal_plain class fits

-- all words of a command are plain
words_plain : (command : Command) → IsValid command → AllByRecursion IsPlain (command_words command)
words_plain (Set worker key words base) valid =
    (decimal_plain worker (omega (arith, valid.0.1)), (text_plain (codes "set") refl, (decimal_plain key valid.1, (decimal_plain words (omega (arith, valid.2)), (decimal_plain base valid.3, tt)))))
words_plain (Delete worker key) valid = named_plain (codes "del") worker key (text_plain (codes "del") refl) valid.0 valid.1
words_plain (Get worker key) valid = named_plain (codes "get") worker key (text_plain (codes "get") refl) valid.0 valid.1
words_plain (Hold worker key) valid = named_plain (codes "hold") worker key (text_plain (codes "hold") refl) valid.0 valid.1
words_plain (Drop worker key) valid = named_plain (codes "drop") worker key (text_plain (codes "drop") refl) valid.0 valid.1
words_plain (Touch worker key) valid = named_plain (codes "touch") worker key (text_plain (codes "touch") refl) valid.0 valid.1
words_plain (Reassign src dst) valid = (text_plain (codes "reassign") refl, (source_plain src valid.0, (decimal_plain dst valid.1, tt)))
words_plain (Automove mode) valid = (text_plain (codes "automove") refl, (decimal_plain mode (omega (arith, valid)), tt))
words_plain Window valid = (text_plain (codes "window") refl, tt)
words_plain (Turn turns) valid = (text_plain (codes "turn") refl, (decimal_plain turns (omega (arith, valid.1)), tt))
words_plain Stats valid = (text_plain (codes "stats") refl, tt)
words_plain StatsSlabs valid = (text_plain (codes "stats") refl, (text_plain (codes "slabs") refl, tt))

-- a command has a word
words_exist : (command : Command) → 0 < length (command_words command)
words_exist (Set worker key words base) = omega arith
words_exist (Delete worker key) = omega arith
words_exist (Get worker key) = omega arith
words_exist (Hold worker key) = omega arith
words_exist (Drop worker key) = omega arith
words_exist (Touch worker key) = omega arith
words_exist (Reassign src dst) = omega arith
words_exist (Automove mode) = omega arith
words_exist Window = omega arith
words_exist (Turn turns) = omega arith
words_exist Stats = omega arith
words_exist StatsSlabs = omega arith

-- a decimal is no comment
begins_with_digit : (n : ℕ) → n < 2 ^ 64 → (get_or (decimal n) 0 0 == number_sign) ≡ false
begins_with_digit n h = ne_eqb (get_or (decimal n) 0 0) 35 (λ e. omega (arith, (digits_of_decimal n h 0 0 (decimal_nonempty n h)).0))

-- no command is a comment
not_skipped : (command : Command) → IsValid command → is_skipped (command_words command) ≡ false
not_skipped (Set worker key words base) valid = begins_with_digit worker (omega (arith, valid.0.1))
not_skipped (Delete worker key) valid = begins_with_digit worker (omega (arith, valid.0.1))
not_skipped (Get worker key) valid = begins_with_digit worker (omega (arith, valid.0.1))
not_skipped (Hold worker key) valid = begins_with_digit worker (omega (arith, valid.0.1))
not_skipped (Drop worker key) valid = begins_with_digit worker (omega (arith, valid.0.1))
not_skipped (Touch worker key) valid = begins_with_digit worker (omega (arith, valid.0.1))
not_skipped (Reassign src dst) valid = refl
not_skipped (Automove mode) valid = refl
not_skipped Window valid = refl
not_skipped (Turn turns) valid = refl
not_skipped Stats valid = refl
not_skipped StatsSlabs valid = refl

-- a decimal isn't `-1`
no_minus : (n : ℕ) → n < 2 ^ 64 → bytes_eq (decimal n) (codes "-1") ≡ false
no_minus n h =
    false_from_ne_true _ (λ same.
    let byte = ap (λ (word : List ℕ). get_or word 0 0) ((bytes_eq-Decides (decimal n) (codes "-1")).0 same) in
    omega (arith, byte, (digits_of_decimal n h 0 0 (decimal_nonempty n h)).0))

-- the word of a source is read as it
source_again : (src : Option ℕ) → IsSource src → parsed_source (source_word src) ≡ Some src
source_again None fits = refl
source_again (Some class) fits = cond-false _ _ _ (no_minus class fits) ∙ then_some _ _ class (number_again class fits)

-- a worker and a key are read as they are, and the verb asks for something by them
on_key_again : (verb : List ℕ) (worker key : ℕ) → IsWorker worker → key < 2 ^ 64 → on_key_of (decimal worker ∷ verb ∷ decimal key ∷ []) ≡ key_command_of verb worker key
unfolding on_key_of
on_key_again verb worker key is_worker fits =
    then_some _ _ worker (between_again 1 63 worker is_worker.0 is_worker.1 (omega (arith, is_worker.1)))
    ∙ then_some _ _ key (number_again key fits)

-- `reassign` is no worker
no_worker : (src dst : List ℕ) → on_key_of (codes "reassign" ∷ src ∷ dst ∷ []) ≡ None
unfolding on_key_of
no_worker src dst = refl

-- the first form has it
first_again : (one other : Option Command) (command : Command) → one ≡ Some command → (one or other) ≡ Some command
first_again one other command e = ap (λ (o : Option Command). o or other) e

-- the first form hasn't it
next_again : (one other : Option Command) (command : Command) → one ≡ None → other ≡ Some command → (one or other) ≡ Some command
next_again one other command none e = ap (λ (o : Option Command). o or other) none ∙ e

-- the words of a command are read as it
command_again : (command : Command) → IsValid command → command_of (command_words command) ≡ Some command
unfolding command_of set_of key_command_of on_key_of reassign_of with_number_of bare_of
command_again (Set worker key words base) valid =
    first_again _ _ _
    (then_some _ _ worker (between_again 1 63 worker valid.0.0 valid.0.1 (omega (arith, valid.0.1)))
    ∙ then_some _ _ key (number_again key valid.1)
    ∙ then_some _ _ words (between_again 0 4096 words (omega arith) valid.2 (omega (arith, valid.2)))
    ∙ then_some _ _ base (number_again base valid.3))
command_again (Delete worker key) valid = first_again _ _ _ (on_key_again (codes "del") worker key valid.0 valid.1)
command_again (Get worker key) valid = first_again _ _ _ (on_key_again (codes "get") worker key valid.0 valid.1)
command_again (Hold worker key) valid = first_again _ _ _ (on_key_again (codes "hold") worker key valid.0 valid.1)
command_again (Drop worker key) valid = first_again _ _ _ (on_key_again (codes "drop") worker key valid.0 valid.1)
command_again (Touch worker key) valid = first_again _ _ _ (on_key_again (codes "touch") worker key valid.0 valid.1)
command_again (Reassign src dst) valid =
    next_again _ _ _ (no_worker (source_word src) (decimal dst)) (first_again _ _ _ (then_some _ _ src (source_again src valid.0) ∙ then_some _ _ dst (number_again dst valid.1)))
command_again (Automove mode) valid = first_again _ _ _ (then_some _ _ mode (between_again 0 2 mode (omega arith) valid (omega (arith, valid))))
command_again Window valid = refl
command_again (Turn turns) valid = first_again _ _ _ (then_some _ _ turns (between_again 1 1000000 turns valid.0 valid.1 (omega (arith, valid.1))))
command_again Stats valid = refl
command_again StatsSlabs valid = refl

-- ---- one command, and all

-- its line is read as it
one_again : (command : Command) (n : ℕ) (rest : List (List ℕ)) → IsValid command → commands_of n (join_with_byte 32 (command_words command) ∷ rest) ≡ commands_with n (Some command) (commands_of (n + 1) rest)
one_again command n rest valid =
    let same = words_again (command_words command) (words_plain command valid) (words_exist command) in
    cond-false _ _ _ (ap is_skipped same ∙ not_skipped command valid) ∙ ap (λ (o : Option Command). commands_with n o (commands_of (n + 1) rest)) (ap command_of same ∙ command_again command valid)

-- and so are all lines
all_again : (n : ℕ) (commands : List Command) → AllByRecursion IsValid commands → commands_of n (lines (flat_map text_of commands)) ≡ Ok commands
all_again n [] valid = refl
all_again n (command ∷ commands) valid =
    ap (commands_of n) (lines_again (join_with_byte 32 (command_words command)) (flat_map text_of commands) (line_plain (command_words command) (words_plain command valid.0)))
    ∙ one_again command n (lines (flat_map text_of commands)) valid.0
    ∙ ap (commands_with n (Some command)) (all_again (n + 1) commands valid.1)

-- what is written is read
pub written_again : (commands : List Command) → All IsValid commands → script_of (flat_map text_of commands) ≡ Ok commands
unfolding script_of
written_again commands valid = all_again 1 commands (recursion_from_All IsValid commands valid)
