-- The commands of a script have their numbers in range.
use Rattle.std.proofs.Common.{◌≡◌, ℕ, ◌+◌, ◌^◌, ◌<◌, ◌≤◌, Bool, true, false, ◌&&◌, codes, cond, if◌then◌else◌, List, [], ◌∷◌, Option, Some, None, Result, Ok, Err, IfSome, All, refl, subst}
use Rattle.std.proofs.lemmas.Bool.{and_parts, cond_both, leb-true}
use Rattle.std.proofs.lemmas.List.Elements.{All-from_recursion}
use Rattle.std.specs.List.{AllByRecursion}
use Rattle.std.specs.Str.{bytes_eq}
use Rattle.std.specs.Str.Lines.{lines}
use Rattle.mc_script.specs.declared.command.Command.{Command}
use Rattle.mc_script.specs.declared.command.Command.TheVariants.{Set, Delete, Get, Hold, Drop, Touch, Reassign, Window, Stats, StatsSlabs}
use Rattle.mc_script.specs.Command.{IsWorker, IsSource, IsValid}
use Rattle.mc_script.specs.Forms.{◌or◌, parsed_source, set_of, key_command_of, on_key_of, reassign_of, with_number_of, bare_of, command_of}
use Rattle.mc_script.specs.Script.{is_skipped, commands_with, commands_of, script_of}
use Rattle.mc_script.specs.Words.{◌>>=◌, line_words, parsed_number, number_between}
use Rattle.mc_script.proofs.Digits.{number_parts}

-- ---- what is told of a value that may be there

-- a `do` keeps what its last line has
then_told : {A B : Type 0} (P : A → Type 0) (Q : B → Type 0) (found : Option A) (next : A → Option B) → IfSome found P → ((x : A) → P x → IfSome (next x) Q) → IfSome (found >>= next) Q
then_told P Q None next h f = tt
then_told P Q (Some x) next h f = f x h

-- either form is valid
or_told : (one other : Option Command) → IfSome one IsValid → IfSome other IsValid → IfSome (one or other) IsValid
or_told None other h k = k
or_told (Some command) other h k = h

-- what is there passed the test
when_told : {A : Type 0} (P : A → Type 0) (test : Bool) (found : Option A) → (test ≡ true → IfSome found P) → IfSome (cond test found None) P
when_told P true found h = h refl
when_told P false found h = tt

-- ---- numbers

-- a number is below 2^64
pub number_fits : (word : List ℕ) → IfSome (parsed_number word) (λ n. n < 2 ^ 64)
number_fits word = when_told _ _ _ (λ is. (number_parts word is).3)

-- a number with limits is within them
pub between_fits : (low high : ℕ) (word : List ℕ) → IfSome (number_between low high word) (λ n. (low ≤ n) × (n ≤ high))
between_fits low high word =
    then_told (λ n. n < 2 ^ 64) (λ n. (low ≤ n) × (n ≤ high)) _ _ (number_fits word) (λ n fits.
    when_told (λ m. (low ≤ m) × (m ≤ high)) _ (Some n) (λ within.
    let parts = and_parts _ _ within in (leb-true low n parts.0, leb-true n high parts.1)))

-- ---- the lines of a form

-- a form is valid if it is after its test
form_valid : (test : Bool) (form : Option Command) → IfSome form IsValid → IfSome (if test then form else None) IsValid
form_valid test form h = when_told IsValid test form (λ _. h)

-- so is one of two forms if both are
either_valid : (test : Bool) (one other : Option Command) → IfSome one IsValid → IfSome other IsValid → IfSome (if test then one else other) IsValid
either_valid true one other h k = h
either_valid false one other h k = k

-- after a number
number_then : {A : Type 0} (P : A → Type 0) (word : List ℕ) (next : ℕ → Option A) → ((n : ℕ) → n < 2 ^ 64 → IfSome (next n) P) → IfSome (parsed_number word >>= next) P
number_then P word next h = then_told (λ n. n < 2 ^ 64) P (parsed_number word) next (number_fits word) h

-- after a number with limits
between_then : {A : Type 0} (P : A → Type 0) (low high : ℕ) (word : List ℕ) (next : ℕ → Option A) → ((n : ℕ) → (low ≤ n) × (n ≤ high) → IfSome (next n) P) → IfSome (number_between low high word >>= next) P
between_then P low high word next h = then_told (λ n. (low ≤ n) × (n ≤ high)) P (number_between low high word) next (between_fits low high word) h

-- ---- the forms

-- `set`
set_valid : (words : List (List ℕ)) → IfSome (set_of words) IsValid
unfolding set_of
set_valid (worker ∷ verb ∷ key ∷ words ∷ base ∷ []) =
    form_valid (bytes_eq verb (codes "set")) _
    (between_then IsValid 1 63 worker _ (λ w is_worker. number_then IsValid key _ (λ k key_fits. between_then IsValid 0 4096 words _ (λ n within_limit. number_then IsValid base _ (λ b base_fits.
    let valid : IsValid (Set w k n b) = (is_worker, key_fits, within_limit.1, base_fits) in valid)))))
set_valid words = tt

-- a verb, a worker and a key
key_command_valid : (verb : List ℕ) (worker key : ℕ) → IsWorker worker × (key < 2 ^ 64) → IfSome (key_command_of verb worker key) IsValid
unfolding key_command_of
key_command_valid verb worker key fit =
    either_valid (bytes_eq verb (codes "del")) (Some (Delete worker key)) _ fit
    (either_valid (bytes_eq verb (codes "get")) (Some (Get worker key)) _ fit
    (either_valid (bytes_eq verb (codes "hold")) (Some (Hold worker key)) _ fit
    (either_valid (bytes_eq verb (codes "drop")) (Some (Drop worker key)) _ fit
    (form_valid (bytes_eq verb (codes "touch")) (Some (Touch worker key)) fit))))

-- their words
on_key_valid : (words : List (List ℕ)) → IfSome (on_key_of words) IsValid
unfolding on_key_of
on_key_valid (worker ∷ verb ∷ key ∷ []) =
    between_then IsValid 1 63 worker _ (λ w is_worker. number_then IsValid key _ (λ k key_fits. key_command_valid verb w k (is_worker, key_fits)))
on_key_valid words = tt

-- a source that is a number is below 2^64
source_fits : (word : List ℕ) → IfSome (parsed_source word) IsSource
source_fits word =
    cond_both (bytes_eq word (codes "-1")) (Some None) (parsed_number word >>= (λ class. Some (Some class))) (λ found. IfSome found IsSource)
    (λ _. tt)
    (λ _. number_then IsSource word _ (λ class fits. fits))

-- `reassign`
reassign_valid : (words : List (List ℕ)) → IfSome (reassign_of words) IsValid
unfolding reassign_of
reassign_valid (verb ∷ src ∷ dst ∷ []) =
    form_valid (bytes_eq verb (codes "reassign")) _
    (then_told IsSource IsValid (parsed_source src) _ (source_fits src) (λ s src_fits. number_then IsValid dst _ (λ d dst_fits.
    let valid : IsValid (Reassign s d) = (src_fits, dst_fits) in valid)))
reassign_valid words = tt

-- `automove` or `turn`
with_number_valid : (words : List (List ℕ)) → IfSome (with_number_of words) IsValid
unfolding with_number_of
with_number_valid (verb ∷ number ∷ []) =
    either_valid (bytes_eq verb (codes "automove")) _ _ (between_then IsValid 0 2 number _ (λ m within. within.1))
    (form_valid (bytes_eq verb (codes "turn")) _ (between_then IsValid 1 1000000 number _ (λ n within. within)))
with_number_valid words = tt

-- `window`, `stats` or `stats slabs`
bare_valid : (words : List (List ℕ)) → IfSome (bare_of words) IsValid
unfolding bare_of
bare_valid (verb ∷ []) = either_valid (bytes_eq verb (codes "window")) (Some Window) _ tt (form_valid (bytes_eq verb (codes "stats")) (Some Stats) tt)
bare_valid (verb ∷ what ∷ []) = form_valid (bytes_eq verb (codes "stats") && bytes_eq what (codes "slabs")) (Some StatsSlabs) tt
bare_valid words = tt

-- all forms
command_valid : (words : List (List ℕ)) → IfSome (command_of words) IsValid
unfolding command_of
command_valid words =
    or_told _ _ (set_valid words) (or_told _ _ (on_key_valid words) (or_told _ _ (reassign_valid words) (or_told _ _ (with_number_valid words) (bare_valid words))))

-- ---- the lines

-- what is given is one list
ok_items : (xs ys : List Command) → ◌≡◌ {A = Result (List Command) ℕ} (Ok xs) (Ok ys) → xs ≡ ys
ok_items xs ys h = cc

-- one line more
followed_valid : (n : ℕ) (first : Option Command) (rest : Result (List Command) ℕ) (commands : List Command) → IfSome first IsValid → ((others : List Command) → rest ≡ Ok others → AllByRecursion IsValid others) → commands_with n first rest ≡ Ok commands → AllByRecursion IsValid commands
followed_valid n None rest commands h k e = absurd (cc)
followed_valid n (Some command) (Ok others) commands h k e = subst (AllByRecursion IsValid) (ok_items (command ∷ others) commands e) (h, k others refl)
followed_valid n (Some command) (Err refused) commands h k e = absurd (cc)

-- all lines
lines_valid : (n : ℕ) (left : List (List ℕ)) (commands : List Command) → commands_of n left ≡ Ok commands → AllByRecursion IsValid commands
lines_valid n [] commands e = subst (AllByRecursion IsValid) (ok_items [] commands e) tt
lines_valid n (line ∷ left) commands told =
    let others = λ (cs : List Command) (e : commands_of (n + 1) left ≡ Ok cs). lines_valid (n + 1) left cs e in
    cond_both (is_skipped (line_words line)) (commands_of (n + 1) left) (commands_with n (command_of (line_words line)) (commands_of (n + 1) left))
    (λ r. r ≡ Ok commands → AllByRecursion IsValid commands)
    (λ _. others commands)
    (λ _. followed_valid n (command_of (line_words line)) (commands_of (n + 1) left) commands (command_valid (line_words line)) others)
    told

-- the commands of a script are valid
pub script_valid : (bytes : List ℕ) (commands : List Command) → script_of bytes ≡ Ok commands → All IsValid commands
unfolding script_of
script_valid bytes commands e = All-from_recursion IsValid commands (lines_valid 1 (lines bytes) commands e)
