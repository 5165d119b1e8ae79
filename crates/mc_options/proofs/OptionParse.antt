-- What a parse of the command line finds.
use Rattle.std.proofs.Common.{◌≡◌, ◌∙◌, inl, inr, ℕ, if◌then◌else◌, Bool, true, false, List, [], ◌∷◌, ◌++◌, refl, ap, sym, subst, bytes_eq, codes, drop, take, find, fold, is_some, unwrap_or, IfSome, option_map, option_and_then, slice_get, Option, Some, None}
use Rattle.std.specs.Option.{option_or}
use Rattle.std.proofs.lemmas.List.Folds.{find-append}
use Rattle.std.proofs.lemmas.Slice.Eq.{bytes_eq-Decides}
use Rattle.clap.specs.Walk.{Row, Rule, arg_by_id, first_of, has_row, more_values, one_of, row_text, rows_of, settled, walk_from, with_default}
use Rattle.clap.specs.Simple.{App, HasMatchesOf, Shape, built, filled, matches_of}
use Rattle.clap.specs.Faults.{fault_of, is_simple_and_free, values_fault, walk_fault}
use Rattle.clap.specs.Matches.{first_value, found_of, one_text}
use Rattle.clap.specs.declared.parser.matches.ArgMatches.{ArgMatches}
use Rattle.clap.specs.declared.parser.matches.ValueSource.TheVariants.{DefaultValue}
use Rattle.clap.specs.ValueTests.{accepts}
use Rattle.clap.specs.Values.{IsUnsignedIn}
use Rattle.clap.proofs.ValueTestLemmas.{accepts-Accepts}
use Rattle.clap.proofs.WalkLemmas.{first_value-rows, one_text-rows}
use Rattle.clap.specs.declared.builder.value_parser.ValueParser.TheVariants as vp
use Rattle.clap.specs.declared.error.kind.ErrorKind.TheVariants as kind
use Rattle.mc_options.specs.Options.{has_threads, option_value}
use Rattle.mc_options.proofs.OptionCut.{IsName, Text}
use Rattle.mc_options.proofs.OptionRows.{IsFlag, IsValued, any_found, at_none, has_id, new_row}
use Rattle.mc_options.proofs.OptionValues.{threads_in, value_in}
use Rattle.mc_options.proofs.OptionWalk.{AreOptions, IsOption, IsQuiet, Says, end, ends, holds, is_flag, or_nil, words_say}
use Rattle.mc_options.specs.CommandLine.{mcslab, threads_rule}

abbrev pub top : Shape
top = (built mcslab).top

valued : (a : Rule) → IsValued a → a.long ≡ Some a.id → a.aliases ≡ [] → a.index ≡ None → IsOption a
valued a v long aliases index = record { long = long; aliases = aliases; index = index; does = inl v }

-- the flag of the threads as it is built, and the options before it
abbrev pub threads_built : Rule
threads_built = filled threads_rule

abbrev pub before_threads : List Rule
before_threads = take 8 top.rules

abbrev pub after_threads : List Rule
after_threads = drop 9 top.rules

pub is_threads_flag : IsFlag threads_built
is_threads_flag = record { action = refl; range = refl; missing = refl; short = refl; short_aliases = refl; parser = refl }

pub are_options : AreOptions top.rules
are_options = (
  valued _ (record { action = refl; range = refl; short = refl; short_aliases = refl; reading = refl }) refl refl refl,
  (
    valued _ (record { action = refl; range = refl; short = refl; short_aliases = refl; reading = refl }) refl refl refl,
    (
      valued _ (record { action = refl; range = refl; short = refl; short_aliases = refl; reading = refl }) refl refl refl,
      (
        valued _ (record { action = refl; range = refl; short = refl; short_aliases = refl; reading = refl }) refl refl refl,
        (
          valued _ (record { action = refl; range = refl; short = refl; short_aliases = refl; reading = refl }) refl refl refl,
          (
            valued _ (record { action = refl; range = refl; short = refl; short_aliases = refl; reading = refl }) refl refl refl,
            (
              valued _ (record { action = refl; range = refl; short = refl; short_aliases = refl; reading = refl }) refl refl refl,
              (
                valued _ (record { action = refl; range = refl; short = refl; short_aliases = refl; reading = refl }) refl refl refl,
                (
                  record { long = refl; aliases = refl; index = refl; does = inr (inl is_threads_flag) },
                  (record { long = refl; aliases = refl; index = refl; does = inr (inr (record { action = refl; range = refl })) }, tt),
                ),
              ),
            ),
          ),
        ),
      ),
    ),
  ),
)

-- the options have no default of clap's
abbrev pub HaveNone : List Rule → Type 0
HaveNone [] = Unit {0}
HaveNone (a ∷ rest) = (a.defaults ≡ []) × HaveNone rest

pub none_before : HaveNone before_threads
none_before = (refl, (refl, (refl, (refl, (refl, (refl, (refl, (refl, tt))))))))

pub none_after : HaveNone after_threads
none_after = (refl, tt)

one_default : (rows : List Row) (a : Rule) → a.defaults ≡ [] → with_default rows a ≡ rows
one_default rows a e = go (has_row a.id rows) refl
  where
    go : (b : Bool) → has_row a.id rows ≡ b → with_default rows a ≡ rows
    go true h = rw h refl
    go false h = rw (h, e) refl

no_defaults : (rs : List Rule) (rows : List Row) → HaveNone rs → fold with_default rows rs ≡ rows
no_defaults [] rows h = refl
no_defaults (a ∷ rest) rows h = ap (λ (r : List Row). fold with_default r rest) (one_default rows a h.0) ∙ no_defaults rest rows h.1

-- but for the flag
flag_default : (before : List Rule) (a : Rule) (after : List Rule) (rows : List Row) → HaveNone before → HaveNone after → fold with_default rows (before ++ a ∷ after) ≡ with_default rows a
flag_default [] a after rows h k = no_defaults after (with_default rows a) k
flag_default (x ∷ before) a after rows h k = ap (λ (r : List Row). fold with_default r (before ++ a ∷ after)) (one_default rows x h.0) ∙ flag_default before a after rows h.1 k

pub defaults_are : (rows : List Row) → fold with_default rows top.rules ≡ with_default rows threads_built
defaults_are rows = flag_default before_threads threads_built after_threads rows none_before none_after

abbrev unset_row : Row
unset_row = record (new_row (codes "threads") (codes "false")) { source = Some DefaultValue }

-- where the flag wasn't used, its row joins the others
unset : (rows : List Row) → has_row (codes "threads") rows ≡ false → with_default rows threads_built ≡ rows ++ unset_row ∷ []
unset rows h = rw h (at_none (codes "threads") (more_values DefaultValue (codes "false" ∷ [])) (unset_row ∷ []) rows h)

-- what is found of the others stays
default_left : (rows : List Row) (id : Text) → bytes_eq (codes "threads") id ≡ false → find (has_id id) (with_default rows threads_built) ≡ find (has_id id) rows
default_left rows id other = go (has_row (codes "threads") rows) refl
  where
    or_none : (o : Option Row) → option_or o None ≡ o
    or_none None = refl
    or_none (Some r) = refl

    go : (b : Bool) → has_row (codes "threads") rows ≡ b → find (has_id id) (with_default rows threads_built) ≡ find (has_id id) rows
    go true h = rw h refl
    go false h =
        ap (find (has_id id)) (unset rows h) ∙ find-append (has_id id) rows (unset_row ∷ []) ∙ rw other (or_none (find (has_id id) rows))

-- the flag's own value is `false` where it wasn't used
default_flag : (rows : List Row) (o : Option Text) → find (has_id (codes "threads")) rows ≡ option_map (new_row (codes "threads")) o
    → one_of (codes "threads") (with_default rows threads_built) ≡ Some (unwrap_or o (codes "false"))
default_flag rows None e =
    let fresh : has_row (codes "threads") rows ≡ false = any_found (has_id (codes "threads")) rows ∙ ap (λ (o : Option Row). is_some o) e in
    ap (one_of (codes "threads")) (unset rows fresh)
    ∙ ap (option_and_then row_text) (find-append (has_id (codes "threads")) rows (unset_row ∷ []) ∙ ap (λ (o : Option Row). option_or o (Some unset_row)) e)
default_flag rows (Some v) e =
    let used : has_row (codes "threads") rows ≡ true = any_found (has_id (codes "threads")) rows ∙ ap (λ (o : Option Row). is_some o) e in
    let same : with_default rows threads_built ≡ rows = rw used refl in
    ap (one_of (codes "threads")) same ∙ ap (option_and_then row_text) e

-- where nothing goes wrong
quiet : (words : List Text) → fault_of mcslab words ≡ [] → IsQuiet top are_options refl (walk_from (holds [] None)) (drop 1 words)
quiet words q =
    let one = or_nil (walk_fault top [] (walk_from (holds [] None)) (drop 1 words)) _ q in
    let two = or_nil _ _ one.1 in
    let three = or_nil (ends top are_options refl (end top are_options refl (walk_from (holds [] None)) (drop 1 words)).held) _ two.1 in
    (one.0, three.0)

pub says : (words : List Text) → fault_of mcslab words ≡ [] → Says top are_options refl (drop 1 words) [] None (end top are_options refl (walk_from (holds [] None)) (drop 1 words)).held
says words q = (words_say top are_options refl (drop 1 words)).0 [] None (quiet words q)

-- the option with this id takes a value
abbrev pub HasValue : Text → Type 0
HasValue id = is_flag top are_options refl id ≡ false

not_threads : (id : Text) → HasValue id → bytes_eq (codes "threads") id ≡ false
not_threads id v = go (bytes_eq (codes "threads") id) refl
  where
    go : (b : Bool) → bytes_eq (codes "threads") id ≡ b → bytes_eq (codes "threads") id ≡ false
    go true e =
        let bad : true ≡ false = subst HasValue (sym ((bytes_eq-Decides (codes "threads") id).0 e)) v in
        cc
    go false e = e

-- the rows of the matches are the values of the words
pub row_found : (words : List Text) (id : Text) → fault_of mcslab words ≡ [] → IsName id → HasValue id → find (has_id id) (matches_of mcslab words) ≡ option_map (new_row id) (option_value id (drop 1 words))
row_found words id q n v =
    let last = (end top are_options refl (walk_from (holds [] None)) (drop 1 words)).held in
    ap (find (has_id id)) (defaults_are (settled top.rules last).rows) ∙ default_left (settled top.rules last).rows id (not_threads id v) ∙ (says words q).finds id n
    ∙ ap (λ (b : Bool). option_map (new_row id) (value_in b id (drop 1 words))) v

-- what the getters read
pub text_found : (words : List Text) (id : Text) → fault_of mcslab words ≡ [] → IsName id → HasValue id → first_of id (matches_of mcslab words) ≡ option_value id (drop 1 words)
text_found words id q n v =
    ap (option_and_then (λ (r : Row). slice_get r.values 0)) (row_found words id q n v) ∙ go (option_value id (drop 1 words))
  where
    go : (o : Option Text) → option_and_then (λ (r : Row). slice_get r.values 0) (option_map (new_row id) o) ≡ o
    go None = refl
    go (Some v) = refl

pub one_found : (words : List Text) (id : Text) → fault_of mcslab words ≡ [] → IsName id → HasValue id → one_of id (matches_of mcslab words) ≡ option_value id (drop 1 words)
one_found words id q n v =
    ap (option_and_then row_text) (row_found words id q n v) ∙ go (option_value id (drop 1 words))
  where
    go : (o : Option Text) → option_and_then row_text (option_map (new_row id) o) ≡ o
    go None = refl
    go (Some v) = refl

-- and of the flag
pub flag_found : (words : List Text) → fault_of mcslab words ≡ [] → one_of (codes "threads") (matches_of mcslab words) ≡ Some (if has_threads (drop 1 words) then codes "true" else codes "false")
flag_found words q =
    let last = (end top are_options refl (walk_from (holds [] None)) (drop 1 words)).held in
    let found : find (has_id (codes "threads")) (settled top.rules last).rows ≡ option_map (new_row (codes "threads")) (if has_threads (drop 1 words) then Some (codes "true") else None) =
    (says words q).finds (codes "threads") (refl, λ e. cc) ∙ ap (option_map (new_row (codes "threads"))) (threads_in (drop 1 words)) in
    ap (one_of (codes "threads")) (defaults_are (settled top.rules last).rows)
    ∙ default_flag (settled top.rules last).rows (if has_threads (drop 1 words) then Some (codes "true") else None) found
    ∙ go (has_threads (drop 1 words))
  where
    go : (b : Bool) → Some (unwrap_or (if b then Some (codes "true") else None) (codes "false")) ≡ Some (if b then codes "true" else codes "false")
    go true = refl
    go false = refl

-- a number's value passes clap's reader
pub number_found : (words : List Text) (id : Text) (a : Rule) (most : ℕ) → fault_of mcslab words ≡ [] → IsName id → HasValue id → arg_by_id top.rules id ≡ Some a → a.parser ≡ Some (vp.Unsigned 0 most)
    → IfSome (option_value id (drop 1 words)) (IsUnsignedIn 0 most)
number_found words id a most q n takes found parser =
    go (option_value id (drop 1 words))
    (subst (λ (b : Bool). IfSome (value_in b id (drop 1 words)) (λ v. IfSome (arg_by_id top.rules id) (λ r. values_fault r (v ∷ []) ≡ []))) takes ((says words q).passes id n))
  where
    passed : (v : Text) → values_fault a (v ∷ []) ≡ [] → IsUnsignedIn 0 most v
    passed v h = is_in (accepts a.ignore_case (vp.Unsigned 0 most) v) refl
      where
        is_in : (b : Bool) → accepts a.ignore_case (vp.Unsigned 0 most) v ≡ b → IsUnsignedIn 0 most v
        is_in true e = accepts-Accepts a.ignore_case (vp.Unsigned 0 most) v e
        is_in false e =
            let bad : kind.ValueValidation ∷ [] ≡ [] = rw (parser, e) at h in
            cc

    go : (o : Option Text) → IfSome o (λ v. IfSome (arg_by_id top.rules id) (λ r. values_fault r (v ∷ []) ≡ [])) → IfSome o (IsUnsignedIn 0 most)
    go None h = tt
    go (Some v) h = passed v (rw found at h)

-- ---- the matches of a parse that succeeds

pub no_fault : (a : App) (words : List Text) → a ≡ mcslab → (is_simple_and_free a ≡ true → fault_of a words ≡ []) → fault_of mcslab words ≡ []
no_fault a words is kinds = subst (λ (b : App). is_simple_and_free b ≡ true → fault_of b words ≡ []) is kinds refl

same_rows : (a : App) (words : List Text) (m : ArgMatches) → a ≡ mcslab → HasMatchesOf a words m → rows_of (found_of m) ≡ matches_of mcslab words
same_rows a words m is h = (subst (λ (b : App). HasMatchesOf b words m) is h refl).0

pub first_is : (a : App) (words : List Text) (m : ArgMatches) (id : Text) → a ≡ mcslab → HasMatchesOf a words m → fault_of mcslab words ≡ [] → IsName id → HasValue id → first_value (found_of m) id ≡ option_value id (drop 1 words)
first_is a words m id is h q n v = first_value-rows (found_of m) id ∙ ap (first_of id) (same_rows a words m is h) ∙ text_found words id q n v

pub one_is : (a : App) (words : List Text) (m : ArgMatches) (id : Text) → a ≡ mcslab → HasMatchesOf a words m → fault_of mcslab words ≡ [] → IsName id → HasValue id → one_text (found_of m) id ≡ option_value id (drop 1 words)
one_is a words m id is h q n v = one_text-rows (found_of m) id ∙ ap (one_of id) (same_rows a words m is h) ∙ one_found words id q n v

pub flag_is : (a : App) (words : List Text) (m : ArgMatches) → a ≡ mcslab → HasMatchesOf a words m → fault_of mcslab words ≡ []
    → one_text (found_of m) (codes "threads") ≡ Some (if has_threads (drop 1 words) then codes "true" else codes "false")
flag_is a words m is h q = one_text-rows (found_of m) (codes "threads") ∙ ap (one_of (codes "threads")) (same_rows a words m is h) ∙ flag_found words q
