-- Words that are options with values that they take, and perhaps the flag, are not refused.
use Rattle.std.proofs.Common.{◌≡◌, ◌≢◌, ◌∙◌, inl, inr, ℕ, ◌==◌, ◌||◌, if◌then◌else◌, Bool, true, false, List, [], ◌∷◌, ◌++◌, refl, ap, ap₂, sym, subst, drop, codes, bytes_eq, is_some, Option, Some, None, arith}
use Rattle.std.proofs.lemmas.List.Folds.{list_any-append}
use Rattle.std.proofs.lemmas.Slice.Eq.{bytes_eq-Decides}
use Rattle.clap.specs.Lexer.{has_byte, long_of, name_and_value, short_of}
use Rattle.clap.specs.Walk.{finished, is_empty, with_default, Row, Rule, Walk, arg_by_id, has_row, most_values, settled, used, walk_from}
use Rattle.clap.specs.Simple.{Shape, built, entered}
use Rattle.clap.specs.Faults.{check_fault, entered_fault, default_fault, given_default_fault, defaults_fault, fault_of, use_fault, values_fault, walk_fault}
use Rattle.clap.specs.Kinds.{or_else}
use Rattle.clap.specs.ValueTests.{accepts}
use Rattle.clap.specs.Values.{IsUnsignedIn}
use Rattle.clap.proofs.ValueTestLemmas.{Accepts-accepts}
use Rattle.clap.specs.declared.builder.value_parser.ValueParser.TheVariants as vp
use Rattle.mc_options.specs.CommandLine.{mcslab}
use Rattle.mc_options.specs.Options.{AreTaken, Choice, IsCommandLine, IsMode, IsNewTo, IsNumber, IsNumberName, AllowsValue, apart, flag, is_hyphenated, joined, option_name, choice_words}
use Rattle.mc_options.proofs.OptionCut.{IsName, Text, first_name, next_name}
use Rattle.mc_options.proofs.OptionRows.{IsFlag, IsValued, new_row, used_flag, used_new}
use Rattle.mc_options.proofs.OptionWalk.{AreOptions, IsQuiet, apart_next, apart_turn, attached_next, end, ends, flag_next, flag_one, flag_turn, found_option, holds, joined_turn, more_quiet, next, pending_used, takes_nothing, takes_valued, turn, valued_one, value_next, value_turn, waits_from}
use Rattle.mc_options.proofs.OptionParse.{HaveNone, after_threads, are_options, before_threads, is_threads_flag, none_after, none_before, threads_built, top}

-- ---- the options

-- what is known of an option that takes the value
pub record Takes (rules : List Rule) (name value : Text) : Type 0 where
  pub is_name : IsName name
  pub rule : Rule
  pub found : arg_by_id rules name ≡ Some rule
  pub valued : IsValued rule
  pub passes : values_fault rule (value ∷ []) ≡ []

-- and of a flag
pub record HasFlag (rules : List Rule) (name : Text) : Type 0 where
  pub is_name : IsName name
  pub rule : Rule
  pub found : arg_by_id rules name ≡ Some rule
  pub flag : IsFlag rule

named : (i : ℕ) (is : List ℕ) → i ∷ is ≡ [] → ⊥
named i is e = cc

number_takes : (name value : Text) (a : Rule) (most : ℕ) → IsName name → arg_by_id top.rules name ≡ Some a → IsValued a → a.parser ≡ Some (vp.Unsigned 0 most) → IsUnsignedIn 0 most value → Takes top.rules name value
number_takes name value a most n found valued parser number =
    let pass : accepts a.ignore_case (vp.Unsigned 0 most) value ≡ true = Accepts-accepts a.ignore_case (vp.Unsigned 0 most) value number in
    record { is_name = n; rule = a; found = found; valued = valued; passes = rw (parser, pass) refl }

number_name_takes : (name value : Text) → IsNumberName name → IsNumber value → Takes top.rules name value
number_name_takes name value n number =
    let up_to : IsUnsignedIn 0 18446744073709551615 value = (number.0, number.1, omega arith, omega arith) in
    elim n [
      | inl e ↦ subst (λ (t : Text). Takes top.rules t value) (sym e) (number_takes (codes "page") value _ _ (refl, named _ _) refl (record { action = refl; range = refl; short = refl; short_aliases = refl; reading = refl }) refl up_to)
      | inr (inl e) ↦ subst (λ (t : Text). Takes top.rules t value) (sym e) (number_takes (codes "limit") value _ _ (refl, named _ _) refl (record { action = refl; range = refl; short = refl; short_aliases = refl; reading = refl }) refl up_to)
      | inr (inr (inl e)) ↦ subst (λ (t : Text). Takes top.rules t value) (sym e) (number_takes (codes "first") value _ _ (refl, named _ _) refl (record { action = refl; range = refl; short = refl; short_aliases = refl; reading = refl }) refl up_to)
      | inr (inr (inr (inl e))) ↦ subst (λ (t : Text). Takes top.rules t value) (sym e) (number_takes (codes "max") value _ _ (refl, named _ _) refl (record { action = refl; range = refl; short = refl; short_aliases = refl; reading = refl }) refl up_to)
      | inr (inr (inr (inr (inl e)))) ↦ subst (λ (t : Text). Takes top.rules t value) (sym e) (number_takes (codes "stripes") value _ _ (refl, named _ _) refl (record { action = refl; range = refl; short = refl; short_aliases = refl; reading = refl }) refl up_to)
      | inr (inr (inr (inr (inr e)))) ↦ subst (λ (t : Text). Takes top.rules t value) (sym e) (number_takes (codes "bulk") value _ _ (refl, named _ _) refl (record { action = refl; range = refl; short = refl; short_aliases = refl; reading = refl }) refl up_to)
    ]

automove_takes : (value : Text) → IsMode value → Takes top.rules (codes "automove") value
automove_takes value mode =
    number_takes (codes "automove") value _ 2 (refl, named _ _) refl (record { action = refl; range = refl; short = refl; short_aliases = refl; reading = refl }) refl (mode.0.0, mode.0.1, omega arith, mode.1)

factor_takes : (value : Text) → Takes top.rules (codes "factor") value
factor_takes value = record {
  is_name = (refl, named _ _);
  rule = _;
  found = refl;
  valued = record { action = refl; range = refl; short = refl; short_aliases = refl; reading = refl };
  passes = refl;
}

pub takes : (name value : Text) → AllowsValue name value → Takes top.rules name value
takes name value t = elim t [
  | inl e ↦ subst (λ (n : Text). Takes top.rules n value) (sym e) (factor_takes value)
  | inr (inl mode) ↦ subst (λ (n : Text). Takes top.rules n value) (sym mode.0) (automove_takes value mode.1)
  | inr (inr number) ↦ number_name_takes name value number.0 number.1
]

pub has_flag : HasFlag top.rules (codes "threads")
has_flag = record { is_name = (refl, named _ _); rule = threads_built; found = refl; flag = is_threads_flag }

-- ---- the words

cut_joined : (name value : Text) → has_byte 61 name ≡ false → name_and_value (name ++ (61 ∷ value)) ≡ (name, Some value)
cut_joined [] value h = first_name 61 value refl
cut_joined (c ∷ r) value h = go (cut_joined r value) (c == 61) refl
  where
    go : (has_byte 61 r ≡ false → name_and_value (r ++ (61 ∷ value)) ≡ (r, Some value)) → (b : Bool) → (c == 61) ≡ b → name_and_value ((c ∷ r) ++ (61 ∷ value)) ≡ (c ∷ r, Some value)
    go rest true e = let bad : true ≡ false = rw e at h in cc
    go rest false e = next_name c (r ++ (61 ∷ value)) e ∙ ap (λ (q : Text × Option Text). (c ∷ q.0, q.1)) (rest (rw e at h))

cut_apart : (name : Text) → has_byte 61 name ≡ false → name_and_value name ≡ (name, None)
cut_apart [] h = refl
cut_apart (c ∷ r) h = go (cut_apart r) (c == 61) refl
  where
    go : (has_byte 61 r ≡ false → name_and_value r ≡ (r, None)) → (b : Bool) → (c == 61) ≡ b → name_and_value (c ∷ r) ≡ (c ∷ r, None)
    go rest true e = let bad : true ≡ false = rw e at h in cc
    go rest false e = next_name c r e ∙ ap (λ (q : Text × Option Text). (c ∷ q.0, q.1)) (rest (rw e at h))

abbrev dashes : Text
dashes = 45 ∷ 45 ∷ []

abbrev named_word : Text → Text
named_word rest = 45 ∷ 45 ∷ rest

long_joined : (name value : Text) → IsName name → (long_of (named_word (name ++ (61 ∷ value))) ≡ Some (name, Some value)) × (bytes_eq (named_word (name ++ (61 ∷ value))) dashes ≡ false)
long_joined [] value n = absurd (n.1 refl)
long_joined (c ∷ r) value n = (ap Some (cut_joined (c ∷ r) value n.0), refl)

long_apart : (name : Text) → IsName name → (long_of (named_word name) ≡ Some (name, None)) × (bytes_eq (named_word name) dashes ≡ false)
long_apart [] n = absurd (n.1 refl)
long_apart (c ∷ r) n = (ap Some (cut_apart (c ∷ r) n.0), refl)

record IsPlain (word : Text) : Type 0 where
  long : long_of word ≡ None
  short : short_of word ≡ None
  apart : bytes_eq word dashes ≡ false

plain_word : (word : Text) → is_hyphenated word ≡ false → IsPlain word
plain_word [] h = record { long = refl; short = refl; apart = refl }
plain_word (x ∷ []) h = go (x == 45) refl
  where
    go : (b : Bool) → (x == 45) ≡ b → IsPlain (x ∷ [])
    go true e = record { long = rw e refl; short = rw e refl; apart = rw e refl }
    go false e = record { long = rw e refl; short = rw e refl; apart = rw e refl }
plain_word (x ∷ y ∷ rest) h = record { long = rw h refl; short = rw h refl; apart = rw h refl }

-- ---- the walk

abbrev AreFresh : List Choice → List Row → Type 0
AreFresh [] rows = Unit {0}
AreFresh (choice ∷ rest) rows = (has_row (option_name choice) rows ≡ false) × AreFresh rest rows

none_fresh : (choices : List Choice) → AreFresh choices []
none_fresh [] = tt
none_fresh (choice ∷ rest) = (refl, none_fresh rest)

other_name : (a b : Text) → a ≢ b → bytes_eq b a ≡ false
other_name a b differ = go (bytes_eq b a) refl
  where
    go : (t : Bool) → bytes_eq b a ≡ t → bytes_eq b a ≡ false
    go true e = absurd (differ (sym ((bytes_eq-Decides b a).0 e)))
    go false e = e

fresh_more : (choices : List Choice) (rows : List Row) (name value : Text) → AreFresh choices rows → IsNewTo name choices → AreFresh choices (rows ++ new_row name value ∷ [])
fresh_more [] rows name value f n = tt
fresh_more (choice ∷ rest) rows name value f n = (
  list_any-append (λ (r : Row). bytes_eq r.id (option_name choice)) rows (new_row name value ∷ []) ∙ rw (f.0, other_name (option_name choice) name n.0) refl,
  fresh_more rest rows name value f.1 n.1,
)

module _ (s : Shape) (options : AreOptions s.rules) (once : s.args_override_self ≡ false) (known : (name value : Text) → AllowsValue name value → Takes s.rules name value) (flags : HasFlag s.rules (codes "threads")) where
  -- a first use passes
  use_quiet : (a : Rule) (value : Text) (rows : List Row) → IsValued a → has_row a.id rows ≡ false → values_fault a (value ∷ []) ≡ [] → use_fault s.args_override_self a (value ∷ []) rows ≡ []
  use_quiet a value rows v fresh pass = valued_one s.args_override_self a value rows v ∙ rw (fresh, pass) refl

  abbrev Quiet : List Choice → Type 0
  Quiet choices = (rows : List Row) (p : Option (Text × List Text)) → ends s options once (holds rows p) ≡ [] → AreFresh choices (settled s.rules (holds rows p)).rows → AreTaken choices
      → IsQuiet s options once (walk_from (holds rows p)) (choice_words choices)

  joined_quiet : (name value : Text) (rest : List Choice) → Quiet rest → (rows : List Row) (p : Option (Text × List Text)) → ends s options once (holds rows p) ≡ [] → has_row name (settled s.rules (holds rows p)).rows ≡ false
      → AreFresh rest (settled s.rules (holds rows p)).rows → Takes s.rules name value → IsNewTo name rest → AreTaken rest → IsQuiet s options once (walk_from (holds rows p)) (named_word (name ++ (61 ∷ value)) ∷ choice_words rest)
  joined_quiet name value rest later rows p settles fresh others t new taken =
      let h = holds rows p in
      let before = (settled s.rules h).rows in
      let word = named_word (name ++ (61 ∷ value)) in
      let l = long_joined name value t.is_name in
      let id : t.rule.id ≡ name = (found_option s.rules name t.rule options t.found).1 in
      let own : has_row t.rule.id before ≡ false = ap (λ (x : Text). has_row x before) id ∙ fresh in
      let use_ok = use_quiet t.rule value before t.valued own t.passes in
      let grown : used t.rule (value ∷ []) before ≡ before ++ new_row name value ∷ [] = used_new t.rule value before t.valued own ∙ ap (λ (x : Text). before ++ new_row x value ∷ []) id in
      let turn_ok : turn s options once (walk_from h) word ≡ [] = joined_turn s options once h word name value t.rule l.1 l.0 t.found (takes_valued s options once t.rule t.valued) ∙ rw (settles, use_ok) refl in
      let step = attached_next s options once h word name value t.rule l.1 l.0 t.found (takes_valued s options once t.rule t.valued) in
      let fresh_rest : AreFresh rest (used t.rule (value ∷ []) before) = subst (AreFresh rest) (sym grown) (fresh_more rest before name value others new) in
      let said = later (used t.rule (value ∷ []) before) None refl fresh_rest taken in
      more_quiet s options once (walk_from h) word (choice_words rest) turn_ok (subst (λ (w : Walk). IsQuiet s options once w (choice_words rest)) (sym step) said)

  apart_quiet : (name value : Text) (rest : List Choice) → Quiet rest → (rows : List Row) (p : Option (Text × List Text)) → ends s options once (holds rows p) ≡ [] → has_row name (settled s.rules (holds rows p)).rows ≡ false
      → AreFresh rest (settled s.rules (holds rows p)).rows → Takes s.rules name value → IsNewTo name rest → AreTaken rest → is_hyphenated value ≡ false
      → IsQuiet s options once (walk_from (holds rows p)) (named_word name ∷ value ∷ choice_words rest)
  apart_quiet name value rest later rows p settles fresh others t new taken plain =
      let h = holds rows p in
      let before = (settled s.rules h).rows in
      let word = named_word name in
      let l = long_apart name t.is_name in
      let k = plain_word value plain in
      let id : t.rule.id ≡ name = (found_option s.rules name t.rule options t.found).1 in
      let own : has_row t.rule.id before ≡ false = ap (λ (x : Text). has_row x before) id ∙ fresh in
      let use_ok = use_quiet t.rule value before t.valued own t.passes in
      let most : most_values t.rule ≡ 1 = rw t.valued.range refl in
      let grown : (settled s.rules (holds before (Some (name, value ∷ [])))).rows ≡ before ++ new_row name value ∷ [] =
      pending_used s options once before name value t.rule t.found ∙ used_new t.rule value before t.valued own ∙ ap (λ (x : Text). before ++ new_row x value ∷ []) id in
      let turn_ok : turn s options once (walk_from h) word ≡ [] = apart_turn s options once h word name t.rule l.1 l.0 t.found (takes_valued s options once t.rule t.valued) ∙ rw settles refl in
      let step : next s options once (walk_from h) word ≡ waits_from name (holds before (Some (name, []))) =
      apart_next s options once h word name t.rule l.1 l.0 t.found (takes_valued s options once t.rule t.valued) ∙ ap (λ (x : Text). waits_from x (holds before (Some (x, [])))) id in
      let value_ok = value_turn s options once before value name k.apart k.long k.short in
      let value_step = value_next s options once before value name t.rule k.apart k.long t.found most id (rw k.short tt) in
      let settled_ok : ends s options once (holds before (Some (name, value ∷ []))) ≡ [] = rw t.found use_ok in
      let said = later before (Some (name, value ∷ [])) settled_ok (subst (AreFresh rest) (sym grown) (fresh_more rest before name value others new)) taken in
      more_quiet s options once (walk_from h) word (value ∷ choice_words rest) turn_ok
      (subst (λ (w : Walk). IsQuiet s options once w (value ∷ choice_words rest)) (sym step)
      (more_quiet s options once (waits_from name (holds before (Some (name, [])))) value (choice_words rest) value_ok
      (subst (λ (w : Walk). IsQuiet s options once w (choice_words rest)) (sym value_step) said)))

  flag_quiet : (rest : List Choice) → Quiet rest → (rows : List Row) (p : Option (Text × List Text)) → ends s options once (holds rows p) ≡ [] → has_row (codes "threads") (settled s.rules (holds rows p)).rows ≡ false
      → AreFresh rest (settled s.rules (holds rows p)).rows → IsNewTo (codes "threads") rest → AreTaken rest → IsQuiet s options once (walk_from (holds rows p)) (codes "--threads" ∷ choice_words rest)
  flag_quiet rest later rows p settles fresh others new taken =
      let h = holds rows p in
      let before = (settled s.rules h).rows in
      let word = codes "--threads" in
      let a = flags.rule in
      let l = long_apart (codes "threads") flags.is_name in
      let id : a.id ≡ codes "threads" = (found_option s.rules (codes "threads") a options flags.found).1 in
      let own : has_row a.id before ≡ false = ap (λ (x : Text). has_row x before) id ∙ fresh in
      let use_ok : use_fault s.args_override_self a [] before ≡ [] = flag_one s.args_override_self a before flags.flag ∙ rw own refl in
      let grown : used a [] before ≡ before ++ new_row (codes "threads") (codes "true") ∷ [] =
      used_flag a before flags.flag own ∙ ap (λ (x : Text). before ++ new_row x (codes "true") ∷ []) id in
      let turn_ok : turn s options once (walk_from h) word ≡ [] =
      flag_turn s options once h word (codes "threads") a l.1 l.0 flags.found (takes_nothing s options once a flags.flag) ∙ rw (settles, use_ok) refl in
      let step = flag_next s options once h word (codes "threads") a l.1 l.0 flags.found (takes_nothing s options once a flags.flag) in
      let fresh_rest : AreFresh rest (used a [] before) = subst (AreFresh rest) (sym grown) (fresh_more rest before (codes "threads") (codes "true") others new) in
      let said = later (used a [] before) None refl fresh_rest taken in
      more_quiet s options once (walk_from h) word (choice_words rest) turn_ok (subst (λ (w : Walk). IsQuiet s options once w (choice_words rest)) (sym step) said)

  pub words_quiet : (choices : List Choice) → Quiet choices
  unfolding walk_fault
  words_quiet [] rows p settles fresh taken = (refl, settles)
  words_quiet (joined name value ∷ rest) rows p settles fresh taken =
      joined_quiet name value rest (words_quiet rest) rows p settles fresh.0 fresh.1 (known name value taken.0) taken.1 taken.2
  words_quiet (apart name value ∷ rest) rows p settles fresh taken =
      apart_quiet name value rest (words_quiet rest) rows p settles fresh.0 fresh.1 (known name value taken.0.0) taken.1 taken.2 taken.0.1
  words_quiet (flag ∷ rest) rows p settles fresh taken = flag_quiet rest (words_quiet rest) rows p settles fresh.0 fresh.1 taken.1 taken.2

-- ---- the parse

stop_quiet : (stop : Option (Text × List Text)) → entered_fault (built mcslab) stop ≡ []
stop_quiet None = refl
stop_quiet (Some p) = refl

check_quiet : (stop : Option (Text × List Text)) (rows : List Row) → check_fault top rows (is_some (entered (built mcslab) stop)) ≡ []
check_quiet None rows = refl
check_quiet (Some p) rows = refl

quiet_default : (a : Rule) (rows : List Row) → a.defaults ≡ [] → default_fault rows a ≡ []
quiet_default a rows h = one (has_row a.id rows)
  where
    one : (b : Bool) → (if b || is_empty a.defaults then [] else given_default_fault a a.defaults) ≡ []
    one true = refl
    one false = rw h refl

flag_default_quiet : (rows : List Row) → default_fault rows threads_built ≡ []
flag_default_quiet rows = one (has_row (codes "threads") rows)
  where
    one : (b : Bool) → (if b || false then [] else given_default_fault threads_built (codes "false" ∷ [])) ≡ []
    one true = refl
    one false = refl

none_quiet : (rs : List Rule) (rows : List Row) → HaveNone rs → defaults_fault rows rs ≡ []
unfolding defaults_fault
none_quiet [] rows h = refl
none_quiet (a ∷ rest) rows h = ap₂ or_else (quiet_default a rows h.0) (none_quiet rest (with_default rows a) h.1)

some_quiet : (before : List Rule) (a : Rule) (after : List Rule) (rows : List Row) → HaveNone before → ((r : List Row) → default_fault r a ≡ []) → HaveNone after → defaults_fault rows (before ++ a ∷ after) ≡ []
unfolding defaults_fault
some_quiet [] a after rows h k later = ap₂ or_else (k rows) (none_quiet after (with_default rows a) later)
some_quiet (x ∷ before) a after rows h k later = ap₂ or_else (quiet_default x rows h.0) (some_quiet before a after (with_default rows x) h.1 k later)

defaults_quiet : (rows : List Row) → defaults_fault rows top.rules ≡ []
defaults_quiet rows = some_quiet before_threads threads_built after_threads rows none_before flag_default_quiet none_after

-- a command line is not refused
pub no_refusal : (words : List Text) → IsCommandLine (drop 1 words) → fault_of mcslab words ≡ []
no_refusal words line =
    let choices = line.0 in
    let is = line.1 in
    let taken = line.2 in
    let start = walk_from (holds [] None) in
    let quiet : IsQuiet top are_options refl start (drop 1 words) = subst (λ (ws : List Text). IsQuiet top are_options refl start ws) (sym is) (words_quiet top are_options refl takes has_flag choices [] None refl (none_fresh choices) taken) in
    let last = end top are_options refl start (drop 1 words) in
    ap₂ or_else quiet.0 (ap₂ or_else (stop_quiet last.stopped) (ap₂ or_else quiet.1 (ap₂ or_else (defaults_quiet (settled top.rules last.held).rows) (check_quiet last.stopped (finished top.rules last.held)))))
