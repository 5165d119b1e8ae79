-- A parse of options that take one value each, and of flags, word by word.
use Rattle.std.proofs.Common.{◌≡◌, ◌∙◌, ◌⊎◌, inl, inr, ℕ, if◌then◌else◌, Bool, true, false, not, ◌&&◌, ◌||◌, List, [], ◌∷◌, ◌++◌, refl, ap, sym, subst, bytes_eq, codes, find, fold, is_some, option_map, IfSome, slice_get, length, Option, Some, None}
use Rattle.std.specs.Option.{option_map_or, option_or}
use Rattle.std.specs.Str.{chars}
use Rattle.std.proofs.lemmas.Slice.Eq.{bytes_eq-Decides}
use Rattle.clap.specs.Lexer.{long_of, short_of}
use Rattle.clap.specs.Walk.{bundle_met, plain, Held, Row, Rule, Waiting, Walk, arg_by_id, arg_by_index, arg_by_long, arg_by_short, has_long, has_row, has_short, idle, option, reacted, most_values, settled, subcommand_met, takes_values, used, walk_from, walked}
use Rattle.clap.specs.Kinds.{Kinds, or_else}
use Rattle.clap.specs.Faults.{flags_fault, react_fault, repeat_fault, settle_fault, stray_fault, turn_fault, use_fault, values_fault, walk_fault}
use Rattle.clap.specs.Simple.{Shape}
use Rattle.clap.specs.declared.builder.action.ArgAction.TheVariants.{Help}
use Rattle.clap.specs.declared.error.kind.ErrorKind.TheVariants as kind
use Rattle.mc_options.proofs.OptionCut.{IsName, Text}
use Rattle.mc_options.proofs.OptionRows.{IsFlag, IsValued, find_none, find_used, has_id, new_row, used_flag, used_new}
use Rattle.mc_options.proofs.OptionValues.{apart_value, dashes_value, flag_value, joined_value, none_in, value_in}

-- the option asks for help
pub record IsRequest (a : Rule) : Type 0 where
  pub action : a.action ≡ Some Help
  pub range : a.range ≡ Some (record { start_inclusive = 0; end_inclusive = 0 })

-- an option under its own id
pub record IsOption (a : Rule) : Type 0 where
  pub long : a.long ≡ Some a.id
  pub aliases : a.aliases ≡ []
  pub index : a.index ≡ None
  pub does : IsValued a ⊎ (IsFlag a ⊎ IsRequest a)

abbrev pub AreOptions : List Rule → Type 0
AreOptions [] = Unit {0}
AreOptions (a ∷ rest) = IsOption a × AreOptions rest

-- ---- look-ups

or_false : (b : Bool) → (b || false) ≡ b
or_false true = refl
or_false false = refl

long_is_id : (a : Rule) (name : Text) → IsOption a → (not (is_some a.index) && has_long a name) ≡ bytes_eq a.id name
long_is_id a name o = rw (o.index, o.long, o.aliases) (or_false (bytes_eq a.id name))

pub by_long : (rs : List Rule) (name : Text) → AreOptions rs → arg_by_long rs name ≡ arg_by_id rs name
by_long [] name h = refl
by_long (a ∷ rest) name h =
    rw (long_is_id a name h.0, by_long rest name h.1) refl

pub by_index : (rs : List Rule) (i : ℕ) → AreOptions rs → arg_by_index rs i ≡ None
by_index [] i h = refl
by_index (a ∷ rest) i h = rw h.0.index (by_index rest i h.1)

pub found_option : (rs : List Rule) (name : Text) (a : Rule) → AreOptions rs → arg_by_id rs name ≡ Some a → IsOption a × (a.id ≡ name)
found_option [] name a h e = cc
found_option (x ∷ rest) name a h e = go (found_option rest name a h.1) (bytes_eq x.id name) refl
  where
    go : (arg_by_id rest name ≡ Some a → IsOption a × (a.id ≡ name)) → (b : Bool) → bytes_eq x.id name ≡ b → IsOption a × (a.id ≡ name)
    go later true d =
        let same : x ≡ a = cc in
        subst (λ (y : Rule). IsOption y × (y.id ≡ name)) same (h.0, (bytes_eq-Decides x.id name).0 d)
    go later false d = later (rw d at e)

not_short : (a : Rule) (x : ℕ) → a.short ≡ None → a.short_aliases ≡ [] → has_short a x ≡ false
not_short a x short aliases = rw (short, aliases) refl

pub found_short : (rs : List Rule) (x : ℕ) (a : Rule) → AreOptions rs → arg_by_short rs x ≡ Some a → IsRequest a
found_short [] x a h e = cc
found_short (y ∷ rest) x a h e = elim h.0.does [
  | inl v ↦ found_short rest x a h.1 (rw (not_short y x v.short v.short_aliases, h.0.index) at e)
  | inr (inl f) ↦ found_short rest x a h.1 (rw (not_short y x f.short f.short_aliases, h.0.index) at e)
  | inr (inr r) ↦ go r (found_short rest x a h.1) (not (is_some y.index) && has_short y x) refl
]
  where
    go : IsRequest y → (arg_by_short rest x ≡ Some a → IsRequest a) → (b : Bool) → (not (is_some y.index) && has_short y x) ≡ b → IsRequest a
    go r later true d =
        let same : y ≡ a = cc in
        subst IsRequest same r
    go r later false d = later (rw d at e)

-- ---- faults

pub or_nil : (a b : Kinds) → or_else a b ≡ [] → (a ≡ []) × (b ≡ [])
or_nil [] b h = (refl, h)
or_nil (k ∷ ks) b h = cc

pub request_none : (again : Bool) (a : Rule) (rows : List Row) → IsRequest a → use_fault again a [] rows ≡ kind.DisplayHelp ∷ []
request_none again a rows r = rw (r.range, r.action) refl

pub request_one : (again : Bool) (a : Rule) (value : Text) (rows : List Row) → IsRequest a → use_fault again a (value ∷ []) rows ≡ kind.WrongNumberOfValues ∷ []
request_one again a value rows r = rw r.range refl

pub valued_none : (again : Bool) (a : Rule) (rows : List Row) → IsValued a → use_fault again a [] rows ≡ kind.InvalidValue ∷ []
valued_none again a rows v = rw v.range refl

pub valued_one : (again : Bool) (a : Rule) (value : Text) (rows : List Row) → IsValued a
    → use_fault again a (value ∷ []) rows ≡ or_else (repeat_fault again a.id rows) (values_fault a (value ∷ []))
valued_one again a value rows v = rw (v.range, v.action) refl

-- a flag is used with no value, and its own passes
pub flag_one : (again : Bool) (a : Rule) (rows : List Row) → IsFlag a → use_fault again a [] rows ≡ or_else (repeat_fault again a.id rows) []
flag_one again a rows f = rw (f.range, f.action, f.missing, f.parser) refl

flag_passes : (a : Rule) → IsFlag a → values_fault a (codes "true" ∷ []) ≡ []
flag_passes a f = rw f.parser refl

pub repeat_none : (id : Text) (rows : List Row) → repeat_fault false id rows ≡ [] → has_row id rows ≡ false
repeat_none id rows h = go (has_row id rows) refl
  where
    go : (b : Bool) → has_row id rows ≡ b → has_row id rows ≡ false
    go true e = let bad : kind.ArgumentConflict ∷ [] ≡ [] = rw e at h in cc
    go false e = e

pub stray_some : (s : Shape) → stray_fault s ≡ [] → ⊥
stray_some s = go s.is_leaf
  where
    go : (b : Bool) → (if b then kind.UnknownArgument ∷ [] else kind.UnknownArgument ∷ kind.InvalidSubcommand ∷ []) ≡ [] → ⊥
    go true h = cc
    go false h = cc

-- ---- one word

-- an option waits for its value
abbrev pub waits_from : Text → Held → Walk
waits_from id h = record (walk_from h) { waiting = option id }

-- after `--`
abbrev pub trails_from : Waiting → Held → Walk
trails_from waiting h = record (walk_from h) { waiting = waiting; is_trailing = true }

abbrev pub dashes : Text
dashes = 45 ∷ 45 ∷ []

-- what is held between two words
abbrev pub holds : List Row → Option (Text × List Text) → Held
holds rows pending = record { rows = rows; pending = pending; skip = 0 }

module _ (s : Shape) (options : AreOptions s.rules) (once : s.args_override_self ≡ false) where
  abbrev pub turn : Walk → Text → Kinds
  turn w word = turn_fault s [] w word

  abbrev pub next : Walk → Text → Walk
  next w word = walked s.rules [] w word

  abbrev pub end : Walk → List Text → Walk
  end w words = fold (walked s.rules []) w words

  abbrev pub ends : Held → Kinds
  ends h = settle_fault s.rules s.args_override_self h

  -- nothing goes wrong from here to the end
  abbrev pub IsQuiet : Walk → List Text → Type 0
  IsQuiet w words = (walk_fault s [] w words ≡ []) × (ends (end w words).held ≡ [])

  first_quiet : (w : Walk) (word : Text) (rest : List Text) → IsQuiet w (word ∷ rest) → (turn w word ≡ []) × IsQuiet (next w word) rest
  unfolding walk_fault
  first_quiet w word rest q =
      let both = or_nil (turn w word) (walk_fault s [] (next w word) rest) q.0 in
      (both.0, (both.1, q.1))

  -- no word may follow `--`
  trails : (waiting : Waiting) (h : Held) (words : List Text) → IsQuiet (trails_from waiting h) words → words ≡ []
  trails waiting h [] q = refl
  trails waiting h (word ∷ rest) q =
      let t = (first_quiet (trails_from waiting h) word rest q).0 in
      let stray : stray_fault s ≡ [] = rw (by_index s.rules 1 options) at t in
      absurd (stray_some s stray)

  abbrev pub from : Waiting → Held → Walk
  from waiting h = record (walk_from h) { waiting = waiting }

  dashes_next : (waiting : Waiting) (h : Held) → subcommand_met [] waiting dashes ≡ None → next (from waiting h) dashes ≡ trails_from waiting h
  unfolding walked
  dashes_next waiting h none = rw none refl

  -- `--name=value`
  pub attached_next : (h : Held) (word name value : Text) (a : Rule) → bytes_eq word dashes ≡ false → long_of word ≡ Some (name, Some value) → arg_by_id s.rules name ≡ Some a → takes_values a ≡ true
      → next (walk_from h) word ≡ walk_from (reacted s.rules a (value ∷ []) h)
  unfolding walked
  attached_next h word name value a e l f t = rw (e, l, by_long s.rules name options, f, t) refl

  -- `--name`
  pub apart_next : (h : Held) (word name : Text) (a : Rule) → bytes_eq word dashes ≡ false → long_of word ≡ Some (name, None) → arg_by_id s.rules name ≡ Some a → takes_values a ≡ true
      → next (walk_from h) word ≡ waits_from a.id (record (settled s.rules h) { pending = Some (a.id, []) })
  unfolding walked
  apart_next h word name a e l f t = rw (e, l, by_long s.rules name options, f, t) refl

  -- `--name` of a flag
  pub flag_next : (h : Held) (word name : Text) (a : Rule) → bytes_eq word dashes ≡ false → long_of word ≡ Some (name, None) → arg_by_id s.rules name ≡ Some a → takes_values a ≡ false
      → next (walk_from h) word ≡ walk_from (reacted s.rules a [] h)
  unfolding walked
  flag_next h word name a e l f t = rw (e, l, by_long s.rules name options, f, t) refl

  -- the word after it
  pub value_next : (rows : List Row) (word name : Text) (a : Rule) → bytes_eq word dashes ≡ false → long_of word ≡ None → arg_by_id s.rules name ≡ Some a → most_values a ≡ 1 → a.id ≡ name
      → IfSome (short_of word) (λ flags. bundle_met s.rules (length flags) flags 0 plain (holds rows (Some (name, []))) ≡ (holds rows (Some (name, [])), plain))
      → next (waits_from name (holds rows (Some (name, [])))) word ≡ walk_from (holds rows (Some (name, word ∷ [])))
  unfolding walked
  value_next rows word name a e l f most same flags = go (short_of word) refl flags
    where
      go : (o : Option Text) → short_of word ≡ o
          → IfSome o (λ flags. bundle_met s.rules (length flags) flags 0 plain (holds rows (Some (name, []))) ≡ (holds rows (Some (name, [])), plain))
          → next (waits_from name (holds rows (Some (name, [])))) word ≡ walk_from (holds rows (Some (name, word ∷ [])))
      go None sh k = rw (e, l, sh, f, most, (bytes_eq-Decides name a.id).1 (sym same)) refl
      go (Some flags) sh k = rw (e, l, sh, k, f, most, (bytes_eq-Decides name a.id).1 (sym same)) refl

  -- ---- what a word that is taken says

  abbrev pub again : Bool
  again = s.args_override_self

  pub takes_valued : (a : Rule) → IsValued a → takes_values a ≡ true
  takes_valued a v = rw v.range refl

  pub takes_nothing : (a : Rule) → IsFlag a → takes_values a ≡ false
  takes_nothing a f = rw f.range refl

  takes_request : (a : Rule) → IsRequest a → takes_values a ≡ false
  takes_request a r = rw r.range refl

  -- `--name` or `--name=value`: what was waited for is there, and the option is known
  record TakesLong (h : Held) (p : Text × Option Text) : Type 0 where
    settles : ends h ≡ []
    rule : Rule
    found : arg_by_id s.rules p.0 ≡ Some rule
    id : rule.id ≡ p.0
    valued : IsValued rule
    uses : IfSome p.1 (λ value. use_fault again rule (value ∷ []) (settled s.rules h).rows ≡ [])

  -- `--name` of a flag
  record TakesFlag (h : Held) (p : Text × Option Text) : Type 0 where
    settles : ends h ≡ []
    rule : Rule
    found : arg_by_id s.rules p.0 ≡ Some rule
    id : rule.id ≡ p.0
    flag : IsFlag rule
    alone : p.1 ≡ None
    uses : use_fault again rule [] (settled s.rules h).rows ≡ []

  abbrev Taken : Held → Text × Option Text → Type 0
  Taken h p = TakesLong h p ⊎ TakesFlag h p

  taken_settles : (h : Held) (p : Text × Option Text) → Taken h p → ends h ≡ []
  taken_settles h p t = elim t [ inl long ↦ long.settles | inr flag ↦ flag.settles ]

  long_taken : (waiting : Waiting) (h : Held) (word : Text) (p : Text × Option Text) → subcommand_met [] waiting word ≡ None → bytes_eq word dashes ≡ false → long_of word ≡ Some p
      → turn (from waiting h) word ≡ [] → Taken h p
  long_taken waiting h word p none e l q = go (arg_by_id s.rules p.0) refl p.1 refl
    where
      valued_case : (a : Rule) → arg_by_id s.rules p.0 ≡ Some a → a.id ≡ p.0 → IsValued a → (v : Option Text) → p.1 ≡ v → TakesLong h p
      valued_case a f id va (Some value) is =
          let t : or_else (react_fault s.rules again a (value ∷ []) h) [] ≡ [] = rw (none, e, l, by_long s.rules p.0 options, f, takes_valued a va, is) at q in
          let r = or_nil _ _ (or_nil (react_fault s.rules again a (value ∷ []) h) [] t).0 in
          record { settles = r.0; rule = a; found = f; id = id; valued = va; uses = rw is r.1 }
      valued_case a f id va None is =
          let t : or_else (ends h) [] ≡ [] = rw (none, e, l, by_long s.rules p.0 options, f, takes_valued a va, is) at q in
          record { settles = (or_nil (ends h) [] t).0; rule = a; found = f; id = id; valued = va; uses = rw is tt }

      flag_case : (a : Rule) → arg_by_id s.rules p.0 ≡ Some a → a.id ≡ p.0 → IsFlag a → (v : Option Text) → p.1 ≡ v → TakesFlag h p
      flag_case a f id fl (Some value) is =
          let t : kind.TooManyValues ∷ [] ≡ [] = rw (none, e, l, by_long s.rules p.0 options, f, takes_nothing a fl, is) at q in
          cc
      flag_case a f id fl None is =
          let t : or_else (react_fault s.rules again a [] h) [] ≡ [] = rw (none, e, l, by_long s.rules p.0 options, f, takes_nothing a fl, is) at q in
          let r = or_nil _ _ (or_nil (react_fault s.rules again a [] h) [] t).0 in
          record { settles = r.0; rule = a; found = f; id = id; flag = fl; alone = is; uses = r.1 }

      request_case : (a : Rule) → arg_by_id s.rules p.0 ≡ Some a → IsRequest a → (v : Option Text) → p.1 ≡ v → Taken h p
      request_case a f r (Some value) is =
          let t : kind.TooManyValues ∷ [] ≡ [] = rw (none, e, l, by_long s.rules p.0 options, f, takes_request a r, is) at q in
          cc
      request_case a f r None is =
          let t : or_else (react_fault s.rules again a [] h) [] ≡ [] = rw (none, e, l, by_long s.rules p.0 options, f, takes_request a r, is) at q in
          let u : use_fault again a [] (settled s.rules h).rows ≡ [] = (or_nil _ _ (or_nil (react_fault s.rules again a [] h) [] t).0).1 in
          let bad : kind.DisplayHelp ∷ [] ≡ [] = sym (request_none again a (settled s.rules h).rows r) ∙ u in
          cc

      go : (o : Option Rule) → arg_by_id s.rules p.0 ≡ o → (v : Option Text) → p.1 ≡ v → Taken h p
      go None f v is =
          let t : kind.UnknownArgument ∷ [] ≡ [] = rw (none, e, l, by_long s.rules p.0 options, f) at q in
          cc
      go (Some a) f v is =
          let o = found_option s.rules p.0 a options f in
          elim o.0.does [
            | inl va ↦ inl (valued_case a f o.1 va v is)
            | inr (inl fl) ↦ inr (flag_case a f o.1 fl v is)
            | inr (inr r) ↦ request_case a f r v is
          ]

  -- a bundle of short options is refused, but for one that has no character
  no_flags : (rows : List Row) (p : Option (Text × List Text)) (flags : Text) → flags_fault s.rules again (length flags) flags 0 (holds rows p) ≡ []
      → bundle_met s.rules (length flags) flags 0 plain (holds rows p) ≡ (holds rows p, plain)
  unfolding flags_fault bundle_met
  no_flags rows p [] q = refl
  no_flags rows p (x ∷ xs) q = go (slice_get (chars (x ∷ xs)) 0) refl
    where
      short_case : (y : ℕ) → slice_get (chars (x ∷ xs)) 0 ≡ Some y → (o : Option Rule) → arg_by_short s.rules y ≡ o → ⊥
      short_case y e None f =
          let t : kind.UnknownArgument ∷ [] ≡ [] = rw (e, f) at q in
          cc
      short_case y e (Some a) f =
          let r : IsRequest a = found_short s.rules y a options f in
          let t = rw (e, f, takes_request a r) at q in
          let u : use_fault again a [] (settled s.rules (holds rows p)).rows ≡ [] = (or_nil _ _ (or_nil (react_fault s.rules again a [] (holds rows p)) _ t).0).1 in
          let bad : kind.DisplayHelp ∷ [] ≡ [] = sym (request_none again a (settled s.rules (holds rows p)).rows r) ∙ u in
          cc

      go : (o : Option ℕ) → slice_get (chars (x ∷ xs)) 0 ≡ o → bundle_met s.rules (length (x ∷ xs)) (x ∷ xs) 0 plain (holds rows p) ≡ (holds rows p, plain)
      go None e = rw e refl
      go (Some y) e = absurd (short_case y e (arg_by_short s.rules y) refl)

  -- any other word is a value that was waited for, or refused
  plain_taken : (waiting : Waiting) (rows : List Row) (p : Option (Text × List Text)) (word : Text) → subcommand_met [] waiting word ≡ None → bytes_eq word dashes ≡ false → long_of word ≡ None
      → turn (from waiting (holds rows p)) word ≡ []
      → IfSome (short_of word) (λ flags. bundle_met s.rules (length flags) flags 0 plain (holds rows p) ≡ (holds rows p, plain))
  plain_taken waiting rows p word none e l q = go (short_of word) refl
    where
      go : (o : Option Text) → short_of word ≡ o → IfSome o (λ flags. bundle_met s.rules (length flags) flags 0 plain (holds rows p) ≡ (holds rows p, plain))
      go None sh = tt
      go (Some flags) sh =
          let t = rw (none, e, l, sh) at q in
          no_flags rows p flags (or_nil (flags_fault s.rules again (length flags) flags 0 (holds rows p)) _ t).0

  -- where none was waited for it is refused
  plain_refused : (rows : List Row) (p : Option (Text × List Text)) (word : Text) → bytes_eq word dashes ≡ false → long_of word ≡ None → turn (walk_from (holds rows p)) word ≡ [] → ⊥
  plain_refused rows p word e l q = go (short_of word) refl (plain_taken idle rows p word refl e l q)
    where
      go : (o : Option Text) → short_of word ≡ o → IfSome o (λ flags. bundle_met s.rules (length flags) flags 0 plain (holds rows p) ≡ (holds rows p, plain)) → ⊥
      go None sh k =
          let t : stray_fault s ≡ [] = rw (e, l, sh, by_index s.rules 1 options) at q in
          stray_some s t
      go (Some flags) sh k =
          let t = rw (e, l, sh, k, by_index s.rules 1 options) at q in
          stray_some s (or_nil (flags_fault s.rules again (length flags) flags 0 (holds rows p)) (stray_fault s) t).1

  -- ---- the other way round: words that are taken

  pub more_quiet : (w : Walk) (word : Text) (rest : List Text) → turn w word ≡ [] → IsQuiet (next w word) rest → IsQuiet w (word ∷ rest)
  unfolding walk_fault
  more_quiet w word rest t q = (ap (λ (k : Kinds). or_else k (walk_fault s [] (next w word) rest)) t ∙ q.0, q.1)

  pub joined_turn : (h : Held) (word name value : Text) (a : Rule) → bytes_eq word dashes ≡ false → long_of word ≡ Some (name, Some value) → arg_by_id s.rules name ≡ Some a → takes_values a ≡ true
      → turn (walk_from h) word ≡ or_else (react_fault s.rules again a (value ∷ []) h) []
  joined_turn h word name value a e l f t = rw (e, l, by_long s.rules name options, f, t) refl

  pub apart_turn : (h : Held) (word name : Text) (a : Rule) → bytes_eq word dashes ≡ false → long_of word ≡ Some (name, None) → arg_by_id s.rules name ≡ Some a → takes_values a ≡ true
      → turn (walk_from h) word ≡ or_else (ends h) []
  apart_turn h word name a e l f t = rw (e, l, by_long s.rules name options, f, t) refl

  pub flag_turn : (h : Held) (word name : Text) (a : Rule) → bytes_eq word dashes ≡ false → long_of word ≡ Some (name, None) → arg_by_id s.rules name ≡ Some a → takes_values a ≡ false
      → turn (walk_from h) word ≡ or_else (react_fault s.rules again a [] h) []
  flag_turn h word name a e l f t = rw (e, l, by_long s.rules name options, f, t) refl

  pub value_turn : (rows : List Row) (word name : Text) → bytes_eq word dashes ≡ false → long_of word ≡ None → short_of word ≡ None → turn (waits_from name (holds rows (Some (name, [])))) word ≡ []
  value_turn rows word name e l sh = rw (e, l, sh) refl

  -- ---- all the words

  -- the option with this id is a flag
  abbrev pub is_flag : Text → Bool
  is_flag id = option_map_or (λ (a : Rule). not (takes_values a)) (arg_by_id s.rules id) false

  valued_is : (name id : Text) (a : Rule) → arg_by_id s.rules name ≡ Some a → IsValued a → bytes_eq name id ≡ true → is_flag id ≡ false
  valued_is name id a f v e =
      let same : name ≡ id = (bytes_eq-Decides name id).0 e in
      subst (λ (x : Text). is_flag x ≡ false) same (rw (f, takes_valued a v) refl)

  flag_is : (name id : Text) (a : Rule) → arg_by_id s.rules name ≡ Some a → IsFlag a → bytes_eq name id ≡ true → is_flag id ≡ true
  flag_is name id a f fl e =
      let same : name ≡ id = (bytes_eq-Decides name id).0 e in
      subst (λ (x : Text). is_flag x ≡ true) same (rw (f, takes_nothing a fl) refl)

  -- what the words give the option
  abbrev pub given_by : Text → List Text → Option Text
  given_by id words = value_in (is_flag id) id words

  given_by_none : (id : Text) → given_by id [] ≡ None
  given_by_none id = none_in (is_flag id) id

  -- from these rows and this pending option, the words give each option the value that stands in them, and it passes
  pub record Says (words : List Text) (rows : List Row) (pending : Option (Text × List Text)) (last : Held) : Type 0 where
    pub settles : ends (holds rows pending) ≡ []
    pub finds : (id : Text) → IsName id → find (has_id id) (settled s.rules last).rows ≡ option_or (find (has_id id) (settled s.rules (holds rows pending)).rows) (option_map (new_row id) (given_by id words))
    pub passes : (id : Text) → IsName id → IfSome (given_by id words) (λ value. IfSome (arg_by_id s.rules id) (λ a. values_fault a (value ∷ []) ≡ []))

  or_none : {X : Type 0} (o : Option X) → o ≡ option_or o None
  or_none None = refl
  or_none (Some x) = refl

  -- one more option before the words
  extend : (name value : Text) (a : Rule) (words rest : List Text) (rows more : List Row) (p q : Option (Text × List Text)) (last : Held)
      → arg_by_id s.rules name ≡ Some a → values_fault a (value ∷ []) ≡ [] → has_row name (settled s.rules (holds rows p)).rows ≡ false
      → (settled s.rules (holds more q)).rows ≡ (settled s.rules (holds rows p)).rows ++ new_row name value ∷ []
      → ends (holds rows p) ≡ []
      → ((id : Text) → IsName id → given_by id words ≡ (if bytes_eq name id then Some value else given_by id rest))
      → Says rest more q last → Says words rows p last
  extend name value a words rest rows more p q last found pass fresh grown settles reads says = record {
    settles = settles;
    finds = λ id n. finds_go id n (bytes_eq name id) refl;
    passes = λ id n. passes_go id n (bytes_eq name id) refl;
  }
    where
      after_use : (id : Text) (b : Bool) → bytes_eq name id ≡ b → find (has_id id) (settled s.rules (holds more q)).rows ≡ option_or (find (has_id id) (settled s.rules (holds rows p)).rows) (if b then Some (new_row name value) else None)
      after_use id b e = ap (find (has_id id)) grown ∙ find_used name value id (settled s.rules (holds rows p)).rows ∙ ap (λ (t : Bool). option_or (find (has_id id) (settled s.rules (holds rows p)).rows) (if t then Some (new_row name value) else None)) e

      finds_go : (id : Text) → IsName id → (b : Bool) → bytes_eq name id ≡ b
          → find (has_id id) (settled s.rules last).rows ≡ option_or (find (has_id id) (settled s.rules (holds rows p)).rows) (option_map (new_row id) (given_by id words))
      finds_go id n true e =
          let same : name ≡ id = (bytes_eq-Decides name id).0 e in
          let none : find (has_id id) (settled s.rules (holds rows p)).rows ≡ None = find_none (has_id id) (settled s.rules (holds rows p)).rows (rw same at fresh) in
          let here : given_by id words ≡ Some value = rw e at (reads id n) in
          let used_one : find (has_id id) (settled s.rules (holds more q)).rows ≡ Some (new_row name value) = after_use id true e ∙ ap (λ (o : Option Row). option_or o (Some (new_row name value))) none in
          says.finds id n ∙ ap (λ (o : Option Row). option_or o (option_map (new_row id) (given_by id rest))) used_one
          ∙ ap (λ (t : Text). Some (new_row t value)) same
          ∙ sym (ap (λ (o : Option Row). option_or o (option_map (new_row id) (given_by id words))) none ∙ ap (option_map (new_row id)) here)
      finds_go id n false e =
          let later : given_by id words ≡ given_by id rest = rw e at (reads id n) in
          says.finds id n ∙ ap (λ (o : Option Row). option_or o (option_map (new_row id) (given_by id rest))) (after_use id false e ∙ sym (or_none _))
          ∙ ap (λ (o : Option Text). option_or (find (has_id id) (settled s.rules (holds rows p)).rows) (option_map (new_row id) o)) (sym later)

      passes_go : (id : Text) → IsName id → (b : Bool) → bytes_eq name id ≡ b → IfSome (given_by id words) (λ v. IfSome (arg_by_id s.rules id) (λ r. values_fault r (v ∷ []) ≡ []))
      passes_go id n true e =
          let same : name ≡ id = (bytes_eq-Decides name id).0 e in
          let here : given_by id words ≡ Some value = rw e at (reads id n) in
          let is : arg_by_id s.rules id ≡ Some a = rw same at found in
          rw (here, is) pass
      passes_go id n false e =
          let later : given_by id words ≡ given_by id rest = rw e at (reads id n) in
          rw later (says.passes id n)

  -- a first use that passes
  use_facts : (a : Rule) (value : Text) (rows : List Row) → IsValued a → use_fault again a (value ∷ []) rows ≡ [] → (has_row a.id rows ≡ false) × (values_fault a (value ∷ []) ≡ [])
  use_facts a value rows v q =
      let both = or_nil (repeat_fault again a.id rows) (values_fault a (value ∷ [])) (sym (valued_one again a value rows v) ∙ q) in
      (repeat_none a.id rows (ap (λ (b : Bool). repeat_fault b a.id rows) (sym once) ∙ both.0), both.1)

  -- so does a flag's
  flag_fresh : (a : Rule) (rows : List Row) → IsFlag a → use_fault again a [] rows ≡ [] → has_row a.id rows ≡ false
  flag_fresh a rows f q =
      let both = or_nil (repeat_fault again a.id rows) [] (sym (flag_one again a rows f) ∙ q) in
      repeat_none a.id rows (ap (λ (b : Bool). repeat_fault b a.id rows) (sym once) ∙ both.0)

  -- an option without its value is refused
  unsettled : (rows : List Row) (name : Text) (a : Rule) → arg_by_id s.rules name ≡ Some a → IsValued a → ends (holds rows (Some (name, []))) ≡ [] → ⊥
  unsettled rows name a f v q =
      let t : use_fault again a [] rows ≡ [] = rw f at q in
      let bad : kind.InvalidValue ∷ [] ≡ [] = sym (valued_none again a rows v) ∙ t in
      cc

  -- an option that has its value is used
  pending_fault : (rows : List Row) (name value : Text) (a : Rule) → arg_by_id s.rules name ≡ Some a → ends (holds rows (Some (name, value ∷ []))) ≡ [] → use_fault again a (value ∷ []) rows ≡ []
  pending_fault rows name value a f q = rw f at q

  pub pending_used : (rows : List Row) (name value : Text) (a : Rule) → arg_by_id s.rules name ≡ Some a → (settled s.rules (holds rows (Some (name, value ∷ [])))).rows ≡ used a (value ∷ []) rows
  pending_used rows name value a f = rw f refl

  attached_fault : (h : Held) (cut : Text × Option Text) (t : TakesLong h cut) (value : Text) → cut.1 ≡ Some value → use_fault again t.rule (value ∷ []) (settled s.rules h).rows ≡ []
  attached_fault h cut t value is = rw is at t.uses

  -- what the words say where no value is waited for
  abbrev pub Idle : List Text → Type 0
  Idle words = (rows : List Row) (p : Option (Text × List Text)) → IsQuiet (walk_from (holds rows p)) words → Says words rows p (end (walk_from (holds rows p)) words).held

  -- a value comes first, where one is waited for
  pub record Waited (words : List Text) (rows : List Row) (name : Text) (last : Held) : Type 0 where
    value : Text
    rest : List Text
    split : words ≡ value ∷ rest
    plain : long_of value ≡ None
    apart : bytes_eq value dashes ≡ false
    says : Says rest rows (Some (name, value ∷ [])) last

  abbrev pub Waits : List Text → Type 0
  Waits words = (rows : List Row) (name : Text) (a : Rule) → arg_by_id s.rules name ≡ Some a → a.id ≡ name → IsValued a
      → IsQuiet (waits_from name (holds rows (Some (name, [])))) words → Waited words rows name (end (waits_from name (holds rows (Some (name, [])))) words).held

  idle_dashes : (rest : List Text) (rows : List Row) (p : Option (Text × List Text)) → IsQuiet (walk_from (holds rows p)) (dashes ∷ rest) → Says (dashes ∷ rest) rows p (end (walk_from (holds rows p)) (dashes ∷ rest)).held
  idle_dashes rest rows p q =
      let h = holds rows p in
      let step : next (walk_from h) dashes ≡ trails_from idle h = dashes_next idle h refl in
      let quiet : IsQuiet (trails_from idle h) rest = subst (λ (w : Walk). IsQuiet w rest) step (first_quiet (walk_from h) dashes rest q).1 in
      let empty : rest ≡ [] = trails idle h rest quiet in
      let settles : ends h ≡ [] = ap (λ (r : List Text). ends (end (trails_from idle h) r).held) (sym empty) ∙ quiet.1 in
      let said : Says (dashes ∷ []) rows p h = record {
        settles = settles;
        finds = λ id n. or_none (find (has_id id) (settled s.rules h).rows) ∙ ap (λ (o : Option Text). option_or (find (has_id id) (settled s.rules h).rows) (option_map (new_row id) o)) (sym (dashes_value (is_flag id) id n));
        passes = λ id n. rw (dashes_value (is_flag id) id n) tt;
      } in
      subst (λ (r : List Text). Says (dashes ∷ r) rows p (end (walk_from h) (dashes ∷ r)).held) (sym empty)
      (subst (λ (w : Walk). Says (dashes ∷ []) rows p w.held) (sym step) said)

  idle_joined : (word : Text) (rest : List Text) → Idle rest → (rows : List Row) (p : Option (Text × List Text)) → bytes_eq word dashes ≡ false → (cut : Text × Option Text) (value : Text) → long_of word ≡ Some cut → cut.1 ≡ Some value
      → TakesLong (holds rows p) cut → IsQuiet (walk_from (holds rows p)) (word ∷ rest) → Says (word ∷ rest) rows p (end (walk_from (holds rows p)) (word ∷ rest)).held
  idle_joined word rest later rows p e cut value l is t q =
      let h = holds rows p in
      let fq = first_quiet (walk_from h) word rest q in
      let a = t.rule in
      let before = (settled s.rules h).rows in
      let name_is : long_of word ≡ Some (cut.0, Some value) = l ∙ ap (λ (o : Option Text). Some (cut.0, o)) is in
      let used_well : use_fault again a (value ∷ []) before ≡ [] = attached_fault h cut t value is in
      let facts = use_facts a value before t.valued used_well in
      let grown : used a (value ∷ []) before ≡ before ++ new_row a.id value ∷ [] = used_new a value before t.valued facts.0 in
      let step : next (walk_from h) word ≡ walk_from (holds (used a (value ∷ []) before) None) = attached_next h word cut.0 value a e name_is t.found (takes_valued a t.valued) in
      let quiet = subst (λ (w : Walk). IsQuiet w rest) step fq.1 in
      let said = later (used a (value ∷ []) before) None quiet in
      let own : arg_by_id s.rules a.id ≡ Some a = ap (arg_by_id s.rules) t.id ∙ t.found in
      let own_name : long_of word ≡ Some (a.id, Some value) = name_is ∙ ap (λ (x : Text). Some (x, Some value)) (sym t.id) in
      subst (λ (w : Walk). Says (word ∷ rest) rows p (end w rest).held) (sym step)
      (extend a.id value a (word ∷ rest) rest rows (used a (value ∷ []) before) p None (end (walk_from (holds (used a (value ∷ []) before) None)) rest).held own facts.1 facts.0 grown t.settles
      (λ id n. joined_value (is_flag id) id a.id value word rest n own_name (valued_is a.id id a own t.valued)) said)

  idle_apart : (word : Text) (rest : List Text) → Waits rest → (rows : List Row) (p : Option (Text × List Text)) → bytes_eq word dashes ≡ false → (cut : Text × Option Text) → long_of word ≡ Some cut → cut.1 ≡ None
      → TakesLong (holds rows p) cut → IsQuiet (walk_from (holds rows p)) (word ∷ rest) → Says (word ∷ rest) rows p (end (walk_from (holds rows p)) (word ∷ rest)).held
  idle_apart word rest later rows p e cut l is t q =
      let h = holds rows p in
      let fq = first_quiet (walk_from h) word rest q in
      let a = t.rule in
      let before = (settled s.rules h).rows in
      let name_is : long_of word ≡ Some (cut.0, None) = l ∙ ap (λ (o : Option Text). Some (cut.0, o)) is in
      let step : next (walk_from h) word ≡ waits_from a.id (holds before (Some (a.id, []))) = apart_next h word cut.0 a e name_is t.found (takes_valued a t.valued) in
      let quiet = subst (λ (w : Walk). IsQuiet w rest) step fq.1 in
      let own : arg_by_id s.rules a.id ≡ Some a = ap (arg_by_id s.rules) t.id ∙ t.found in
      let own_name : long_of word ≡ Some (a.id, None) = name_is ∙ ap (λ (x : Text). Some (x, None)) (sym t.id) in
      let w = later before a.id a own refl t.valued quiet in
      let used_well : use_fault again a (w.value ∷ []) before ≡ [] = pending_fault before a.id w.value a own w.says.settles in
      let facts = use_facts a w.value before t.valued used_well in
      let grown : (settled s.rules (holds before (Some (a.id, w.value ∷ [])))).rows ≡ before ++ new_row a.id w.value ∷ [] = pending_used before a.id w.value a own ∙ used_new a w.value before t.valued facts.0 in
      subst (λ (v : Walk). Says (word ∷ rest) rows p (end v rest).held) (sym step)
      (extend a.id w.value a (word ∷ rest) w.rest rows before p (Some (a.id, w.value ∷ [])) (end (waits_from a.id (holds before (Some (a.id, [])))) rest).held own facts.1 facts.0 grown t.settles
      (λ id n. ap (λ (r : List Text). given_by id (word ∷ r)) w.split ∙ apart_value (is_flag id) id a.id w.value word w.rest n own_name w.plain w.apart (valued_is a.id id a own t.valued)) w.says)

  idle_flag : (word : Text) (rest : List Text) → Idle rest → (rows : List Row) (p : Option (Text × List Text)) → bytes_eq word dashes ≡ false → (cut : Text × Option Text) → long_of word ≡ Some cut
      → TakesFlag (holds rows p) cut → IsQuiet (walk_from (holds rows p)) (word ∷ rest) → Says (word ∷ rest) rows p (end (walk_from (holds rows p)) (word ∷ rest)).held
  idle_flag word rest later rows p e cut l t q =
      let h = holds rows p in
      let fq = first_quiet (walk_from h) word rest q in
      let a = t.rule in
      let before = (settled s.rules h).rows in
      let name_is : long_of word ≡ Some (cut.0, None) = l ∙ ap (λ (o : Option Text). Some (cut.0, o)) t.alone in
      let fresh = flag_fresh a before t.flag t.uses in
      let grown : used a [] before ≡ before ++ new_row a.id (codes "true") ∷ [] = used_flag a before t.flag fresh in
      let step : next (walk_from h) word ≡ walk_from (holds (used a [] before) None) = flag_next h word cut.0 a e name_is t.found (takes_nothing a t.flag) in
      let quiet = subst (λ (w : Walk). IsQuiet w rest) step fq.1 in
      let said = later (used a [] before) None quiet in
      let own : arg_by_id s.rules a.id ≡ Some a = ap (arg_by_id s.rules) t.id ∙ t.found in
      let own_name : long_of word ≡ Some (a.id, None) = name_is ∙ ap (λ (x : Text). Some (x, None)) (sym t.id) in
      subst (λ (w : Walk). Says (word ∷ rest) rows p (end w rest).held) (sym step)
      (extend a.id (codes "true") a (word ∷ rest) rest rows (used a [] before) p None (end (walk_from (holds (used a [] before) None)) rest).held own (flag_passes a t.flag) fresh grown t.settles
      (λ id n. flag_value (is_flag id) id a.id word rest n own_name (flag_is a.id id a own t.flag)) said)

  idle_step : (word : Text) (rest : List Text) → Idle rest → Waits rest → Idle (word ∷ rest)
  idle_step word rest idle_rest waits_rest rows p q = go (bytes_eq word dashes) refl (long_of word) refl
    where
      valued_case : bytes_eq word dashes ≡ false → (cut : Text × Option Text) → long_of word ≡ Some cut → TakesLong (holds rows p) cut → (v : Option Text) → cut.1 ≡ v
          → Says (word ∷ rest) rows p (end (walk_from (holds rows p)) (word ∷ rest)).held
      valued_case e cut l t (Some value) is = idle_joined word rest idle_rest rows p e cut value l is t q
      valued_case e cut l t None is = idle_apart word rest waits_rest rows p e cut l is t q

      long_case : bytes_eq word dashes ≡ false → (cut : Text × Option Text) → long_of word ≡ Some cut → (v : Option Text) → cut.1 ≡ v → Says (word ∷ rest) rows p (end (walk_from (holds rows p)) (word ∷ rest)).held
      long_case e cut l v is = elim (long_taken idle (holds rows p) word cut refl e l (first_quiet (walk_from (holds rows p)) word rest q).0) [
        | inl long ↦ valued_case e cut l long v is
        | inr flag ↦ idle_flag word rest idle_rest rows p e cut l flag q
      ]

      go : (b : Bool) → bytes_eq word dashes ≡ b → (o : Option (Text × Option Text)) → long_of word ≡ o → Says (word ∷ rest) rows p (end (walk_from (holds rows p)) (word ∷ rest)).held
      go true e o l =
          let same : word ≡ dashes = (bytes_eq-Decides word dashes).0 e in
          subst (λ (x : Text). Says (x ∷ rest) rows p (end (walk_from (holds rows p)) (x ∷ rest)).held) (sym same)
          (idle_dashes rest rows p (subst (λ (x : Text). IsQuiet (walk_from (holds rows p)) (x ∷ rest)) same q))
      go false e (Some cut) l = long_case e cut l cut.1 refl
      go false e None l = absurd (plain_refused rows p word e l (first_quiet (walk_from (holds rows p)) word rest q).0)

  waits_step : (word : Text) (rest : List Text) → Idle rest → Waits (word ∷ rest)
  waits_step word rest idle_rest rows name a f id v q = go (bytes_eq word dashes) refl (long_of word) refl
    where
      go : (b : Bool) → bytes_eq word dashes ≡ b → (o : Option (Text × Option Text)) → long_of word ≡ o
          → Waited (word ∷ rest) rows name (end (waits_from name (holds rows (Some (name, [])))) (word ∷ rest)).held
      go true e o l =
          let h = holds rows (Some (name, [])) in
          let same : word ≡ dashes = (bytes_eq-Decides word dashes).0 e in
          let q2 = subst (λ (x : Text). IsQuiet (waits_from name h) (x ∷ rest)) same q in
          let step : next (waits_from name h) dashes ≡ trails_from (option name) h = dashes_next (option name) h refl in
          let quiet : IsQuiet (trails_from (option name) h) rest = subst (λ (w : Walk). IsQuiet w rest) step (first_quiet (waits_from name h) dashes rest q2).1 in
          let empty : rest ≡ [] = trails (option name) h rest quiet in
          let settles : ends h ≡ [] = ap (λ (r : List Text). ends (end (trails_from (option name) h) r).held) (sym empty) ∙ quiet.1 in
          absurd (unsettled rows name a f v settles)
      go false e (Some cut) l =
          let h = holds rows (Some (name, [])) in
          let t = long_taken (option name) h word cut refl e l (first_quiet (waits_from name h) word rest q).0 in
          absurd (unsettled rows name a f v (taken_settles h cut t))
      go false e None l =
          let h = holds rows (Some (name, [])) in
          let fq = first_quiet (waits_from name h) word rest q in
          let k = plain_taken (option name) rows (Some (name, [])) word refl e l fq.0 in
          let most : most_values a ≡ 1 = rw v.range refl in
          let step = value_next rows word name a e l f most id k in
          let quiet = subst (λ (w : Walk). IsQuiet w rest) step fq.1 in
          record {
            value = word;
            rest = rest;
            split = refl;
            plain = l;
            apart = e;
            says = subst (λ (w : Walk). Says rest rows (Some (name, word ∷ [])) (end w rest).held) (sym step) (idle_rest rows (Some (name, word ∷ [])) quiet);
          }

  ended : (rows : List Row) (p : Option (Text × List Text)) (id : Text)
      → find (has_id id) (settled s.rules (holds rows p)).rows ≡ option_or (find (has_id id) (settled s.rules (holds rows p)).rows) (option_map (new_row id) (given_by id []))
  ended rows p id =
      let here = find (has_id id) (settled s.rules (holds rows p)).rows in
      or_none here ∙ ap (λ (o : Option Text). option_or here (option_map (new_row id) o)) (sym (given_by_none id))

  pub words_say : (words : List Text) → Idle words × Waits words
  words_say [] = (
    λ rows p q. record { settles = q.1; finds = λ id n. ended rows p id; passes = λ id n. rw (given_by_none id) tt },
    λ rows name a f id v q. absurd (unsettled rows name a f v q.1),
  )
  words_say (word ∷ rest) = let below = words_say rest in (idle_step word rest below.0 below.1, waits_step word rest below.0)
