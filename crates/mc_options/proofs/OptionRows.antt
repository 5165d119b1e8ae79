-- What one use of an option or of a flag makes of the rows that a parse holds.
use Rattle.std.proofs.Common.{◌≡◌, ◌∙◌, if◌then◌else◌, Bool, true, false, List, [], ◌∷◌, ◌++◌, refl, ap, bytes_eq, codes, find, is_some, Some, None, append-nil}
use Rattle.std.specs.List.{list_any}
use Rattle.std.specs.Option.{option_or}
use Rattle.std.proofs.lemmas.List.Folds.{find-append}
use Rattle.clap.specs.Walk.{Row, Rule, at_row, has_row, more_values, reading_by, used, without}
use Rattle.clap.specs.declared.builder.action.ArgAction.TheVariants.{Set, SetTrue}
use Rattle.clap.specs.declared.builder.value_parser.Reading.TheVariants as reading
use Rattle.clap.specs.declared.builder.value_parser.ValueParser.TheVariants as vp
use Rattle.clap.specs.declared.parser.matches.ValueSource.TheVariants.{CommandLine}
use Rattle.mc_options.proofs.OptionCut.{Text}

abbrev pub has_id : Text → Row → Bool
has_id id r = bytes_eq r.id id

-- an option with one value
abbrev pub new_row : Text → Text → Row
new_row id value = record {
  id = id;
  values = value ∷ [];
  count = None;
  source = Some CommandLine;
  reading = reading.AsWritten;
}

-- the option takes one value, once
pub record IsValued (a : Rule) : Type 0 where
  pub action : a.action ≡ Some Set
  pub range : a.range ≡ Some (record { start_inclusive = 1; end_inclusive = 1 })
  pub short : a.short ≡ None
  pub short_aliases : a.short_aliases ≡ []
  pub reading : reading_by a ≡ reading.AsWritten

-- the flag takes no value, and stands for `true` once
pub record IsFlag (a : Rule) : Type 0 where
  pub action : a.action ≡ Some SetTrue
  pub range : a.range ≡ Some (record { start_inclusive = 0; end_inclusive = 0 })
  pub missing : a.missing ≡ codes "true" ∷ []
  pub short : a.short ≡ None
  pub short_aliases : a.short_aliases ≡ []
  pub parser : a.parser ≡ Some vp.Bool

pub at_none : (id : Text) (change : Row → List Row) (missing rows : List Row) → list_any (has_id id) rows ≡ false → at_row id change missing rows ≡ rows ++ missing
at_none id change missing [] h = refl
at_none id change missing (r ∷ rs) h = go (at_none id change missing rs) (has_id id r) refl
  where
    go : (list_any (has_id id) rs ≡ false → at_row id change missing rs ≡ rs ++ missing) → (b : Bool) → has_id id r ≡ b → at_row id change missing (r ∷ rs) ≡ r ∷ rs ++ missing
    go rest true e = let bad : true ≡ false = rw e at h in cc
    go rest false e = rw e (ap (λ l. r ∷ l) (rest (rw e at h)))

-- a first use adds a row
pub used_new : (a : Rule) (value : Text) (rows : List Row) → IsValued a → has_row a.id rows ≡ false → used a (value ∷ []) rows ≡ rows ++ new_row a.id value ∷ []
used_new a value rows v h =
    let gone : without a.id rows ≡ rows = at_none a.id (λ _. []) [] rows h ∙ append-nil rows in
    rw (v.action, gone, v.reading) (at_none a.id (more_values CommandLine (value ∷ [])) (new_row a.id value ∷ []) rows h)

pub used_flag : (a : Rule) (rows : List Row) → IsFlag a → has_row a.id rows ≡ false → used a [] rows ≡ rows ++ new_row a.id (codes "true") ∷ []
used_flag a rows f h =
    let gone : without a.id rows ≡ rows = at_none a.id (λ _. []) [] rows h ∙ append-nil rows in
    rw (f.action, f.missing, gone, f.parser) (at_none a.id (more_values CommandLine (codes "true" ∷ [])) (new_row a.id (codes "true") ∷ []) rows h)

pub any_found : {X : Type 0} (p : X → Bool) (xs : List X) → list_any p xs ≡ is_some (find p xs)
any_found p [] = refl
any_found p (x ∷ xs) = go (any_found p xs) (p x) refl
  where
    go : list_any p xs ≡ is_some (find p xs) → (b : Bool) → p x ≡ b → list_any p (x ∷ xs) ≡ is_some (find p (x ∷ xs))
    go rest true e = rw e refl
    go rest false e = rw e rest

pub find_none : {X : Type 0} (p : X → Bool) (xs : List X) → list_any p xs ≡ false → find p xs ≡ None
find_none p [] h = refl
find_none p (x ∷ xs) h = go (find_none p xs) (p x) refl
  where
    go : (list_any p xs ≡ false → find p xs ≡ None) → (b : Bool) → p x ≡ b → find p (x ∷ xs) ≡ None
    go rest true e = let bad : true ≡ false = rw e at h in cc
    go rest false e = rw e (rest (rw e at h))

-- what is found after a first use
pub find_used : (name value id : Text) (rows : List Row)
    → find (has_id id) (rows ++ new_row name value ∷ []) ≡ option_or (find (has_id id) rows) (if bytes_eq name id then Some (new_row name value) else None)
find_used name value id rows = find-append (has_id id) rows (new_row name value ∷ [])
