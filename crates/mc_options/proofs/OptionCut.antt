-- How a word's name and value, as clap cuts them, stand to what follows `--name`.
use Rattle.std.proofs.Common.{◌≡◌, ◌∙◌, ℕ, suc, ◌+◌, ◌==◌, Bool, true, false, List, [], ◌∷◌, arith, refl, ap, sym, bytes_eq, if◌then◌else◌, slice_get, Option, Some, None, eqb-true}
use Rattle.std.specs.Prelude.{unwrap_or}
use Rattle.std.specs.List.{position_or_len}
use Rattle.clap.specs.Lexer.{has_byte, name_and_value, long_of}
use Rattle.mc_options.specs.Options.{text_behind, value_from}

abbrev pub Text : Type 0
Text = List ℕ

-- a name that `--` and `=` leave whole
abbrev pub IsName : Text → Type 0
IsName id = (has_byte 61 id ≡ false) × (id ≡ [] → ⊥)

-- what the rest of a word after `--name` says of its value
abbrev pub read : Option Text → Option (Option Text)
read None = None
read (Some []) = Some None
read (Some (byte ∷ value)) = if byte == 61 then Some (Some value) else None

-- the value that a word with this name and value gives an option
abbrev pub given : Text × Option Text → Text → Option (Option Text)
given p id = if bytes_eq p.0 id then Some p.1 else None

abbrev pub pick : Option (Option Text) → List Text → Option Text → Option Text
pick None rest later = later
pick (Some None) rest later = slice_get rest 0
pick (Some (Some value)) rest later = Some value

pub value_from_read : (o : Option Text) (rest : List Text) (later : Option Text) → value_from o rest later ≡ pick (read o) rest later
value_from_read None rest later = refl
value_from_read (Some []) rest later = refl
value_from_read (Some (byte ∷ value)) rest later = go (byte == 61)
  where
    go : (b : Bool) → (if b then Some value else later) ≡ pick (if b then Some (Some value) else None) rest later
    go true = refl
    go false = refl

abbrev is_equals : ℕ → Bool
is_equals x = x == 61

pub next_name : (c : ℕ) (r : Text) → (c == 61) ≡ false → name_and_value (c ∷ r) ≡ (c ∷ (name_and_value r).0, (name_and_value r).1)
next_name c r e =
    let n = position_or_len is_equals r in
    let one : 1 + n ≡ suc n = omega arith in
    let two : 1 + n + 1 ≡ suc (n + 1) = omega arith in
    rw e (rw (two, one) refl)

pub first_name : (c : ℕ) (r : Text) → (c == 61) ≡ true → name_and_value (c ∷ r) ≡ ([], Some r)
first_name c r e = rw e refl

other_byte : (i c : ℕ) → (i == 61) ≡ false → (c == 61) ≡ true → (i == c) ≡ false
other_byte i c e h = let is : c ≡ 61 = eqb-true c 61 h in rw is e

pub same_byte : (i c : ℕ) → (i == c) ≡ (c == i)
same_byte i c = go (i == c) refl
  where
    go : (b : Bool) → (i == c) ≡ b → (i == c) ≡ (c == i)
    go b e = grind arith

cut_as : (r : Text) (q : Text × Option Text) (id : Text) (o : Option (Option Text)) → name_and_value r ≡ q → o ≡ given q id → o ≡ given (name_and_value r) id
cut_as r q id o e h = h ∙ sym (ap (λ (w : Text × Option Text). given w id) e)

-- an option whose name has no `=` gets what the cut says
pub cut_is : (id rest : Text) → has_byte 61 id ≡ false → read (text_behind id rest) ≡ given (name_and_value rest) id
cut_is [] [] h = refl
cut_is [] (c ∷ r) h = go (c == 61) refl
  where
    go : (b : Bool) → (c == 61) ≡ b → read (Some (c ∷ r)) ≡ given (name_and_value (c ∷ r)) []
    go true e = cut_as (c ∷ r) _ [] _ (first_name c r e) (rw e refl)
    go false e = cut_as (c ∷ r) _ [] _ (next_name c r e) (rw e refl)
cut_is (i ∷ is) [] h = refl
cut_is (i ∷ is) (c ∷ r) h = go (cut_is is r) (i == 61) (c == 61) refl refl
  where
    last : (has_byte 61 is ≡ false → read (text_behind is r) ≡ given (name_and_value r) is) → (b : Bool) → (i == c) ≡ b → (i == 61) ≡ false → (c == 61) ≡ false → read (text_behind (i ∷ is) (c ∷ r)) ≡ given (name_and_value (c ∷ r)) (i ∷ is)
    last rest true k d e = cut_as (c ∷ r) _ (i ∷ is) _ (next_name c r e) (rw (k, sym (same_byte i c) ∙ k) (rest (rw d at h)))
    last rest false k d e = cut_as (c ∷ r) _ (i ∷ is) _ (next_name c r e) (rw (k, sym (same_byte i c) ∙ k) refl)

    go : (has_byte 61 is ≡ false → read (text_behind is r) ≡ given (name_and_value r) is) → (b t : Bool) → (i == 61) ≡ b → (c == 61) ≡ t → read (text_behind (i ∷ is) (c ∷ r)) ≡ given (name_and_value (c ∷ r)) (i ∷ is)
    go rest true t d e = let bad : true ≡ false = rw d at h in cc
    go rest false true d e = cut_as (c ∷ r) _ (i ∷ is) _ (first_name c r e) (rw (other_byte i c d e) refl)
    go rest false false d e = last rest (i == c) refl d e

-- the word is `--name` or `--name=..`, as clap reads it
pub long_cut : (id word : Text) (p : Text × Option Text) → has_byte 61 id ≡ false → long_of word ≡ Some p → read (text_behind (45 ∷ 45 ∷ id) word) ≡ given p id
long_cut id [] p h e = cc
long_cut id (x ∷ []) p h e = go (x == 45) refl
  where
    go : (b : Bool) → (x == 45) ≡ b → read (text_behind (45 ∷ 45 ∷ id) (x ∷ [])) ≡ given p id
    go true d = let bad : None ≡ Some p = rw d at e in cc
    go false d = let bad : None ≡ Some p = rw d at e in cc
long_cut id (x ∷ y ∷ rest) p h e = go (x == 45) (y == 45) refl refl rest e
  where
    go : (b t : Bool) → (x == 45) ≡ b → (y == 45) ≡ t → (r : Text) → long_of (x ∷ y ∷ r) ≡ Some p → read (text_behind (45 ∷ 45 ∷ id) (x ∷ y ∷ r)) ≡ given p id
    go false t d k r f = let bad : None ≡ Some p = rw d at f in cc
    go true false d k r f = let bad : None ≡ Some p = rw (d, k) at f in cc
    go true true d k [] f = let bad : None ≡ Some p = rw (d, k) at f in cc
    go true true d k (c ∷ r) f =
        let same : name_and_value (c ∷ r) ≡ p = ap (λ (o : Option (Text × Option Text)). unwrap_or o p) (rw (d, k) at f) in
        rw (same_byte 45 x, d, same_byte 45 y, k) (cut_is id (c ∷ r) h ∙ ap (λ (q : Text × Option Text). given q id) same)

-- a word that is neither that nor `--` is no option
pub plain_cut : (id word : Text) → long_of word ≡ None → bytes_eq word (45 ∷ 45 ∷ []) ≡ false → read (text_behind (45 ∷ 45 ∷ id) word) ≡ None
plain_cut id [] h e = refl
plain_cut id (x ∷ []) h e = go (x == 45) refl
  where
    go : (b : Bool) → (x == 45) ≡ b → read (text_behind (45 ∷ 45 ∷ id) (x ∷ [])) ≡ None
    go true d = rw (same_byte 45 x, d) refl
    go false d = rw (same_byte 45 x, d) refl
plain_cut id (x ∷ y ∷ rest) h e = go (x == 45) (y == 45) refl refl rest h e
  where
    go : (b t : Bool) → (x == 45) ≡ b → (y == 45) ≡ t → (r : Text) → long_of (x ∷ y ∷ r) ≡ None → bytes_eq (x ∷ y ∷ r) (45 ∷ 45 ∷ []) ≡ false → read (text_behind (45 ∷ 45 ∷ id) (x ∷ y ∷ r)) ≡ None
    go false t d k r f g = rw (same_byte 45 x, d) refl
    go true false d k r f g = rw (same_byte 45 x, d, same_byte 45 y, k) refl
    go true true d k [] f g = let bad : true ≡ false = rw (d, k) at g in cc
    go true true d k (c ∷ r) f g = let bad : Some (name_and_value (c ∷ r)) ≡ None = rw (d, k) at f in cc

-- `--` alone is no option
pub dashes_cut : (i : ℕ) (is : Text) → text_behind (45 ∷ 45 ∷ i ∷ is) (45 ∷ 45 ∷ []) ≡ None
dashes_cut i is = refl
