-- What the words give an option with a value, or a flag.
use Rattle.std.proofs.Common.{◌≡◌, ◌∙◌, ◌==◌, ◌||◌, if◌then◌else◌, Bool, true, false, List, [], ◌∷◌, refl, ap, sym, bytes_eq, codes, Option, Some, None}
use Rattle.clap.specs.Lexer.{long_of}
use Rattle.mc_options.specs.Options.{text_behind, has_threads, option_value}
use Rattle.mc_options.proofs.OptionCut.{IsName, Text, given, long_cut, pick, plain_cut, read, same_byte, value_from_read}

-- the value that a word with this reading gives an option, or a flag
abbrev pub got : Bool → Option (Option Text) → List Text → Option Text → Option Text
got false o rest later = pick o rest later
got true None rest later = later
got true (Some None) rest later = Some (codes "true")
got true (Some (Some value)) rest later = later

-- `true` where one of the words is the flag
abbrev pub flag_in : Text → List Text → Option Text
flag_in id [] = None
flag_in id (word ∷ rest) = got true (read (text_behind (45 ∷ 45 ∷ id) word)) rest (flag_in id rest)

-- what the words give, where `is_flag` says which of the two it is
abbrev pub value_in : Bool → Text → List Text → Option Text
value_in false id words = option_value id words
value_in true id words = flag_in id words

pub none_in : (is_flag : Bool) (id : Text) → value_in is_flag id [] ≡ None
none_in true id = refl
none_in false id = refl

first_value_in : (is_flag : Bool) (id word : Text) (rest : List Text) → value_in is_flag id (word ∷ rest) ≡ got is_flag (read (text_behind (45 ∷ 45 ∷ id) word)) rest (value_in is_flag id rest)
first_value_in true id word rest = refl
first_value_in false id word rest = value_from_read (text_behind (45 ∷ 45 ∷ id) word) rest (option_value id rest)

long_value : (is_flag : Bool) (id word : Text) (rest : List Text) (p : Text × Option Text) → IsName id → long_of word ≡ Some p
    → value_in is_flag id (word ∷ rest) ≡ got is_flag (given p id) rest (value_in is_flag id rest)
long_value is_flag id word rest p n l = first_value_in is_flag id word rest ∙ ap (λ (o : Option (Option Text)). got is_flag o rest (value_in is_flag id rest)) (long_cut id word p n.0 l)

-- a word that names nothing
pub plain_value : (is_flag : Bool) (id word : Text) (rest : List Text) → long_of word ≡ None → bytes_eq word (45 ∷ 45 ∷ []) ≡ false → value_in is_flag id (word ∷ rest) ≡ value_in is_flag id rest
plain_value is_flag id word rest l e =
    first_value_in is_flag id word rest ∙ ap (λ (o : Option (Option Text)). got is_flag o rest (value_in is_flag id rest)) (plain_cut id word l e) ∙ later is_flag
  where
    later : (b : Bool) → got b None rest (value_in is_flag id rest) ≡ value_in is_flag id rest
    later true = refl
    later false = refl

-- `--` names nothing
pub dashes_value : (is_flag : Bool) (id : Text) → IsName id → value_in is_flag id ((45 ∷ 45 ∷ []) ∷ []) ≡ None
dashes_value is_flag [] n = absurd (n.1 refl)
dashes_value true (i ∷ is) n = refl
dashes_value false (i ∷ is) n = refl

-- `--name=value`
pub joined_value : (is_flag : Bool) (id name value word : Text) (rest : List Text) → IsName id → long_of word ≡ Some (name, Some value) → (bytes_eq name id ≡ true → is_flag ≡ false)
    → value_in is_flag id (word ∷ rest) ≡ (if bytes_eq name id then Some value else value_in is_flag id rest)
joined_value is_flag id name value word rest n l valued = long_value is_flag id word rest (name, Some value) n l ∙ go (bytes_eq name id) is_flag valued
  where
    go : (same b : Bool) → (same ≡ true → b ≡ false)
        → got b (if same then Some (Some value) else None) rest (value_in is_flag id rest) ≡ (if same then Some value else value_in is_flag id rest)
    go true true k = let bad : true ≡ false = k refl in cc
    go true false k = refl
    go false true k = refl
    go false false k = refl

-- `--name` and `value`
pub apart_value : (is_flag : Bool) (id name value word : Text) (rest : List Text) → IsName id → long_of word ≡ Some (name, None) → long_of value ≡ None → bytes_eq value (45 ∷ 45 ∷ []) ≡ false
    → (bytes_eq name id ≡ true → is_flag ≡ false) → value_in is_flag id (word ∷ value ∷ rest) ≡ (if bytes_eq name id then Some value else value_in is_flag id rest)
apart_value is_flag id name value word rest n l k e valued =
    long_value is_flag id word (value ∷ rest) (name, None) n l ∙ go (bytes_eq name id) is_flag valued
  where
    go : (same b : Bool) → (same ≡ true → b ≡ false)
        → got b (if same then Some None else None) (value ∷ rest) (value_in is_flag id (value ∷ rest)) ≡ (if same then Some value else value_in is_flag id rest)
    go true true v = let bad : true ≡ false = v refl in cc
    go true false v = refl
    go false true v = plain_value is_flag id value rest k e
    go false false v = plain_value is_flag id value rest k e

-- `--name` of a flag
pub flag_value : (is_flag : Bool) (id name word : Text) (rest : List Text) → IsName id → long_of word ≡ Some (name, None) → (bytes_eq name id ≡ true → is_flag ≡ true)
    → value_in is_flag id (word ∷ rest) ≡ (if bytes_eq name id then Some (codes "true") else value_in is_flag id rest)
flag_value is_flag id name word rest n l flags = long_value is_flag id word rest (name, None) n l ∙ go (bytes_eq name id) is_flag flags
  where
    go : (same b : Bool) → (same ≡ true → b ≡ true)
        → got b (if same then Some None else None) rest (value_in is_flag id rest) ≡ (if same then Some (codes "true") else value_in is_flag id rest)
    go true true k = refl
    go true false k = let bad : false ≡ true = k refl in cc
    go false true k = refl
    go false false k = refl

-- ---- the flag of the threads

abbrev is_whole : Option Text → Bool
is_whole None = false
is_whole (Some []) = true
is_whole (Some (byte ∷ value)) = false

-- a word that begins with the front and ends there is the front
whole : (front word : Text) → bytes_eq word front ≡ is_whole (text_behind front word)
whole [] [] = refl
whole [] (y ∷ word) = refl
whole (x ∷ front) [] = refl
whole (x ∷ front) (y ∷ word) = go (x == y) refl (whole front word)
  where
    go : (b : Bool) → (x == y) ≡ b → bytes_eq word front ≡ is_whole (text_behind front word) → bytes_eq (y ∷ word) (x ∷ front) ≡ is_whole (text_behind (x ∷ front) (y ∷ word))
    go true e h = rw (e, same_byte y x ∙ e) h
    go false e h = rw (e, same_byte y x ∙ e) refl

whole_gives : (o : Option Text) (rest : List Text) (later : Option Text) → got true (read o) rest later ≡ (if is_whole o then Some (codes "true") else later)
whole_gives None rest later = refl
whole_gives (Some []) rest later = refl
whole_gives (Some (byte ∷ value)) rest later = go (byte == 61)
  where
    go : (b : Bool) → got true (if b then Some (Some value) else None) rest later ≡ later
    go true = refl
    go false = refl

pub threads_in : (words : List Text) → flag_in (codes "threads") words ≡ (if has_threads words then Some (codes "true") else None)
threads_in [] = refl
threads_in (word ∷ rest) =
    let later = flag_in (codes "threads") rest in
    whole_gives (text_behind (codes "--threads") word) rest later ∙ ap (λ (b : Bool). if b then Some (codes "true") else later) (sym (whole (codes "--threads") word))
    ∙ go (bytes_eq word (codes "--threads")) (threads_in rest)
  where
    go : (b : Bool) → flag_in (codes "threads") rest ≡ (if has_threads rest then Some (codes "true") else None)
        → (if b then Some (codes "true") else flag_in (codes "threads") rest) ≡ (if b || has_threads rest then Some (codes "true") else None)
    go true h = refl
    go false h = h
