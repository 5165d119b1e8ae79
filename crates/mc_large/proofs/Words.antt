-- The bytes of lengths and versions, and what is read of them.
use Rattle.std.proofs.Common.{Bool, false, true, ◌==◌, ◌≡◌, ◌∙◌, ◌≤◌, ◌<◌, ◌^◌, ◌+◌, ◌*◌, ◌%◌, ◌++◌, ◌∷◌, [], ℕ, zero, suc, List, length, get_or, take, drop, ap, arith, refl, subst, sym, length-append, append-nil, append_assoc, lit<}
use Rattle.std.proofs.lemmas.List.{flat_map_more, length-take-le, take-append-drop}
use Rattle.std.proofs.lemmas.Nat.{le_bytes_8}
use Rattle.std.specs.Int.{w64, from_le_bytes, to_le_bytes}
use Rattle.mc_packing.specs.Packing.{AreBytes, AreWords, bytes_of_word, packed_word}
use Rattle.mc_packing.proofs.Bytes.{bytes_take, length_bytes_in, word_again}
use Rattle.mc_large.specs.Reading.{AreVersions, IsLength}
use Rattle.mc_large.specs.Roots.{IsLargeRoot, IsNoRoot, RootsAreUnique, bytes_of_versions, large_root, most_large_value}

front : (word : ℕ) (rest : List ℕ) → take 8 (bytes_of_word word ++ rest) ≡ bytes_of_word word
unfolding bytes_of_word
front word rest = refl

back : (word : ℕ) (rest : List ℕ) → drop 8 (bytes_of_word word ++ rest) ≡ rest
unfolding bytes_of_word
back word rest = refl

-- bytes begin with one word, and are followed by one rest
pub words_apart : (a b : ℕ) (v w : List ℕ) → a < 2 ^ 64 → b < 2 ^ 64 → bytes_of_word a ++ v ≡ bytes_of_word b ++ w → (a ≡ b) × (v ≡ w)
words_apart a b v w a_fits b_fits same =
    let first : bytes_of_word a ≡ bytes_of_word b = sym (front a v) ∙ ap (take 8) same ∙ front b w in
    (sym (word_again a a_fits) ∙ ap packed_word first ∙ word_again b b_fits, sym (back a v) ∙ ap (drop 8) same ∙ back b w)

pub length_versions : (versions : List ℕ) → length (bytes_of_versions versions) ≡ 8 * length versions
length_versions [] = refl
length_versions (v ∷ vs) = omega (arith, length-append (bytes_of_word v) (bytes_of_versions vs), length_bytes_in v, length_versions vs)

-- words but the first are words
rest_words : (v : ℕ) (vs : List ℕ) → AreWords (v ∷ vs) → AreWords vs
rest_words v vs are k = are (suc k)

-- bytes are those of one list of versions
pub versions_apart : (vs ws : List ℕ) → AreWords vs → AreWords ws → bytes_of_versions vs ≡ bytes_of_versions ws → vs ≡ ws
versions_apart [] [] vs_are ws_are same = refl
versions_apart [] (w ∷ ws) vs_are ws_are same = absurd (omega (arith, ap length same, length_versions (w ∷ ws)))
versions_apart (v ∷ vs) [] vs_are ws_are same = absurd (omega (arith, ap length same, length_versions (v ∷ vs)))
versions_apart (v ∷ vs) (w ∷ ws) vs_are ws_are same =
    let parts = words_apart v w (bytes_of_versions vs) (bytes_of_versions ws) (vs_are zero) (ws_are zero) same in
    let more = versions_apart vs ws (rest_words v vs vs_are) (rest_words w ws ws_are) parts.1 in
    ap (λ (n : ℕ). n ∷ vs) parts.0 ∙ ap (λ (ns : List ℕ). w ∷ ns) more

-- a length within the limit is a word
pub length_fits : (len : ℕ) → len ≤ most_large_value → len < 2 ^ 64
length_fits len within = omega arith

same_behind : (tag other : ℕ) (v w : List ℕ) → tag ∷ v ≡ other ∷ w → (tag ≡ other) × (v ≡ w)
same_behind tag other v w same = (ap (λ (bytes : List ℕ). get_or bytes 0 0) same, ap (drop 1) same)

pub roots_are_unique : RootsAreUnique
roots_are_unique = record {
  small = λ value other same. (same_behind 0 0 value other same).1;
  large = λ root len other versions others first second.
      let same = same_behind 1 1 (bytes_of_word len ++ bytes_of_versions versions) (bytes_of_word other ++ bytes_of_versions others) (sym first.is_root ∙ second.is_root) in
      let parts = words_apart len other (bytes_of_versions versions) (bytes_of_versions others) (length_fits len first.within_limit) (length_fits other second.within_limit) same.1 in
      (parts.0, versions_apart versions others first.are_words second.are_words parts.1);
  one = λ root value len versions small large.
      let same = same_behind 0 1 value (bytes_of_word len ++ bytes_of_versions versions) (sym small ∙ large.is_root) in
      let never : 0 ≡ 1 = same.0 in
      omega (arith, never);
}

-- with one more, words are words
pub words_more : (versions : List ℕ) (word : ℕ) → word < 2 ^ 64 → AreWords versions → AreWords (versions ++ word ∷ [])
words_more [] word fits are zero = fits
words_more [] word fits are (suc k) = lit< tt
words_more (v ∷ vs) word fits are zero = are zero
words_more (v ∷ vs) word fits are (suc k) = words_more vs word fits (rest_words v vs are) k

-- reading so far: the versions that were read, and the rest
pub record AreRead (bytes versions rest : List ℕ) : Type 0 where
  pub split : bytes ≡ bytes_of_versions versions ++ rest
  pub words : AreWords versions

-- eight bytes that are read as a word are those of the word
pub word_read : (bytes first : List ℕ) (word : ℕ) → AreBytes bytes → length first ≡ 8 → first ≡ take 8 bytes → word ≡ from_le_bytes w64 first → bytes_of_word word ≡ first
unfolding bytes_of_word
word_read bytes first word are eight is_first is = le_bytes_8 first word eight (subst (λ (b : List ℕ). AreBytes b) (sym is_first) (bytes_take 8 bytes are)) is

-- eight bytes more are read
pub read_more : (bytes versions rest first more : List ℕ) (word : ℕ) → AreBytes rest → word < 2 ^ 64 → length first ≡ 8 → first ≡ take 8 rest → more ≡ drop 8 rest → word ≡ from_le_bytes w64 first → AreRead bytes versions rest
    → AreRead bytes (versions ++ word ∷ []) more
read_more bytes versions rest first more word are fits eight is_first is_more is read =
    let same : bytes_of_word word ≡ first = word_read rest first word are eight is_first is in
    let front_is : rest ≡ bytes_of_word word ++ more = sym (take-append-drop 8 rest) ∙ ap (λ (v : List ℕ). v ++ drop 8 rest) (sym is_first ∙ sym same) ∙ ap (λ (v : List ℕ). bytes_of_word word ++ v) (sym is_more) in
    record {
      split = read.split
          ∙ ap (λ (v : List ℕ). bytes_of_versions versions ++ v) front_is
          ∙ sym (append_assoc (bytes_of_versions versions) (bytes_of_word word) more)
          ∙ ap (λ (v : List ℕ). v ++ more) (flat_map_more bytes_of_word [] versions word);
      words = words_more versions word fits read.words;
    }

-- where all bytes are read, they are those of the versions
pub all_read : (bytes versions rest : List ℕ) → length rest ≡ 0 → AreRead bytes versions rest → AreVersions bytes versions
all_read bytes versions [] none read = record { are = read.split ∙ append-nil (bytes_of_versions versions); are_words = read.words }
all_read bytes versions (b ∷ more) none read = absurd (omega (arith, none))

-- where fewer than eight bytes stay, and some do, they aren't those of versions
pub some_stay : (bytes versions rest : List ℕ) → length rest < 8 → 1 ≤ length rest → AreRead bytes versions rest → length bytes % 8 ≡ 0 → ⊥
some_stay bytes versions rest few some read none =
    omega (arith, few, some, none, ap length read.split, length-append (bytes_of_versions versions) rest, length_versions versions)

-- bytes that begin with a length within the limit are those of the length and a rest
pub is_length : (bytes first rest : List ℕ) (len : ℕ) → AreBytes bytes → first ≡ take 8 bytes → rest ≡ drop 8 bytes → length rest + 8 ≡ length bytes → len ≡ from_le_bytes w64 first → len ≤ most_large_value → IsLength bytes len rest
is_length bytes first rest len are is_first is_rest long is within =
    let eight : length first ≡ 8 = ap length is_first ∙ length-take-le 8 bytes (omega (arith, long)) in
    record {
      is_length = sym (take-append-drop 8 bytes) ∙ ap (λ (v : List ℕ). v ++ drop 8 bytes) (sym is_first ∙ sym (word_read bytes first len are eight is_first is)) ∙ ap (λ (v : List ℕ). bytes_of_word len ++ v) (sym is_rest);
      within_limit = within;
    }

-- a few bytes begin with no length
pub few_lack : (bytes : List ℕ) → length bytes < 8 → (len : ℕ) (rest : List ℕ) → IsLength bytes len rest → ⊥
few_lack bytes few len rest is = omega (arith, few, ap length is.is_length, length-append (bytes_of_word len) rest, length_bytes_in len)

-- bytes that begin with a greater length begin with no length within the limit
pub great_lack : (bytes first behind : List ℕ) (found : ℕ) → AreBytes bytes → first ≡ take 8 bytes → behind ≡ drop 8 bytes → length behind + 8 ≡ length bytes → found ≡ from_le_bytes w64 first → found < 2 ^ 64 → most_large_value < found
    → (len : ℕ) (rest : List ℕ) → IsLength bytes len rest → ⊥
great_lack bytes first behind found are is_first is_behind long is fits great len rest begins =
    let eight : length first ≡ 8 = ap length is_first ∙ length-take-le 8 bytes (omega (arith, long)) in
    let same : bytes ≡ bytes_of_word found ++ drop 8 bytes = sym (take-append-drop 8 bytes) ∙ ap (λ (v : List ℕ). v ++ drop 8 bytes) (sym is_first ∙ sym (word_read bytes first found are eight is_first is)) in
    let one : found ≡ len = (words_apart found len (drop 8 bytes) rest fits (length_fits len begins.within_limit) (sym same ∙ begins.is_length)).0 in
    omega (arith, one, great, begins.within_limit)

-- no bytes are no root
pub none_is_none : IsNoRoot []
none_is_none = record {
  no_small = λ value same. let short : 0 ≡ suc (length value) = ap length same in omega (arith, short);
  no_large = λ len versions is. let short : 0 ≡ suc (length (bytes_of_word len ++ bytes_of_versions versions)) = ap length is.is_root in omega (arith, short);
}

-- bytes with another first byte are no root
pub other_tag : (tag : ℕ) (rest : List ℕ) → (tag ≡ 0 → ⊥) → (tag ≡ 1 → ⊥) → IsNoRoot (tag ∷ rest)
other_tag tag rest not_small not_large = record {
  no_small = λ value same. not_small (same_behind tag 0 rest value same).0;
  no_large = λ len versions is. not_large (same_behind tag 1 rest (bytes_of_word len ++ bytes_of_versions versions) is.is_root).0;
}

-- what the bytes behind the first one have to be, for a root of a value in parts
large_behind : (rest : List ℕ) → ((len : ℕ) (versions : List ℕ) → len ≤ most_large_value → length versions ≤ len → AreWords versions → rest ≡ bytes_of_word len ++ bytes_of_versions versions → ⊥) → IsNoRoot (1 ∷ rest)
large_behind rest never = record {
  no_small = λ value same. let wrong : 1 ≡ 0 = (same_behind 1 0 rest value same).0 in omega (arith, wrong);
  no_large = λ len versions is. never len versions is.within_limit is.few is.are_words (same_behind 1 1 rest (bytes_of_word len ++ bytes_of_versions versions) is.is_root).1;
}

-- bytes that begin with no length are no root of a value in parts
pub lacks_length : (rest : List ℕ) → ((len : ℕ) (behind : List ℕ) → IsLength rest len behind → ⊥) → IsNoRoot (1 ∷ rest)
lacks_length rest never = large_behind rest (λ len versions within few are same. never len (bytes_of_versions versions) (record { is_length = same; within_limit = within }))

-- nor are those with a part of a version at their end
pub odd_behind : (rest bytes : List ℕ) (len : ℕ) → IsLength rest len bytes → (length bytes % 8 ≡ 0 → ⊥) → IsNoRoot (1 ∷ rest)
odd_behind rest bytes len begins odd =
    large_behind rest
    (λ other versions within few are same.
    let lengths : length (bytes_of_word len ++ bytes) ≡ length (bytes_of_word other ++ bytes_of_versions versions) = ap length (sym begins.is_length ∙ same) in
    let long : length bytes ≡ 8 * length versions =
    omega (arith, lengths, length-append (bytes_of_word len) bytes, length-append (bytes_of_word other) (bytes_of_versions versions), length_bytes_in len, length_bytes_in other, length_versions versions) in
    odd (omega (arith, long)))

-- a length and versions make a root
pub large_is : (rest bytes : List ℕ) (len : ℕ) (versions : List ℕ) → IsLength rest len bytes → AreVersions bytes versions → length versions ≤ len → IsLargeRoot (1 ∷ rest) len versions
large_is rest bytes len versions begins read few = record {
  is_root = ap (λ (v : List ℕ). 1 ∷ v) (begins.is_length ∙ ap (λ (v : List ℕ). bytes_of_word len ++ v) read.are);
  within_limit = begins.within_limit;
  few = few;
  are_words = read.are_words;
}

-- nor are those with more versions than the length
pub many_behind : (rest bytes : List ℕ) (len : ℕ) (versions : List ℕ) → IsLength rest len bytes → AreVersions bytes versions → len < length versions → IsNoRoot (1 ∷ rest)
many_behind rest bytes len versions begins read many =
    large_behind rest
    (λ other others within few are same.
    let parts = words_apart len other bytes (bytes_of_versions others) (length_fits len begins.within_limit) (length_fits other within) (sym begins.is_length ∙ same) in
    let one : len ≡ other = parts.0 in
    let as_many : versions ≡ others = versions_apart versions others read.are_words are (sym read.are ∙ parts.1) in
    omega (arith, one, few, many, ap length as_many))

-- with a version more, the bytes of a root are those of one more version
pub root_more : (into version : List ℕ) (len word : ℕ) (versions : List ℕ) → version ≡ bytes_of_word word → into ≡ large_root len versions → into ++ version ≡ large_root len (versions ++ word ∷ [])
root_more into version len word versions is so =
    ap (λ (v : List ℕ). v ++ version) so
    ∙ ap (λ (v : List ℕ). large_root len versions ++ v) is
    ∙ ap (λ (v : List ℕ). 1 ∷ v) (append_assoc (bytes_of_word len) (bytes_of_versions versions) (bytes_of_word word))
    ∙ ap (λ (v : List ℕ). 1 ∷ (bytes_of_word len ++ v)) (flat_map_more bytes_of_word [] versions word)

-- the first bytes of a root in parts: the tag, and the length
pub root_none : (cleared tagged word into : List ℕ) (len : ℕ) → cleared ≡ [] → tagged ≡ cleared ++ 1 ∷ [] → word ≡ to_le_bytes w64 len → into ≡ tagged ++ word → into ≡ large_root len []
unfolding bytes_of_word
root_none cleared tagged word into len empty tag is so =
    so ∙ ap (λ (v : List ℕ). v ++ word) (tag ∙ ap (λ (v : List ℕ). v ++ 1 ∷ []) empty) ∙ ap (λ (v : List ℕ). 1 ∷ v) is

-- the bytes of a word
pub word_bytes : (word : ℕ) (bytes : List ℕ) → bytes ≡ to_le_bytes w64 word → bytes ≡ bytes_of_word word
unfolding bytes_of_word
word_bytes word bytes is = is

-- the first eight bytes are eight
pub eight_first : (bytes first more : List ℕ) → first ≡ take 8 bytes → length more + 8 ≡ length bytes → length first ≡ 8
eight_first bytes first more is long = ap length is ∙ length-take-le 8 bytes (omega (arith, long))

-- what isn't empty has some bytes
pub some_left : (bytes : List ℕ) (empty : Bool) → empty ≡ (length bytes == 0) → empty ≡ false → 1 ≤ length bytes
some_left [] empty is isnt = let wrong : true ≡ false = sym is ∙ isnt in absurd (cc)
some_left (b ∷ more) empty is isnt = omega arith
