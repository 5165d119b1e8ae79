-- A word and its eight bytes; bytes that become words and come back.
use Rattle.std.proofs.Common.{◌≡◌, ℕ, zero, suc, ◌+◌, ◌-◌, ◌*◌, ◌^◌, ◌<◌, ◌≤◌, List, [], ◌∷◌, ◌++◌, length, take, drop, replicate, get_or, refl, ap, sym, ◌∙◌, subst, arith, ⊎_elim, length-append, append-nil, lit<}
use Rattle.std.specs.Int.{bytes_low_first, byte_at, byte_worth, sum_through}
use Rattle.std.proofs.lemmas.Bool.{cases_lt}
use Rattle.std.proofs.lemmas.List.{get_or-append_right, get_or-replicate, get_or-take, get_or_append_left, get_or_past, length-drop, length-replicate, length-take, nil_from_length, take-append-drop, take_all, take_at, get_or-drop}
use Rattle.std.proofs.lemmas.Nat.{le_bytes_8, from_le_bytes-to_le_bytes_8, mod_below}
use Rattle.mc_packing.specs.Packing.{AreBytes, bytes_of_word, bytes_of_words, packed_word, packed_words_from}

sums : (f g : ℕ → ℕ) (k : ℕ) → ((i : ℕ) → i ≤ k → f i ≡ g i) → sum_through f k ≡ sum_through g k
sums f g zero h = h 0 (omega arith)
sums f g (suc k) h =
    let below = sums f g k (λ i le. h i (omega arith)) in
    let last = h (suc k) (omega arith) in
    λ j. below j + last j

-- a word is read off eight places
pub same_word : (a b : List ℕ) → ((i : ℕ) → i < 8 → get_or a i 0 ≡ get_or b i 0) → packed_word a ≡ packed_word b
unfolding packed_word
same_word a b h = sums (λ (i : ℕ). byte_worth i (get_or a i 0)) (λ (i : ℕ). byte_worth i (get_or b i 0)) 7 (λ i le. ap (λ (x : ℕ). byte_worth i x) (h i (omega arith)))

pub length_bytes_in : (word : ℕ) → length (bytes_of_word word) ≡ 8
unfolding bytes_of_word
length_bytes_in word = refl

-- asked for eight of its bytes or more, a word gives all
pub all_eight : (count word : ℕ) → 8 ≤ count → take count (bytes_of_word word) ≡ bytes_of_word word
all_eight count word at_limit = take_all count (bytes_of_word word) (omega (arith, length_bytes_in word))

pub word_again : (word : ℕ) → word < 2 ^ 64 → packed_word (bytes_of_word word) ≡ word
unfolding packed_word bytes_of_word
word_again word fits = from_le_bytes-to_le_bytes_8 word fits

byte_small : (i n : ℕ) → byte_at i n < 256
byte_small zero n = mod_below n 256 (lit< tt)
byte_small (suc i) n = mod_below _ 256 (lit< tt)

low_small : (k j n i : ℕ) → get_or (bytes_low_first j k n) i 0 < 256
low_small zero j n i = lit< tt
low_small (suc k) j n zero = byte_small j n
low_small (suc k) j n (suc i) = low_small k (suc j) n i

-- bytes behind bytes are bytes
pub bytes_append : (a b : List ℕ) → AreBytes a → AreBytes b → AreBytes (a ++ b)
bytes_append a b ha hb i =
    ⊎_elim
    (λ (less : i < length a). rw (get_or_append_left a b 0 i less) (ha i))
    (λ (more : length a ≤ i). rw (get_or-append_right a b (length a) i 0 refl more) (hb (i - length a)))
    (cases_lt i (length a))

pub bytes_take : (n : ℕ) (a : List ℕ) → AreBytes a → AreBytes (take n a)
bytes_take n a h i =
    ⊎_elim
    (λ (less : i < n). rw (get_or-take n a i 0 less) (h i))
    (λ (more : n ≤ i). rw (get_or_past (take n a) i 0 (omega (arith, length-take n a))) (lit< tt))
    (cases_lt i n)

pub bytes_drop : (n : ℕ) (a : List ℕ) → AreBytes a → AreBytes (drop n a)
bytes_drop n a h i = rw (get_or-drop n a i 0) (h (n + i))

pub bytes_in_bytes : (word : ℕ) → AreBytes (bytes_of_word word)
unfolding bytes_of_word
bytes_in_bytes word = low_small 8 0 word

pub bytes_of_bytes : (words : List ℕ) (count : ℕ) → AreBytes (bytes_of_words count words)
unfolding bytes_of_words
bytes_of_bytes [] count = λ i. lit< tt
bytes_of_bytes (word ∷ words) count = bytes_append (take count (bytes_of_word word)) (bytes_of_words (count - 8) words) (bytes_take count (bytes_of_word word) (bytes_in_bytes word)) (bytes_of_bytes words (count - 8))

pub no_bytes : (words : List ℕ) → bytes_of_words 0 words ≡ []
unfolding bytes_of_words
no_bytes [] = refl
no_bytes (word ∷ words) = no_bytes words

-- eight bytes, of which those behind the list's are zeros
padded : List ℕ → List ℕ
padded b = take 8 b ++ replicate (8 - length b) 0

length_padded : (b : List ℕ) → length (padded b) ≡ 8
unfolding padded
length_padded b = omega (arith, length-append (take 8 b) (replicate (8 - length b) 0), length-take 8 b, length-replicate {A = ℕ} (8 - length b) 0)

get_padded : (b : List ℕ) (i : ℕ) → i < 8 → get_or (padded b) i 0 ≡ get_or b i 0
unfolding padded
get_padded b i fits =
    ⊎_elim
    (λ (less : i < length b). get_or_append_left (take 8 b) (replicate (8 - length b) 0) 0 i (omega (arith, length-take 8 b)) ∙ get_or-take 8 b i 0 fits)
    (λ (more : length b ≤ i).
    get_or-append_right (take 8 b) (replicate (8 - length b) 0) (length b) i 0 (omega (arith, length-take 8 b)) more
    ∙ get_or-replicate (8 - length b) (i - length b) 0 0 (omega arith) ∙ sym (get_or_past b i 0 more))
    (cases_lt i (length b))

bytes_padded : (b : List ℕ) → AreBytes b → AreBytes (padded b)
bytes_padded b h i =
    ⊎_elim
    (λ (less : i < 8). rw (get_padded b i less) (h i))
    (λ (more : 8 ≤ i). rw (get_or_past (padded b) i 0 (omega (arith, length_padded b))) (lit< tt))
    (cases_lt i 8)

-- the bytes of the word of bytes are these, and zeros
word_bytes : (b : List ℕ) → AreBytes b → bytes_of_word (packed_word b) ≡ padded b
unfolding packed_word bytes_of_word
word_bytes b h = le_bytes_8 (padded b) (packed_word b) (length_padded b) (bytes_padded b h) (same_word b (padded b) (λ i less. sym (get_padded b i less)))

front_padded : (b : List ℕ) → take (length b) (padded b) ≡ take 8 b
unfolding padded
front_padded b =
    ⊎_elim
    (λ (within_limit : length b < 8). rw (take_all 8 b (omega arith)) (take_at b (replicate (8 - length b) 0) (length b) refl))
    (λ (at_limit : 8 ≤ length b).
    take_all (length b) (take 8 b ++ replicate (8 - length b) 0) (omega (arith, length-append (take 8 b) (replicate (8 - length b) 0), length-take 8 b, length-replicate {A = ℕ} (8 - length b) 0))
    ∙ ap (λ (more : List ℕ). take 8 b ++ more) (nil_from_length (replicate (8 - length b) 0) (omega (arith, length-replicate {A = ℕ} (8 - length b) 0)))
    ∙ append-nil (take 8 b))
    (cases_lt (length b) 8)

-- as many bytes of the word of bytes as there were are the first eight of these
pub word_unpacks : (b : List ℕ) → AreBytes b → take (length b) (bytes_of_word (packed_word b)) ≡ take 8 b
word_unpacks b h = ap (λ (bytes : List ℕ). take (length b) bytes) (word_bytes b h) ∙ front_padded b

pub word_of_eight : (b : List ℕ) → packed_word (take 8 b) ≡ packed_word b
word_of_eight b = same_word (take 8 b) b (λ i less. get_or-take 8 b i 0 less)

-- bytes that were made words come back, also where other words follow
pub bytes_back : (n : ℕ) (b more : List ℕ) → AreBytes b → length b ≤ 8 * n → bytes_of_words (length b) (packed_words_from n b ++ more) ≡ b
unfolding bytes_of_words packed_words_from
bytes_back zero b more h within_limit =
    let none : length b ≡ 0 = omega arith in
    ap (λ (k : ℕ). bytes_of_words k more) none ∙ no_bytes more ∙ sym (nil_from_length b none)
bytes_back (suc n) b more h within_limit =
    let len : length (drop 8 b) ≡ length b - 8 = length-drop 8 b in
    let rest : bytes_of_words (length (drop 8 b)) (packed_words_from n (drop 8 b) ++ more) ≡ drop 8 b = bytes_back n (drop 8 b) more (bytes_drop 8 b h) (omega arith) in
    let back : bytes_of_words (length b - 8) (packed_words_from n (drop 8 b) ++ more) ≡ drop 8 b = subst (λ (k : ℕ). bytes_of_words k (packed_words_from n (drop 8 b) ++ more) ≡ drop 8 b) len rest in
    ap (λ (front : List ℕ). front ++ bytes_of_words (length b - 8) (packed_words_from n (drop 8 b) ++ more)) (word_unpacks b h)
    ∙ ap (λ (other : List ℕ). take 8 b ++ other) back ∙ take-append-drop 8 b

pub length_words_from : (n : ℕ) (b : List ℕ) → length (packed_words_from n b) ≡ n
unfolding packed_words_from
length_words_from zero b = refl
length_words_from (suc n) b = ap suc (length_words_from n (drop 8 b))

pub words_step : (n : ℕ) (b : List ℕ) → 0 < n → packed_words_from n b ≡ packed_word b ∷ packed_words_from (n - 1) (drop 8 b)
unfolding packed_words_from
words_step zero b some = absurd (omega arith)
words_step (suc n) b some = ap (λ (k : ℕ). packed_word b ∷ packed_words_from k (drop 8 b)) (let e : n ≡ suc n - 1 = omega arith in e)
