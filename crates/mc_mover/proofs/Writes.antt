-- Holdings of a hand whose chunk is filled word by word: what is found of it, and what the others are.
use Rattle.std.proofs.Common.{◌≡◌, ℕ, ◌+◌, ◌≤◌, ◌<◌, Bool, true, false, ◌||◌, List, [], ◌∷◌, ◌++◌, length, take, is_some, Option, Some, None, refl, ap, sym, ◌∙◌, cond, arith, slice_set, slice_index, le-leb, if◌then◌else◌, suc}
use Rattle.std.specs.List.{list_all, list_any}
use Rattle.std.specs.Option.{option_map}
use Rattle.std.proofs.lemmas.Bool.{and_from}
use Rattle.std.proofs.lemmas.Option.{none-some}
use Rattle.mc_pages.specs.declared.ids.ChunkId.{ChunkId}
use Rattle.mc_pages.specs.ClassState.{is_chunk}
use Rattle.mc_stripe.proofs.Entries.{nat_eq_same}
use Rattle.mc_core.specs.declared.holding.Holding.{Holding}
use Rattle.mc_core.specs.declared.holding.Kind.{Kind}
use Rattle.mc_core.specs.declared.holding.Kind.TheVariants.{Reference, Fresh}
use Rattle.mc_core.specs.run.Chunks.{holding_with_word, filled_kind}
use Rattle.mc_core.specs.model.Holdings.{Words, all_known, change_each, holding_of, is_complete, is_of_chunk, words_of_item, known_key, without_first, stamp_in}
use Rattle.mc_core.specs.run.Items.{are_same}
use Rattle.mc_words.specs.item.Items.{item_with}

-- the words of a chunk, with these in place of the first, as far as there is room
abbrev pub written_over : List ℕ → Words → Words
written_over [] words = words
written_over (word ∷ item) [] = []
written_over (word ∷ item) (first ∷ words) = Some word ∷ written_over item words

-- a fresh chunk, into which these were written from its first word on
abbrev pub kind_with : List ℕ → Kind → Kind
kind_with item (Reference own) = Reference own
kind_with item (Fresh purpose words) = Fresh purpose (written_over item words)

abbrev pub holding_with : List ℕ → Holding → Holding
holding_with item holding = record holding { kind = kind_with item holding.kind }

-- one word more behind those that were written
written_more : (item : List ℕ) (words : Words) (word : ℕ) → slice_set (written_over item words) (length item) (Some word) ≡ written_over (item ++ word ∷ []) words
written_more [] [] word = refl
written_more [] (x ∷ words) word = refl
written_more (a ∷ item) [] word = refl
written_more (a ∷ item) (x ∷ words) word = ap (λ (w : Words). Some a ∷ w) (written_more item words word)

-- as many words as before
pub written_long : (item : List ℕ) (words : Words) → length (written_over item words) ≡ length words
written_long [] words = refl
written_long (a ∷ item) [] = refl
written_long (a ∷ item) (x ∷ words) = let rest : length (written_over item words) ≡ length words = written_long item words in omega arith

-- the first are those that were written
written_first : (item : List ℕ) (words : Words) → length item ≤ length words → take (length item) (written_over item words) ≡ all_known item
written_first [] words fits = refl
written_first (a ∷ item) [] fits = absurd (omega arith)
written_first (a ∷ item) (x ∷ words) fits = ap (λ (w : Words). Some a ∷ w) (written_first item words (omega arith))

-- each of which is known
all_are_known : (item : List ℕ) → list_all is_some (all_known item) ≡ true
all_are_known [] = refl
all_are_known (a ∷ item) = all_are_known item

-- the item that was written is the chunk's
pub item_is : (key stamp : ℕ) (item : List ℕ) (words : Words) → 3 + length item ≤ length words → words_of_item (written_over (item_with key stamp item) words) ≡ all_known (item_with key stamp item)
item_is key stamp item [] fits = absurd (omega arith)
item_is key stamp item (a ∷ []) fits = absurd (omega arith)
item_is key stamp item (a ∷ b ∷ []) fits = absurd (omega arith)
item_is key stamp item (a ∷ b ∷ c ∷ words) fits =
    let count : 3 + length item ≡ length (item_with key stamp item) = omega arith in
    ap (λ (n : ℕ). take n (written_over (item_with key stamp item) (a ∷ b ∷ c ∷ words))) count ∙ written_first (item_with key stamp item) (a ∷ b ∷ c ∷ words) (omega arith)

-- and it is whole, with this key and stamp
pub whole_with : (key stamp : ℕ) (item : List ℕ) (words : Words) → 3 + length item ≤ length words
    → (is_complete (written_over (item_with key stamp item) words) ≡ true) × (known_key (written_over (item_with key stamp item) words) ≡ key) × (stamp_in (written_over (item_with key stamp item) words) ≡ stamp)
whole_with key stamp item [] fits = absurd (omega arith)
whole_with key stamp item (a ∷ []) fits = absurd (omega arith)
whole_with key stamp item (a ∷ b ∷ []) fits = absurd (omega arith)
whole_with key stamp item (a ∷ b ∷ c ∷ words) fits =
    let long : length (written_over (item_with key stamp item) (a ∷ b ∷ c ∷ words)) ≡ length (a ∷ b ∷ c ∷ words) = written_long (item_with key stamp item) (a ∷ b ∷ c ∷ words) in
    let known = ap (list_all is_some) (item_is key stamp item (a ∷ b ∷ c ∷ words) fits) ∙ all_are_known (item_with key stamp item) in (
      and_from _ _ (le-leb (3 + length item) (length (written_over (item_with key stamp item) (a ∷ b ∷ c ∷ words))) (omega arith)) known,
      refl,
      refl,
    )

-- known words are those of their item
pub same_words : (item : List ℕ) → are_same (all_known item) item ≡ true
same_words [] = refl
same_words (word ∷ item) = and_from _ _ (nat_eq_same word word refl) (same_words item)

-- lists of one length with the same numbers at each place
pub same_list : (xs ys : List ℕ) → length xs ≡ length ys → ((i : ℕ) → i < length xs → slice_index xs i ≡ slice_index ys i) → xs ≡ ys
same_list [] [] long each = refl
same_list [] (y ∷ ys) long each = absurd (omega arith)
same_list (x ∷ xs) [] long each = absurd (omega arith)
same_list (x ∷ xs) (y ∷ ys) long each =
    let rest : xs ≡ ys = same_list xs ys (omega arith) (λ i within. each (suc i) (omega arith)) in
    λ k. each 0 (omega arith) k ∷ rest k

-- so of what a holding is
kind_more : (item : List ℕ) (word : ℕ) (kind : Kind) → filled_kind (length item) word (kind_with item kind) ≡ kind_with (item ++ word ∷ []) kind
kind_more item word (Reference own) = refl
kind_more item word (Fresh purpose words) = ap (λ (w : Words). Fresh purpose w) (written_more item words word)

kind_none : (kind : Kind) → kind_with [] kind ≡ kind
kind_none (Reference own) = refl
kind_none (Fresh purpose words) = refl

module _ (chunk : ChunkId) where
  abbrev turned : (Holding → Holding) → Holding → Holding
  turned change holding = if is_of_chunk chunk holding then change holding else holding

  one_more : (item : List ℕ) (word : ℕ) (holding : Holding) → turned (holding_with_word (length item) word) (turned (holding_with item) holding) ≡ turned (holding_with (item ++ word ∷ [])) holding
  one_more item word holding = by (is_of_chunk chunk holding) refl
    where
      by : (test : Bool) → is_of_chunk chunk holding ≡ test → turned (holding_with_word (length item) word) (turned (holding_with item) holding) ≡ turned (holding_with (item ++ word ∷ [])) holding
      by true is =
          ap (λ (b : Bool). turned (holding_with_word (length item) word) (if b then holding_with item holding else holding)) is
          ∙ (ap (λ (b : Bool). if b then holding_with_word (length item) word (holding_with item holding) else holding_with item holding) is
          ∙ (ap (λ (k : Kind). record holding { kind = k }) (kind_more item word holding.kind) ∙ sym (ap (λ (b : Bool). if b then holding_with (item ++ word ∷ []) holding else holding) is)))
      by false is =
          ap (λ (b : Bool). turned (holding_with_word (length item) word) (if b then holding_with item holding else holding)) is
          ∙ (ap (λ (b : Bool). if b then holding_with_word (length item) word holding else holding) is ∙ sym (ap (λ (b : Bool). if b then holding_with (item ++ word ∷ []) holding else holding) is))

  -- one word more is written
  pub all_more : (item : List ℕ) (word : ℕ) (holdings : List Holding) → change_each (is_of_chunk chunk) (holding_with_word (length item) word) (change_each (is_of_chunk chunk) (holding_with item) holdings) ≡ change_each (is_of_chunk chunk) (holding_with (item ++ word ∷ [])) holdings
  all_more item word [] = refl
  all_more item word (holding ∷ holdings) = λ k. one_more item word holding k ∷ all_more item word holdings k

  -- nothing was written so far
  pub none_yet : (holdings : List Holding) → change_each (is_of_chunk chunk) (holding_with []) holdings ≡ holdings
  none_yet [] = refl
  none_yet (holding ∷ holdings) = λ k. by (is_of_chunk chunk holding) k ∷ none_yet holdings k
    where
      by : (test : Bool) → (if test then holding_with [] holding else holding) ≡ holding
      by true = ap (λ (kind : Kind). record holding { kind = kind }) (kind_none holding.kind)
      by false = refl

-- holdings that are changed, each of which stays of its chunk
module _ (chunk : ChunkId) (test : Holding → Bool) (change : Holding → Holding) (same : (holding : Holding) → (change holding).chunk ≡ holding.chunk) where
  abbrev turn : Holding → Holding
  turn holding = if test holding then change holding else holding

  still_of : (holding : Holding) → is_of_chunk chunk (turn holding) ≡ is_of_chunk chunk holding
  still_of holding = by (test holding)
    where
      by : (b : Bool) → is_of_chunk chunk (if b then change holding else holding) ≡ is_of_chunk chunk holding
      by true = ap (λ (c : ChunkId). is_chunk c chunk) (same holding)
      by false = refl

  -- what is found of the chunk is changed
  pub found_changed : (holdings : List Holding) (holding : Holding) → holding_of chunk holdings ≡ Some holding → holding_of chunk (change_each test change holdings) ≡ Some (turn holding)
  found_changed [] holding found = absurd (none-some holding found)
  found_changed (first ∷ holdings) holding found = ap (λ (b : Bool). cond b (Some (turn first)) more) (still_of first) ∙ by (is_of_chunk chunk first) found (found_changed holdings holding)
    where
      more : Option Holding
      more = holding_of chunk (change_each test change holdings)

      by : (b : Bool) → cond b (Some first) (holding_of chunk holdings) ≡ Some holding → (holding_of chunk holdings ≡ Some holding → more ≡ Some (turn holding)) → cond b (Some (turn first)) more ≡ Some (turn holding)
      by true found later = ap (option_map turn) found
      by false found later = later found

  -- and the others are changed as they would be without it
  pub lose_changed : (holdings : List Holding) → without_first (is_of_chunk chunk) (change_each test change holdings) ≡ change_each test change (without_first (is_of_chunk chunk) holdings)
  lose_changed [] = refl
  lose_changed (first ∷ holdings) = ap (λ (b : Bool). if b then changed else turn first ∷ without_first (is_of_chunk chunk) changed) (still_of first) ∙ by (is_of_chunk chunk first) (lose_changed holdings)
    where
      changed : List Holding
      changed = change_each test change holdings

      by : (b : Bool) → without_first (is_of_chunk chunk) changed ≡ change_each test change (without_first (is_of_chunk chunk) holdings)
          → (if b then changed else turn first ∷ without_first (is_of_chunk chunk) changed) ≡ change_each test change (if b then holdings else first ∷ without_first (is_of_chunk chunk) holdings)
      by true later = refl
      by false later = λ k. turn first ∷ later k

-- where none passes the test none is changed
pub unchanged : (test : Holding → Bool) (change : Holding → Holding) (holdings : List Holding) → list_any test holdings ≡ false → change_each test change holdings ≡ holdings
unchanged test change [] none = refl
unchanged test change (first ∷ holdings) none = by (test first) (list_any test holdings) none (unchanged test change holdings)
  where
    by : (b others : Bool) → (b || others) ≡ false → (others ≡ false → change_each test change holdings ≡ holdings) → (if b then change first else first) ∷ change_each test change holdings ≡ first ∷ holdings
    by true others none later = absurd (cc)
    by false others none later = λ k. first ∷ later none k

-- a chunk of which no holding is found
pub none_of : (chunk : ChunkId) (holdings : List Holding) → holding_of chunk holdings ≡ None → list_any (is_of_chunk chunk) holdings ≡ false
none_of chunk [] none = refl
none_of chunk (first ∷ holdings) none = by (is_of_chunk chunk first) none (none_of chunk holdings)
  where
    by : (b : Bool) → cond b (Some first) (holding_of chunk holdings) ≡ None → (holding_of chunk holdings ≡ None → list_any (is_of_chunk chunk) holdings ≡ false) → (b || list_any (is_of_chunk chunk) holdings) ≡ false
    by true none later = absurd (cc)
    by false none later = later none

-- one that comes last, and goes again
pub lose_last : (chunk : ChunkId) (holdings : List Holding) (last : Holding) → holding_of chunk holdings ≡ None → is_of_chunk chunk last ≡ true → without_first (is_of_chunk chunk) (holdings ++ last ∷ []) ≡ holdings
lose_last chunk [] last none is = ap (λ (b : Bool). if b then [] else last ∷ []) is
lose_last chunk (first ∷ holdings) last none is = by (is_of_chunk chunk first) none (λ none. lose_last chunk holdings last none is)
  where
    by : (b : Bool) → cond b (Some first) (holding_of chunk holdings) ≡ None → (holding_of chunk holdings ≡ None → without_first (is_of_chunk chunk) (holdings ++ last ∷ []) ≡ holdings)
        → (if b then holdings ++ last ∷ [] else first ∷ without_first (is_of_chunk chunk) (holdings ++ last ∷ [])) ≡ first ∷ holdings
    by true none later = absurd (cc)
    by false none later = λ k. first ∷ later none k

-- what is found passes its tests among all
pub found_among : (chunk : ChunkId) (test : Holding → Bool) (holdings : List Holding) (holding : Holding) → holding_of chunk holdings ≡ Some holding → test holding ≡ true → list_any test holdings ≡ true
found_among chunk test [] holding found is = absurd (none-some holding found)
found_among chunk test (first ∷ holdings) holding found is = by (is_of_chunk chunk first) found (found_among chunk test holdings holding)
  where
    or_true : (b : Bool) → (b || true) ≡ true
    or_true true = refl
    or_true false = refl

    by : (b : Bool) → cond b (Some first) (holding_of chunk holdings) ≡ Some holding → (holding_of chunk holdings ≡ Some holding → test holding ≡ true → list_any test holdings ≡ true) → (test first || list_any test holdings) ≡ true
    by true found later = let same : first ≡ holding = cc in ap (λ (b : Bool). b || list_any test holdings) (ap test same ∙ is)
    by false found later = ap (λ (b : Bool). test first || b) (later found is) ∙ or_true (test first)
