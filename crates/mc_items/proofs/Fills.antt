-- Words that are written into a fresh chunk, one after the other.
use Rattle.std.proofs.Common.{zero-add, ◌≡◌, ℕ, ◌+◌, ◌≤◌, ◌==◌, Bool, true, false, List, [], ◌∷◌, ◌++◌, length, take, is_some, Option, Some, refl, ap, sym, ◌∙◌, cond, arith, slice_set, le-leb, if◌then◌else◌}
use Rattle.std.proofs.lemmas.List.{append-nil, append_assoc}
use Rattle.mc_core.specs.declared.event.Step.TheVariants as step
use Rattle.mc_words.specs.hand.View.{OwnEvent, made}
use Rattle.std.specs.List.{list_all}
use Rattle.std.specs.Option.{option_map, option_map_or}
use Rattle.std.proofs.lemmas.Bool.{and_from}
use Rattle.std.proofs.lemmas.Option.{none-some}
use Rattle.mc_pages.specs.declared.ids.ChunkId.{ChunkId}
use Rattle.mc_core.specs.declared.holding.Holding.{Holding}
use Rattle.mc_core.specs.declared.holding.Kind.{Kind}
use Rattle.mc_core.specs.declared.holding.Kind.TheVariants.{Reference, Fresh}
use Rattle.mc_core.specs.run.Chunks.{holding_with_word, filled_kind}
use Rattle.mc_core.specs.model.Holdings.{Words, all_known, change_each, holding_of, is_complete, is_of_chunk, words_of_item, known_key, stamp_in, holding_words}
use Rattle.mc_words.specs.hand.View.{View}
use Rattle.mc_stripe.proofs.Entries.{nat_eq_other}
use Rattle.mc_words.specs.item.Fresh.{IsFreshOf}
use Rattle.mc_words.specs.item.Items.{issue_in, item_with, known_words_in}
use Rattle.mc_words.specs.item.Links.{IsItemFilled, own_item}
use Rattle.mc_words.specs.hand.Views.{with_holdings, word_filled}
use Rattle.mc_items.specs.Storing.{IsOwnItem, holding_with, item_filled, kind_with, written_over, fills_of}

-- one word more behind those that were written
written_more : (item : List ℕ) (words : Words) (word : ℕ) → slice_set (written_over item words) (length item) (Some word) ≡ written_over (item ++ word ∷ []) words
written_more [] [] word = refl
written_more [] (x ∷ words) word = refl
written_more (a ∷ item) [] word = refl
written_more (a ∷ item) (x ∷ words) word = ap (λ (w : Words). Some a ∷ w) (written_more item words word)

written_long : (item : List ℕ) (words : Words) → length (written_over item words) ≡ length words
written_long [] words = refl
written_long (a ∷ item) [] = refl
written_long (a ∷ item) (x ∷ words) = let rest : length (written_over item words) ≡ length words = written_long item words in omega arith

written_first : (item : List ℕ) (words : Words) → length item ≤ length words → take (length item) (written_over item words) ≡ all_known item
written_first [] words fits = refl
written_first (a ∷ item) [] fits = absurd (omega arith)
written_first (a ∷ item) (x ∷ words) fits = ap (λ (w : Words). Some a ∷ w) (written_first item words (omega arith))

all_are_known : (item : List ℕ) → list_all is_some (all_known item) ≡ true
all_are_known [] = refl
all_are_known (a ∷ item) = all_are_known item

-- the item that was written is the chunk's
pub item_is : (key stamp : ℕ) (item : List ℕ) (words : Words) → 3 + length item ≤ length words → words_of_item (written_over (item_with key stamp item) words) ≡ all_known (item_with key stamp item)
item_is key stamp item [] fits = absurd (omega arith)
item_is key stamp item (a ∷ []) fits = absurd (omega arith)
item_is key stamp item (a ∷ b ∷ []) fits = absurd (omega arith)
item_is key stamp item (a ∷ b ∷ c ∷ words) fits =
    let count : 3 + length item ≡ length (item_with key stamp item) = omega arith in
    ap (λ (n : ℕ). take n (written_over (item_with key stamp item) (a ∷ b ∷ c ∷ words))) count ∙ written_first (item_with key stamp item) (a ∷ b ∷ c ∷ words) (omega arith)

-- and it is whole, with this key and stamp
whole_with : (key stamp : ℕ) (item : List ℕ) (words : Words) → 3 + length item ≤ length words
    → (is_complete (written_over (item_with key stamp item) words) ≡ true) × (known_key (written_over (item_with key stamp item) words) ≡ key) × (stamp_in (written_over (item_with key stamp item) words) ≡ stamp)
whole_with key stamp item [] fits = absurd (omega arith)
whole_with key stamp item (a ∷ []) fits = absurd (omega arith)
whole_with key stamp item (a ∷ b ∷ []) fits = absurd (omega arith)
whole_with key stamp item (a ∷ b ∷ c ∷ words) fits =
    let long : length (written_over (item_with key stamp item) (a ∷ b ∷ c ∷ words)) ≡ length (a ∷ b ∷ c ∷ words) = written_long (item_with key stamp item) (a ∷ b ∷ c ∷ words) in
    let known = ap (list_all is_some) (item_is key stamp item (a ∷ b ∷ c ∷ words) fits) ∙ all_are_known (item_with key stamp item) in (
      and_from _ _ (le-leb (3 + length item) (length (written_over (item_with key stamp item) (a ∷ b ∷ c ∷ words))) (omega arith)) known,
      refl,
      refl,
    )

kind_more : (item : List ℕ) (word : ℕ) (kind : Kind) → filled_kind (length item) word (kind_with item kind) ≡ kind_with (item ++ word ∷ []) kind
kind_more item word (Reference own) = refl
kind_more item word (Fresh purpose words) = ap (λ (w : Words). Fresh purpose w) (written_more item words word)

kind_none : (kind : Kind) → kind_with [] kind ≡ kind
kind_none (Reference own) = refl
kind_none (Fresh purpose words) = refl

module _ (chunk : ChunkId) where
  abbrev turned : (Holding → Holding) → Holding → Holding
  turned change holding = if is_of_chunk chunk holding then change holding else holding

  one_more : (item : List ℕ) (word : ℕ) (holding : Holding) → turned (holding_with_word (length item) word) (turned (holding_with item) holding) ≡ turned (holding_with (item ++ word ∷ [])) holding
  one_more item word holding = by (is_of_chunk chunk holding) refl
    where
      by : (test : Bool) → is_of_chunk chunk holding ≡ test → turned (holding_with_word (length item) word) (turned (holding_with item) holding) ≡ turned (holding_with (item ++ word ∷ [])) holding
      by true is =
          ap (λ (b : Bool). turned (holding_with_word (length item) word) (if b then holding_with item holding else holding)) is
          ∙ (ap (λ (b : Bool). if b then holding_with_word (length item) word (holding_with item holding) else holding_with item holding) is
          ∙ (ap (λ (k : Kind). record holding { kind = k }) (kind_more item word holding.kind) ∙ sym (ap (λ (b : Bool). if b then holding_with (item ++ word ∷ []) holding else holding) is)))
      by false is =
          ap (λ (b : Bool). turned (holding_with_word (length item) word) (if b then holding_with item holding else holding)) is
          ∙ (ap (λ (b : Bool). if b then holding_with_word (length item) word holding else holding) is ∙ sym (ap (λ (b : Bool). if b then holding_with (item ++ word ∷ []) holding else holding) is))

  all_more : (item : List ℕ) (word : ℕ) (holdings : List Holding) → change_each (is_of_chunk chunk) (holding_with_word (length item) word) (change_each (is_of_chunk chunk) (holding_with item) holdings) ≡ change_each (is_of_chunk chunk) (holding_with (item ++ word ∷ [])) holdings
  all_more item word [] = refl
  all_more item word (holding ∷ holdings) = λ k. one_more item word holding k ∷ all_more item word holdings k

  none_yet : (holdings : List Holding) → change_each (is_of_chunk chunk) (holding_with []) holdings ≡ holdings
  none_yet [] = refl
  none_yet (holding ∷ holdings) = λ k. by (is_of_chunk chunk holding) k ∷ none_yet holdings k
    where
      by : (test : Bool) → (if test then holding_with [] holding else holding) ≡ holding
      by true = ap (λ (kind : Kind). record holding { kind = kind }) (kind_none holding.kind)
      by false = refl

  -- nothing was written so far
  pub filled_none : (view : View) → view ≡ item_filled chunk [] view
  filled_none view = λ k. record (with_holdings (sym (none_yet view.row.holdings) k) view) { events = sym (append-nil view.events) k }

  -- one event more
  fills_more : (item : List ℕ) (word place : ℕ) → fills_of chunk place (item ++ word ∷ []) ≡ fills_of chunk place item ++ made [] (step.Fill chunk (place + length item) word) ∷ []
  fills_more [] word place = ap (λ (at : ℕ). made [] (step.Fill chunk at word) ∷ []) (omega arith)
  fills_more (first ∷ item) word place =
      ap (λ (events : List OwnEvent). made [] (step.Fill chunk place first) ∷ events)
      (fills_more item word (place + 1) ∙ ap (λ (at : ℕ). fills_of chunk (place + 1) item ++ made [] (step.Fill chunk at word) ∷ []) (omega arith))

  -- one word more is written
  pub filled_more : (item : List ℕ) (word place : ℕ) (view now next : View) → now ≡ item_filled chunk item view → place ≡ length item → next ≡ word_filled chunk place word now → next ≡ item_filled chunk (item ++ word ∷ []) view
  filled_more item word place view now next was at is =
      let events : (view.events ++ fills_of chunk 0 item) ++ made [] (step.Fill chunk (length item) word) ∷ [] ≡ view.events ++ fills_of chunk 0 (item ++ word ∷ []) =
      append_assoc view.events (fills_of chunk 0 item) (made [] (step.Fill chunk (length item) word) ∷ [])
      ∙ sym (ap (λ (more : List OwnEvent). view.events ++ more) (fills_more item word 0 ∙ ap (λ (n : ℕ). fills_of chunk 0 item ++ made [] (step.Fill chunk n word) ∷ []) (zero-add (length item)))) in
      is ∙ ((λ k. word_filled chunk (at k) word (was k)) ∙ (λ k. record (with_holdings (all_more item word view.row.holdings k) view) { events = events k }))

  -- what is found of the chunk has the words
  found_with : (item : List ℕ) (holdings : List Holding) (holding : Holding) → holding_of chunk holdings ≡ Some holding → holding_of chunk (change_each (is_of_chunk chunk) (holding_with item) holdings) ≡ Some (holding_with item holding)
  found_with item [] holding found = absurd (none-some holding found)
  found_with item (first ∷ holdings) holding found = by (is_of_chunk chunk first) refl found (found_with item holdings holding)
    where
      more : Option Holding
      more = holding_of chunk (change_each (is_of_chunk chunk) (holding_with item) holdings)

      turn : Bool → Holding
      turn test = if test then holding_with item first else first

      by : (test : Bool) → is_of_chunk chunk first ≡ test → cond test (Some first) (holding_of chunk holdings) ≡ Some holding → (holding_of chunk holdings ≡ Some holding → more ≡ Some (holding_with item holding)) → cond (is_of_chunk chunk (turn (is_of_chunk chunk first))) (Some (turn (is_of_chunk chunk first))) more ≡ Some (holding_with item holding)
      by true is found later =
          ap (λ (test : Bool). cond (is_of_chunk chunk (turn test)) (Some (turn test)) more) is
          ∙ (ap (λ (test : Bool). cond test (Some (holding_with item first)) more) is ∙ ap (option_map (holding_with item)) found)
      by false is found later =
          ap (λ (test : Bool). cond (is_of_chunk chunk (turn test)) (Some (turn test)) more) is
          ∙ (ap (λ (test : Bool). cond test (Some first) more) is ∙ later found)

  -- the chunk has the issue number that it had
  pub issue_filled : (item : List ℕ) (view now : View) → IsOwnItem view chunk → now ≡ item_filled chunk item view → issue_in now chunk ≡ issue_in view chunk
  issue_filled item view now own is =
      ap (λ (v : View). option_map_or (λ (h : Holding). h.issue) (holding_of chunk v.row.holdings) 0) is
      ∙ ap (λ (o : Option Holding). option_map_or (λ (h : Holding). h.issue) o 0) (found_with item view.row.holdings (own_item chunk (issue_in view chunk) (known_words_in view chunk)) own)

  -- so the chunk has a whole item of the hand's own
  module _ (key stamp : ℕ) (item : List ℕ) (view now : View) (own : IsOwnItem view chunk) (long : 3 + length item ≤ length (known_words_in view chunk)) (is : now ≡ item_filled chunk (item_with key stamp item) view) where
    abbrev words : Words
    words = written_over (item_with key stamp item) (known_words_in view chunk)

    found : holding_of chunk now.row.holdings ≡ Some (own_item chunk (issue_in view chunk) words)
    found = ap (λ (v : View). holding_of chunk v.row.holdings) is ∙ found_with (item_with key stamp item) view.row.holdings (own_item chunk (issue_in view chunk) (known_words_in view chunk)) own

    words_are : known_words_in now chunk ≡ words
    words_are = ap (λ (o : Option Holding). option_map_or holding_words o []) found

    issue_is : issue_in now chunk ≡ issue_in view chunk
    issue_is = ap (λ (o : Option Holding). option_map_or (λ (h : Holding). h.issue) o 0) found

    pub filled_words : words_of_item (known_words_in now chunk) ≡ all_known (item_with key stamp item)
    filled_words = ap words_of_item words_are ∙ item_is key stamp item (known_words_in view chunk) long

    pub filled_item : IsItemFilled now chunk (issue_in now chunk) (known_words_in now chunk) key stamp
    filled_item = record {
      found = found ∙ (λ k. Some (own_item chunk (sym issue_is k) (sym words_are k)));
      complete = ap is_complete words_are ∙ (whole_with key stamp item (known_words_in view chunk) long).0;
      same_key = ap known_key words_are ∙ (whole_with key stamp item (known_words_in view chunk) long).1;
      same_stamp = ap stamp_in words_are ∙ (whole_with key stamp item (known_words_in view chunk) long).2;
    }

-- a fresh chunk has room for them
pub long_enough : (view : View) (chunk : ChunkId) (room most : ℕ) → IsFreshOf view chunk room → most ≤ room → most ≤ length (known_words_in view chunk)
long_enough view chunk room most fresh fits =
    let long : length (known_words_in view chunk) ≡ room = ap (λ (o : Option Holding). length (option_map_or holding_words o [])) fresh.found ∙ fresh.room_is in
    omega arith

-- the item's own words stand behind its key and its stamp
pub not_first : (place : ℕ) → (3 + place == 0) ≡ false
not_first place = nat_eq_other (3 + place) 0 (λ e. let same : 3 + place ≡ 0 = e in omega arith)

pub not_second : (place : ℕ) → (3 + place == 1) ≡ false
not_second place = nat_eq_other (3 + place) 1 (λ e. let same : 3 + place ≡ 1 = e in omega arith)
