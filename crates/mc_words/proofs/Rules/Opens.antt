-- The table of a new arena means the core's first moment, and a hand that is made changes nothing of it.
use Rattle.std.proofs.Common.{◌≡◌, ℕ, zero, suc, ◌+◌, ◌-◌, ◌*◌, ◌<◌, ◌≤◌, Bool, true, false, List, [], ◌∷◌, ◌++◌, map, length, length-append, take, drop, replicate, Some, None, refl, sym, ap, ap₂, subst, ◌∙◌, append-nil, arith, zero-add, slice_index, get_or, is_some, if◌then◌else◌}
use Rattle.std.specs.List.{range_with_len}
use Rattle.std.proofs.lemmas.List.{length-replicate, drop-replicate, take-replicate, get_or-replicate, replicate-append-replicate, drop-append-le, take-append-le, length-map}
use Rattle.std.proofs.Math.Seq.{drop-append_seam, drop-append-add, take-append_seam}
use Rattle.std.proofs.lemmas.List.FromFn.{get_or-map-range_with_len, length-map-range_with_len}
use mathlib.Core.Option.{some}
use mathlib.Core.Option as maybe
use lib.ListN.{get_elem?}
use Rattle.atomic_table.specs.Table as table
use Rattle.mc_classes.specs.Classes.{IsSound, arena_pages_of}
use Rattle.mc_pages.specs.Ledger.{all_untouched, owner_at}
use Rattle.mc_pages.specs.SlabState.{fresh_slabs, class_of_owner}
use Rattle.mc_stripe.specs.StripeState.{new_stripe}
use Rattle.mc_core.specs.model.Head.{code, decode, uncut_from}
use Rattle.mc_core.specs.model.State.{no_ids, is_held_by, number_at, stripe_at}
use Rattle.mc_core.specs.run.Chunks.{most_issue}
use Rattle.mc_core.specs.past.Past.{Moment, no_hold}
use Rattle.mc_core.specs.model.Views.{held_slabs, held_stripe}
use Rattle.mc_core.proofs.ItemWords.Codes.{are_one_word}
use Rattle.mc_core.proofs.Frame.Framed.{free_lock}
use Rattle.mc_core.proofs.Law.LawKept.{lawful_first}
use Rattle.mc_words.specs.declared.lock.slot.Slot.{Slot}
use Rattle.mc_words.specs.declared.lock.slot.Slot.TheVariants.{Empty, OfSlabs, OfStripe}
use Rattle.mc_words.specs.hand.View.{Setup, View, view_at, new_view}
use Rattle.mc_words.specs.rule.Layout.{words_between, spread, pages_from, heads_from, head_count, data_count, config_from, config_words}
use Rattle.mc_words.specs.rule.Meaning.{WordsAreColumns, AreHome, IsViewOf, IsRuled, beginning_of}
use Rattle.mc_words.specs.declared.lock.locks.Locks.TheVariants.{Neither}
use Rattle.mc_words.specs.lock.Out.{IsNoted}
use Rattle.mc_words.specs.rule.Happens.{LawfulView}
use Rattle.mc_words.specs.rule.Joins.{IsMade, Rule}
use Rattle.mc_words.specs.lock.Slots.{slots_between, slot_at, slot_count}
use Rattle.mc_words.proofs.Rules.Spread.{map_spread, spread_append, spread_elem, spread_long, spread_same}
use Rattle.mc_words.proofs.Rules.Settled.{not_made}
use Rattle.mc_words.proofs.Rules.Quiet.{map_map}
use Rattle.mc_words.specs.rule.Beginning.{first_words, first_slots, first_view}

map_replicate : {A B : Type 0} (f : A → B) (n : ℕ) (a : A) → map f (replicate n a) ≡ replicate n (f a)
map_replicate f zero a = refl
map_replicate f (suc n) a = ap (λ l. f a ∷ l) (map_replicate f n a)

same_entry : {X : Type 0} (n i : ℕ) (x d : X) → i < n → get_or (replicate n x) i d ≡ x
same_entry n i x d within = get_or-replicate n i x d within

-- some of many zeros, with something behind them
zeros : (first count all : ℕ) (more : List ℕ) → first + count ≤ all → take {A = ℕ} count (drop first (replicate all 0 ++ more)) ≡ replicate count 0
zeros first count all more fits =
    let long : length (replicate {A = ℕ} all 0) ≡ all = length-replicate all 0 in
    let left : drop first (replicate all 0) ≡ replicate (all - first) 0 = drop-replicate first all 0 in
    let long' : length (replicate {A = ℕ} (all - first) 0) ≡ all - first = length-replicate (all - first) 0 in
    ap (take count) (drop-append-le first (replicate all 0) more (omega arith) ∙ ap (λ l. l ++ more) left)
    ∙ (take-append-le count (replicate (all - first) 0) more (omega arith) ∙ take-replicate count (all - first) 0 (omega arith))

-- a group of one word over and over
group : (count word : ℕ) (more : List ℕ) → take count (replicate count word ++ more) ≡ replicate count word
group count word more = ap (λ n. take n (replicate count word ++ more)) (sym (length-replicate count word)) ∙ take-append_seam (replicate count word) more

past : (count extra word : ℕ) (more : List ℕ) → drop (count + extra) (replicate count word ++ more) ≡ drop extra more
past count extra word more = ap (λ n. drop (n + extra) (replicate count word ++ more)) (sym (length-replicate count word)) ∙ drop-append-add (replicate count word) more extra

-- what lies behind a list
here : (n : ℕ) (xs ys : List ℕ) → length xs ≡ n → drop n (xs ++ ys) ≡ ys
here n xs ys is = ap (λ m. drop m (xs ++ ys)) (sym is) ∙ drop-append_seam xs ys

-- the header of a chunk that was never cut
uncut_word : (start : ℕ) → start ≤ most_issue → decode (start * 262144) ≡ uncut_from start
unfolding code
uncut_word start small =
    let is : code (uncut_from start) ≡ start * 262144 = omega arith in
    ap decode (sym is) ∙ are_one_word.back (uncut_from start) (record { issue = omega arith; count = omega arith })

module _ (setup : Setup) (small : setup.start ≤ most_issue) where
  abbrev start : ℕ
  start = setup.start

  abbrev H : ℕ
  H = heads_from setup

  abbrev headers : ℕ
  headers = head_count setup

  abbrev data_words : ℕ
  data_words = data_count setup

  abbrev behind_data : List ℕ
  behind_data = config_words setup.config

  abbrev behind_heads : List ℕ
  behind_heads = replicate data_words 0 ++ behind_data

  abbrev behind_pages : List ℕ
  behind_pages = replicate headers (start * 262144) ++ behind_heads

  pub words_first : WordsAreColumns setup (replicate (arena_pages_of setup.table) 0) (first_words setup) 0 (replicate setup.config.stripes 0) (replicate headers (uncut_from start)) (replicate data_words 0)
  words_first = record {
    wide =
        let a : length (first_words setup) ≡ length (replicate {A = ℕ} H 0) + length behind_pages = length-append (replicate H 0) behind_pages in
        let b : length behind_pages ≡ length (replicate {A = ℕ} headers (start * 262144)) + length behind_heads = length-append (replicate headers (start * 262144)) behind_heads in
        let c : length behind_heads ≡ length (replicate {A = ℕ} data_words 0) + length behind_data = length-append (replicate data_words 0) behind_data in
        let x : length (replicate {A = ℕ} H 0) ≡ H = length-replicate H 0 in
        let y : length (replicate {A = ℕ} headers (start * 262144)) ≡ headers = length-replicate headers (start * 262144) in
        let z : length (replicate {A = ℕ} data_words 0) ≡ data_words = length-replicate data_words 0 in
        let w : length behind_data ≡ 8 = refl in omega arith;
    locks =
        let e : pages_from setup ≡ (1 + words_between) * suc (suc setup.config.stripes) = omega arith in
        zeros 0 (pages_from setup) H behind_pages (omega arith) ∙ (ap (λ n. replicate n 0) e ∙ sym (spread_same words_between 0 (suc (suc setup.config.stripes))));
    pages = zeros (pages_from setup) (arena_pages_of setup.table) H behind_pages (omega arith);
    heads = ap (λ l. map decode (take headers l)) (here H (replicate H 0) behind_pages (length-replicate H 0))
        ∙ (ap (map decode) (group headers (start * 262144) behind_heads) ∙ (map_replicate decode headers (start * 262144) ∙ ap (replicate headers) (uncut_word start small)));
    items = ap (take data_words) (past H headers 0 behind_pages ∙ here headers (replicate headers (start * 262144)) behind_heads (length-replicate headers (start * 262144))) ∙ group data_words 0 behind_data;
    configured =
        let e : config_from setup ≡ H + (headers + data_words) = omega arith in
        ap (λ n. drop n (first_words setup)) e
        ∙ (past H (headers + data_words) 0 behind_pages ∙ (past headers data_words (start * 262144) behind_heads ∙ here data_words (replicate data_words 0) behind_data (length-replicate data_words 0)));
  }

zero_at : (n page : ℕ) → slice_index (replicate n 0) page ≡ 0
zero_at zero page = refl
zero_at (suc n) zero = refl
zero_at (suc n) (suc page) = zero_at n page

at_limit : {A : Type 0} (n i : ℕ) (a : A) → i < n → get_elem? (map some (replicate n a)) i ≡ some (some a)
at_limit zero i a h = absurd (omega arith)
at_limit (suc n) zero a h = refl
at_limit (suc n) (suc i) a h = at_limit n i a (omega arith)

-- no page has a class at first
no_class : (pages page : ℕ) → class_of_owner (owner_at (all_untouched pages) page) ≡ 0
no_class zero page = refl
no_class (suc pages) zero = refl
no_class (suc pages) (suc page) = no_class pages page

one_more : (n : ℕ) → suc n ≡ 1 + n
one_more n = omega arith

-- how many slots there are
pub slots_long : (setup : Setup) → length (first_slots setup) ≡ slot_count setup.config.stripes
slots_long setup =
    spread_long slots_between Empty (OfSlabs (fresh_slabs setup.table) ∷ replicate setup.config.stripes (OfStripe new_stripe))
    ∙ ap (λ n. (1 + slots_between) * n) (ap suc (length-replicate setup.config.stripes (OfStripe new_stripe)) ∙ one_more setup.config.stripes)

-- the slots with one stripe more
pub one_slot_more : (slabs : Slot) (stripes : ℕ) (stripe : Slot) (slots : List Slot) → slots ≡ spread slots_between Empty (slabs ∷ replicate stripes stripe) → slots ++ stripe ∷ replicate slots_between Empty ≡ spread slots_between Empty (slabs ∷ replicate (stripes + 1) stripe)
one_slot_more slabs stripes stripe slots is =
    ap₂ (λ l m. l ++ m) is (ap (λ l. stripe ∷ l) (sym (append-nil (replicate slots_between Empty))))
    ∙ (sym (spread_append slots_between Empty (slabs ∷ replicate stripes stripe) (stripe ∷ [])) ∙ ap (λ l. spread slots_between Empty (slabs ∷ l)) (replicate-append-replicate stripes 1 stripe))

module _ (setup : Setup) (sound : IsSound setup.table) (stripes : 1 ≤ setup.config.stripes) (hands : 1 ≤ setup.hands) (within_limit : setup.hands ≤ 64) (small : setup.start ≤ most_issue) where
  abbrev first : Moment
  first = beginning_of setup

  -- the values, of which each stands at its lock's slot
  abbrev values : List Slot
  values = OfSlabs (fresh_slabs setup.table) ∷ replicate setup.config.stripes (OfStripe new_stripe)

  apart : (i : ℕ) → get_elem? (map some (first_slots setup)) (slot_at i) ≡ get_elem? (map some values) i
  apart i = ap (λ homes. get_elem? homes (slot_at i)) (map_spread some slots_between Empty values) ∙ spread_elem slots_between (some Empty) (map some values) i

  home_first : AreHome setup (first_words setup) (map some (first_slots setup)) first.state
  home_first zero in_range free = (OfSlabs (fresh_slabs setup.table), refl, refl)
  home_first (suc i) in_range free = (OfStripe new_stripe, apart (suc i) ∙ at_limit setup.config.stripes i (OfStripe new_stripe) (omega arith), sym (same_entry setup.config.stripes i new_stripe new_stripe (omega arith)))

  no_slabs : (hand : ℕ) → held_slabs first.state hand ≡ None
  no_slabs hand = ap (λ (b : Bool). if b then Some first.state.slabs else None) (free_lock (number_at first.state hand))

  no_stripe : (hand i : ℕ) → held_stripe first.state hand i ≡ None
  no_stripe hand i = ap (λ (b : Bool). if b then Some (stripe_at first.state i) else None) (ap (λ (w : ℕ). is_held_by w (number_at first.state hand)) (all_free setup.config.stripes i) ∙ free_lock (number_at first.state hand))
    where
      all_free : (n i : ℕ) → slice_index (replicate n 0) i ≡ 0
      all_free zero i = refl
      all_free (suc n) zero = refl
      all_free (suc n) (suc i) = all_free n i

  -- a hand that did nothing
  pub view_first : (hand spare : ℕ) → hand < setup.hands → view_at setup spare [] first hand ≡ new_view setup hand spare
  view_first hand spare within = λ k. record {
    setup = setup;
    spare = spare;
    events = [];
    row = record {
      ids = get_or-map-range_with_len (λ number. record { number = Some number; stamps = 0 }) 0 setup.hands hand hand no_ids within (zero-add hand) k;
      holdings = same_entry setup.hands hand [] [] within k;
      looks = same_entry setup.hands hand [] [] within k;
      knows = record {
        seen_words = same_entry setup.hands hand [] [] within k;
        hold = same_entry setup.hands hand no_hold no_hold within k;
        mine = get_or-map-range_with_len (λ number. record { number = number; calls = replicate setup.config.stripes [] } ∷ []) 0 setup.hands hand hand [] within (zero-add hand) k;
        seen = same_entry setup.hands hand (replicate setup.config.stripes []) [] within k;
        stored = same_entry setup.hands hand [] [] within k;
        known = same_entry setup.hands hand [] [] within k;
      };
    };
    slabs = no_slabs hand k;
    stripes = map (λ stripe. no_stripe hand stripe k) (range_with_len 0 setup.config.stripes);
    made_of = None;
  }

  is_view_first : (hand spare : ℕ) → hand < setup.hands → IsViewOf setup [] first hand (new_view setup hand spare)
  is_view_first hand spare within = record {
    there = λ here. sym (view_first hand spare within);
    gone = λ none. absurd (let e : true ≡ false = sym (ap (λ (v : View). is_some v.row.ids.number) (view_first hand spare within)) ∙ none in cc);
  }

  opens : IsRuled setup (table.opening (first_words setup) (first_slots setup) (first_view setup))
  opens = record {
    moment = first;
    cuts = replicate (arena_pages_of setup.table) 0;
    run = [];
    reached = record { is_run = record {}; end = refl };
    lawful = lawful_first setup.table setup.config.stripes setup.hands setup.start sound stripes hands within_limit small;
    means = record {
      same_table = refl;
      hands = length-map-range_with_len _ 0 setup.hands;
      stripes = length-replicate setup.config.stripes new_stripe;
      words = words_first setup small;
      cut = λ page. zero_at (arena_pages_of setup.table) page ∙ sym (no_class (arena_pages_of setup.table) page);
      homes = home_first;
      slots = length-map (first_slots setup) some ∙ slots_long setup;
      views = views;
      most = hands;
      made = made;
      unmade = λ id past within. is_view_first id 0 within;
    };
  }
    where
      views : (id : ℕ) (v : View) → get_elem? (first_view setup ∷ []) id ≡ some v → IsViewOf setup [] first id v
      views zero v at = subst (IsViewOf setup [] first 0) (maybe.some-injective _ v at) (is_view_first 0 (setup.hands - 1) (omega arith))
      views (suc id) v at = absurd (maybe.some-ne-none v (sym at))

      made : (id : ℕ) (v : View) → get_elem? (first_view setup ∷ []) id ≡ some v → 1 ≤ v.spare → (id ≡ 0) × (1 + v.spare ≡ setup.hands)
      made zero v at more = (refl, (let e : setup.hands - 1 ≡ v.spare = ap (λ (u : View). u.spare) (maybe.some-injective _ v at) in omega arith))
      made (suc id) v at more = absurd (maybe.some-ne-none v (sym at))

  pub rule_first : Rule setup (table.opening (first_words setup) (first_slots setup) (first_view setup))
  rule_first = record { ruled = opens; made = made }
    where
      made : (id : ℕ) (v : View) → get_elem? (first_view setup ∷ []) id ≡ some v → IsMade v
      made zero v at = subst IsMade (maybe.some-injective _ v at) (not_made (first_view setup) refl)
      made (suc id) v at = absurd (maybe.some-ne-none v (sym at))

  -- what a hand that did nothing knows is of the first moment
  pub new_lawful : (hand spare : ℕ) → hand < setup.hands → LawfulView (new_view setup hand spare)
  new_lawful hand spare within = record {
    moment = first;
    hand = hand;
    lawful = lawful_first setup.table setup.config.stripes setup.hands setup.start sound stripes hands within_limit small;
    same_table = refl;
    hands = length-map-range_with_len _ 0 setup.hands;
    stripes = length-replicate setup.config.stripes new_stripe;
    there = ap (λ (v : View). is_some v.row.ids.number) (view_first hand spare within);
    run = [];
    reached = record { is_run = record {}; end = refl };
    is = sym (view_first hand spare within);
    words = first_words setup;
    cuts = replicate (arena_pages_of setup.table) 0;
    are = words_first setup small;
    cut = λ page. zero_at (arena_pages_of setup.table) page ∙ sym (no_class (arena_pages_of setup.table) page);
  }

-- and so it notes
pub new_noted : (setup : Setup) (hand spare : ℕ) → hand < 64 → IsNoted (new_view setup hand spare, []) hand 0 Neither
new_noted setup hand spare small = (refl, small, refl, refl, (refl, map_map (λ (stripe : ℕ). None) is_some (range_with_len 0 setup.config.stripes), refl))
