-- What a worker's hands stored stays stored, and what a worker set last stays the last, whatever it gets.
use Rattle.std.proofs.Common.{◌≡◌, ◌≢◌, ◌∙◌, ⊎_elim, ◌<◌, ◌++◌, ◌∷◌, [], ℕ, zero, suc, List, length, ap, arith, inl, inr, subst, sym, append-nil, drop, Option, Some, None, IfSome, Contains, slice_set, slice_index_or, length-set, get_or-set_same, ◌==◌, true≢false, eq-eqb, eqb-true, map, append_assoc}
use Rattle.std.specs.List.{slice_get}
use Rattle.std.specs.Option.{option_map}
use Rattle.std.proofs.lemmas.Bool.{cases_Bool, cases_eq}
use Rattle.std.proofs.lemmas.List.{get_or-map, get_or-set_other, length-map}
use Rattle.std.proofs.lemmas.List.Elements.{Contains-append_left, Contains-get_or}
use Rattle.std.proofs.lemmas.List.Sums.{fold-append}
use Rattle.std.proofs.lemmas.Option.{get_or_from_slice_get, slice_get-get_or, slice_get_within}
use Rattle.mc_packing.specs.Packing.{AreBytes, packed_item}
use Rattle.mc_packing.proofs.Packs.{values_apart}
use Rattle.mc_core.specs.past.Past.{Own, StoredItem, with_more}
use Rattle.mc_stripe.specs.declared.history.Call.{Call}
use Rattle.mc_stripe.specs.declared.history.Call.TheVariants.{Get}
use Rattle.mc_items.specs.Calls.{RecordsNoCall}
use Rattle.mc_items.specs.ItemRefs.{item_stamp, item_words}
use Rattle.mc_items.specs.Keeping.{StoresNothing, StoresWithStamp}
use Rattle.mc_items.specs.OnKeys.{RecordsOn, stripe_of_key}
use Rattle.mc_items.specs.declared.refs.Ref.{Ref}
use Rattle.mc_words.specs.declared.arena.Arena.{Arena}
use Rattle.mc_words.specs.declared.hand.Hand.{Hand}
use Rattle.mc_words.specs.hand.Arenas.{setup_of, view}
use Rattle.mc_words.specs.hand.Observers.{hand_number}
use Rattle.mc_words.specs.hand.View.{Setup}
use Rattle.mc_words.specs.item.Calls.{with_own_call}
use Rattle.mc_words.specs.item.Items.{item_with}
use Rattle.mc_shard.specs.Hands.{WereStored, items_stored_by}
use Rattle.mc_shard.specs.Newest.{HasStoredLast, stamp_after_call, stamp_after_calls}
use Rattle.mc_cache.specs.declared.cache.Cache.{Cache}
use Rattle.mc_cache.specs.declared.cache.Worker.{Worker}
use Rattle.mc_cache.specs.Belonging.{ActsOnKey, hash_in, shard_in}
use Rattle.mc_cache.specs.Newest.{HasSetLast}
use Rattle.mc_cache.specs.Shards.{GetsAtMost, StoresNoMore}
use Rattle.mc_cache.specs.Versions.{ReadsVersion}
use Rattle.mc_large.specs.Own.{HasStoredPiece}

-- the hand stored what it had stored, and perhaps more
pub record GrowsStored (hand after : Hand) : Type 0 where
  pub more : List StoredItem
  pub stored : items_stored_by after ≡ items_stored_by hand ++ more

-- a hand that stored nothing keeps what it stored
pub grows_none : (hand after : Hand) → StoresNothing (view hand) (view after) → GrowsStored hand after
grows_none hand after none = record { more = []; stored = none ∙ sym (append-nil (items_stored_by hand)) }

pub grows_one : (words : List ℕ) (stamp : ℕ) (hand after : Hand) → StoresWithStamp words stamp (view hand) (view after) → GrowsStored hand after
grows_one words stamp hand after one = record { more = record { stamp = stamp; words = words } ∷ []; stored = one }

pub grows_on : (hand between after : Hand) → GrowsStored hand between → GrowsStored between after → GrowsStored hand after
grows_on hand between after first second = record {
  more = first.more ++ second.more;
  stored = second.stored ∙ (ap (λ (l : List StoredItem). l ++ second.more) first.stored ∙ append_assoc (items_stored_by hand) first.more second.more);
}

same_there : {X : Type 0} (a b : X) (o : Option X) → o ≡ Some a → o ≡ Some b → a ≡ b
same_there a b o first second = let both : Some a ≡ Some b = sym first ∙ second in cc

-- the hand of a shard behind a call there
pub after_there : (hands : List Hand) (shard : ℕ) (hand after : Hand) → slice_get hands shard ≡ Some hand → slice_get (slice_set hands shard after) shard ≡ Some after
after_there hands shard hand after is =
    let within = slice_get_within hands shard hand is in
    slice_get-get_or (slice_set hands shard after) shard after (omega (arith, within, length-set hands shard after)) ∙ ap Some (get_or-set_same hands shard after after within)

-- the hand of another shard
other_there : (hands : List Hand) (shard other : ℕ) (hand after : Hand) → shard ≢ other → slice_get hands shard ≡ Some hand → slice_get (slice_set hands other after) shard ≡ Some hand
other_there hands shard other hand after differs is =
    let within = slice_get_within hands shard hand is in
    slice_get-get_or (slice_set hands other after) shard hand (omega (arith, within, length-set hands other after))
    ∙ (ap Some (get_or-set_other hands other shard after hand differs ∙ get_or_from_slice_get hands shard hand hand is))

-- a piece that was stored stays so, whatever the worker does by which its hands store more at most
pub piece_stays : (cache : Cache) (part piece other : List ℕ) (version : ℕ) (Does : Arena → Hand → Hand → Type 0) (before now : Worker) → ((arena : Arena) (hand after : Hand) → Does arena hand after → GrowsStored hand after)
    → HasStoredPiece cache part piece version before → ActsOnKey cache other Does before now → HasStoredPiece cache part piece version now
piece_stays cache part piece other version Does before now grows had acts = elim (cases_eq (shard_in cache part) (shard_in cache other)) [
  | inl same ↦
      let here : slice_get before.hands.items (shard_in cache part) ≡ Some acts.hand = ap (λ (s : ℕ). slice_get before.hands.items s) same ∙ acts.is_hand in
      let one : had.hand ≡ acts.hand = same_there had.hand acts.hand (slice_get before.hands.items (shard_in cache part)) had.is_hand here in
      let grown = grows acts.arena acts.hand acts.after acts.does in
      let saying : StoredItem = record { stamp = version; words = item_with (hash_in cache part) version (packed_item part piece) } in
      let among : Contains (items_stored_by acts.hand) saying = subst (λ (h : Hand). Contains (items_stored_by h) saying) one had.among in
      record {
        hand = acts.after;
        is_hand = ap (λ (hands : List Hand). slice_get hands (shard_in cache part)) acts.others ∙ (ap (λ (s : ℕ). slice_get (slice_set before.hands.items (shard_in cache other) acts.after) s) same ∙ after_there before.hands.items (shard_in cache other) acts.hand acts.after acts.is_hand);
        among = subst (λ (l : List StoredItem). Contains l saying) (sym grown.stored) (Contains-append_left (items_stored_by acts.hand) grown.more saying among);
      }
  | inr differs ↦ record {
    hand = had.hand;
    is_hand = ap (λ (hands : List Hand). slice_get hands (shard_in cache part)) acts.others ∙ other_there before.hands.items (shard_in cache part) (shard_in cache other) had.hand acts.after differs had.is_hand;
    among = had.among;
  }
]

-- the words of an item of this version are those that were stored with it
by_item : (setup : Setup) (hash version : ℕ) (part piece found : List ℕ) (own : List StoredItem) → Contains own (record { stamp = version; words = item_with hash version (packed_item part piece) }) → (item : Option Ref) (words : Ref → List ℕ)
    → Some (packed_item part found) ≡ option_map words item → option_map item_stamp item ≡ Some version → IfSome item (λ item. WereStored setup own (item_stamp item) (item_with hash (item_stamp item) (packed_item part found)))
    → packed_item part found ≡ packed_item part piece
by_item setup hash version part piece found own among None words are is stored = let never : Some (packed_item part found) ≡ None = are in absurd (cc)
by_item setup hash version part piece found own among (Some item) words are is stored =
    let stamps : item_stamp item ≡ version = cc in
    let saying : StoredItem = record { stamp = version; words = item_with hash version (packed_item part piece) } in
    let there : Contains stored.seen.row.knows.stored saying = subst (λ (l : List StoredItem). Contains l saying) (sym stored.own_is) among in
    ap (drop 3) (sym (stored.stored.own saying there (sym stamps)))

an_own : Own
an_own = record { number = 0; calls = [] }

-- an own of a hand after its call was one before
own_before : (number stripe : ℕ) (call : Call) (mine : List Own) (own : Own) → Contains (map (with_own_call number stripe call) mine) own → own.number ≡ number
    → (was : Own) × Contains mine was × (was.number ≡ number) × (own.calls ≡ with_more was.calls stripe (call ∷ []))
own_before number stripe call mine own (k, within, at) is =
    let was : Own = slice_index_or mine k an_own in
    let near : k < length mine = omega (arith, within, length-map mine (with_own_call number stripe call)) in
    let same : with_own_call number stripe call was ≡ own = sym (get_or-map (with_own_call number stripe call) mine k an_own own near) ∙ at in
    elim (cases_Bool (was.number == number)) [
      | inl own_number ↦ (was, Contains-get_or mine k an_own near, eqb-true was.number number own_number, sym (ap (λ (o : Own). o.calls) (rw own_number at same)))
      | inr other ↦
          let unchanged : was ≡ own = rw other at same in
          absurd (true≢false (sym (eq-eqb was.number number (ap (λ (o : Own). o.number) unchanged ∙ is)) ∙ other))
    ]

-- calls that leave a stamp are there
some_within : (hash stamp : ℕ) (rows : List (List Call)) (stripe : ℕ) → stamp_after_calls hash (slice_index_or rows stripe []) ≡ Some stamp → stripe < length rows
some_within hash stamp [] stripe is = absurd (cc)
some_within hash stamp (calls ∷ rows) zero is = omega arith
some_within hash stamp (calls ∷ rows) (suc stripe) is = let rest = some_within hash stamp rows stripe is in omega (arith, rest)

-- with a get more on some stripe, calls leave a hash its stamp
stamp_stays : (hash stamp stripe taken number other : ℕ) (got : Option ℕ) (rows : List (List Call)) → stamp_after_calls hash (slice_index_or rows stripe []) ≡ Some stamp
    → stamp_after_calls hash (slice_index_or (with_more rows taken (Get number other got ∷ [])) stripe []) ≡ Some stamp
stamp_stays hash stamp stripe taken number other got rows was = elim (cases_eq stripe taken) [
  | inl same ↦
      let here : stamp_after_calls hash (slice_index_or rows taken []) ≡ Some stamp = ap (λ (s : ℕ). stamp_after_calls hash (slice_index_or rows s [])) (sym same) ∙ was in
      let near : taken < length rows = some_within hash stamp rows taken here in
      let calls : List Call = slice_index_or rows taken [] ++ Get number other got ∷ [] in
      ap (λ (s : ℕ). stamp_after_calls hash (slice_index_or (slice_set rows taken calls) s [])) same
      ∙ (ap (stamp_after_calls hash) (get_or-set_same rows taken calls [] near)
      ∙ (fold-append (stamp_after_call hash) None (slice_index_or rows taken []) (Get number other got ∷ []) ∙ here))
  | inr differs ↦ ap (stamp_after_calls hash) (get_or-set_other rows taken stripe (slice_index_or rows taken [] ++ Get number other got ∷ []) [] differs) ∙ was
]

-- a get of any hash leaves what a hand stored last under a hash
keeps_any : (arena : Arena) (hash other : ℕ) (key value : List ℕ) (before now : Hand) → HasStoredLast (setup_of arena) hash key value before → GetsAtMost other arena before now → StoresNothing (view before) (view now) → HasStoredLast (setup_of arena) hash key value now
keeps_any arena hash other key value before now last gets none = record {
  stamp = last.stamp;
  among = subst (λ (l : List StoredItem). Contains l (record { stamp = last.stamp; words = item_with hash last.stamp (packed_item key value) })) (sym none) last.among;
  newest = λ own there is_number.
      ⊎_elim
      (λ (same : RecordsNoCall (view before) (view now)). last.newest own (subst (λ (l : List Own). Contains l own) same there) (is_number ∙ gets.0))
      (λ (got : (stamp : Option ℕ) × RecordsOn (setup_of arena) other (λ number. Get number other stamp) before now).
      let taken : ℕ = stripe_of_key (setup_of arena) other in
      let call : Call = Get (hand_number before) other got.0 in
      let old = own_before (hand_number before) taken call (view before).row.knows.mine own (subst (λ (l : List Own). Contains l own) got.1 there) (is_number ∙ gets.0) in
      ap (λ (rows : List (List Call)). stamp_after_calls hash (slice_index_or rows (stripe_of_key (setup_of arena) hash) [])) old.3
      ∙ stamp_stays hash last.stamp (stripe_of_key (setup_of arena) hash) taken (hand_number before) other got.0 old.0.calls (last.newest old.0 old.1 old.2))
      gets.1;
}

-- so it is for a worker: its gets of any key leave what it stored last under a key
pub last_stays : (cache : Cache) (key value other : List ℕ) (before now : Worker) → HasSetLast cache key value before → ActsOnKey cache other (GetsAtMost (hash_in cache other)) before now → ActsOnKey cache other StoresNoMore before now → HasSetLast cache key value now
last_stays cache key value other before now had gets none = elim (cases_eq (shard_in cache key) (shard_in cache other)) [
  | inl same ↦
      let shard : ℕ = shard_in cache other in
      let is_arena : slice_get cache.arenas.items shard ≡ Some had.arena = ap (λ (s : ℕ). slice_get cache.arenas.items s) (sym same) ∙ had.is_arena in
      let is_hand : slice_get before.hands.items shard ≡ Some had.hand = ap (λ (s : ℕ). slice_get before.hands.items s) (sym same) ∙ had.is_hand in
      let there : slice_get now.hands.items shard ≡ Some gets.after = ap (λ (hands : List Hand). slice_get hands shard) gets.others ∙ after_there before.hands.items shard gets.hand gets.after gets.is_hand in
      let also : slice_get now.hands.items shard ≡ Some none.after = ap (λ (hands : List Hand). slice_get hands shard) none.others ∙ after_there before.hands.items shard none.hand none.after none.is_hand in
      let arenas : had.arena ≡ gets.arena = same_there had.arena gets.arena (slice_get cache.arenas.items shard) is_arena gets.is_arena in
      let hands : had.hand ≡ gets.hand = same_there had.hand gets.hand (slice_get before.hands.items shard) is_hand gets.is_hand in
      let one : none.hand ≡ gets.hand = same_there none.hand gets.hand (slice_get before.hands.items shard) none.is_hand gets.is_hand in
      let after : none.after ≡ gets.after = same_there none.after gets.after (slice_get now.hands.items shard) also there in
      let last = subst (λ (p : Arena × Hand). HasStoredLast (setup_of p.0) (hash_in cache key) key value p.1) (λ k. (arenas k, hands k)) had.last in
      let nothing = subst (λ (p : Hand × Hand). StoresNoMore gets.arena p.0 p.1) (λ k. (one k, after k)) none.does in
      record {
        arena = gets.arena;
        is_arena = ap (λ (s : ℕ). slice_get cache.arenas.items s) same ∙ gets.is_arena;
        hand = gets.after;
        is_hand = ap (λ (s : ℕ). slice_get now.hands.items s) same ∙ there;
        last = keeps_any gets.arena (hash_in cache key) (hash_in cache other) key value gets.hand gets.after last gets.does nothing;
      }
  | inr differs ↦ record {
    arena = had.arena;
    is_arena = had.is_arena;
    hand = had.hand;
    is_hand = ap (λ (hands : List Hand). slice_get hands (shard_in cache key)) gets.others ∙ other_there before.hands.items (shard_in cache key) (shard_in cache other) had.hand gets.after differs had.is_hand;
    last = had.last;
  }
]

-- where a worker that stored a piece finds the part with this version, it finds this piece
pub piece_found : (cache : Cache) (part piece found : List ℕ) (version : ℕ) (before now : Worker) → AreBytes piece → AreBytes found → HasStoredPiece cache part piece version before
    → ActsOnKey cache part (ReadsVersion (hash_in cache part) part found version) before now → found ≡ piece
piece_found cache part piece found version before now bytes found_bytes had reads =
    let shard : ℕ = shard_in cache part in
    let hash : ℕ = hash_in cache part in
    let one : had.hand ≡ reads.hand = same_there had.hand reads.hand (slice_get before.hands.items shard) had.is_hand reads.is_hand in
    let saying : StoredItem = record { stamp = version; words = item_with hash version (packed_item part piece) } in
    let among : Contains (items_stored_by reads.hand) saying = subst (λ (h : Hand). Contains (items_stored_by h) saying) one had.among in
    let finds = reads.does.0 in
    values_apart part part found piece found_bytes bytes
    (by_item (setup_of reads.arena) hash version part piece found (items_stored_by reads.hand) among finds.0.item (item_words (view finds.0.got)) finds.0.words_are finds.1 finds.0.stored)
