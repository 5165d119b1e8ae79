-- What a hand stored last under a hash, and what it finds there.
use Rattle.std.proofs.Common.{◌≡◌, ◌∙◌, ◌⊎◌, ℕ, suc, ◌/◌, ◌%◌, ◌^◌, ◌==◌, ◌<◌, ◌≤◌, Bool, true≢false, ⊎_elim, zero, if◌then◌else◌, List, [], ◌∷◌, ◌++◌, drop, length, Option, Some, None, IfSome, All, Contains, refl, sym, ap, subst, arith, inl, inr, filter, map, replicate, slice_index_or, slice_set, eq-eqb, eqb-true, length-set, get_or-set_same}
use Rattle.std.specs.Option.{option_map}
use Rattle.std.proofs.lemmas.Bool.{cases_Bool, cases_eq}
use Rattle.std.proofs.lemmas.List.{get_or-map, length-map}
use Rattle.std.proofs.lemmas.List.Elements.{All-contains, All-filter, Contains-get_or, Contains-push}
use Rattle.std.proofs.lemmas.List.FromFn.{length-map-range_with_len}
use Rattle.std.proofs.lemmas.List.Sums.{fold-append}
use Rattle.std.proofs.lemmas.Option.{slice_get-get_or}
use Rattle.mc_packing.specs.Packing.{packed_item}
use Rattle.mc_pages.specs.declared.ids.ChunkId.{ChunkId}
use Rattle.mc_stripe.specs.declared.history.Call.{Call}
use Rattle.mc_stripe.specs.declared.history.Call.TheVariants.{Get, Set}
use Rattle.mc_stripe.specs.StripeState.{ReadyStripe, new_stripe}
use Rattle.mc_core.specs.law.Histories.{IsSetIn, hand_of}
use Rattle.mc_core.specs.law.Identities.{count_in_hand, number_in}
use Rattle.mc_core.specs.model.Views.{held_stripe}
use Rattle.mc_core.specs.past.Past.{Moment, Own, StoredItem, with_more}
use Rattle.mc_words.specs.declared.arena.Arena.{Arena}
use Rattle.mc_words.specs.declared.hand.Hand.{Hand}
use Rattle.mc_words.specs.hand.Arenas.{IsHandOf, setup_of, view}
use Rattle.mc_words.specs.hand.Observers.{hand_number}
use Rattle.mc_words.specs.hand.View.{Setup, View}
use Rattle.mc_words.specs.item.Calls.{with_own_call}
use Rattle.mc_words.specs.item.Items.{item_with}
use Rattle.mc_words.proofs.Locks.LockViews.{rows_there, stripes_were}
use Rattle.mc_words.proofs.Locks.StripeChanges.{inside}
use Rattle.mc_items.specs.declared.refs.Ref.{Ref}
use Rattle.mc_items.specs.ItemRefs.{item_stamp, item_words}
use Rattle.mc_items.specs.Calls.{RecordsNoCall}
use Rattle.mc_items.specs.Keeping.{StoresNothing}
use Rattle.mc_items.specs.OnKeys.{RecordsOn, stripe_of_key}
use Rattle.mc_items.specs.Storing.{StoresItem}
use Rattle.mc_items.specs.declared.comparing.Expected.{Expected}
use Rattle.mc_items.proofs.Stored.{stored_mine}
use Rattle.mc_shard.specs.Finding.{FindsWords}
use Rattle.mc_shard.specs.Hands.{IsUnused, WereStored, items_stored_by}
use Rattle.mc_shard.specs.Newest.{HasStoredLast, IsNewestOwn, WasStoredByOther, own_calls_on, stamp_after_call, stamp_after_calls}
use Rattle.mc_cache.specs.Shards.{GetsAtMost, StoresValue}

-- a number that counts is there
some_own : (number : ℕ) (row : List Own) → 1 ≤ count_in_hand number row → (own : Own) × Contains row own × (own.number ≡ number)
some_own number [] less = absurd (omega (arith, less))
some_own number (own ∷ row) less = elim (cases_Bool (own.number == number)) [
  | inl same ↦ (own, (0, omega arith, refl), eqb-true own.number number same)
  | inr other ↦
      let more : 1 ≤ count_in_hand number row = rw other at less in
      let rest = some_own number row more in
      (rest.0, (suc rest.1.0, omega (arith, rest.1.1), rest.1.2), rest.2)
]

-- a hand has calls of its number
pub own_there : (arena : Arena) (hand : Hand) → IsHandOf arena hand → (own : Own) × Contains (view hand).row.knows.mine own × (own.number ≡ hand_number hand)
own_there arena hand is =
    let was = is.lawful in
    let number : number_in was.moment.state.ids was.hand ≡ Some (hand_number hand) = ap (λ (v : View). v.row.ids.number) (sym was.is) ∙ hand.noted.0 in
    let count : count_in_hand (hand_number hand) (slice_index_or was.moment.past.mine was.hand []) ≡ 1 = was.lawful.numbered.own was.hand (hand_number hand) number in
    let mine : slice_index_or was.moment.past.mine was.hand [] ≡ (view hand).row.knows.mine = ap (λ (v : View). v.row.knows.mine) (sym was.is) in
    some_own (hand_number hand) (view hand).row.knows.mine (subst (λ (row : List Own). 1 ≤ count_in_hand (hand_number hand) row) mine (omega (arith, count)))

lengths_set : {X : Type 0} (xs : List X) (place : ℕ) (a b c : X) → length (slice_set (slice_set (slice_set xs place a) place b) place c) ≡ length xs
lengths_set xs place a b c = length-set (slice_set (slice_set xs place a) place b) place c ∙ (length-set (slice_set xs place a) place b ∙ length-set xs place a)

-- what a hand stores leaves its stripes as many
stripes_still : {expected : Expected} (number stripe key stamp : ℕ) (chunk : ChunkId) (room : ℕ) (before now : View) → (stored : StoresItem expected number stripe key stamp chunk room before now) → length now.stripes ≡ length stored.stores.taken.stripes
stripes_still number stripe key stamp chunk room before now stored =
    let count : View → ℕ = λ v. length v.stripes in
    ap count stored.dropped
    ∙ (ap count stored.stores.done.given
    ∙ (length-set stored.stores.done.last.stripes stripe None
    ∙ (ap count stored.stores.done.does.0
    ∙ lengths_set stored.stores.taken.stripes stripe _ _ _)))

an_own : Own
an_own = record { number = 0; calls = [] }

-- an own of a hand after its call was one before
own_before : (number stripe : ℕ) (call : Call) (mine : List Own) (own : Own) → Contains (map (with_own_call number stripe call) mine) own → own.number ≡ number
    → (was : Own) × Contains mine was × (was.number ≡ number) × (own.calls ≡ with_more was.calls stripe (call ∷ []))
own_before number stripe call mine own (k, within, at) is =
    let was : Own = slice_index_or mine k an_own in
    let near : k < length mine = omega (arith, within, length-map mine (with_own_call number stripe call)) in
    let same : with_own_call number stripe call was ≡ own = sym (get_or-map (with_own_call number stripe call) mine k an_own own near) ∙ at in
    elim (cases_Bool (was.number == number)) [
      | inl own_number ↦ (was, Contains-get_or mine k an_own near, eqb-true was.number number own_number, sym (ap (λ (o : Own). o.calls) (rw own_number at same)))
      | inr other ↦
          let unchanged : was ≡ own = rw other at same in
          absurd (true≢false (sym (eq-eqb was.number number (ap (λ (o : Own). o.number) unchanged ∙ is)) ∙ other))
    ]

-- a set leaves the hash its stamp
pub stores_last : (arena : Arena) (hash : ℕ) (key value : List ℕ) (before now : Hand) → StoresValue hash key value arena before now → IsHandOf arena now → HasStoredLast (setup_of arena) hash key value now
stores_last arena hash key value before now stores is =
    let stamp : ℕ = stores.1.0 in
    let number : ℕ = hand_number before in
    let sets = stores.1.2.sets in
    let stripe : ℕ = stripe_of_key (view stores.1.2.between).setup hash in
    let was = is.lawful in
    let m : Moment = was.moment in
    let l = was.lawful in
    let calls_of : ℕ → ReadyStripe → List Call = λ number value. filter (λ (call : Call). hand_of call == number) value.state.history in
    let mine : (view now).row.knows.mine ≡ map (with_own_call number stripe (Set number hash stamp)) sets.between.row.knows.mine = stored_mine number stripe hash stamp sets.chunk sets.room _ (view now) sets.stores in
    let count : length (view now).stripes ≡ (view now).setup.config.stripes = ap length (sym (stripes_were (view now) (view now) was)) ∙ length-map-range_with_len (held_stripe m.state was.hand) 0 (view now).setup.config.stripes in
    let own_row : All (λ (own : Own). own.calls ≡ map (calls_of own.number) m.state.stripes) (slice_index_or m.past.mine was.hand []) =
    l.told.own_calls was.hand [] (let rows = l.rows.mine in let there = rows_there (view now) was in omega arith) in
    let mine_same : slice_index_or m.past.mine was.hand [] ≡ (view now).row.knows.mine = ap (λ (w : View). w.row.knows.mine) (sym was.is) in
    let in_range : stripe < length m.state.stripes =
    omega (arith, inside sets.stores.stores.taken.stripes stripe sets.stores.stores.value sets.stores.stores.lent.mine, stripes_still number stripe hash stamp sets.chunk sets.room _ (view now) sets.stores, count, was.stripes) in
    record {
      stamp = stamp;
      among = subst (λ (l : List StoredItem). Contains l (record { stamp = stamp; words = item_with hash stamp (packed_item key value) })) (sym stores.1.1) (Contains-push (items_stored_by before) (record { stamp = stamp; words = item_with hash stamp (packed_item key value) }));
      newest = λ own there is_number.
          let row = subst (λ (l : List Own). All (λ (own : Own). own.calls ≡ map (calls_of own.number) m.state.stripes) l) mine_same own_row in
          let all : own.calls ≡ map (calls_of own.number) m.state.stripes = All-contains (λ (own : Own). own.calls ≡ map (calls_of own.number) m.state.stripes) (view now).row.knows.mine own row there in
          let old = own_before number stripe (Set number hash stamp) sets.between.row.knows.mine own (subst (λ (l : List Own). Contains l own) mine there) (is_number ∙ stores.0) in
          let before_it : List Call = slice_index_or old.0.calls stripe [] in
          let near : stripe < length old.0.calls = omega (arith, in_range, ap length all, length-map m.state.stripes (calls_of own.number), ap length old.3, length-set old.0.calls stripe (before_it ++ Set number hash stamp ∷ [])) in
          let last : slice_index_or own.calls stripe [] ≡ before_it ++ Set number hash stamp ∷ [] = ap (λ (rows : List (List Call)). slice_index_or rows stripe []) old.3 ∙ get_or-set_same old.0.calls stripe (before_it ++ Set number hash stamp ∷ []) [] near in
          let value : ReadyStripe = slice_index_or m.state.stripes stripe new_stripe in
          let recorded : calls_of own.number value ≡ before_it ++ Set number hash stamp ∷ [] =
          sym (ap (λ (rows : List (List Call)). slice_index_or rows stripe []) all ∙ get_or-map (calls_of own.number) m.state.stripes stripe new_stripe [] in_range) ∙ last in
          let sets_there = All-filter (λ (call : Call). hand_of call == own.number) (IsSetIn (length m.state.stripes) stripe) value.state.history (l.told.sets stripe value (slice_get-get_or m.state.stripes stripe new_stripe in_range)) in
          let set_there : IsSetIn (length m.state.stripes) stripe (Set number hash stamp) =
          All-contains (IsSetIn (length m.state.stripes) stripe) (calls_of own.number value) (Set number hash stamp) sets_there (subst (λ (l : List Call). Contains l (Set number hash stamp)) (sym recorded) (Contains-push before_it (Set number hash stamp))) in
          let same_stripe : stripe_of_key (setup_of arena) hash ≡ stripe = ap (λ (s : Setup). stripe_of_key s hash) (sym is.setup) ∙ (ap (λ (n : ℕ). hash % n) (sym was.stripes) ∙ set_there.0) in
          ap (λ (n : ℕ). stamp_after_calls hash (slice_index_or own.calls n [])) same_stripe
          ∙ (ap (stamp_after_calls hash) last
          ∙ (fold-append (stamp_after_call hash) None before_it (Set number hash stamp ∷ [])
          ∙ ap (λ (b : Bool). if b then Some stamp else stamp_after_calls hash before_it) (eq-eqb hash hash refl)));
    }

-- calls that leave a stamp are there
some_within : (hash stamp : ℕ) (rows : List (List Call)) (stripe : ℕ) → stamp_after_calls hash (slice_index_or rows stripe []) ≡ Some stamp → stripe < length rows
some_within hash stamp [] stripe is = absurd (cc)
some_within hash stamp (calls ∷ rows) zero is = omega arith
some_within hash stamp (calls ∷ rows) (suc stripe) is = let rest = some_within hash stamp rows stripe is in omega (arith, rest)

-- a get leaves what was stored last
pub keeps_last : (arena : Arena) (hash : ℕ) (key value : List ℕ) (before now : Hand) → HasStoredLast (setup_of arena) hash key value before → GetsAtMost hash arena before now → StoresNothing (view before) (view now) → HasStoredLast (setup_of arena) hash key value now
keeps_last arena hash key value before now last gets none = record {
  stamp = last.stamp;
  among = subst (λ (l : List StoredItem). Contains l (record { stamp = last.stamp; words = item_with hash last.stamp (packed_item key value) })) (sym none) last.among;
  newest = λ own there is_number.
      ⊎_elim
      (λ (same : RecordsNoCall (view before) (view now)). last.newest own (subst (λ (l : List Own). Contains l own) same there) (is_number ∙ gets.0))
      (λ (got : (stamp : Option ℕ) × RecordsOn (setup_of arena) hash (λ number. Get number hash stamp) before now).
      let stripe : ℕ = stripe_of_key (setup_of arena) hash in
      let call : Call = Get (hand_number before) hash got.0 in
      let old = own_before (hand_number before) stripe call (view before).row.knows.mine own (subst (λ (l : List Own). Contains l own) got.1 there) (is_number ∙ gets.0) in
      let was = last.newest old.0 old.1 old.2 in
      let near = some_within hash last.stamp old.0.calls stripe was in
      ap (λ (rows : List (List Call)). stamp_after_calls hash (slice_index_or rows stripe [])) old.3
      ∙ (ap (stamp_after_calls hash) (get_or-set_same old.0.calls stripe (slice_index_or old.0.calls stripe [] ++ call ∷ []) [] near)
      ∙ (fold-append (stamp_after_call hash) None (slice_index_or old.0.calls stripe []) (call ∷ []) ∙ was)))
      gets.1;
}

same_some : {X : Type 0} (a b : X) → Some a ≡ Some b → a ≡ b
same_some a b is = cc

none_some : {X : Type 0} (x : X) → Some x ≡ None → ⊥
none_some x is = cc

-- what a hand finds under a hash is what it stored last, or another hand stored it
module _ (arena : Arena) (hash : ℕ) (key value found : List ℕ) (hand : Hand) (last : HasStoredLast (setup_of arena) hash key value hand) (is : IsHandOf arena hand) where
  found_own : (item : Ref) → IsNewestOwn (setup_of arena) hash (item_stamp item) (view hand).row.knows.mine → WereStored (setup_of arena) (items_stored_by hand) (item_stamp item) (item_with hash (item_stamp item) (packed_item key found))
      → (packed_item key found ≡ packed_item key value) ⊎ WasStoredByOther (setup_of arena) hash key found hand
  found_own item newest stored = elim (cases_eq (item_stamp item / 2 ^ 48) (hand_number hand)) [
    | inl own_number ↦
        let own = own_there arena hand is in
        let left = All-contains (λ (own : Own). item_stamp item / 2 ^ 48 ≡ own.number → stamp_after_calls hash (own_calls_on (setup_of arena) hash own) ≡ Some (item_stamp item)) (view hand).row.knows.mine own.0 newest own.1 (own_number ∙ sym own.2) in
        let stamps : last.stamp ≡ item_stamp item = same_some last.stamp (item_stamp item) (sym (last.newest own.0 own.1 own.2) ∙ left) in
        let among = subst (λ (l : List StoredItem). Contains l (record { stamp = last.stamp; words = item_with hash last.stamp (packed_item key value) })) (sym stored.own_is) last.among in
        inl (ap (drop 3) (sym (stored.stored.own (record { stamp = last.stamp; words = item_with hash last.stamp (packed_item key value) }) among stamps)))
    | inr other ↦ inr (record { stamp = item_stamp item; other = other; stored = stored })
  ]

  by_item : (item : Option Ref) (words : Ref → List ℕ) → Some (packed_item key found) ≡ option_map words item → IfSome item (λ item. IsNewestOwn (setup_of arena) hash (item_stamp item) (view hand).row.knows.mine)
      → IfSome item (λ item. WereStored (setup_of arena) (items_stored_by hand) (item_stamp item) (item_with hash (item_stamp item) (packed_item key found)))
      → (packed_item key found ≡ packed_item key value) ⊎ WasStoredByOther (setup_of arena) hash key found hand
  by_item None words are newest stored = absurd (none_some (packed_item key found) are)
  by_item (Some item) words are newest stored = found_own item newest stored

  pub finds_last : FindsWords (setup_of arena) hash hand (Some (packed_item key found)) → (packed_item key found ≡ packed_item key value) ⊎ WasStoredByOther (setup_of arena) hash key found hand
  finds_last finds = by_item finds.item (item_words (view finds.got)) finds.words_are finds.newest finds.stored

only_one : {X : Type 0} (x y : X) → Contains (x ∷ []) y → x ≡ y
only_one x y (zero, within, at) = at
only_one x y (suc k, within, at) = absurd (omega (arith, within))

no_calls : (count place : ℕ) → slice_index_or (replicate {A = List Call} count []) place [] ≡ []
no_calls zero place = refl
no_calls (suc count) zero = refl
no_calls (suc count) (suc place) = no_calls count place

-- a hand that did nothing yet finds only what others stored
module _ (arena : Arena) (hash : ℕ) (key found : List ℕ) (hand : Hand) (unused : IsUnused (view hand)) (is : IsHandOf arena hand) where
  none_own : (stamp : ℕ) → IsNewestOwn (setup_of arena) hash stamp (view hand).row.knows.mine → stamp / 2 ^ 48 ≡ hand_number hand → ⊥
  none_own stamp newest same =
      let own = own_there arena hand is in
      let first : Own = record { number = unused.number; calls = replicate (view hand).setup.config.stripes [] } in
      let one : first ≡ own.0 = only_one first own.0 (subst (λ (l : List Own). Contains l own.0) unused.calls own.1) in
      let left = All-contains (λ (own : Own). stamp / 2 ^ 48 ≡ own.number → stamp_after_calls hash (own_calls_on (setup_of arena) hash own) ≡ Some stamp) (view hand).row.knows.mine own.0 newest own.1 (same ∙ sym own.2) in
      let none : stamp_after_calls hash (own_calls_on (setup_of arena) hash own.0) ≡ None =
      ap (λ (own : Own). stamp_after_calls hash (own_calls_on (setup_of arena) hash own)) (sym one) ∙ ap (stamp_after_calls hash) (no_calls (view hand).setup.config.stripes (stripe_of_key (setup_of arena) hash)) in
      none_some stamp (sym left ∙ none)

  others_item : (item : Option Ref) (words : Ref → List ℕ) → Some (packed_item key found) ≡ option_map words item → IfSome item (λ item. IsNewestOwn (setup_of arena) hash (item_stamp item) (view hand).row.knows.mine)
      → IfSome item (λ item. WereStored (setup_of arena) (items_stored_by hand) (item_stamp item) (item_with hash (item_stamp item) (packed_item key found))) → WasStoredByOther (setup_of arena) hash key found hand
  others_item None words are newest stored = absurd (none_some (packed_item key found) are)
  others_item (Some item) words are newest stored = record { stamp = item_stamp item; other = none_own (item_stamp item) newest; stored = stored }

  pub finds_others : FindsWords (setup_of arena) hash hand (Some (packed_item key found)) → WasStoredByOther (setup_of arena) hash key found hand
  finds_others finds = others_item finds.item (item_words (view finds.got)) finds.words_are finds.newest finds.stored
