-- All keys of a stripe that are deleted in one hold of its lock, from the parts of the call.
use Rattle.std.proofs.Common.{◌≡◌, ◌≢◌, ℕ, ◌+◌, ◌<◌, ◌%◌, Bool, true, false, ◌&&◌, if◌then◌else◌, is_some, List, [], ◌∷◌, ◌++◌, length, Some, None, IsSome, IfOk, OnErr, OnOk, Result, Ok, Err, refl, sym, ap, subst, ◌∙◌, arith, zero-add, append-nil, append_assoc, eq-eqb, ne_eqb, slice_index_or}
use Rattle.std.specs.List.Sorted.{IsPermutation}
use Rattle.std.specs.Map.{keys_of}
use Rattle.std.proofs.lemmas.List.FromFn.{get_or-map-range_with_len}
use Rattle.std.proofs.lemmas.List.Sorted.{IsPermutation-refl, IsPermutation-cons, IsPermutation-middle, IsPermutation-append_right, IsPermutation-trans, length_permutation}
use Rattle.std.proofs.lemmas.Map.Entries.{length-keys_of}
use Rattle.mc_stripe.specs.Changes.{after_reserve_call, after_unlink, used_up}
use Rattle.mc_stripe.specs.Entries.{AreRising, entry_at, without_entry}
use Rattle.mc_stripe.specs.StripeState.{Index, ReadyStripe, chunk_and_stamp}
use Rattle.mc_stripe.proofs.Entries.{at_without_entry, by_equal}
use Rattle.mc_core.specs.declared.event.Step.TheVariants as step
use Rattle.mc_core.specs.model.Holdings.{has_fresh}
use Rattle.mc_core.specs.run.Items.{stripe_unlinked}
use Rattle.mc_core.specs.model.State.{has_stripe, stripe_at}
use Rattle.mc_core.specs.model.Views.{held_stripe}
use Rattle.mc_core.specs.past.Past.{Hold, begin_hold, end_hold, last_of}
use Rattle.mc_words.specs.hand.Observers.{last_given}
use Rattle.mc_words.specs.hand.View.{OwnEvent, Setup, View}
use Rattle.mc_words.specs.hand.Views.{call_reserved, stripe_given, stripe_missed, with_event}
use Rattle.mc_words.specs.item.Calls.{key_deleted, key_lifted, key_unlinked}
use Rattle.mc_words.specs.lock.Lent.{IsLentStripe}
use Rattle.mc_words.specs.lock.Wait.{MissesStripe, WaitsForStripe}
use Rattle.mc_words.specs.rule.Happens.{Happens}
use Rattle.mc_words.proofs.Locks.TakeAndGive.{held_from}
use Rattle.mc_words.proofs.Locks.Waited.{misses_keep}
use Rattle.mc_items.specs.Calls.{Deletes, IsFull}
use Rattle.mc_items.specs.Clearing.{ClearsBehind, ClearsStripe, DeletesBehind, DeletesEach, DeletesSome, GivesBackEmpty, HoldsToDelete, LeadsNowhere, StopsBehind, StopsClearing, with_own_deletes}
use Rattle.mc_items.proofs.Deletes.{and_false}
use Rattle.mc_items.proofs.Left.{kept_of, waited}
use Rattle.mc_items.proofs.Locks.{waits_keep}

-- one key more
pub each_more : (number stripe key : ℕ) (keys : List ℕ) (value before left : ReadyStripe) (view between last : View) → DeletesEach number stripe keys value view before between
    → Deletes number stripe key true (after_reserve_call before) (call_reserved stripe before (number + 1) between) left last → DeletesEach number stripe (keys ++ key ∷ []) value view left last
each_more number stripe key [] value before left view between last done one =
    (left, last, subst (λ (p : ReadyStripe × View). Deletes number stripe key true (after_reserve_call p.0) (call_reserved stripe p.0 (number + 1) p.1) left last) (λ k. (done.0 k, done.1 k)) one, (refl, refl))
each_more number stripe key (first ∷ keys) value before left view between last (next, middle, did, rest) one =
    (next, middle, did, each_more number stripe key keys next before left middle between last rest one)

-- one key is deleted, from the parts of the call
module _ (number stripe key number' stripe' : ℕ) (value ready left : ReadyStripe) (view made got : View) (there : Bool) (numbers : number' ≡ number) (stripes : stripe' ≡ stripe) (readies : ready ≡ after_reserve_call value)
    (mades : made ≡ call_reserved stripe value (number + 1) view) (was : there ≡ is_some (chunk_and_stamp ready.state key)) (is : IsSome (chunk_and_stamp value.state key)) (fresh : has_fresh made.row.holdings ≡ false)
    (hit : there ≡ true → got ≡ key_unlinked number' stripe' ready key made) (kept : left ≡ stripe_unlinked ready (there && has_fresh made.row.holdings) number' key) where
  one_there : there ≡ true
  one_there = was ∙ (ap (λ (v : ReadyStripe). is_some (chunk_and_stamp v.state key)) readies ∙ is)

  one_got : got ≡ with_event [] (step.Unlink key) (key_deleted number' stripe' ready key true made)
  one_got = hit one_there ∙ ap (λ (b : Bool). with_event [] (step.Unlink key) (if b then key_lifted stripe' ready key made else key_deleted number' stripe' ready key true made)) fresh

  one_left : left ≡ used_up (after_unlink ready.state number' key)
  one_left = kept ∙ ap (λ (b : Bool). stripe_unlinked ready b number' key) (ap (λ (f : Bool). there && f) fresh ∙ and_false there)

  pub one_deleted : Deletes number stripe key true (after_reserve_call value) (call_reserved stripe value (number + 1) view) left got
  one_deleted = (
    sym is,
    one_got ∙ (λ k. with_event [] (step.Unlink key) (key_deleted (numbers k) (stripes k) (readies k) key true (mades k))),
    one_left ∙ (λ k. used_up (after_unlink (readies k).state (numbers k) key)),
  )

  -- what is held, known and said, and the numbers
  pub one_keeps : kept_of got ≡ kept_of view
  one_keeps = ap kept_of one_got ∙ ap kept_of mades

  -- the key went from the index, and no entry is aside that wasn't
  pub one_index : left.state.index ≡ without_entry value.state.index key
  one_index = ap (λ (v : ReadyStripe). v.state.index) one_left ∙ ap (λ (v : ReadyStripe). without_entry v.state.index key) readies

  pub one_aside : left.state.aside ≡ value.state.aside
  one_aside = ap (λ (v : ReadyStripe). v.state.aside) one_left ∙ ap (λ (v : ReadyStripe). v.state.aside) readies

-- what leads somewhere without a key led there with it
pub led_there : {X : Type 0} (entries : List (ℕ × X)) (key q : ℕ) (place : X) → AreRising entries → entry_at (without_entry entries key) q ≡ Some place → entry_at entries q ≡ Some place
led_there entries key q place rising leads =
    by_equal q key
    (λ here _. absurd (no_place place (sym leads ∙ (at_without_entry entries key q rising ∙ rw here refl))))
    (λ apart _. sym (at_without_entry entries key q rising ∙ rw apart refl) ∙ leads)
  where
    no_place : {X : Type 0} (place : X) → Some place ≡ None → ⊥
    no_place place is = cc

-- whatever room for a call and a delete leave stays
module _ {X : Type 0} (part : View → X) (number stripe : ℕ) (reserved : (value : ReadyStripe) (v : View) → part (call_reserved stripe value (number + 1) v) ≡ part v)
    (deleted : (value : ReadyStripe) (key : ℕ) (v : View) → part (with_event [] (step.Unlink key) (key_deleted number stripe value key true v)) ≡ part v) where
  pub each_keeps : (keys : List ℕ) (value left : ReadyStripe) (view last : View) → DeletesEach number stripe keys value view left last → part last ≡ part view
  each_keeps [] value left view last done = ap part done.1
  each_keeps (key ∷ keys) value left view last (next, between, did, rest) =
      each_keeps keys next left between last rest ∙ (ap part did.1 ∙ (deleted (after_reserve_call value) key (call_reserved stripe value (number + 1) view) ∙ reserved value view))

-- the hand's own calls got a delete of each
pub each_tells : (number stripe : ℕ) (keys : List ℕ) (value left : ReadyStripe) (view last : View) → DeletesEach number stripe keys value view left last → last.row.knows.mine ≡ with_own_deletes number stripe keys view.row.knows.mine
each_tells number stripe [] value left view last done = ap (λ (v : View). v.row.knows.mine) done.1
each_tells number stripe (key ∷ keys) value left view last (next, between, did, rest) =
    each_tells number stripe keys next left between last rest ∙ ap (λ (v : View). with_own_deletes number stripe keys v.row.knows.mine) did.1

-- the hand has more events
abbrev pub IsBehind : View → View → Type 0
IsBehind view now = (more : List OwnEvent) × (now.events ≡ view.events ++ more)

pub behind_same : (view now : View) → now.events ≡ view.events → IsBehind view now
behind_same view now same = ([], same ∙ sym (append-nil view.events))

pub behind_one : (view now : View) (one : OwnEvent) → now.events ≡ view.events ++ one ∷ [] → IsBehind view now
behind_one view now one is = (one ∷ [], is)

pub behind_both : (view next now : View) → IsBehind view next → IsBehind next now → IsBehind view now
behind_both view next now (more, is) (others, are) = (more ++ others, are ∙ (ap (λ (l : List OwnEvent). l ++ others) is ∙ append_assoc view.events more others))

pub each_behind : (number stripe : ℕ) (keys : List ℕ) (value left : ReadyStripe) (view last : View) → DeletesEach number stripe keys value view left last → IsBehind view last
each_behind number stripe [] value left view last done = behind_same view last (ap (λ (v : View). v.events) done.1)
each_behind number stripe (key ∷ keys) value left view last (next, between, did, rest) =
    let made : View = call_reserved stripe value (number + 1) view in
    behind_both view between last
    (behind_both view made between (behind_one view made _ refl) (behind_one made between _ (ap (λ (v : View). v.events) did.1)))
    (each_behind number stripe keys next left between last rest)

misses_behind : (stripe : ℕ) (words : List ℕ) (view now : View) → MissesStripe stripe words view now → IsBehind view now
misses_behind stripe [] view now is = behind_same view now (ap (λ (v : View). v.events) is)
misses_behind stripe (word ∷ words) view now (busy, happens, rest) =
    let next : View = stripe_missed stripe word view in behind_both view next now (behind_one view next _ refl) (misses_behind stripe words next now rest)

pub waits_behind : (stripe : ℕ) (view : View) (value : ReadyStripe) (now : View) → WaitsForStripe stripe view value now → IsBehind view now
waits_behind stripe view value now waits =
    behind_both view waits.before now (misses_behind stripe waits.words view waits.before waits.misses) (behind_one waits.before now _ (ap (λ (v : View). v.events) waits.is))

module _ {X : Type 0} where
  -- a key that is there is one of the keys, beside the others
  pub keys-without_entry : (entries : List (ℕ × X)) (key : ℕ) → IsSome (entry_at entries key) → IsPermutation (keys_of entries) (key ∷ keys_of (without_entry entries key))
  keys-without_entry [] key there = absurd cc
  keys-without_entry (entry ∷ entries) key there =
      by_equal key entry.0
      (λ here is. rw here (subst (λ (k : ℕ). IsPermutation (entry.0 ∷ keys_of entries) (k ∷ keys_of entries)) (sym is) (IsPermutation-refl (entry.0 ∷ keys_of entries))))
      (λ apart _. rw apart (IsPermutation-trans _ _ _
      (IsPermutation-cons entry.0 _ _ (keys-without_entry entries key (rw apart at there)))
      (IsPermutation-middle (entry.0 ∷ []) key (keys_of (without_entry entries key)))))

  pub one_fewer : (entries : List (ℕ × X)) (key : ℕ) → IsSome (entry_at entries key) → length (without_entry entries key) < length entries
  one_fewer entries key there =
      let many = length_permutation (keys_of entries) (key ∷ keys_of (without_entry entries key)) (keys-without_entry entries key there) in
      let old = length-keys_of entries in
      let new = length-keys_of (without_entry entries key) in
      omega (arith, many, old, new)

  -- one key more is deleted, and one fewer left
  pub some_more : (found entries : List (ℕ × X)) (keys : List ℕ) (key : ℕ) → IsSome (entry_at entries key) → IsPermutation (keys_of found) (keys ++ keys_of entries)
      → IsPermutation (keys_of found) ((keys ++ key ∷ []) ++ keys_of (without_entry entries key))
  some_more found entries keys key there each =
      subst (IsPermutation (keys_of found)) (sym (append_assoc keys (key ∷ []) (keys_of (without_entry entries key))))
      (IsPermutation-trans _ _ _ each (IsPermutation-append_right keys _ _ (keys-without_entry entries key there)))

  -- none is left
  pub all_deleted : (found entries : List (ℕ × X)) (keys : List ℕ) → entries ≡ [] → IsPermutation (keys_of found) (keys ++ keys_of entries) → IsPermutation (keys_of found) keys
  all_deleted found entries keys empty each =
      subst (IsPermutation (keys_of found)) (ap (λ (l : List (ℕ × X)). keys ++ keys_of l) empty ∙ append-nil keys) each

  pub all_counted : (found : List (ℕ × X)) (keys : List ℕ) → IsPermutation (keys_of found) keys → length found ≡ length keys
  all_counted found keys each = sym (length-keys_of found) ∙ sym (length_permutation (keys_of found) keys each)

-- at the moment before a stripe's lock is given, the stripe is the one that is given back
pub gone_at : (last now : View) (stripe : ℕ) (left : ReadyStripe) → (gives : Happens last [] (step.GiveStripe stripe) now) → stripe < last.setup.config.stripes → slice_index_or last.stripes stripe None ≡ Some left → left.state.index ≡ []
    → LeadsNowhere gives.was.moment last.setup.config.stripes stripe
gone_at last now stripe left gives in_range mine empty key of_key =
    let state = gives.was.moment.state in
    let id = gives.was.hand in
    let held : held_stripe state id stripe ≡ Some left =
    sym (get_or-map-range_with_len (held_stripe state id) 0 last.setup.config.stripes stripe stripe None (omega arith) (zero-add stripe)) ∙ (ap (λ (v : View). slice_index_or v.stripes stripe None) (sym gives.was.is) ∙ mine) in
    let same : stripe_at state stripe ≡ left = (held_from (has_stripe state id stripe) (stripe_at state stripe) left held).1 in
    let at : key % length state.stripes ≡ stripe = ap (λ (n : ℕ). key % n) gives.was.stripes ∙ of_key in
    ap (λ (n : ℕ). chunk_and_stamp (stripe_at state n).state key) at ∙ (ap (λ (v : ReadyStripe). chunk_and_stamp v.state key) same ∙ ap (λ (entries : Index). entry_at entries key) empty)

-- a hold of a stripe's lock in which these keys were deleted
module _ (number stripe : ℕ) (keys : List ℕ) (view now : View) (holds : HoldsToDelete number stripe keys view now) where
  pub deletes_part : {X : Type 0} (part : View → X) → ((value : ReadyStripe) (v : View) → part (call_reserved stripe value (number + 1) v) ≡ part v)
      → ((value : ReadyStripe) (key : ℕ) (v : View) → part (with_event [] (step.Unlink key) (key_deleted number stripe value key true v)) ≡ part v)
      → part holds.done.last ≡ part holds.taken
  deletes_part part reserved deleted = each_keeps part number stripe reserved deleted keys holds.value holds.done.left holds.taken holds.done.last holds.done.deletes

  -- what is held, known and said, and the numbers
  pub deletes_keep : kept_of now ≡ kept_of view
  deletes_keep = ap kept_of holds.done.given ∙ (deletes_part kept_of (λ value v. refl) (λ value key v. refl) ∙ waited stripe view holds.value holds.taken holds.waits)

  -- the lock of the slabs wasn't taken
  pub deletes_leave_slabs : now.row.knows.hold.count ≡ view.row.knows.hold.count
  deletes_leave_slabs =
      let part : View → ℕ = λ v. v.row.knows.hold.count in
      ap part holds.done.given ∙ (deletes_part part (λ value v. refl) (λ value key v. refl) ∙ waits_keep part stripe (λ word v. refl) (λ value v. refl) view holds.value holds.taken holds.waits)

  pub deletes_setup : holds.done.last.setup ≡ view.setup
  deletes_setup =
      let part : View → Setup = λ v. v.setup in
      deletes_part part (λ value v. refl) (λ value key v. refl) ∙ waits_keep part stripe (λ word v. refl) (λ value v. refl) view holds.value holds.taken holds.waits

  hold_is : now.row.knows.hold ≡ end_hold stripe holds.done.left (begin_hold stripe holds.value view.row.knows.hold)
  hold_is =
      let part : View → Hold = λ v. v.row.knows.hold in
      ap part holds.done.given
      ∙ ap (end_hold stripe holds.done.left)
      (deletes_part part (λ value v. refl) (λ value key v. refl)
      ∙ (ap part holds.waits.is
      ∙ ap (begin_hold stripe holds.value) (misses_keep part stripe (λ word v. refl) holds.waits.words view holds.waits.before holds.waits.misses)))

  -- what was given back is what was given back last
  pub given_last : last_given now stripe ≡ Some holds.done.left
  given_last = let yes = eq-eqb stripe stripe refl in ap (λ (h : Hold). (last_of stripe h.stripes).left) hold_is ∙ rw yes refl

  pub other_given : (other : ℕ) → other ≢ stripe → last_given now other ≡ last_given view other
  other_given other apart = let no = ne_eqb stripe other (λ same. apart (sym same)) in ap (λ (h : Hold). (last_of other h.stripes).left) hold_is ∙ rw no refl

-- the hand's events go on
pub given_behind : (number stripe : ℕ) (keys : List ℕ) (view now : View) → (holds : HoldsToDelete number stripe keys view now) → IsBehind holds.done.last now
given_behind number stripe keys view now holds = behind_one holds.done.last now _ (ap (λ (v : View). v.events) holds.done.given)

pub deletes_behind : (number stripe : ℕ) (keys : List ℕ) (view now : View) → HoldsToDelete number stripe keys view now → IsBehind view now
deletes_behind number stripe keys view now holds = behind_both view holds.done.last now holds.behind (given_behind number stripe keys view now holds)

-- the hold, from its parts
pub holds_to_delete : (number stripe : ℕ) (keys : List ℕ) (value : ReadyStripe) (view taken now : View) → WaitsForStripe stripe view value taken → IsLentStripe taken stripe value → DeletesBehind number stripe value keys taken now → HoldsToDelete number stripe keys view now
holds_to_delete number stripe keys value view taken now waits lent done = record {
  value = value;
  taken = taken;
  waits = waits;
  lent = lent;
  done = done;
  calls =
      ap (λ (v : View). v.row.knows.mine) done.given
      ∙ (each_tells number stripe keys value done.left taken done.last done.deletes
      ∙ ap (with_own_deletes number stripe keys) (waits_keep (λ (v : View). v.row.knows.mine) stripe (λ word v. refl) (λ value v. refl) view value taken waits));
  behind = behind_both view taken done.last (waits_behind stripe view value taken waits) (each_behind number stripe keys value done.left taken done.last done.deletes);
}

-- a stripe that was cleared
module _ (number stripe count : ℕ) (value : ReadyStripe) (view taken now : View) (waits : WaitsForStripe stripe view value taken) (lent : IsLentStripe taken stripe value) (clears : ClearsBehind number stripe value count taken now) where
  holds : HoldsToDelete number stripe clears.keys view now
  holds = holds_to_delete number stripe clears.keys value view taken now waits lent clears.done

  pub clears_stripe : stripe < view.setup.config.stripes → ClearsStripe number stripe count view now
  unfolding holds holds_to_delete
  clears_stripe in_range =
      let setup : clears.done.last.setup ≡ view.setup = deletes_setup number stripe clears.keys view now holds in
      record {
        keys = clears.keys;
        holds = holds;
        each = clears.each;
        counted = clears.counted;
        empty = clears.empty;
        gone = subst (λ (s : Setup). LeadsNowhere clears.done.gives.was.moment s.config.stripes stripe) setup
            (gone_at clears.done.last now stripe clears.done.left clears.done.gives (subst (λ (s : Setup). stripe < s.config.stripes) (sym setup) in_range) clears.done.mine clears.empty);
      }

-- it was given back with no key
pub gives_back_empty : (number stripe count : ℕ) (view now : View) → ClearsStripe number stripe count view now → GivesBackEmpty now stripe
gives_back_empty number stripe count view now clears =
    (clears.holds.done.left, given_last number stripe clears.keys view now clears.holds, clears.empty)

-- another stripe that was given back with no key stays so
pub still_empty : (number stripe : ℕ) (keys : List ℕ) (view now : View) → HoldsToDelete number stripe keys view now → (other : ℕ) → other ≢ stripe → GivesBackEmpty view other → GivesBackEmpty now other
still_empty number stripe keys view now holds other apart (value, given, empty) = (value, other_given number stripe keys view now holds other apart ∙ given, empty)

-- one that wasn't cleared
pub stops_clearing : (number stripe : ℕ) (value : ReadyStripe) (view taken now : View) → WaitsForStripe stripe view value taken → IsLentStripe taken stripe value → StopsBehind number stripe value taken now → StopsClearing number stripe view now
unfolding holds_to_delete
stops_clearing number stripe value view taken now waits lent stops = record {
  keys = stops.keys;
  holds = holds_to_delete number stripe stops.keys value view taken now waits lent stops.done;
  full = stops.full;
}

-- what was done under the lock, from its parts
module _ (number stripe stripe' : ℕ) (value left : ReadyStripe) (view last now : View) (same : stripe' ≡ stripe) (some : DeletesSome number stripe value view left last) (mine : slice_index_or last.stripes stripe' None ≡ Some left)
    (gives : Happens last [] (step.GiveStripe stripe') now) (given : now ≡ stripe_given stripe' left last) where
  behind : DeletesBehind number stripe value some.keys view now
  behind = record {
    left = left;
    last = last;
    deletes = some.deletes;
    mine = ap (λ (n : ℕ). slice_index_or last.stripes n None) (sym same) ∙ mine;
    gives = subst (λ (n : ℕ). Happens last [] (step.GiveStripe n) now) same gives;
    given = given ∙ ap (λ (n : ℕ). stripe_given n left last) same;
  }

  pub clears_behind : (count : ℕ) → count ≡ length value.state.index → left.state.index ≡ [] → ClearsBehind number stripe value count view now
  unfolding behind
  clears_behind count counted empty =
      let each = all_deleted value.state.index left.state.index some.keys empty some.each in
      record { keys = some.keys; done = behind; each = each; counted = counted ∙ all_counted value.state.index some.keys each; empty = empty }

  pub stops_behind : IsFull left → StopsBehind number stripe value view now
  unfolding behind
  stops_behind full = record { keys = some.keys; done = behind; full = full }

-- whether a stripe was cleared or not, keys were deleted in one hold
pub in_one_hold : {E P : Type 0} (number stripe : ℕ) (view now : View) (r : Result ℕ E) → ((keys : List ℕ) → HoldsToDelete number stripe keys view now → P) → IfOk r (λ count. ClearsStripe number stripe count view now) → OnErr r (StopsClearing number stripe view now) → P
in_one_hold number stripe view now (Ok count) next clears stops = next clears.keys clears.holds
in_one_hold number stripe view now (Err error) next clears stops = next stops.keys stops.holds

-- a stripe that was cleared was given back with no key
pub empty_if_cleared : {E : Type 0} (number stripe : ℕ) (view now : View) (r : Result ℕ E) → IfOk r (λ count. ClearsStripe number stripe count view now) → OnOk r (GivesBackEmpty now stripe)
empty_if_cleared number stripe view now (Ok count) clears = gives_back_empty number stripe count view now clears
empty_if_cleared number stripe view now (Err error) clears = tt
