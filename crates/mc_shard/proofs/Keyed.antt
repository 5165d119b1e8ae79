-- Keys of items that a hand looks up: what a read of an item's words leaves, and one key more.
use Rattle.std.proofs.Common.{◌≡◌, ◌∙◌, ◌+◌, ◌++◌, ℕ, List, [], ◌∷◌, Option, Some, None, Ok, Err, Result, IfOk, IfSome, OnErr, OnOk, Vec, Global, if◌then◌else◌, is_ok, add-one, ap, append-nil, append_assoc, length, refl, slice_index, subst, sym, take}
use Rattle.std.proofs.Math.Seq.{take-append_seam}
use Rattle.std.proofs.lemmas.List.{length-map, take-map}
use Rattle.std.specs.Option.{option_to_list}
use Rattle.mc_pages.specs.declared.ids.ChunkId.{ChunkId}
use Rattle.mc_packing.specs.Packing.{AreBytes, IsPackingOf}
use Rattle.mc_words.specs.declared.hand.Hand.{Hand}
use Rattle.mc_words.specs.hand.Arenas.{view}
use Rattle.mc_words.specs.hand.View.{Setup, View}
use Rattle.mc_items.specs.Calls.{FindsStripe}
use Rattle.mc_items.specs.Listing.{HasKeysPut}
use Rattle.mc_items.specs.Reading.{words_seen}
use Rattle.mc_shard.specs.Finding.{FindsKey, FindsWords}
use Rattle.mc_shard.specs.Listing.{FindsNoKey, ListsStripe, LooksForKey, LooksUpFirst, MissesLook, PutsKey, PutsSome, StopsLooking, bytes_of_keys}
use Rattle.mc_shard.specs.Recording.{RecordsGetAtMost}

-- whatever reads leave stays
pub read_leaves : {A E X : Type 0} (part : View → X) → ((chunk : ChunkId) (count : ℕ) (v : View) → part (words_seen chunk 3 count v) ≡ part v) → (chunk : ChunkId) (count : ℕ) (before now : View) (r : Result A E)
    → IfOk r (λ words. now ≡ words_seen chunk 3 count before) → OnErr r (now ≡ before) → part now ≡ part before
read_leaves part seen chunk count before now (Ok words) is same = ap part is ∙ seen chunk count before
read_leaves part seen chunk count before now (Err error) is same = ap part same

-- no item was there, or one whose words are a packing of no key
pub no_item : (setup : Setup) (hash : ℕ) (before : Hand) → FindsWords setup hash before None → FindsNoKey setup hash before
no_item setup hash before finds = record { words = None; finds = finds; none = tt }

pub no_key : (setup : Setup) (hash : ℕ) (before : Hand) (words : List ℕ) → FindsWords setup hash before (Some words) → ((key : List ℕ) → AreBytes key → IsPackingOf key words → ⊥) → FindsNoKey setup hash before
no_key setup hash before words finds none = record { words = Some words; finds = finds; none = none }

-- one hash more was looked up
pub one_more_key : (setup : Setup) (hashes : List ℕ) (place : ℕ) (keys old middle new : List (List ℕ)) (before between now : Hand) (hash : ℕ) → hash ≡ slice_index hashes place → LooksUpFirst setup hashes place keys before between → middle ≡ old ++ keys
    → (puts : PutsKey setup hash middle new between now) → LooksUpFirst setup hashes (place + 1) (keys ++ option_to_list puts.found) before now × (new ≡ old ++ (keys ++ option_to_list puts.found))
one_more_key setup hashes place keys old middle new before between now hash at looks is puts = (
  subst (λ (n : ℕ). LooksUpFirst setup hashes n (keys ++ option_to_list puts.found) before now) (sym (add-one place))
      (keys, between, puts.found, looks, subst (λ (h : ℕ). LooksForKey setup h puts.found between now) at puts.looks, refl),
  puts.put ∙ (ap (λ (l : List (List ℕ)). l ++ option_to_list puts.found) is ∙ append_assoc old keys (option_to_list puts.found)),
)

-- what follows of a key that was found
pub ok_some_map : {A E : Type 0} (P Q : A → Type 0) (r : Result (Option A) E) → ((a : A) → P a → Q a) → IfOk r (λ found. IfSome found P) → IfOk r (λ found. IfSome found Q)
ok_some_map P Q (Ok (Some a)) next holds = next a holds
ok_some_map P Q (Ok None) next holds = tt
ok_some_map P Q (Err error) next holds = tt

-- a key that was pushed
pub key_pushed : (old new : List (Vec ℕ Global)) (key : Vec ℕ Global) → new ≡ old ++ key ∷ [] → bytes_of_keys new ≡ bytes_of_keys old ++ key.items ∷ []
key_pushed old new key is = ap bytes_of_keys is ∙ bytes_append old (key ∷ [])
  where
    bytes_append : (xs ys : List (Vec ℕ Global)) → bytes_of_keys (xs ++ ys) ≡ bytes_of_keys xs ++ bytes_of_keys ys
    bytes_append [] ys = refl
    bytes_append (x ∷ xs) ys = ap (λ (l : List (List ℕ)). x.items ∷ l) (bytes_append xs ys)

-- a look that found a key, and put it
pub puts_one : {E : Type 0} (setup : Setup) (hash : ℕ) (old new : List (Vec ℕ Global)) (key : Vec ℕ Global) (found : Option (Vec ℕ Global)) (before now : Hand) (r : Result (Unit {0}) E) → found ≡ Some key → IfSome found (λ key. FindsKey setup hash key.items before) → RecordsGetAtMost setup hash before now
    → new ≡ (if is_ok r then old ++ key ∷ [] else old) → OnOk r (PutsKey setup hash (bytes_of_keys old) (bytes_of_keys new) before now)
puts_one setup hash old new key found before now (Ok done) some finds calls pushed = record {
  found = Some key.items;
  looks = record { shows = subst (λ (o : Option (Vec ℕ Global)). IfSome o (λ key. FindsKey setup hash key.items before)) some finds; calls = calls };
  put = key_pushed old new key pushed;
}
puts_one setup hash old new key found before now (Err error) some finds calls pushed = tt

-- one that found none
pub puts_none : (setup : Setup) (hash : ℕ) (old : List (List ℕ)) (before now : Hand) → FindsNoKey setup hash before → RecordsGetAtMost setup hash before now → PutsKey setup hash old old before now
puts_none setup hash old before now none calls = record { found = None; looks = record { shows = none; calls = calls }; put = sym (append-nil old) }

-- the keys so far, where the next one was refused
pub puts_some : (old new : List (List ℕ)) (keys : List (List ℕ)) → new ≡ old ++ keys → PutsSome old new
puts_some old new keys is = record { keys = keys; put = is }

-- all hashes of a stripe were looked up
pub lists_stripe : {E : Type 0} (setup : Setup) (stripe : ℕ) (hashes none : List ℕ) (old new : List (List ℕ)) (before between now : Hand) (r : Result (Unit {0}) E) → none ≡ [] → FindsStripe (HasKeysPut none hashes) stripe (view before) (view between)
    → OnOk r ((keys : List (List ℕ)) × LooksUpFirst setup hashes (length hashes) keys between now × (new ≡ old ++ keys)) → OnOk r (ListsStripe setup stripe old new before now)
lists_stripe setup stripe hashes none old new before between now (Ok done) empty lists looks = record {
  hashes = hashes;
  between = between;
  lists = subst (λ (l : List ℕ). FindsStripe (HasKeysPut l hashes) stripe (view before) (view between)) empty lists;
  keys = looks.0;
  looks = looks.1;
  put = looks.2;
}
lists_stripe setup stripe hashes none old new before between now (Err error) empty lists looks = tt

-- no key so far
pub puts_no_more : (old : List (List ℕ)) → PutsSome old old
puts_no_more old = record { keys = []; put = sym (append-nil old) }

-- the keys that were put are cut off again
pub cut_off : (old new : List (Vec ℕ Global)) (count : ℕ) → count ≡ length old → PutsSome (bytes_of_keys old) (bytes_of_keys new) → bytes_of_keys (take count new) ≡ bytes_of_keys old
cut_off old new count same puts =
    let bytes : Vec ℕ Global → List ℕ = λ key. key.items in
    let long : count ≡ length (bytes_of_keys old) = same ∙ sym (length-map old bytes) in
    sym (take-map bytes count new) ∙ (ap (take count) puts.put ∙ (ap (λ (n : ℕ). take n (bytes_of_keys old ++ puts.keys)) long ∙ take-append_seam (bytes_of_keys old) puts.keys))

-- why a list of a stripe's keys stopped: the look of one of its hashes missed the lock
pub stops_looking : (setup : Setup) (tries stripe : ℕ) (hashes none : List ℕ) (before between now : Hand) → none ≡ [] → FindsStripe (HasKeysPut none hashes) stripe (view before) (view between) → MissesLook setup tries hashes between now → StopsLooking setup tries stripe before now
stops_looking setup tries stripe hashes none before between now empty lists misses = record {
  hashes = hashes;
  between = between;
  lists = subst (λ (l : List ℕ). FindsStripe (HasKeysPut l hashes) stripe (view before) (view between)) empty lists;
  misses = misses;
}
