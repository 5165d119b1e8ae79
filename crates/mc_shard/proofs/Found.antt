-- What a look finds.
use Rattle.std.proofs.Common.{◌≡◌, ◌∙◌, ℕ, Bool, List, [], Option, None, Some, Ok, Err, Result, IfOk, IfSome, OnErr, ◌⊎◌, refl, sym, ap, subst, inl, inr}
use Rattle.mc_packing.specs.Packing.{IsPackingOf, packed_item, value_in}
use Rattle.mc_words.specs.declared.arena.Arena.{Arena}
use Rattle.mc_words.specs.declared.hand.Hand.{Hand}
use Rattle.mc_words.specs.hand.Arenas.{IsHandOf, setup_of, view}
use Rattle.mc_words.specs.hand.Observers.{hand_number}
use Rattle.mc_words.specs.hand.Ready.{IsReady}
use Rattle.mc_words.specs.hand.View.{Setup}
use Rattle.mc_items.specs.declared.refs.Ref.{Ref}
use Rattle.mc_items.specs.Calls.{Deletes, RecordsNoCall}
use Rattle.mc_items.specs.ItemRefs.{IsItemRef, item_key, item_stamp, item_words}
use Rattle.mc_items.specs.Keeping.{HoldsToo, StoresNothing}
use Rattle.mc_items.specs.OnKeys.{ActsOn, FindsNoRoomFor, Gets}
use Rattle.mc_words.specs.item.Items.{item_with}
use Rattle.mc_items.proofs.Chains.{words_said}
use Rattle.mc_shard.specs.Finding.{BumpsItem, DeletesKey, FindsFull, FindsSome, FindsItem, FindsKey, FindsOtherKey, FindsWords, GetsUnder, TriesHint, ReturnsValue, PutsValue, TouchesKey, TouchesValue}
use Rattle.mc_shard.specs.Hands.{WereStored, items_stored_by}
use Rattle.mc_shard.specs.Newest.{IsNewestOwn}
use Rattle.mc_shard.proofs.Idle.{alone}
use Rattle.mc_shard.proofs.Newest.{newest_found}

-- the words of an item that was got were said
were_said : (arena : Arena) (before got : Hand) (item : Ref) → IsHandOf arena got → StoresNothing (view before) (view got) → IsItemRef (view got) item → WereStored (setup_of arena) (items_stored_by before) (item_stamp item) (item_with (item_key item) (item_stamp item) (item_words (view got) item))
were_said arena before got item of stores_nothing is = record { seen = view got; setup_is = of.setup; lawful = of.lawful; own_is = stores_nothing; stored = words_said (view got) of.lawful item is }

-- the words of this item under the hash were said
abbrev SaidOf : Setup → ℕ → Hand → Option Ref → List ℕ → Type 0
SaidOf setup hash before item words = IfSome item (λ item. WereStored setup (items_stored_by before) (item_stamp item) (item_with hash (item_stamp item) words))

-- no hint was tried
pub no_hint : (hash : ℕ) (before : Hand) → TriesHint hash before before
no_hint hash before = record { number = refl; did = inl refl }

-- an item was got
pub finds_item : (arena : Arena) (hash : ℕ) (before tried got : Hand) (found : Option Ref) (item : Ref) → TriesHint hash before tried → RecordsNoCall (view before) (view tried) → IsHandOf arena got → StoresNothing (view before) (view got) → found ≡ Some item → GetsUnder (setup_of arena) hash found tried got
    → IfSome found (λ item. IsItemRef (view got) item × (item_key item ≡ hash)) → FindsWords (setup_of arena) hash before (Some (item_words (view got) item))
finds_item arena hash before tried got found item tries none of stores_nothing some gets is =
    let under = subst (λ (o : Option Ref). GetsUnder (setup_of arena) hash o tried got) some gets in
    let own : IsItemRef (view got) item × (item_key item ≡ hash) = subst (λ (o : Option Ref). IfSome o (λ item. IsItemRef (view got) item × (item_key item ≡ hash))) some is in
    record {
      tried = tried;
      tries = tries;
      got = got;
      item = Some item;
      gets = under;
      words_are = refl;
      stored = subst (λ (k : ℕ). WereStored (setup_of arena) (items_stored_by before) (item_stamp item) (item_with k (item_stamp item) (item_words (view got) item))) own.1 (were_said arena before got item of stores_nothing own.0);
      newest = subst (IsNewestOwn (setup_of arena) hash (item_stamp item)) none (newest_found (setup_of arena) hash tried got item under own.0 of.setup);
    }

-- it is of the key, or of another one
module _ (setup : Setup) (hash : ℕ) (key : List ℕ) (before : Hand) (words : List ℕ) (finds : FindsWords setup hash before (Some words)) where
  pub gives_value : (old new : List ℕ) → PutsValue key words old new → ReturnsValue setup hash key before old new
  gives_value old new puts = (puts.0, subst (λ (ws : List ℕ). FindsWords setup hash before (Some ws)) puts.1 finds, puts.2)

  pub finds_key : IsPackingOf key words → FindsKey setup hash key before
  finds_key is = (value_in words, subst (λ (ws : List ℕ). FindsWords setup hash before (Some ws)) is finds)

  pub finds_other : (IsPackingOf key words → ⊥) → FindsOtherKey setup hash key before
  finds_other other = record { words = Some words; finds = finds; other = other }

-- it is all that the hand holds
pub found_item : (arena : Arena) (hash : ℕ) (before tried got : Hand) (found : Option Ref) → TriesHint hash before tried → RecordsNoCall (view before) (view tried) → IsHandOf arena got → IsReady (view got) → StoresNothing (view before) (view got) → GetsUnder (setup_of arena) hash found tried got
    → IfSome found (λ item. IsItemRef (view got) item × (item_key item ≡ hash)) → (view tried).row.holdings ≡ [] → HoldsToo found (view tried) (view got) → IfSome found (λ item. FindsItem arena hash item before got)
unfolding finds_item
found_item arena hash before tried got None tries no_calls of ready stores_nothing gets is none more = tt
found_item arena hash before tried got (Some item) tries no_calls of ready stores_nothing gets is none more = record {
  finds = finds_item arena hash before tried got (Some item) item tries no_calls of stores_nothing refl gets is;
  is_item = refl;
  refers = record { of_arena = of; ready = ready; refers = is.0 };
  alone = alone (view tried) (view got) item none more;
}

pub the_item : (arena : Arena) (hash : ℕ) (before got : Hand) (found : Option Ref) (item : Ref) → found ≡ Some item → IfSome found (λ item. FindsItem arena hash item before got) → FindsItem arena hash item before got
the_item arena hash before got found item some is = subst (λ (o : Option Ref). IfSome o (λ item. FindsItem arena hash item before got)) some is

-- none was got
pub none_words : (setup : Setup) (hash : ℕ) (before tried got : Hand) (found : Option Ref) → TriesHint hash before tried → found ≡ None → Gets setup hash found tried got → FindsWords setup hash before None
none_words setup hash before tried got found tries none gets = record { tried = tried; tries = tries; got = got; item = None; gets = inl (subst (λ (o : Option Ref). Gets setup hash o tried got) none gets); words_are = refl; stored = tt; newest = tt }

pub finds_none : (setup : Setup) (hash : ℕ) (key : List ℕ) (before got : Hand) (found : Option Ref) → found ≡ None → Gets setup hash found before got → FindsOtherKey setup hash key before
finds_none setup hash key before got found none gets = record { words = None; finds = none_words setup hash before before got found (no_hint hash before) none gets; other = tt }

-- the key was found, and then something was done
pub deletes_key : {E : Type 0} (setup : Setup) (hash : ℕ) (key : List ℕ) (there : Bool) (before between now : Hand) (result : Result Bool E) → FindsKey setup hash key before → result ≡ Ok there
    → IfOk result (λ there. ActsOn setup hash (λ number stripe. Deletes number stripe hash there) between now) → DeletesKey setup hash key there before now
deletes_key {E} setup hash key there before between now result finds is done = record {
  finds = finds;
  between = between;
  deletes = subst (λ (r : Result Bool E). IfOk r (λ there. ActsOn setup hash (λ number stripe. Deletes number stripe hash there) between now)) is done;
}

-- the item that was found was touched
module _ (arena : Arena) (hash : ℕ) (key : List ℕ) (before got : Hand) (item : Ref) (found : FindsItem arena hash item before got) where
  touches_words : (value : List ℕ) → item_words (view got) item ≡ packed_item key value → (now : Hand) → BumpsItem (hand_number before) item now → TouchesValue (setup_of arena) hash key value before now
  touches_words value same now bumps =
      let finds = found.finds in record {
        finds = record { tried = finds.tried; tries = finds.tries; got = finds.got; item = finds.item; gets = finds.gets; words_are = ap Some (sym same) ∙ finds.words_are; stored = subst (SaidOf (setup_of arena) hash before finds.item) same finds.stored; newest = finds.newest };
        item = item;
        is_item = found.is_item;
        bumps = bumps;
      }

  pub touches_key : IsPackingOf key (item_words (view got) item) → (now : Hand) → BumpsItem (hand_number before) item now → TouchesKey (setup_of arena) hash key before now
  touches_key own now bumps = (value_in (item_words (view got) item), touches_words (value_in (item_words (view got) item)) own now bumps)

-- two answers that are the same
pub same_ok : {T E : Type 0} (x y : T) → ◌≡◌ {A = Result T E} (Ok x) (Ok y) → x ≡ y
same_ok x y is = cc

pub same_error : {T E : Type 0} (x y : E) → ◌≡◌ {A = Result T E} (Err x) (Err y) → x ≡ y
same_error x y is = cc

-- the stripe was found full, with no hint before
pub full_at_once : (setup : Setup) (hash : ℕ) (before now : Hand) → FindsNoRoomFor setup hash before now → FindsFull setup hash before now
full_at_once setup hash before now full = record { tried = before; tries = no_hint hash before; full = full }

-- so, where a call was refused
pub refused_full : {T E : Type 0} (result : Result T E) (setup : Setup) (hash : ℕ) (between now : Hand) → OnErr result (FindsNoRoomFor setup hash between now) → OnErr result ((x : Hand) × FindsFull setup hash x now)
refused_full (Ok value) setup hash between now full = tt
refused_full (Err error) setup hash between now full = (between, full_at_once setup hash between now full)

-- an item was found, and what was wanted of it was refused
pub refused_some : {T E : Type 0} (result : Result T E) (setup : Setup) (hash : ℕ) (before now : Hand) → FindsSome setup hash before → OnErr result (FindsFull setup hash before now ⊎ FindsSome setup hash before)
refused_some (Ok value) setup hash before now some = tt
refused_some (Err error) setup hash before now some = inr some
