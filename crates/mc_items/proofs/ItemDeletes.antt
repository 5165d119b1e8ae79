-- A delete of an item with a given stamp, from the parts of the call.
use Rattle.std.proofs.Common.{◌≡◌, ℕ, Bool, true, is_some, refl, subst, ◌∙◌, Option, Some, None, Result, Ok, Err, OnErr, OnOk}
use Rattle.mc_pages.specs.declared.ids.ChunkId.{ChunkId}
use Rattle.std.specs.Option.{option_map}
use Rattle.mc_stripe.specs.StripeState.{ReadyStripe, chunk_and_stamp, stamp_of_key}
use Rattle.mc_words.specs.lock.Doing.{UsesRoomForCall}
use Rattle.mc_words.specs.lock.Lent.{IsLentStripe}
use Rattle.mc_words.specs.lock.Wait.{WaitsForStripe}
use Rattle.mc_words.specs.hand.View.{View}
use Rattle.mc_items.specs.Calls.{Deletes, FindsStripe, OnlyWaits, RecordsNoCall}
use Rattle.mc_items.specs.Deleting.{DeletesItem}
use Rattle.mc_items.specs.Storing.{HasOther}
use Rattle.mc_items.specs.declared.comparing.Expected.TheVariants.{Item}
use Rattle.mc_items.specs.declared.deleting_where.CompareDeleteError.{CompareDeleteError}
use Rattle.mc_items.specs.declared.deleting_where.CompareDeleteError.TheVariants.{NoMemory, Differs}
use Rattle.mc_items.proofs.Left.{deletes_keep, kept_of, only_keeps}
use Rattle.mc_items.proofs.Tells.{told_none}

-- a key whose item has a stamp has an item
has_item : (place : Option (ChunkId × ℕ)) (stamp : ℕ) → option_map (λ (p : ChunkId × ℕ). p.1) place ≡ Some stamp → is_some place ≡ true
has_item (Some place) stamp is = refl
has_item None stamp is = absurd (cc)

-- a delete where the key's item has a stamp finds it there
pub was_there : (number stripe : ℕ) (value : ReadyStripe) (key stamp : ℕ) (there : Bool) (view now : View) → stamp_of_key value.state key ≡ Some stamp → UsesRoomForCall number stripe value (Deletes number stripe key there) view now → UsesRoomForCall number stripe value (Deletes number stripe key true) view now
was_there number stripe value key stamp there view now met done =
    subst (λ (b : Bool). UsesRoomForCall number stripe value (Deletes number stripe key b) view now) (done.does.0 ∙ has_item (chunk_and_stamp value.state key) stamp met) done

-- one under a lock that was waited for
pub item_deleted : (number stripe key stamp number' stripe' : ℕ) (value : ReadyStripe) (view taken now : View) → number' ≡ number → stripe' ≡ stripe → WaitsForStripe stripe view value taken → IsLentStripe taken stripe value
    → UsesRoomForCall number' stripe' value (Deletes number' stripe' key true) taken now → stamp_of_key value.state key ≡ Some stamp → DeletesItem number stripe key stamp view now
item_deleted number stripe key stamp number' stripe' value view taken now numbers stripes waits lent done met = record {
  deletes = record {
    value = value;
    taken = taken;
    waits = waits;
    lent = lent;
    done = subst (λ (p : ℕ × ℕ). UsesRoomForCall p.0 p.1 value (Deletes p.0 p.1 key true) taken now) (λ k. (numbers k, stripes k)) done;
  };
  met = met;
}

-- what follows from two facts on what was done
pub ok_both : {A E : Type 0} (P Q R : Type 0) (r : Result A E) → (P → Q → R) → OnOk r P → OnOk r Q → OnOk r R
ok_both P Q R (Ok a) next p q = next p q
ok_both P Q R (Err e) next p q = tt

-- what is known of each refusal
pub at_refusal : {A E : Type 0} (P : Type 0) (r : Result A E) (e : E) → r ≡ Err e → OnErr r P → P
at_refusal P r e is holds = subst (λ x. OnErr x P) is holds

-- it leaves what is held, known and said, and where it is refused the hand's own calls
module _ (r : Result (Unit {0}) CompareDeleteError) (number stripe key stamp : ℕ) (view now : View) (full : r ≡ Err (NoMemory tt) → OnlyWaits stripe view now)
    (differs : (found : Option ℕ) → r ≡ Err (Differs found) → FindsStripe (HasOther (Item stamp) found key) stripe view now) where
  by : (s : Result (Unit {0}) CompareDeleteError) → r ≡ s → OnOk s (DeletesItem number stripe key stamp view now) → kept_of now ≡ kept_of view
  by (Ok done) is did = deletes_keep number stripe key true view now did.deletes
  by (Err (NoMemory refused)) is did = only_keeps stripe view now (full is)
  by (Err (Differs found)) is did = only_keeps stripe view now (differs found is)

  pub item_delete_keeps : OnOk r (DeletesItem number stripe key stamp view now) → kept_of now ≡ kept_of view
  item_delete_keeps did = by r refl did

  none : (s : Result (Unit {0}) CompareDeleteError) → r ≡ s → OnErr s (RecordsNoCall view now)
  none (Ok done) is = tt
  none (Err (NoMemory refused)) is = told_none stripe view now (full is)
  none (Err (Differs found)) is = told_none stripe view now (differs found is)

  pub item_delete_tells : OnErr r (RecordsNoCall view now)
  item_delete_tells = none r refl
