-- A key that is deleted, from the parts of the call.
use Rattle.std.proofs.Common.{◌≡◌, ℕ, [], ◌+◌, Bool, true, false, ◌&&◌, if◌then◌else◌, is_some, refl, ap, ◌∙◌, Result, Ok, Err, IfOk, OnErr}
use Rattle.mc_stripe.specs.StripeState.{ReadyStripe, chunk_and_stamp}
use Rattle.mc_stripe.specs.Changes.{after_unlink, used_up, after_reserve_call}
use Rattle.mc_core.specs.model.Holdings.{has_fresh}
use Rattle.mc_words.specs.lock.Doing.{UsesRoomForCall}
use Rattle.mc_words.specs.hand.View.{View}
use Rattle.mc_words.specs.item.Calls.{key_deleted, key_lifted, key_not_deleted, key_unlinked}
use Rattle.mc_core.specs.declared.event.Step.TheVariants as step
use Rattle.mc_words.specs.hand.Views.{stripe_given, call_reserved, with_event}
use Rattle.mc_items.specs.Calls.{Deletes}

-- a hand that fills no chunk deletes what it unlinks
pub deleted_is : (number stripe : ℕ) (value : ReadyStripe) (key : ℕ) (there : Bool) (made now : View) → has_fresh made.row.holdings ≡ false
    → (there ≡ true → now ≡ key_unlinked number stripe value key made) → (there ≡ false → now ≡ key_not_deleted number stripe value key made)
    → now ≡ (if there then with_event [] (step.Unlink key) (key_deleted number stripe value key true made) else key_not_deleted number stripe value key made)
deleted_is number stripe value key true made now fresh hit miss = hit refl ∙ ap (λ (b : Bool). with_event [] (step.Unlink key) (if b then key_lifted stripe value key made else key_deleted number stripe value key true made)) fresh
deleted_is number stripe value key false made now fresh hit miss = miss refl

pub and_false : (b : Bool) → (b && false) ≡ false
and_false true = refl
and_false false = refl

-- the call
pub deleted_done : (number stripe : ℕ) (value : ReadyStripe) (key : ℕ) (there : Bool) (view made got now : View) (number' stripe' stripe'' : ℕ) (ready left : ReadyStripe) → number' ≡ number → stripe' ≡ stripe → stripe'' ≡ stripe → ready ≡ after_reserve_call value
    → made ≡ call_reserved stripe value (number + 1) view → there ≡ is_some (chunk_and_stamp ready.state key)
    → got ≡ (if there then with_event [] (step.Unlink key) (key_deleted number' stripe' ready key true made) else key_not_deleted number' stripe' ready key made) → left ≡ used_up (after_unlink ready.state number' key) → now ≡ stripe_given stripe'' left got
    → UsesRoomForCall number stripe value (Deletes number stripe key there) view now
deleted_done number stripe value key there view made got now number' stripe' stripe'' ready left numbers stripes stripes' readies mades was gots lefts given = record {
  left = left;
  last = got;
  does = (
    was ∙ ap (λ (v : ReadyStripe). is_some (chunk_and_stamp v.state key)) readies,
    gots ∙ (λ k. if there then with_event [] (step.Unlink key) (key_deleted (numbers k) (stripes k) (readies k) key true (mades k)) else key_not_deleted (numbers k) (stripes k) (readies k) key (mades k)),
    lefts ∙ (λ k. used_up (after_unlink (readies k).state (numbers k) key)),
  );
  given = given ∙ ap (λ n. stripe_given n left got) stripes';
}

-- what follows from an answer, in each case
pub ok_map : {A E : Type 0} (P Q : A → Type 0) (r : Result A E) → ((a : A) → P a → Q a) → IfOk r P → IfOk r Q
ok_map P Q (Ok a) next holds = next a holds
ok_map P Q (Err e) next holds = tt

pub err_map : {A E : Type 0} (P Q : Type 0) (r : Result A E) → (P → Q) → OnErr r P → OnErr r Q
err_map P Q (Ok a) next holds = tt
err_map P Q (Err e) next holds = next holds
