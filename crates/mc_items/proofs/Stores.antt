-- An item that is linked in place of the one that its key had.
use Rattle.std.proofs.Common.{◌≡◌, ℕ, Bool, true, false, ◌||◌, List, [], ◌∷◌, Option, Some, None, refl, ap, sym, ◌∙◌, cond, nat_eq, slice_index_or, slice_set, is_some, if◌then◌else◌, ◌++◌}
use Rattle.std.specs.Option.{option_map}
use Rattle.std.proofs.lemmas.Option.{none-some}
use Rattle.std.proofs.lemmas.List.{set-get_or}
use Rattle.mc_pages.specs.declared.ids.ChunkId.{ChunkId}
use Rattle.mc_stripe.specs.Entries.{AreRising, entry_at, without_entry}
use Rattle.mc_stripe.proofs.Entries.{at_without_entry, nat_eq_same}
use Rattle.mc_core.specs.run.Items.{is_none_else_aside}
use Rattle.mc_stripe.specs.StripeState.{Index, ReadyStripe, chunk_and_stamp}
use Rattle.mc_core.specs.declared.holding.Holding.{Holding}
use Rattle.mc_core.specs.model.Holdings.{has_fresh, holding_of, is_fresh, is_of_chunk}
use Rattle.mc_words.specs.hand.View.{View}
use Rattle.mc_core.specs.model.Holdings.{has_fresh}
use Rattle.mc_core.specs.declared.event.Step.TheVariants as step
use Rattle.mc_words.specs.item.Calls.{key_deleted, key_lifted, key_unlinked}
use Rattle.mc_words.specs.hand.Views.{with_event}
use Rattle.mc_words.specs.hand.View.{made}
use Rattle.mc_items.specs.Storing.{key_put_aside, stripe_lifted}

or_true : (b : Bool) → (b || true) ≡ true
or_true true = refl
or_true false = refl

-- a hand with a fresh chunk fills one
pub fresh_among : (chunk : ChunkId) (holdings : List Holding) (holding : Holding) → holding_of chunk holdings ≡ Some holding → is_fresh holding ≡ true → has_fresh holdings ≡ true
fresh_among chunk [] holding found fresh = absurd (none-some holding found)
fresh_among chunk (first ∷ holdings) holding found fresh = by (is_of_chunk chunk first) found (fresh_among chunk holdings holding)
  where
    by : (test : Bool) → cond test (Some first) (holding_of chunk holdings) ≡ Some holding → (holding_of chunk holdings ≡ Some holding → is_fresh holding ≡ true → has_fresh holdings ≡ true) → (is_fresh first || has_fresh holdings) ≡ true
    by true found later = let same : first ≡ holding = cc in ap (λ (b : Bool). b || has_fresh holdings) (ap is_fresh same ∙ fresh)
    by false found later = ap (λ (b : Bool). is_fresh first || b) (later found fresh) ∙ or_true (is_fresh first)

-- a key that isn't there doesn't leave
not_left : (index : Index) (key : ℕ) → entry_at index key ≡ None → without_entry index key ≡ index
not_left [] key none = refl
not_left (entry ∷ index) key none = by (nat_eq key entry.0) none (not_left index key)
  where
    by : (test : Bool) → cond test (Some entry.1) (entry_at index key) ≡ None → (entry_at index key ≡ None → without_entry index key ≡ index) → cond test index (entry ∷ without_entry index key) ≡ entry ∷ index
    by true none later = absurd (cc)
    by false none later = ap (λ (es : Index). entry ∷ es) (later none)

-- no entry is put aside, where the key has none
pub none_lifted : (value : ReadyStripe) (key : ℕ) → chunk_and_stamp value.state key ≡ None → value.state.aside ≡ None → value ≡ stripe_lifted value key
none_lifted value key none whole =
    let index : without_entry value.state.index key ≡ value.state.index = not_left value.state.index key none in
    let aside : option_map (λ (place : ChunkId × ℕ). (key, place)) (chunk_and_stamp value.state key) ≡ value.state.aside = ap (option_map (λ (place : ChunkId × ℕ). (key, place))) none ∙ sym whole in
    λ k. record value { state = record { index = sym index k; aside = sym aside k; history = value.state.history; recorded_from = value.state.recorded_from } }

pub nothing_lifted : (stripe : ℕ) (value : ReadyStripe) (key : ℕ) (view : View) → slice_index_or view.stripes stripe None ≡ Some value → chunk_and_stamp value.state key ≡ None → value.state.aside ≡ None → view ≡ key_lifted stripe value key view
nothing_lifted stripe value key view mine none whole =
    ap (λ (all : List (Option ReadyStripe)). record view { stripes = all }) (sym (set-get_or view.stripes stripe None) ∙ ap (λ (o : Option ReadyStripe). slice_set view.stripes stripe o) (mine ∙ ap Some (none_lifted value key none whole)))

-- nothing is put aside, and nothing is done
pub nothing_aside : (stripe : ℕ) (value : ReadyStripe) (key : ℕ) (view : View) → slice_index_or view.stripes stripe None ≡ Some value → chunk_and_stamp value.state key ≡ None → value.state.aside ≡ None → view ≡ key_put_aside stripe value key view
nothing_aside stripe value key view mine none whole =
    nothing_lifted stripe value key view mine none whole
    ∙ ap (λ (o : Option (ChunkId × ℕ)). record (key_lifted stripe value key view) { events = if is_some o then view.events ++ made [] (step.Unlink key) ∷ [] else view.events }) (sym none)

-- an entry that is there is put aside by one event
pub some_aside : (number stripe : ℕ) (value : ReadyStripe) (key : ℕ) (view now : View) → has_fresh view.row.holdings ≡ true → is_some (chunk_and_stamp value.state key) ≡ true → now ≡ key_unlinked number stripe value key view → now ≡ key_put_aside stripe value key view
some_aside number stripe value key view now fresh there is =
    is ∙ (ap (λ (b : Bool). with_event [] (step.Unlink key) (if b then key_lifted stripe value key view else key_deleted number stripe value key true view)) fresh
    ∙ ap (λ (b : Bool). record (key_lifted stripe value key view) { events = if b then view.events ++ made [] (step.Unlink key) ∷ [] else view.events }) (sym there))

pub none_from : {A : Type 0} (o : Option A) → is_some o ≡ false → o ≡ None
none_from None none = refl
none_from (Some a) none = absurd (cc)

-- a key whose entry is aside leads nowhere
pub lifted_nowhere : (value : ReadyStripe) (key : ℕ) → AreRising value.state.index → chunk_and_stamp (stripe_lifted value key).state key ≡ None
lifted_nowhere value key rising = at_without_entry value.state.index key key rising ∙ ap (λ (b : Bool). cond b None (entry_at value.state.index key)) (nat_eq_same key key refl)

-- and no other key is aside
pub lifted_alone : (value : ReadyStripe) (key : ℕ) → is_none_else_aside (stripe_lifted value key).state key ≡ true
lifted_alone value key = by (chunk_and_stamp value.state key)
  where
    by : (found : Option (ChunkId × ℕ)) → is_none_else_aside (record (stripe_lifted value key).state { aside = option_map (λ (place : ChunkId × ℕ). (key, place)) found }) key ≡ true
    by None = refl
    by (Some place) = nat_eq_same key key refl
