-- A look-up of a key, from its parts.
use Rattle.std.proofs.Common.{◌≡◌, ℕ, ◌+◌, Option, Some, None, IfSome, refl, sym, ap, subst, ◌∙◌, Contains}
use Rattle.std.proofs.lemmas.List.Elements.{Contains-push}
use Rattle.mc_pages.specs.declared.ids.ChunkId.{ChunkId}
use Rattle.mc_stripe.specs.StripeState.{ReadyStripe, chunk_and_stamp, stamp_of_key}
use Rattle.mc_stripe.specs.Changes.{after_got, used_up, after_reserve_call}
use Rattle.mc_core.specs.declared.holding.Holding.{Holding}
use Rattle.std.specs.Option.{option_map}
use Rattle.mc_core.specs.model.Holdings as items
use Rattle.mc_core.specs.past.Past.{known_by}
use Rattle.mc_core.specs.declared.event.StripeChange.{StripeChange}
use Rattle.mc_words.specs.lock.Doing.{Doing, UsesRoomForCall, IsDoneBehind}
use Rattle.mc_words.specs.hand.View.{View}
use Rattle.mc_words.specs.item.Calls.{key_missed}
use Rattle.mc_words.specs.rule.Happens.{LawfulView}
use Rattle.mc_words.specs.item.Items.{held_item}
use Rattle.mc_words.specs.lock.Lent.{IsLentStripe}
use Rattle.mc_words.specs.lock.Wait.{WaitsForStripe}
use Rattle.mc_words.specs.item.References.{reference_to, GetsItem}
use Rattle.mc_words.specs.hand.Views.{chunk_released, stripe_given, call_reserved}
use Rattle.mc_words.proofs.Items.References.{is_item}
use Rattle.mc_words.specs.declared.item.refs.Ref.{Ref}
use Rattle.mc_items.specs.Calls.{CallsBehind, FindsStripe, LooksUp}
use Rattle.mc_items.specs.Reading.{AndReads}
use Rattle.mc_core.specs.declared.event.StripeChange.TheVariants.{Reserve}
use Rattle.mc_items.specs.Storing.{IsExpected, Stores, StoresItem}
use Rattle.mc_items.specs.declared.comparing.Expected.{Expected}

-- the item of a reference that was got is the one that the first holding of its chunk has
pub got_item : (view now : View) (number stripe : ℕ) (value : ReadyStripe) (key : ℕ) (chunk : ChunkId) (issue room : ℕ) → (gets : GetsItem view number stripe value key chunk issue room now) → LawfulView now → held_item now chunk ≡ gets.item
got_item view now number stripe value key chunk issue room gets was =
    let one : Holding = reference_to chunk issue gets.item in
    is_item now was one room refl (subst (λ (v : View). Contains v.row.holdings one) (sym gets.is) (Contains-push view.row.holdings one))
    (subst (λ (v : View). Contains v.row.knows.known (known_by room one)) (sym gets.is) (Contains-push view.row.knows.known (known_by room one)))

-- a call that found the key's item
pub found_done : (number stripe : ℕ) (value : ReadyStripe) (key : ℕ) (r : Ref) (view made got now : View) (number' stripe' stripe'' : ℕ) (ready left : ReadyStripe) → number' ≡ number → stripe' ≡ stripe → stripe'' ≡ stripe → ready ≡ after_reserve_call value
    → made ≡ call_reserved stripe value (number + 1) view → left ≡ used_up (after_got ready.state number' key) → GetsItem made number' stripe' ready key r.chunk r.issue r.room got → now ≡ stripe_given stripe'' left got
    → UsesRoomForCall number stripe value (LooksUp number stripe key (Some r)) view now
found_done number stripe value key r view made got now number' stripe' stripe'' ready left numbers stripes stripes' readies mades lefts gets given = record {
  left = left;
  last = got;
  does = (
    subst (λ (p : View × ℕ × ℕ × ReadyStripe). GetsItem p.0 p.1 p.2 p.3 key r.chunk r.issue r.room got) (λ k. (mades k, numbers k, stripes k, readies k)) gets,
    lefts ∙ (λ k. used_up (after_got (readies k).state (numbers k) key)),
  );
  given = given ∙ ap (λ n. stripe_given n left got) stripes';
}

-- a call under a lock that was waited for
pub called_on : {room : StripeChange} (Does : ℕ → ℕ → Doing) (number stripe number' stripe' : ℕ) (value : ReadyStripe) (view taken now : View) → number' ≡ number → stripe' ≡ stripe → WaitsForStripe stripe view value taken → IsLentStripe taken stripe value
    → IsDoneBehind room number' stripe' value (Does number' stripe') taken now → CallsBehind room number stripe (Does number stripe) view now
called_on {room} Does number stripe number' stripe' value view taken now numbers stripes waits lent done = record {
  value = value;
  taken = taken;
  waits = waits;
  lent = lent;
  done = subst (λ (p : ℕ × ℕ). IsDoneBehind room p.0 p.1 value (Does p.0 p.1) taken now) (λ k. (numbers k, stripes k)) done;
}

-- a store under a lock that was waited for, where the key had what was expected
pub stored_on : (expected : Expected) (number stripe key stamp : ℕ) (chunk : ChunkId) (room number' stripe' : ℕ) (value : ReadyStripe) (view taken linked now : View) → number' ≡ number → stripe' ≡ stripe → WaitsForStripe stripe view value taken → IsLentStripe taken stripe value
    → IsDoneBehind Reserve number' stripe' value (Stores number' stripe' key stamp chunk room) taken linked → IsExpected expected (stamp_of_key value.state key) → now ≡ chunk_released chunk linked → StoresItem expected number stripe key stamp chunk room view now
unfolding called_on
stored_on expected number stripe key stamp chunk room number' stripe' value view taken linked now numbers stripes waits lent done met dropped = record {
  linked = linked;
  stores = called_on (λ number stripe. Stores number stripe key stamp chunk room) number stripe number' stripe' value view taken linked numbers stripes waits lent done;
  met = met;
  dropped = dropped;
}

-- one that ran out of memory
pub only_waits : {Is : ReadyStripe → Type 0} (stripe stripe' : ℕ) (value : ReadyStripe) (view taken now : View) → stripe' ≡ stripe → WaitsForStripe stripe view value taken → IsLentStripe taken stripe value → Is value → now ≡ stripe_given stripe' value taken → FindsStripe Is stripe view now
only_waits stripe stripe' value view taken now stripes waits lent full given = record { value = value; taken = taken; waits = waits; lent = lent; full = full; given = given ∙ ap (λ n. stripe_given n value taken) stripes }

-- one that found none
none_done : (number stripe : ℕ) (value : ReadyStripe) (key : ℕ) (view made got now : View) (number' stripe' stripe'' : ℕ) (ready left : ReadyStripe) → number' ≡ number → stripe' ≡ stripe → stripe'' ≡ stripe → ready ≡ after_reserve_call value
    → made ≡ call_reserved stripe value (number + 1) view → left ≡ used_up (after_got ready.state number' key) → chunk_and_stamp ready.state key ≡ None → got ≡ key_missed number' stripe' ready key made → now ≡ stripe_given stripe'' left got
    → UsesRoomForCall number stripe value (LooksUp number stripe key None) view now
none_done number stripe value key view made got now number' stripe' stripe'' ready left numbers stripes stripes' readies mades lefts nowhere gots given = record {
  left = left;
  last = got;
  does = (
    ap (λ (v : ReadyStripe). chunk_and_stamp v.state key) (sym readies) ∙ nowhere,
    gots ∙ (λ k. key_missed (numbers k) (stripes k) (readies k) key (mades k)),
    lefts ∙ (λ k. used_up (after_got (readies k).state (numbers k) key)),
  );
  given = given ∙ ap (λ n. stripe_given n left got) stripes';
}

-- one of the two
pub looked_up : (number stripe : ℕ) (value : ReadyStripe) (key : ℕ) (found : Option Ref) (view made got now : View) (number' stripe' stripe'' : ℕ) (ready left : ReadyStripe) → number' ≡ number → stripe' ≡ stripe → stripe'' ≡ stripe → ready ≡ after_reserve_call value
    → made ≡ call_reserved stripe value (number + 1) view → left ≡ used_up (after_got ready.state number' key) → IfSome found (λ r. GetsItem made number' stripe' ready key r.chunk r.issue r.room got)
    → (found ≡ None → (chunk_and_stamp ready.state key ≡ None) × (got ≡ key_missed number' stripe' ready key made)) → now ≡ stripe_given stripe'' left got
    → UsesRoomForCall number stripe value (LooksUp number stripe key found) view now
looked_up number stripe value key (Some r) view made got now number' stripe' stripe'' ready left numbers stripes stripes' readies mades lefts gets misses given =
    found_done number stripe value key r view made got now number' stripe' stripe'' ready left numbers stripes stripes' readies mades lefts gets given
looked_up number stripe value key None view made got now number' stripe' stripe'' ready left numbers stripes stripes' readies mades lefts gets misses given =
    none_done number stripe value key view made got now number' stripe' stripe'' ready left numbers stripes stripes' readies mades lefts (misses refl).0 (misses refl).1 given

-- what follows from two facts on what is there
pub some_both : {A : Type 0} (P Q R : A → Type 0) (o : Option A) → ((a : A) → P a → Q a → R a) → IfSome o P → IfSome o Q → IfSome o R
some_both P Q R (Some a) next p q = next a p q
some_both P Q R None next p q = tt

-- the stamp that the stripe has is that of the item that was got
pub stamp_found : (value ready left : ReadyStripe) (key number' stripe' stripe'' : ℕ) (found : Option Ref) (made got last : View) → ready ≡ after_reserve_call value → last ≡ stripe_given stripe'' left got → LawfulView got
    → IfSome found (λ r. GetsItem made number' stripe' ready key r.chunk r.issue r.room got) → (found ≡ None → chunk_and_stamp ready.state key ≡ None)
    → stamp_of_key value.state key ≡ option_map (λ (r : Ref). items.stamp_in_words (held_item last r.chunk)) found
stamp_found value ready left key number' stripe' stripe'' (Some r) made got last readies given was gets misses =
    ap (λ (v : ReadyStripe). stamp_of_key v.state key) (sym readies)
    ∙ (ap (λ (o : Option (ChunkId × ℕ)). option_map (λ (p : ChunkId × ℕ). p.1) o) gets.leads
    ∙ ap Some (sym (ap (λ (v : View). items.stamp_in_words (held_item v r.chunk)) given ∙ (ap items.stamp_in_words (got_item made got number' stripe' ready key r.chunk r.issue r.room gets was) ∙ gets.stamp_is))))
stamp_found value ready left key number' stripe' stripe'' None made got last readies given was gets misses =
    ap (λ (v : ReadyStripe). stamp_of_key v.state key) (sym readies) ∙ ap (λ (o : Option (ChunkId × ℕ)). option_map (λ (p : ChunkId × ℕ). p.1) o) (misses refl)

-- what is read afterwards is read still
pub and_reads : (chunk : Option ChunkId) (P Q : View → View → Type 0) (taken view now : View) → ((got : View) → P taken got → Q view got) → AndReads chunk P taken now → AndReads chunk Q view now
and_reads None P Q taken view now to did = to now did
and_reads (Some chunk) P Q taken view now to (got, did, is) = (got, to got did, is)
