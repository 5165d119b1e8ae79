-- Each call keeps that the history is legal and makes the index.
use Rattle.std.proofs.Common.{◌≡◌, ◌≢◌, ◌≤◌, ℕ, nat_eq, true, cond, List, [], ◌∷◌, ◌++◌, is_some, is_none, IfSome, IsSome, Option, Some, None, refl, sym, ap, ◌∙◌, arith, length}
use Rattle.std.proofs.lemmas.List.{length-append}
use Rattle.std.specs.Option.{option_map, option_map_or, option_eq}
use Rattle.mc_pages.specs.declared.ids.ChunkId.{ChunkId}
use Rattle.mc_stripe.specs.declared.history.Call.{Call}
use Rattle.mc_stripe.specs.declared.history.Call.TheVariants.{Set, Get, Delete, Evict, Rescue}
use Rattle.mc_stripe.specs.Entries.{entry_at, with_entry, without_entry, AreRising}
use Rattle.mc_stripe.specs.History.{Stamps, is_reply_right, stamps_after, stamps_after_calls}
use Rattle.mc_stripe.specs.Recorded.{count_trimmed, recorded_behind}
use Rattle.mc_stripe.specs.StripeState.{Index, StripeState, new_stripe, key_aside, chunk_and_stamp, stamp_of_key, with_aside, index_stamps, stamps_of}
use Rattle.mc_stripe.specs.Changes.{after_link, after_unlink, after_got, after_evict, after_lift, after_rescue, stripe_after_trim, after_forget, stamp_aside}
use Rattle.mc_stripe.specs.Legal.{IsLegal}
use Rattle.mc_stripe.proofs.Entries.{by_equal, nat_eq_same, nat_eq_other, at_with_entry, at_without_entry, rising_with_entry, rising_without_entry}
use Rattle.mc_stripe.proofs.Stamps.{Place, stamps-with_entry, stamps-without_entry, stamp_at, with_entry_twice, with_entry_again, with_entry_without}
use Rattle.mc_stripe.proofs.Histories.{replay-push}

pub IsLegal-new : IsLegal new_stripe.state
IsLegal-new = record { rising = tt; apart = λ entry is. absurd cc; replayed = refl; trimmed = omega arith }

-- one more call, of which no more are trimmed
trimmed-told : (history : List Call) (call : Call) (from : Option ℕ) → count_trimmed history from ≤ length history → count_trimmed (history ++ call ∷ []) from ≤ length (history ++ call ∷ [])
trimmed-told history call None none = omega arith
trimmed-told history call (Some from) within_limit = omega (arith, within_limit, length-append history (call ∷ []))

-- all that there were are trimmed, if any are recorded
all_trimmed : (history : List Call) (from : Option ℕ) → count_trimmed history (recorded_behind from (length history)) ≤ length history
all_trimmed history None = omega arith
all_trimmed history (Some from) = omega arith

pub IsLegal-after_trim : (stripe : StripeState) → IsLegal stripe → IsLegal (stripe_after_trim stripe)
IsLegal-after_trim stripe legal = record { rising = legal.rising; apart = legal.apart; replayed = legal.replayed; trimmed = all_trimmed stripe.history stripe.recorded_from }

pub IsLegal-after_forget : (stripe : StripeState) → IsLegal stripe → IsLegal (after_forget stripe)
IsLegal-after_forget stripe legal = record { rising = legal.rising; apart = legal.apart; replayed = legal.replayed; trimmed = omega arith }

-- one more call, whose reply is right
replayed-told : (start stamps after : Stamps) (history : List Call) (call : Call) → stamps_after_calls start history ≡ Some stamps → is_reply_right call stamps ≡ true → stamps_after call stamps ≡ after → stamps_after_calls start (history ++ call ∷ []) ≡ Some after
replayed-told start stamps after history call h fit leaves = replay-push start stamps history call h fit ∙ ap (λ (s : Stamps). Some s) leaves

-- a reply that tells what is there is right
found_is_found : (found : Option ℕ) → option_eq nat_eq found found ≡ true
found_is_found None = refl
found_is_found (Some stamp) = nat_eq_same stamp stamp refl

there_is_there : (found : Option ℕ) → cond (is_some found) (is_some found) (is_none found) ≡ true
there_is_there None = refl
there_is_there (Some stamp) = refl

is_some-map : (found : Option Place) → is_some (option_map (λ (place : Place). place.1) found) ≡ is_some found
is_some-map None = refl
is_some-map (Some place) = refl

-- a key that isn't aside has the stamp that the index has
stamp_known : (index : Index) (aside : Option (ℕ × Place)) (key : ℕ) → IfSome (option_map (λ (entry : ℕ × Place). entry.0) aside) (λ other. other ≢ key) → entry_at (index_stamps (with_aside index aside)) key ≡ option_map (λ (place : Place). place.1) (entry_at index key)
stamp_known index None key apart = stamp_at index key
stamp_known index (Some entry) key apart =
    stamp_at (with_entry index entry.0 entry.1) key
    ∙ ap (option_map (λ (place : Place). place.1)) (at_with_entry index entry.0 entry.1 key ∙ rw (nat_eq_other key entry.0 (λ is. apart (sym is))) refl)

-- what is left of the stamps without a key that isn't aside
stamps_without : (index : Index) (aside : Option (ℕ × Place)) (key : ℕ) → AreRising index → IfSome (option_map (λ (entry : ℕ × Place). entry.0) aside) (λ other. other ≢ key) → without_entry (index_stamps (with_aside index aside)) key ≡ index_stamps (with_aside (without_entry index key) aside)
stamps_without index None key rising apart = sym (stamps-without_entry index key)
stamps_without index (Some entry) key rising apart = sym (stamps-without_entry (with_entry index entry.0 entry.1) key) ∙ ap index_stamps (sym (with_entry_without index entry.0 key entry.1 rising apart))

-- the stamps with a key that is new or aside
stamps_with : (index : Index) (aside : Option (ℕ × Place)) (key : ℕ) (place : Place) → AreRising index → IfSome (option_map (λ (entry : ℕ × Place). entry.0) aside) (λ other. other ≡ key) → with_entry (index_stamps (with_aside index aside)) key place.1 ≡ index_stamps (with_entry index key place)
stamps_with index None key place rising same = sym (stamps-with_entry index key place)
stamps_with index (Some entry) key place rising same =
    sym (stamps-with_entry (with_entry index entry.0 entry.1) key place)
    ∙ ap index_stamps (ap (λ (k : ℕ). with_entry (with_entry index k entry.1) key place) same ∙ with_entry_twice index key entry.1 place rising)

pub IsLegal-after_link : (stripe : StripeState) (hand key : ℕ) (chunk : ChunkId) (stamp : ℕ) → IsLegal stripe → IfSome (key_aside stripe) (λ other. other ≡ key) → IsLegal (after_link stripe hand key chunk stamp)
IsLegal-after_link stripe hand key chunk stamp legal same = record {
  rising = rising_with_entry stripe.index key (chunk, stamp) legal.rising;
  apart = λ entry is. absurd cc;
  replayed = replayed-told [] (stamps_of stripe) _ stripe.history (Set hand key stamp) legal.replayed refl (stamps_with stripe.index stripe.aside key (chunk, stamp) legal.rising same);
  trimmed = trimmed-told stripe.history _ stripe.recorded_from legal.trimmed;
}

-- the key aside isn't in what is left of the index
apart_without : (stripe : StripeState) (key : ℕ) → IsLegal stripe → (entry : ℕ × Place) → stripe.aside ≡ Some entry → entry_at (without_entry stripe.index key) entry.0 ≡ None
apart_without stripe key legal entry is =
    at_without_entry stripe.index key entry.0 legal.rising
    ∙ by_equal entry.0 key (λ here _. rw here refl) (λ elsewhere _. rw elsewhere (legal.apart entry is))

pub IsLegal-after_unlink : (stripe : StripeState) (hand key : ℕ) → IsLegal stripe → IfSome (key_aside stripe) (λ other. other ≢ key) → IsLegal (after_unlink stripe hand key)
IsLegal-after_unlink stripe hand key legal apart =
    let known = stamp_known stripe.index stripe.aside key apart in
    let call = Delete hand key (is_some (chunk_and_stamp stripe key)) in
    let fit : is_reply_right call (stamps_of stripe) ≡ true = rw (known, sym (is_some-map (chunk_and_stamp stripe key))) (there_is_there (stamp_of_key stripe key)) in
    record {
      rising = rising_without_entry stripe.index key legal.rising;
      apart = apart_without stripe key legal;
      replayed = replayed-told [] (stamps_of stripe) _ stripe.history call legal.replayed fit (stamps_without stripe.index stripe.aside key legal.rising apart);
      trimmed = trimmed-told stripe.history _ stripe.recorded_from legal.trimmed;
    }

pub IsLegal-after_got : (stripe : StripeState) (hand key : ℕ) → IsLegal stripe → IfSome (key_aside stripe) (λ other. other ≢ key) → IsLegal (after_got stripe hand key)
IsLegal-after_got stripe hand key legal apart =
    let call = Get hand key (stamp_of_key stripe key) in
    let fit : is_reply_right call (stamps_of stripe) ≡ true = rw (stamp_known stripe.index stripe.aside key apart) (found_is_found (stamp_of_key stripe key)) in
    record {
      rising = legal.rising;
      apart = legal.apart;
      replayed = replayed-told [] (stamps_of stripe) _ stripe.history call legal.replayed fit refl;
      trimmed = trimmed-told stripe.history _ stripe.recorded_from legal.trimmed;
    }

-- what is there isn't missing
missing : (found : Option Place) → found ≡ None → IsSome found → ⊥
missing None is there = cc
missing (Some place) is there = cc

-- a key of the index isn't aside
pub not_aside : (index : Index) (aside : Option (ℕ × Place)) (key : ℕ) → ((entry : ℕ × Place) → aside ≡ Some entry → entry_at index entry.0 ≡ None) → IsSome (entry_at index key) → IfSome (option_map (λ (entry : ℕ × Place). entry.0) aside) (λ other. other ≢ key)
not_aside index None key apart there = tt
not_aside index (Some entry) key apart there = λ is. missing (entry_at index key) (ap (entry_at index) (sym is) ∙ apart entry refl) there

pub IsLegal-after_evict : (stripe : StripeState) (hand key : ℕ) → IsLegal stripe → IsSome (chunk_and_stamp stripe key) → IsLegal (after_evict stripe hand key)
IsLegal-after_evict stripe hand key legal there =
    let apart = not_aside stripe.index stripe.aside key legal.apart there in
    let fit : is_reply_right (Evict hand key) (stamps_of stripe) ≡ true = rw (stamp_known stripe.index stripe.aside key apart) (is_some-map (chunk_and_stamp stripe key) ∙ there) in
    record {
      rising = rising_without_entry stripe.index key legal.rising;
      apart = apart_without stripe key legal;
      replayed = replayed-told [] (stamps_of stripe) _ stripe.history (Evict hand key) legal.replayed fit (stamps_without stripe.index stripe.aside key legal.rising apart);
      trimmed = trimmed-told stripe.history _ stripe.recorded_from legal.trimmed;
    }

-- an entry that was lifted counts in as before
lifted_counts : (index : Index) (key : ℕ) (found : Option Place) → AreRising index → entry_at index key ≡ found → IsSome found → with_aside (without_entry index key) (option_map (λ (place : Place). (key, place)) found) ≡ index
lifted_counts index key None rising is there = absurd (missing None refl there)
lifted_counts index key (Some place) rising is there = with_entry_again index key place rising is

-- the key of the entry that was lifted
lifted_key : (key : ℕ) (entry : ℕ × Place) (found : Option Place) → option_map (λ (place : Place). (key, place)) found ≡ Some entry → entry.0 ≡ key
lifted_key key entry None is = absurd cc
lifted_key key entry (Some place) is = let same : (key, place) ≡ entry = cc in ap (λ (e : ℕ × Place). e.0) (sym same)

pub IsLegal-after_lift : (stripe : StripeState) (key : ℕ) → IsLegal stripe → IsSome (chunk_and_stamp stripe key) → stripe.aside ≡ None → IsLegal (after_lift stripe key)
IsLegal-after_lift stripe key legal there none =
    record {
      rising = rising_without_entry stripe.index key legal.rising;
      apart = λ entry is. at_without_entry stripe.index key entry.0 legal.rising ∙ rw (nat_eq_same entry.0 key (lifted_key key entry (chunk_and_stamp stripe key) is)) refl;
      replayed = legal.replayed ∙ ap (λ (index : Index). Some (index_stamps index)) (ap (with_aside stripe.index) none ∙ sym (lifted_counts stripe.index key (chunk_and_stamp stripe key) legal.rising refl there));
      trimmed = legal.trimmed;
    }

-- the stamps with the entry aside in another chunk
stamps_rescued : (index : Index) (aside : Option (ℕ × Place)) (key : ℕ) (chunk : ChunkId) → option_map (λ (entry : ℕ × Place). entry.0) aside ≡ Some key → index_stamps (with_aside index aside) ≡ index_stamps (with_entry index key (chunk, option_map_or (λ (entry : ℕ × Place). entry.1.1) aside 0))
stamps_rescued index None key chunk is = absurd cc
stamps_rescued index (Some entry) key chunk is =
    let same : entry.0 ≡ key = cc in
    stamps-with_entry index entry.0 entry.1 ∙ (ap (λ (k : ℕ). with_entry (index_stamps index) k entry.1.1) same ∙ sym (stamps-with_entry index key (chunk, entry.1.1)))

-- the key aside has a stamp
aside_has_stamp : (index : Index) (aside : Option (ℕ × Place)) (key : ℕ) → option_map (λ (entry : ℕ × Place). entry.0) aside ≡ Some key → is_some (entry_at (index_stamps (with_aside index aside)) key) ≡ true
aside_has_stamp index None key is = absurd cc
aside_has_stamp index (Some entry) key is =
    let same : entry.0 ≡ key = cc in
    ap is_some (stamp_at (with_entry index entry.0 entry.1) key)
    ∙ (is_some-map (entry_at (with_entry index entry.0 entry.1) key)
    ∙ rw (at_with_entry index entry.0 entry.1 key, nat_eq_same key entry.0 (sym same)) refl)

pub IsLegal-after_rescue : (stripe : StripeState) (hand key : ℕ) (chunk : ChunkId) → IsLegal stripe → key_aside stripe ≡ Some key → IsLegal (after_rescue stripe hand key chunk)
IsLegal-after_rescue stripe hand key chunk legal is = record {
  rising = rising_with_entry stripe.index key (chunk, stamp_aside stripe) legal.rising;
  apart = λ entry none. absurd cc;
  replayed = replayed-told [] (stamps_of stripe) _ stripe.history (Rescue hand key) legal.replayed (aside_has_stamp stripe.index stripe.aside key is) (stamps_rescued stripe.index stripe.aside key chunk is);
  trimmed = trimmed-told stripe.history _ stripe.recorded_from legal.trimmed;
}
