-- The stamps of an index after a change, and of an index with an entry aside.
use Rattle.std.proofs.Common.{◌≡◌, ◌≢◌, ℕ, List, [], ◌∷◌, Some, refl, sym, ap, ◌∙◌}
use Rattle.std.specs.Option.{option_map}
use Rattle.mc_pages.specs.declared.ids.ChunkId.{ChunkId}
use Rattle.mc_stripe.specs.Entries.{entry_at, with_entry, without_entry, AreRising}
use Rattle.mc_stripe.specs.StripeState.{Index, index_stamps}
use Rattle.mc_stripe.proofs.Entries.{by_order, by_equal, nat_eq_other, at_with_entry, at_without_entry, rising_with_entry, rising_without_entry, one_list}

-- what can be in an index
abbrev pub Place : Type 0
Place = ChunkId × ℕ

pub stamps-with_entry : (index : Index) (key : ℕ) (place : Place) → index_stamps (with_entry index key place) ≡ with_entry (index_stamps index) key place.1
stamps-with_entry [] key place = refl
stamps-with_entry (entry ∷ index) key place =
    by_order key entry.0
    (λ before _. rw before refl)
    (λ not_before equal _. rw (not_before, equal) refl)
    (λ not_before apart _. rw (not_before, apart) (ap (λ (es : List (ℕ × ℕ)). (entry.0, entry.1.1) ∷ es) (stamps-with_entry index key place)))

pub stamps-without_entry : (index : Index) (key : ℕ) → index_stamps (without_entry index key) ≡ without_entry (index_stamps index) key
stamps-without_entry [] key = refl
stamps-without_entry (entry ∷ index) key =
    by_equal key entry.0
    (λ here _. rw here refl)
    (λ apart _. rw apart (ap (λ (es : List (ℕ × ℕ)). (entry.0, entry.1.1) ∷ es) (stamps-without_entry index key)))

pub stamp_at : (index : Index) (key : ℕ) → entry_at (index_stamps index) key ≡ option_map (λ (place : Place). place.1) (entry_at index key)
stamp_at [] key = refl
stamp_at (entry ∷ index) key =
    by_equal key entry.0
    (λ here _. rw here refl)
    (λ apart _. rw apart (stamp_at index key))

-- what was put last counts
pub with_entry_twice : (index : Index) (key : ℕ) (first last : Place) → AreRising index → with_entry (with_entry index key first) key last ≡ with_entry index key last
with_entry_twice index key first last rising =
    one_list _ _ (rising_with_entry _ key last (rising_with_entry index key first rising)) (rising_with_entry index key last rising)
    (λ q. at_with_entry (with_entry index key first) key last q ∙ (by_equal q key
    (λ here _. rw here refl)
    (λ apart _. rw apart (at_with_entry index key first q ∙ rw apart refl)) ∙ sym (at_with_entry index key last q)))

-- an entry that was taken out and comes back
pub with_entry_again : (index : Index) (key : ℕ) (place : Place) → AreRising index → entry_at index key ≡ Some place → with_entry (without_entry index key) key place ≡ index
with_entry_again index key place rising there =
    one_list _ _ (rising_with_entry _ key place (rising_without_entry index key rising)) rising
    (λ q. at_with_entry (without_entry index key) key place q ∙ by_equal q key
    (λ here is. rw here (sym there ∙ ap (entry_at index) (sym is)))
    (λ apart _. rw apart (at_without_entry index key q rising ∙ rw apart refl)))

-- two keys that don't meet
pub with_entry_without : (index : Index) (key other : ℕ) (place : Place) → AreRising index → key ≢ other → with_entry (without_entry index other) key place ≡ without_entry (with_entry index key place) other
with_entry_without index key other place rising apart =
    one_list _ _ (rising_with_entry _ key place (rising_without_entry index other rising)) (rising_without_entry _ other (rising_with_entry index key place rising))
    (λ q. at_with_entry (without_entry index other) key place q ∙ (rw (at_without_entry index other q rising, at_with_entry index key place q) (by_equal q key
    (λ here at. rw (here, nat_eq_other q other (λ is. apart (sym at ∙ is))) refl)
    (λ elsewhere _. by_equal q other (λ there _. rw (elsewhere, there) refl) (λ nowhere _. rw (elsewhere, nowhere) refl)))
    ∙ sym (at_without_entry (with_entry index key place) other q (rising_with_entry index key place rising))))
