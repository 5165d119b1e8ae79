-- The index as one function from keys: what the law asks of it, and what a write to one stripe makes of it.
use Rattle.std.proofs.Common.{◌≡◌, ℕ, ◌%◌, ◌<◌, ◌≤◌, true, cond, nat_eq, List, length, Option, Some, refl, sym, ap, ◌∙◌, arith, slice_get, slice_set, slice_index, slice_index_or, inl, inr, length-set, get_or-set_same, get_or-set_other}
use Rattle.std.proofs.lemmas.Bool.{cases_eq}
use Rattle.std.proofs.lemmas.Option.{slice_get-get_or, slice_get_within, get_or_from_slice_get}
use Rattle.mc_classes.specs.Classes.{Classes}
use Rattle.mc_pages.specs.declared.ids.ChunkId.{ChunkId}
use Rattle.mc_pages.specs.SlabState.{SlabState}
use Rattle.mc_stripe.specs.StripeState.{ReadyStripe, new_stripe, chunk_and_stamp}
use Rattle.mc_stripe.proofs.Entries.{by_equal}
use Rattle.mc_core.specs.declared.head.Head.{Head}
use Rattle.mc_core.specs.declared.head.Tag.TheVariants.{Linked}
use Rattle.mc_core.specs.model.State.{has_chunk}
use Rattle.mc_core.specs.model.Columns.{head_in, place_in}
use Rattle.mc_core.specs.law.Indexed.{IsEntry, stripe_for, AreIndexed}

-- where a key leads
abbrev pub leads : List ReadyStripe → ℕ → Option (ChunkId × ℕ)
leads stripes key = chunk_and_stamp (stripe_for stripes key).state key

-- no key is in another's stripe
abbrev pub AreOwn : List ReadyStripe → Type 0
AreOwn stripes = (stripe key : ℕ) (value : ReadyStripe) (place : ChunkId × ℕ) → slice_get stripes stripe ≡ Some value → chunk_and_stamp value.state key ≡ Some place → key % length stripes ≡ stripe

-- a word of a chunk
abbrev pub word_of : Classes → SlabState → List ℕ → ChunkId → ℕ → ℕ
word_of table slabs words chunk place = slice_index words (place_in table slabs chunk place)

module _ (table : Classes) (slabs : SlabState) (heads : List Head) (words : List ℕ) (stripes : List ReadyStripe) where
  pub own_from : AreIndexed table slabs heads words stripes → AreOwn stripes
  own_from indexed = λ stripe key value place at leads. (indexed.entries stripe key place.1 value place.0 at leads).0

  -- what the law asks, by keys
  pub indexed_from : AreOwn stripes → ((key stamp : ℕ) (chunk : ChunkId) → leads stripes key ≡ Some (chunk, stamp) → IsEntry table slabs heads words key stamp chunk) →
      ((chunk : ChunkId) → has_chunk table chunk ≡ true → (head_in table heads chunk).tag ≡ Linked → leads stripes (word_of table slabs words chunk 0) ≡ Some (chunk, word_of table slabs words chunk 1)) →
      AreIndexed table slabs heads words stripes
  indexed_from own entry linked = record {
    entries = λ stripe key stamp value chunk at there.
        let here = own stripe key value (chunk, stamp) at there in
        let same : stripe_for stripes key ≡ value = ap (λ n. slice_index_or stripes n new_stripe) here ∙ get_or_from_slice_get stripes stripe value new_stripe at in
        (here, entry key stamp chunk (ap (λ (v : ReadyStripe). chunk_and_stamp v.state key) same ∙ there));
    linked = linked;
  }

  pub entry_from : 1 ≤ length stripes → AreIndexed table slabs heads words stripes → (key stamp : ℕ) (chunk : ChunkId) → leads stripes key ≡ Some (chunk, stamp) → IsEntry table slabs heads words key stamp chunk
  entry_from some indexed key stamp chunk there =
      (indexed.entries (key % length stripes) key stamp (stripe_for stripes key) chunk (slice_get-get_or stripes (key % length stripes) new_stripe (omega arith)) there).1

-- one stripe is written
module _ (stripes : List ReadyStripe) (at : ℕ) (value : ReadyStripe) (within : at < length stripes) where
  abbrev next : List ReadyStripe
  next = slice_set stripes at value

  leads_here : (key : ℕ) → key % length stripes ≡ at → leads next key ≡ chunk_and_stamp value.state key
  leads_here key here =
      let place : key % length next ≡ at = ap (λ n. key % n) (length-set stripes at value) ∙ here in
      ap (λ (v : ReadyStripe). chunk_and_stamp v.state key) (ap (λ n. slice_index_or next n new_stripe) place ∙ get_or-set_same stripes at value new_stripe within)

  leads_there : (key : ℕ) → (key % length stripes ≡ at → ⊥) → leads next key ≡ leads stripes key
  leads_there key apart =
      let place : key % length next ≡ key % length stripes = ap (λ n. key % n) (length-set stripes at value) in
      ap (λ (v : ReadyStripe). chunk_and_stamp v.state key) (ap (λ n. slice_index_or next n new_stripe) place ∙ get_or-set_other stripes at (key % length stripes) value new_stripe apart)

  own_after : AreOwn stripes → ((key : ℕ) (place : ChunkId × ℕ) → chunk_and_stamp value.state key ≡ Some place → key % length stripes ≡ at) → AreOwn next
  own_after own here = λ stripe key v place is there.
      let count = length-set stripes at value in
      let inside = slice_get_within next stripe v is in
      let read : slice_index_or next stripe new_stripe ≡ v = get_or_from_slice_get next stripe v new_stripe is in
      ap (λ n. key % n) count ∙ elim (cases_eq stripe at) [
        | inl same ↦
            let written : value ≡ v = sym (get_or-set_same stripes at value new_stripe within) ∙ (ap (λ n. slice_index_or next n new_stripe) (sym same) ∙ read) in
            here key place (ap (λ (v : ReadyStripe). chunk_and_stamp v.state key) written ∙ there) ∙ sym same
        | inr apart ↦
            let old : slice_index_or stripes stripe new_stripe ≡ v = sym (get_or-set_other stripes at stripe value new_stripe apart) ∙ read in
            own stripe key v place (slice_get-get_or stripes stripe new_stripe (omega arith) ∙ ap Some old) there
      ]

-- one stripe is written, and all its keys lead where they led
pub same_leads : (stripes : List ReadyStripe) (at : ℕ) (value : ReadyStripe) → at < length stripes → ((key : ℕ) → chunk_and_stamp value.state key ≡ chunk_and_stamp (slice_index_or stripes at new_stripe).state key) →
    (key : ℕ) → leads (slice_set stripes at value) key ≡ leads stripes key
same_leads stripes at value within same key = elim (cases_eq (key % length stripes) at) [
  | inl here ↦ leads_here stripes at value within key here ∙ (same key ∙ ap (λ n. chunk_and_stamp (slice_index_or stripes n new_stripe).state key) (sym here))
  | inr apart ↦ leads_there stripes at value within key apart
]

pub same_own : (stripes : List ReadyStripe) (at : ℕ) (value : ReadyStripe) → at < length stripes → ((key : ℕ) → chunk_and_stamp value.state key ≡ chunk_and_stamp (slice_index_or stripes at new_stripe).state key) → AreOwn stripes → AreOwn (slice_set stripes at value)
same_own stripes at value within same own =
    own_after stripes at value within own (λ key place there. own at key (slice_index_or stripes at new_stripe) place (slice_get-get_or stripes at new_stripe within) (sym (same key) ∙ there))

-- the stripe of a key is written, and that key alone leads elsewhere
module _ (stripes : List ReadyStripe) (some : 1 ≤ length stripes) (changed : ℕ) (value : ReadyStripe) (now : Option (ChunkId × ℕ))
    (gives : (key : ℕ) → chunk_and_stamp value.state key ≡ cond (nat_eq key changed) now (chunk_and_stamp (stripe_for stripes changed).state key)) where
  within : changed % length stripes < length stripes
  within = omega arith

  pub one_leads : (key : ℕ) → leads (slice_set stripes (changed % length stripes) value) key ≡ cond (nat_eq key changed) now (leads stripes key)
  one_leads key = elim (cases_eq (key % length stripes) (changed % length stripes)) [
    | inl here ↦ leads_here stripes (changed % length stripes) value within key here
        ∙ (gives key ∙ ap (λ n. cond (nat_eq key changed) now (chunk_and_stamp (slice_index_or stripes n new_stripe).state key)) (sym here))
    | inr apart ↦ leads_there stripes (changed % length stripes) value within key apart
        ∙ by_equal key changed (λ _ is. absurd (apart (ap (λ n. n % length stripes) is))) (λ other _. rw other refl)
  ]

  pub one_own : AreOwn stripes → AreOwn (slice_set stripes (changed % length stripes) value)
  one_own own = own_after stripes (changed % length stripes) value within own
      (λ key place there. by_equal key changed (λ _ is. ap (λ n. n % length stripes) is)
      (λ other _. own (changed % length stripes) key (stripe_for stripes changed) place (slice_get-get_or stripes (changed % length stripes) new_stripe within)
      (sym (gives key ∙ rw other refl) ∙ there)))
