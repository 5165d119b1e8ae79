-- Stripes: their entries are the linked chunks, and their histories are legal.
use Rattle.std.specs.Prelude.{true, ◌≡◌, ℕ, ◌+◌, ◌%◌, ◌≤◌, List, length, slice_get, slice_index, slice_index_or, Some, None, All}
use Rattle.mc_classes.specs.Classes.{Classes}
use Rattle.mc_pages.specs.declared.ids.ChunkId.{ChunkId}
use Rattle.mc_pages.specs.SlabState.{SlabState, class_of_page}
use Rattle.mc_stripe.specs.StripeState.{ReadyStripe, new_stripe, chunk_and_stamp}
use Rattle.mc_stripe.specs.Legal.{IsLegal}
use Rattle.mc_core.specs.declared.head.Head.{Head}
use Rattle.mc_core.specs.declared.head.Tag.TheVariants.{Linked}
use Rattle.mc_core.specs.model.State.{room_in, has_chunk}
use Rattle.mc_core.specs.model.Columns.{head_in, place_in}

-- the chunk is linked, its first words are the key and the stamp, and its item fits
pub record IsEntry (table : Classes) (slabs : SlabState) (heads : List Head) (words : List ℕ) (key stamp : ℕ) (chunk : ChunkId) : Type 0 where
  pub inside : has_chunk table chunk ≡ true
  pub linked : (head_in table heads chunk).tag ≡ Linked
  pub same_key : slice_index words (place_in table slabs chunk 0) ≡ key
  pub same_stamp : slice_index words (place_in table slabs chunk 1) ≡ stamp
  pub fits : 3 + slice_index words (place_in table slabs chunk 2) ≤ room_in table (class_of_page slabs chunk.page)

-- the stripe of a key
abbrev pub stripe_for : List ReadyStripe → ℕ → ReadyStripe
stripe_for stripes key = slice_index_or stripes (key % length stripes) new_stripe

-- index: the entries of the stripes are the linked chunks, each in its key's stripe
pub record AreIndexed (table : Classes) (slabs : SlabState) (heads : List Head) (words : List ℕ) (stripes : List ReadyStripe) : Type 0 where
  pub entries : (stripe key stamp : ℕ) (value : ReadyStripe) (chunk : ChunkId) → slice_get stripes stripe ≡ Some value → chunk_and_stamp value.state key ≡ Some (chunk, stamp) →
      (key % length stripes ≡ stripe) × IsEntry table slabs heads words key stamp chunk
  pub linked : (chunk : ChunkId) → has_chunk table chunk ≡ true → (head_in table heads chunk).tag ≡ Linked →
      chunk_and_stamp (stripe_for stripes (slice_index words (place_in table slabs chunk 0))).state (slice_index words (place_in table slabs chunk 0))
      ≡ Some (chunk, slice_index words (place_in table slabs chunk 1))

-- stripes: each history is legal and makes its index. A free stripe has nothing aside, and an entry aside has a key of its stripe
pub record AreLegal (stripes : List ReadyStripe) (locks : List ℕ) : Type 0 where
  pub lock_count : length locks ≡ length stripes
  pub some : 1 ≤ length stripes
  pub legal : All (λ (value : ReadyStripe). IsLegal value.state) stripes
  pub free : (stripe : ℕ) (value : ReadyStripe) → slice_get locks stripe ≡ Some 0 → slice_get stripes stripe ≡ Some value → value.state.aside ≡ None
  pub aside : (stripe : ℕ) (value : ReadyStripe) (entry : ℕ × (ChunkId × ℕ)) → slice_get stripes stripe ≡ Some value → value.state.aside ≡ Some entry → entry.0 % length stripes ≡ stripe
