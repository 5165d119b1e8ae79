-- The entries of the stripes, and the linked chunks.
use Rattle.std.proofs.Common.{◌≡◌, ℕ, ◌%◌, true, length, Some, refl, arith, slice_get, slice_index}
use Rattle.std.proofs.lemmas.Option.{slice_get-get_or}
use Rattle.mc_pages.specs.declared.ids.ChunkId.{ChunkId}
use Rattle.mc_stripe.specs.StripeState.{new_stripe}
use Rattle.mc_core.specs.declared.head.Tag.{Tag}
use Rattle.mc_core.specs.declared.head.Tag.TheVariants.{Out, Free, Unlinked, Linked}
use Rattle.mc_core.specs.model.Head.{is_linked, is_unlinked, is_out, is_free}
use Rattle.mc_core.specs.model.State.{has_chunk}
use Rattle.mc_core.specs.run.Items.{chunk_of_key}
use Rattle.mc_core.specs.model.Columns.{head_in, place_in}
use Rattle.mc_core.specs.law.Indexed.{IsEntry, stripe_for}
use Rattle.mc_core.specs.past.Past.{Moment}
use Rattle.mc_core.specs.law.Lawful.{IsLawful}

pub tag_linked : (tag : Tag) → is_linked tag ≡ true → tag ≡ Linked
tag_linked Out is = absurd (cc)
tag_linked Free is = absurd (cc)
tag_linked Unlinked is = absurd (cc)
tag_linked Linked is = refl

pub tag_unlinked : (tag : Tag) → is_unlinked tag ≡ true → tag ≡ Unlinked
tag_unlinked Out is = absurd (cc)
tag_unlinked Free is = absurd (cc)
tag_unlinked Unlinked is = refl
tag_unlinked Linked is = absurd (cc)

pub tag_out : (tag : Tag) → is_out tag ≡ true → tag ≡ Out
tag_out Out is = refl
tag_out Free is = absurd (cc)
tag_out Unlinked is = absurd (cc)
tag_out Linked is = absurd (cc)

pub tag_free : (tag : Tag) → is_free tag ≡ true → tag ≡ Free
tag_free Out is = absurd (cc)
tag_free Free is = refl
tag_free Unlinked is = absurd (cc)
tag_free Linked is = absurd (cc)

module _ (m : Moment) (l : IsLawful m) where
  -- the stripe of a key is there
  pub stripe_there : (key : ℕ) → slice_get m.state.stripes (key % length m.state.stripes) ≡ Some (stripe_for m.state.stripes key)
  stripe_there key =
      let some = l.legal.some in
      slice_get-get_or m.state.stripes (key % length m.state.stripes) new_stripe (omega arith)

  -- where a key leads
  pub entry_of : (key : ℕ) (place : ChunkId × ℕ) → chunk_of_key m.state key ≡ Some place → IsEntry m.state.table m.state.slabs m.state.heads m.state.words key place.1 place.0
  entry_of key place found = (l.indexed.entries (key % length m.state.stripes) key place.1 (stripe_for m.state.stripes key) place.0 (stripe_there key) found).1

  -- a linked chunk is where its first word leads
  pub entry_linked : (chunk : ChunkId) → has_chunk m.state.table chunk ≡ true → (head_in m.state.table m.state.heads chunk).tag ≡ Linked →
      IsEntry m.state.table m.state.slabs m.state.heads m.state.words (slice_index m.state.words (place_in m.state.table m.state.slabs chunk 0)) (slice_index m.state.words (place_in m.state.table m.state.slabs chunk 1)) chunk
  entry_linked chunk in_range linked =
      entry_of (slice_index m.state.words (place_in m.state.table m.state.slabs chunk 0)) (chunk, slice_index m.state.words (place_in m.state.table m.state.slabs chunk 1)) (l.indexed.linked chunk in_range linked)
