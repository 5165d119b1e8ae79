-- Steps that write a stripe or a word: the entries are the linked chunks still.
use Rattle.std.proofs.Common.{◌≡◌, ℕ, ◌<◌, ◌==◌, Bool, true, false, cond, nat_eq, length, Option, Some, None, refl, sym, ◌∙◌, arith, subst, slice_set, is_none, nat_lt, ltb-true}
use Rattle.std.proofs.lemmas.Bool.{and_parts}
use Rattle.mc_pages.specs.declared.ids.ChunkId.{ChunkId}
use Rattle.mc_pages.proofs.Chunks.{same_from_is_chunk}
use Rattle.mc_stripe.specs.Entries.{AreRising}
use Rattle.mc_stripe.specs.StripeState.{ReadyStripe, new_stripe, chunk_and_stamp}
use Rattle.mc_stripe.specs.Changes.{after_got, used_up}
use Rattle.mc_stripe.proofs.Entries.{at_without_entry}
use Rattle.mc_core.specs.declared.head.Tag.TheVariants.{Unlinked, Linked}
use Rattle.mc_core.specs.model.Head.{is_linked}
use Rattle.mc_core.specs.model.Holdings.{is_of_chunk, is_fresh, has_fresh, holding_of, holding_words}
use Rattle.mc_core.specs.model.State.{has_chunk, head_at, word_at, has_slabs, has_stripe, stripe_of, stripe_at, holdings_at, looks_at}
use Rattle.mc_core.specs.run.Silent.{writer_of}
use Rattle.mc_core.specs.run.Chunks.{can_fill_in, can_fill, after_fill}
use Rattle.mc_core.specs.run.Items.{head_after_refer, chunk_of_key, can_refer_to, can_refer, referred_to, with_got, after_refer, is_linked_at, can_unlink, stripe_unlinked, head_after_unlink, with_unlinked, state_after_unlink}
use Rattle.mc_core.specs.run.Evictions.{head_after_condemn, is_linked_unheld, key_at, can_lose_entry, has_copy, has_reason, can_condemn, stripe_condemned, after_condemn}
use Rattle.mc_core.specs.model.Columns.{head_in, place_in, Shows, holder_count}
use Rattle.mc_core.specs.law.Indexed.{AreIndexed}
use Rattle.mc_core.specs.past.Past.{Moment}
use Rattle.mc_core.specs.law.Lawful.{IsLawful}
use Rattle.mc_core.proofs.Steps.Base.{IsOut}
use Rattle.mc_core.proofs.Counts.Holders.{found_each, found_passes}
use Rattle.mc_core.proofs.Index.Entered.{tag_linked, entry_of}
use Rattle.mc_core.proofs.Counts.Filling.{out_each, placed_of}
use Rattle.mc_core.proofs.Index.Index.{AreOwn, own_from, same_leads, same_own}
use Rattle.mc_core.proofs.Index.IndexStays.{IsIndexed, header_indexed}
use Rattle.mc_core.proofs.Index.IndexMoves.{fewer_indexed, filled_indexed}

-- a stripe after a key left it
unlinked_gives : (stripe : ReadyStripe) (lifts : Bool) (writer key other : ℕ) → AreRising stripe.state.index → chunk_and_stamp (stripe_unlinked stripe lifts writer key).state other ≡ cond (nat_eq other key) None (chunk_and_stamp stripe.state other)
unlinked_gives stripe true writer key other rising = at_without_entry stripe.state.index key other rising
unlinked_gives stripe false writer key other rising = at_without_entry stripe.state.index key other rising

condemned_gives : (stripe : ReadyStripe) (rescues : Bool) (writer key other : ℕ) → AreRising stripe.state.index → chunk_and_stamp (stripe_condemned stripe rescues writer key).state other ≡ cond (nat_eq other key) None (chunk_and_stamp stripe.state other)
condemned_gives stripe true writer key other rising = at_without_entry stripe.state.index key other rising
condemned_gives stripe false writer key other rising = at_without_entry stripe.state.index key other rising

pub nowhere_from : (o : Option (ChunkId × ℕ)) → is_none o ≡ true → o ≡ None
nowhere_from None none = refl
nowhere_from (Some place) none = absurd (cc)

module _ (m : Moment) (l : IsLawful m) (hand : ℕ) where
  own : AreOwn m.state.stripes
  own = own_from m.state.table m.state.slabs m.state.heads m.state.words m.state.stripes l.indexed

  within : (key : ℕ) → stripe_of m.state key < length m.state.stripes
  within key = let some = l.legal.some in omega arith

  rising : (key : ℕ) → AreRising (stripe_at m.state (stripe_of m.state key)).state.index
  rising key = (l.legal.legal (stripe_of m.state key) new_stripe (within key)).rising

  -- a look-up
  pub refer_indexed : (key : ℕ) → can_refer m.state hand key ≡ true → IsIndexed (after_refer m.state hand key)
  refer_indexed key can =
      let parts = and_parts _ (can_refer_to m.state (chunk_of_key m.state key)) can in
      let at = stripe_of m.state key in
      let value = used_up (after_got (stripe_at m.state at).state (writer_of m.state hand) key) in
      elim (chunk_of_key m.state key) as (λ o. chunk_of_key m.state key ≡ o → can_refer_to m.state o ≡ true → IsIndexed (referred_to (with_got m.state hand key) hand o)) [
        | None ↦ λ _ never. absurd (cc)
        | Some place ↦ λ found may.
            let entry = entry_of m l key place found in
            header_indexed m l place.0 entry.inside (head_after_refer (head_at m.state place.0)) m.state.slabs (λ page. refl) (λ linked. linked) (λ linked. linked)
            (slice_set m.state.stripes at value) (same_own m.state.stripes at value (within key) (λ other. refl) own) (same_leads m.state.stripes at value (within key) (λ other. refl))
      ] refl parts.1

  pub unlink_indexed : (key : ℕ) → can_unlink m.state hand key ≡ true → IsIndexed (state_after_unlink m.state hand key)
  unlink_indexed key can =
      let parts = and_parts _ (is_linked_at m.state (chunk_of_key m.state key)) can in
      told (chunk_of_key m.state key) refl parts.1
    where
      told : (o : Option (ChunkId × ℕ)) → chunk_of_key m.state key ≡ o → is_linked_at m.state o ≡ true →
          IsIndexed (with_unlinked (record m.state { stripes = slice_set m.state.stripes (stripe_of m.state key) (stripe_unlinked (stripe_at m.state (stripe_of m.state key)) (has_fresh (holdings_at m.state hand)) (writer_of m.state hand) key) }) o)
      told None found may = absurd (cc)
      told (Some place) found may =
          let entry = entry_of m l key place found in
          fewer_indexed m l place.0 entry.inside (head_after_unlink (head_at m.state place.0)) key place.1
          (stripe_unlinked (stripe_at m.state (stripe_of m.state key)) (has_fresh (holdings_at m.state hand)) (writer_of m.state hand) key) (λ never. cc) found
          (λ other. unlinked_gives (stripe_at m.state (stripe_of m.state key)) (has_fresh (holdings_at m.state hand)) (writer_of m.state hand) key other (rising key))

  pub condemn_indexed : (chunk : ChunkId) → can_condemn m.state hand chunk ≡ true → IsIndexed (after_condemn m.state hand chunk)
  condemn_indexed chunk can =
      let key = key_at m.state chunk in
      let stripe = stripe_at m.state (stripe_of m.state key) in
      let reason = and_parts _ (has_reason m.state.table m.state.heads m.state.slabs (looks_at m.state hand) (holdings_at m.state hand) chunk) can in
      let take = and_parts _ (can_lose_entry stripe key (has_copy (holdings_at m.state hand) chunk)) reason.0 in
      let has = and_parts _ (has_stripe m.state hand (stripe_of m.state key)) take.0 in
      let idle = and_parts _ (is_linked_unheld (head_at m.state chunk)) has.0 in
      let in_range = and_parts (has_slabs m.state hand) (has_chunk m.state.table chunk) idle.0 in
      let both = and_parts (is_linked (head_at m.state chunk).tag) ((head_at m.state chunk).count == 1) idle.1 in
      let is = tag_linked (head_at m.state chunk).tag both.0 in
      fewer_indexed m l chunk in_range.1 (head_after_condemn (head_at m.state chunk)) key (word_at m.state chunk 1)
      (stripe_condemned stripe (has_copy (holdings_at m.state hand) chunk) (writer_of m.state hand) key) (λ never. cc) (l.indexed.linked chunk in_range.1 is)
      (λ other. condemned_gives stripe (has_copy (holdings_at m.state hand) chunk) (writer_of m.state hand) key other (rising key))

  -- a word of a fresh chunk
  pub fill_indexed : (chunk : ChunkId) (place word : ℕ) → can_fill m.state hand chunk place ≡ true → IsIndexed (after_fill m.state hand chunk place word)
  fill_indexed chunk place word can =
      elim (holding_of chunk (holdings_at m.state hand)) as (λ o. holding_of chunk (holdings_at m.state hand) ≡ o → can_fill_in place o ≡ true →
      IsIndexed (after_fill m.state hand chunk place word)) [
        | None ↦ λ _ never. absurd (cc)
        | Some holding ↦ λ found may.
            let both = and_parts (is_fresh holding) (nat_lt place (length (holding_words holding))) may in
            let inside = ltb-true place (length (holding_words holding)) both.1 in
            let is = same_from_is_chunk holding.chunk chunk (found_passes (is_of_chunk chunk) (holdings_at m.state hand) holding found) in
            let out = found_each (IsOut m l) m.state.holdings hand (is_of_chunk chunk) holding found (out_each m l) in
            let alone = found_each (λ h. is_fresh h ≡ true → ((head_in m.state.table m.state.heads h.chunk).tag ≡ Unlinked) × (holder_count h.chunk m.state.holdings ≡ 1)) m.state.holdings hand (is_of_chunk chunk) holding found l.held.alone both.0 in
            let shows = found_each (λ h. Shows m.state.table m.state.slabs m.state.words h.chunk (holding_words h)) m.state.holdings hand (is_of_chunk chunk) holding found l.held.shows in
            let room = shows.fits in
            subst (λ c. AreIndexed m.state.table m.state.slabs m.state.heads (slice_set m.state.words (place_in m.state.table m.state.slabs c place) word) m.state.stripes) is
            (filled_indexed m l holding.chunk place word (placed_of m l holding out) (omega arith) (λ linked. let never : Unlinked ≡ Linked = sym alone.0 ∙ linked in cc))
      ] refl can
