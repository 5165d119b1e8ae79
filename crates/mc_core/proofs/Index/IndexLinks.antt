-- A link tells the stripe of its key: the entries are the linked chunks still.
use Rattle.std.proofs.Common.{◌≡◌, ℕ, ◌+◌, ◌<◌, ◌≤◌, ◌&&◌, ◌==◌, true, false, cond, nat_eq, length, Option, Some, None, refl, sym, ap, ◌∙◌, arith, subst, slice_set, is_none, is_some, leb-true, eqb-true}
use Rattle.std.specs.Option.{option_map_or}
use Rattle.std.specs.List.{list_all}
use Rattle.std.proofs.lemmas.Bool.{and_parts}
use Rattle.mc_pages.specs.declared.ids.ChunkId.{ChunkId}
use Rattle.mc_pages.specs.ClassState.{is_chunk}
use Rattle.mc_pages.specs.SlabState.{class_of_page}
use Rattle.mc_pages.proofs.Chunks.{same_from_is_chunk}
use Rattle.mc_stripe.specs.StripeState.{ReadyStripe, chunk_and_stamp}
use Rattle.mc_stripe.specs.Changes as stripe_changes
use Rattle.mc_stripe.specs.Changes.{after_got, after_lift, after_evict, after_rescue, used_up, stamp_aside}
use Rattle.mc_stripe.proofs.Entries.{at_with_entry}
use Rattle.mc_core.specs.declared.head.Tag.TheVariants.{Unlinked, Linked}
use Rattle.mc_core.specs.declared.holding.Holding.{Holding}
use Rattle.mc_core.specs.declared.holding.Kind.{Kind}
use Rattle.mc_core.specs.declared.holding.Kind.TheVariants.{Reference, Fresh}
use Rattle.mc_core.specs.declared.holding.Purpose.TheVariants.{Item, Copy, Rescue}
use Rattle.mc_core.specs.model.Holdings.{known_key, stamp_in, word_in, item_length, words_of_item, has_whole_item, is_of_chunk, holding_of, holding_words}
use Rattle.mc_core.specs.model.State.{has_chunk, head_place, head_at, with_head, room_in, stripe_of, stripe_at, holdings_at, with_holding, without_holding}
use Rattle.mc_core.specs.run.Silent.{writer_of}
use Rattle.mc_core.specs.run.Items.{are_same, is_entry_aside, is_allowed_for, can_link_key, can_link_holding, can_link, head_after_link, as_reference, recorded_link, after_link_of, state_after_link}
use Rattle.mc_core.specs.model.Columns.{Shows}
use Rattle.mc_core.specs.law.Indexed.{AreIndexed}
use Rattle.mc_core.specs.past.Past.{Moment}
use Rattle.mc_core.specs.law.Lawful.{IsLawful}
use Rattle.mc_core.proofs.Counts.Holders.{found_each, found_passes}
use Rattle.mc_core.proofs.Counts.Linking.{MayLink, may_link}
use Rattle.mc_core.proofs.Index.Index.{leads, word_of}
use Rattle.mc_core.proofs.Index.IndexStays.{IsIndexed}
use Rattle.mc_core.proofs.Index.IndexSteps.{nowhere_from}
use Rattle.mc_core.proofs.Index.IndexMoves.{more_indexed, first_shown}

-- the stamp of the entry aside is the one that was asked for
aside_stamp : (aside : Option (ℕ × (ChunkId × ℕ))) (key stamp : ℕ) (chunk : ChunkId) → option_map_or (λ (entry : ℕ × (ChunkId × ℕ)). entry.0 == key && is_chunk entry.1.0 chunk && entry.1.1 == stamp) aside false ≡ true →
    option_map_or (λ (entry : ℕ × (ChunkId × ℕ)). entry.1.1) aside 0 ≡ stamp
aside_stamp None key stamp chunk is = absurd (cc)
aside_stamp (Some entry) key stamp chunk is = eqb-true entry.1.1 stamp (and_parts _ (entry.1.1 == stamp) is).1

module _ (m : Moment) (l : IsLawful m) (hand : ℕ) (chunk : ChunkId) (holding : Holding) (may : MayLink m hand chunk holding) where
  abbrev key : ℕ
  key = known_key (holding_words holding)

  abbrev stripe : ReadyStripe
  stripe = stripe_at m.state (stripe_of m.state key)

  is : holding.chunk ≡ chunk
  is = same_from_is_chunk holding.chunk chunk (found_passes (is_of_chunk chunk) (holdings_at m.state hand) holding may.found)

  in_range : has_chunk m.state.table chunk ≡ true
  in_range = subst (λ c. has_chunk m.state.table c ≡ true) is (found_each (λ h. has_chunk m.state.table h.chunk ≡ true) m.state.holdings hand (is_of_chunk chunk) holding may.found l.held.inside)

  shows : Shows m.state.table m.state.slabs m.state.words chunk (holding_words holding)
  shows = subst (λ c. Shows m.state.table m.state.slabs m.state.words c (holding_words holding)) is
      (found_each (λ h. Shows m.state.table m.state.slabs m.state.words h.chunk (holding_words h)) m.state.holdings hand (is_of_chunk chunk) holding may.found l.held.shows)

  -- the first words of the chunk are those that were filled
  word : (place : ℕ) → place < 3 → word_of m.state.table m.state.slabs m.state.words chunk place ≡ word_in (holding_words holding) place
  word place small = first_shown m.state.table m.state.slabs m.state.words chunk (holding_words holding) place shows may.complete small

  room : 3 + word_of m.state.table m.state.slabs m.state.words chunk 2 ≤ room_in m.state.table (class_of_page m.state.slabs chunk.page)
  room =
      let size = word 2 (omega arith) in
      let parts = and_parts (has_whole_item (holding_words holding)) (list_all is_some (words_of_item (holding_words holding))) may.complete in
      let long = leb-true (item_length (holding_words holding)) (length (holding_words holding)) parts.0 in
      let inside = shows.fits in omega arith

  nowhere : leads m.state.stripes key ≡ None
  nowhere =
      let tells = and_parts (can_link_key m.state hand key) (is_allowed_for m.state hand (holding_words holding) holding.kind) may.told in
      nowhere_from (chunk_and_stamp stripe.state key) (and_parts _ (is_none (chunk_and_stamp stripe.state key)) tells.0).1

  -- the key leads to the chunk with the stamp in its second word
  told_indexed : (value : ReadyStripe) (stamp : ℕ) → stamp ≡ stamp_in (holding_words holding) → ((other : ℕ) → chunk_and_stamp value.state other ≡ cond (nat_eq other key) (Some (holding.chunk, stamp)) (chunk_and_stamp stripe.state other)) →
      AreIndexed m.state.table m.state.slabs (slice_set m.state.heads (head_place m.state.table chunk) (head_after_link (head_at m.state chunk))) m.state.words (slice_set m.state.stripes (stripe_of m.state key) value)
  told_indexed value stamp same gives =
      more_indexed m l chunk in_range (head_after_link (head_at m.state chunk)) key stamp value refl
      (λ before. let never : Unlinked ≡ Linked = sym may.unlinked ∙ before in cc) nowhere (word 0 (omega arith)) (word 1 (omega arith) ∙ sym same) room
      (λ other. gives other ∙ ap (λ c. cond (nat_eq other key) (Some (c, stamp)) (chunk_and_stamp stripe.state other)) is)

  set_indexed : AreIndexed m.state.table m.state.slabs (slice_set m.state.heads (head_place m.state.table chunk) (head_after_link (head_at m.state chunk))) m.state.words
      (slice_set m.state.stripes (stripe_of m.state key) (used_up (stripe_changes.after_link stripe.state (writer_of m.state hand) key holding.chunk (stamp_in (holding_words holding)))))
  set_indexed = told_indexed (used_up (stripe_changes.after_link stripe.state (writer_of m.state hand) key holding.chunk (stamp_in (holding_words holding)))) (stamp_in (holding_words holding)) refl
      (λ other. at_with_entry stripe.state.index key (holding.chunk, stamp_in (holding_words holding)) other)

  -- whichever way it is told
  kind_indexed : (kind : Kind) → is_allowed_for m.state hand (holding_words holding) kind ≡ true →
      IsIndexed (with_holding (with_head (recorded_link (without_holding m.state hand (is_of_chunk chunk)) hand holding kind) chunk (head_after_link (head_at m.state chunk))) hand (as_reference holding))
  kind_indexed (Reference own) suit = set_indexed
  kind_indexed (Fresh Item own) suit = set_indexed
  kind_indexed (Fresh (Copy other) own) suit = set_indexed
  kind_indexed (Fresh (Rescue old item) own) suit =
      let aside = and_parts (are_same (words_of_item (holding_words holding)) item) (is_entry_aside stripe.state key old (stamp_in (holding_words holding))) suit in
      told_indexed (used_up (after_rescue stripe.state (writer_of m.state hand) key holding.chunk)) (stamp_aside stripe.state) (aside_stamp stripe.state.aside key (stamp_in (holding_words holding)) old aside.1)
      (λ other. at_with_entry stripe.state.index key (holding.chunk, stamp_aside stripe.state) other)

  link_of_indexed : IsIndexed (after_link_of (without_holding m.state hand (is_of_chunk chunk)) hand chunk (Some holding))
  link_of_indexed = kind_indexed holding.kind (and_parts (can_link_key m.state hand key) (is_allowed_for m.state hand (holding_words holding) holding.kind) may.told).1

pub link_indexed : (m : Moment) → IsLawful m → (hand : ℕ) (chunk : ChunkId) → can_link m.state hand chunk ≡ true → IsIndexed (state_after_link m.state hand chunk)
link_indexed m l hand chunk can =
    elim (holding_of chunk (holdings_at m.state hand)) as (λ o. holding_of chunk (holdings_at m.state hand) ≡ o → can_link_holding m.state hand chunk o ≡ true →
    IsIndexed (after_link_of (without_holding m.state hand (is_of_chunk chunk)) hand chunk o)) [
      | None ↦ λ _ never. absurd (cc)
      | Some holding ↦ λ found may. link_of_indexed m l hand chunk holding (may_link m hand chunk holding found may)
    ] refl can
