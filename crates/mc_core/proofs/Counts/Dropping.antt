-- A holding is given up, an item is unlinked or taken away: counts and holdings stay as the law says.
use Rattle.std.proofs.Common.{◌≡◌, ◌⊎◌, ℕ, ◌<◌, ◌==◌, Bool, true, false, List, length, Option, Some, None, refl, sym, ap, ◌∙◌, arith, subst, slice_set, inl, inr, eqb-true}
use Rattle.std.proofs.lemmas.Bool.{and_parts}
use Rattle.mc_pages.specs.declared.ids.ChunkId.{ChunkId}
use Rattle.mc_pages.proofs.Chunks.{same_from_is_chunk}
use Rattle.mc_stripe.specs.StripeState.{ReadyStripe}
use Rattle.mc_core.specs.declared.head.Head.{Head}
use Rattle.mc_core.specs.declared.head.Tag.TheVariants.{Unlinked, Linked}
use Rattle.mc_core.specs.declared.holding.Holding.{Holding}
use Rattle.mc_core.specs.declared.holding.Kind.{Kind}
use Rattle.mc_core.specs.declared.holding.Kind.TheVariants.{Reference, Fresh}
use Rattle.mc_core.specs.model.Head.{is_linked}
use Rattle.mc_core.specs.model.Holdings.{is_of_chunk, is_fresh_kind, is_copy_kind, is_copy_of, has_fresh, holding_of}
use Rattle.mc_core.specs.model.State.{has_chunk, head_place, head_at, with_head, item_at, is_hand, has_slabs, stripe_of, stripe_at, has_stripe, holdings_at, looks_at}
use Rattle.mc_core.specs.run.Silent.{writer_of}
use Rattle.mc_core.specs.run.Chunks.{head_after_release, holds_as, after_drop}
use Rattle.mc_core.specs.run.Items.{head_after_unlink, chunk_of_key, is_linked_at, can_unlink, stripe_unlinked, with_unlinked, state_after_unlink}
use Rattle.mc_core.specs.run.Evictions.{head_after_condemn, is_linked_unheld, key_at, can_lose_entry, has_copy, has_reason, can_condemn, as_rescue, after_condemn}
use Rattle.mc_core.specs.model.Columns.{Each, holder_count, link_count}
use Rattle.mc_core.specs.law.Counts.{AreCounted, AreHeld}
use Rattle.mc_core.specs.past.Past.{Moment}
use Rattle.mc_core.specs.law.Lawful.{IsLawful}
use Rattle.mc_core.proofs.Counts.Holders.{found_each, found_passes, hand_within, nobodys}
use Rattle.mc_core.proofs.Counts.Rows.{rows_less, each_less, most_less, less_here, less_other, stale_less}
use Rattle.mc_core.proofs.Counts.Changed.{rows_changed, holders_changed, most_changed, each_changed}
use Rattle.mc_core.proofs.Counts.Turns.{Turn, IsSo, each_so, held_from_so, turn_counted, turn_each, turn_so}
use Rattle.mc_core.proofs.Index.Entered.{tag_linked, entry_of}
use Rattle.mc_core.proofs.Counts.Referring.{linked_stale}
use Rattle.mc_core.proofs.Counts.Tallied.{IsTallied}

module _ (m : Moment) (l : IsLawful m) (hand : ℕ) (there : is_hand m.state hand ≡ true) where
  abbrev rows : List (List Holding)
  rows = m.state.holdings

  within : hand < length rows
  within = hand_within m l hand there

  each : Each (IsSo m.state.table m.state.slabs m.state.heads m.state.words rows) rows
  each = each_so m.state.table m.state.slabs m.state.heads m.state.words rows l.held

  -- one holding less
  module _ (chunk : ChunkId) (holding : Holding) (found : holding_of chunk (holdings_at m.state hand) ≡ Some holding) where
    abbrev old : Head
    old = head_at m.state chunk

    abbrev left : List (List Holding)
    left = rows_less rows hand (is_of_chunk chunk)

    abbrev heads' : List Head
    heads' = slice_set m.state.heads (head_place m.state.table chunk) (head_after_release old)

    is : holding.chunk ≡ chunk
    is = same_from_is_chunk holding.chunk chunk (found_passes (is_of_chunk chunk) (holdings_at m.state hand) holding found)

    in_range : has_chunk m.state.table chunk ≡ true
    in_range = subst (λ c. has_chunk m.state.table c ≡ true) is (found_each (λ h. has_chunk m.state.table h.chunk ≡ true) rows hand (is_of_chunk chunk) holding found l.held.inside)

    turn : Turn m.state.table m.state.heads rows left chunk (head_after_release old)
    turn =
        let less = less_here rows hand within chunk (is_of_chunk chunk) holding found is in
        let count = l.counted.counted chunk in_range in
        record {
          long = l.sized.headers;
          in_range = in_range;
          others = λ other isnt. less_other rows hand within chunk other (is_of_chunk chunk) holding found is isnt;
          sum = omega arith;
          shut = λ shut. let none = l.counted.shut chunk in_range shut in absurd (omega arith);
          issued = l.counted.issued chunk in_range;
        }

    pub less_tallied : IsTallied (after_drop m.state hand chunk)
    less_tallied =
        let stale = stale_less rows hand within (is_of_chunk chunk) holding found (λ i row inside j other on fresh. (l.held.alone i row inside j other on fresh).1) in
        let kept = turn_each m.state.table m.state.heads rows left chunk (head_after_release old) turn m.state.slabs m.state.slabs m.state.words (λ page. refl) left
        (λ i row inside j other on same. (refl, stale i row inside j other on (same ∙ sym is)))
        (each_less rows hand (IsSo m.state.table m.state.slabs m.state.heads m.state.words rows) (is_of_chunk chunk) each) in (
          turn_counted m.state.table m.state.heads rows left chunk (head_after_release old) turn l.counted,
          held_from_so m.state.table m.state.slabs heads' m.state.words left kept (most_less rows hand (is_of_chunk chunk) within l.held.most),
        )

  pub drop_tallied : (chunk : ChunkId) (fresh : Bool) → holds_as fresh (holding_of chunk (holdings_at m.state hand)) ≡ true → IsTallied (after_drop m.state hand chunk)
  drop_tallied chunk fresh can =
      elim (holding_of chunk (holdings_at m.state hand)) as (λ o. holding_of chunk (holdings_at m.state hand) ≡ o → holds_as fresh o ≡ true → IsTallied (after_drop m.state hand chunk)) [
        | None ↦ λ _ never. absurd (cc)
        | Some holding ↦ λ found _. less_tallied chunk holding found
      ] refl can

  -- a key leads nowhere any more
  module _ (chunk : ChunkId) (in_range : has_chunk m.state.table chunk ≡ true) (linked : (head_at m.state chunk).tag ≡ Linked) where
    unlinked_turn : Turn m.state.table m.state.heads rows rows chunk (head_after_unlink (head_at m.state chunk))
    unlinked_turn = record {
      long = l.sized.headers;
      in_range = in_range;
      others = λ other isnt. refl;
      sum =
          let count = l.counted.counted chunk in_range in
          let link : link_count (head_at m.state chunk).tag ≡ 1 = ap link_count linked in
          let no_link : link_count Unlinked ≡ 0 = refl in omega arith;
      shut = λ shut. absurd (neither shut);
      issued = l.counted.issued chunk in_range;
    }
      where
        neither : (false ≡ true) ⊎ (false ≡ true) → ⊥
        neither (inl never) = cc
        neither (inr never) = cc

    unlinked_tallied : IsTallied (with_head m.state chunk (head_after_unlink (head_at m.state chunk)))
    unlinked_tallied =
        let kept = turn_each m.state.table m.state.heads rows rows chunk (head_after_unlink (head_at m.state chunk)) unlinked_turn m.state.slabs m.state.slabs m.state.words (λ page. refl) rows
        (λ i row inside j other on is. (refl, linked_stale m l hand there chunk linked i row inside j other on is)) each in (
          turn_counted m.state.table m.state.heads rows rows chunk (head_after_unlink (head_at m.state chunk)) unlinked_turn l.counted,
          held_from_so m.state.table m.state.slabs (slice_set m.state.heads (head_place m.state.table chunk) (head_after_unlink (head_at m.state chunk))) m.state.words rows kept l.held.most,
        )

  pub unlink_tallied : (key : ℕ) → can_unlink m.state hand key ≡ true → IsTallied (state_after_unlink m.state hand key)
  unlink_tallied key can =
      let parts = and_parts _ (is_linked_at m.state (chunk_of_key m.state key)) can in
      told (slice_set m.state.stripes (stripe_of m.state key) (stripe_unlinked (stripe_at m.state (stripe_of m.state key)) (has_fresh (holdings_at m.state hand)) (writer_of m.state hand) key)) (chunk_of_key m.state key) refl parts.1
    where
      told : (stripes : List ReadyStripe) (o : Option (ChunkId × ℕ)) → chunk_of_key m.state key ≡ o → is_linked_at m.state o ≡ true → IsTallied (with_unlinked (record m.state { stripes = stripes }) o)
      told stripes None found may = absurd (cc)
      told stripes (Some place) found may = let entry = entry_of m l key place found in unlinked_tallied place.0 entry.inside entry.linked

  -- an item is taken away
  module _ (chunk : ChunkId) (in_range : has_chunk m.state.table chunk ≡ true) (linked : (head_at m.state chunk).tag ≡ Linked) (one : (head_at m.state chunk).count ≡ 1) where
    nobody : holder_count chunk rows ≡ 0
    nobody = let count = l.counted.counted chunk in_range in let link : link_count (head_at m.state chunk).tag ≡ 1 = ap link_count linked in omega arith

    -- each chunk is held as often as before
    condemned_turn : (now : List (List Holding)) → ((other : ChunkId) → holder_count other now ≡ holder_count other rows) → Turn m.state.table m.state.heads rows now chunk (head_after_condemn (head_at m.state chunk))
    condemned_turn now same = record {
      long = l.sized.headers;
      in_range = in_range;
      others = λ other isnt. same other;
      sum =
          let link : link_count (head_at m.state chunk).tag ≡ 1 = ap link_count linked in
          let no_link : link_count Unlinked ≡ 0 = refl in let held = same chunk in omega arith;
      shut = λ shut. refl;
      issued = l.counted.issued chunk in_range;
    }

    abbrev heads_condemned : List Head
    heads_condemned = slice_set m.state.heads (head_place m.state.table chunk) (head_after_condemn (head_at m.state chunk))

    -- the copies are bound to the item
    module _ (item : List ℕ) where
      abbrev now : List (List Holding)
      now = rows_changed rows hand (is_copy_of chunk) (as_rescue chunk item)

      same : (other : ChunkId) → holder_count other now ≡ holder_count other rows
      same = holders_changed (is_copy_of chunk) (as_rescue chunk item) rows hand within (λ h. refl)

      -- a holding of another chunk
      abbrev IsSoApart : Holding → Type 0
      IsSoApart holding = IsSo m.state.table m.state.slabs m.state.heads m.state.words rows holding × (holding.chunk ≡ chunk → ⊥)

      stays_so : (holding : Holding) → IsSoApart holding → IsSo m.state.table m.state.slabs heads_condemned m.state.words now holding
      stays_so holding before =
          turn_so m.state.table m.state.heads rows now chunk (head_after_condemn (head_at m.state chunk)) (condemned_turn now same) m.state.slabs m.state.slabs m.state.words (λ page. refl) holding (λ is. absurd (before.1 is)) before.0

      fresh_copy : (kind : Kind) → is_copy_kind chunk kind ≡ true → is_fresh_kind kind ≡ true
      fresh_copy (Reference own) is = absurd (cc)
      fresh_copy (Fresh purpose own) is = refl

      bound_so : (holding : Holding) → is_copy_of chunk holding ≡ true → IsSoApart holding → IsSo m.state.table m.state.slabs heads_condemned m.state.words now (as_rescue chunk item holding)
      bound_so holding copy before =
          let so = stays_so holding before in
          let fresh = fresh_copy holding.kind copy in
          record {
            inside = so.inside;
            issue = so.issue;
            shows = so.shows;
            sized = ((λ _. so.sized.0 fresh), λ stale. absurd (cc));
            alone = λ _. so.alone fresh;
          }

      bound_tallied : AreCounted m.state.table heads_condemned now × AreHeld m.state.table m.state.slabs heads_condemned m.state.words now
      bound_tallied = (
        turn_counted m.state.table m.state.heads rows now chunk (head_after_condemn (head_at m.state chunk)) (condemned_turn now same) l.counted,
        held_from_so m.state.table m.state.slabs heads_condemned m.state.words now
            (each_changed (is_copy_of chunk) (as_rescue chunk item) rows hand IsSoApart (IsSo m.state.table m.state.slabs heads_condemned m.state.words now) stays_so bound_so
            (λ i row on j holding there. (each i row on j holding there, nobodys chunk rows nobody i row on j holding there)))
            (most_changed (is_copy_of chunk) (as_rescue chunk item) rows hand within l.held.most),
      )

  pub condemn_tallied : (chunk : ChunkId) → can_condemn m.state hand chunk ≡ true → IsTallied (after_condemn m.state hand chunk)
  condemn_tallied chunk can =
      let key = key_at m.state chunk in
      let stripe = stripe_at m.state (stripe_of m.state key) in
      let reason = and_parts _ (has_reason m.state.table m.state.heads m.state.slabs (looks_at m.state hand) (holdings_at m.state hand) chunk) can in
      let take = and_parts _ (can_lose_entry stripe key (has_copy (holdings_at m.state hand) chunk)) reason.0 in
      let has = and_parts _ (has_stripe m.state hand (stripe_of m.state key)) take.0 in
      let idle = and_parts _ (is_linked_unheld (head_at m.state chunk)) has.0 in
      let in_range = and_parts (has_slabs m.state hand) (has_chunk m.state.table chunk) idle.0 in
      let both = and_parts (is_linked (head_at m.state chunk).tag) ((head_at m.state chunk).count == 1) idle.1 in
      bound_tallied chunk in_range.1 (tag_linked (head_at m.state chunk).tag both.0) (eqb-true (head_at m.state chunk).count 1 both.1) (item_at m.state chunk)
