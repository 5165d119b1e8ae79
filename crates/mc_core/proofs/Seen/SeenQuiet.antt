-- Steps that append no look keep what the holder of the slabs lock saw.
use Rattle.std.proofs.Common.{◌≡◌, ℕ, ◌≤◌, ◌==◌, Bool, true, false, List, [], refl, sym, subst, ◌∙◌, arith, slice_set, slice_index_or, Some, None, get_or-set_other}
use Rattle.std.proofs.lemmas.Bool.{and_parts}
use Rattle.mc_pages.specs.declared.ids.ChunkId.{ChunkId}
use Rattle.mc_pages.proofs.Chunks.{same_from_is_chunk}
use Rattle.mc_core.specs.declared.event.Step.TheVariants.{Fill, Link, Refer, Unlink, Release, Discard, Again}
use Rattle.mc_core.specs.declared.head.Head.{Head}
use Rattle.mc_core.specs.declared.head.Tag.TheVariants.{Linked}
use Rattle.mc_core.specs.declared.holding.Holding.{Holding}
use Rattle.mc_core.specs.declared.holding.Kind.{Kind}
use Rattle.mc_core.specs.declared.holding.Kind.TheVariants.{Reference, Fresh}
use Rattle.mc_core.specs.declared.holding.Purpose.TheVariants.{Item, Copy, Rescue}
use Rattle.mc_core.specs.model.Head.{is_linked, is_unlinked}
use Rattle.mc_core.specs.model.Holdings.{is_of_chunk, has_fresh, holding_of}
use Rattle.mc_core.specs.run.Chunks.{can_fill_in, holds_as, head_after_release, after_drop}
use Rattle.mc_core.specs.run.Items.{head_after_link, head_after_unlink, head_after_refer, stripe_unlinked, chunk_of_key, is_linked_at, with_unlinked, with_got, can_refer_to, referred_to, with_reference, has_place_unlocked, can_count, recorded_link, as_reference, after_link_of, can_link_holding}
use Rattle.mc_core.specs.run.Silent.{writer_of}
use Rattle.mc_core.specs.model.State.{State, chunk_room, has_slabs, has_chunk, head_at, head_place, looks_at, holdings_at, with_head, with_holding, with_stripe, without_holding, stripe_of, stripe_at}
use Rattle.mc_core.specs.run.Run.{after_step}
use Rattle.mc_core.specs.past.Past.{Moment, KnownItem, no_hold, with_more, known_of_holding, known_of_place, moment_stepped}
use Rattle.mc_core.specs.model.Columns.{head_in, place_in, IsHandedOut}
use Rattle.mc_core.specs.law.Seen.{AreSeen}
use Rattle.mc_core.specs.law.Laws.{MayStep}
use Rattle.mc_core.specs.law.Lawful.{IsLawful, SeenIn}
use Rattle.mc_core.proofs.Steps.Base.{placed_at, same_word, held_out, IsOut}
use Rattle.mc_core.proofs.Counts.Holders.{found_passes, found_all, holds_from_found, holds-le-holders}
use Rattle.mc_core.proofs.Frame.Own.{own_step}
use Rattle.mc_core.proofs.Hands.MoreRows.{each_contained}
use Rattle.mc_core.proofs.Known.KnownQuiet.{IsStill}
use Rattle.mc_core.proofs.Known.KnownLearned.{known_more}
use Rattle.mc_core.proofs.Known.KnownChunks.{entry_of}
use Rattle.mc_core.proofs.Known.KnownFills.{fill_apart, fill_placed, fill_on}
use Rattle.mc_core.proofs.Known.KnownLinks.{unlinked_tag}
use Rattle.mc_core.proofs.Known.KnownReferences.{linked_tag}
use Rattle.mc_core.proofs.Seen.SeenLooks.{IsLinkedStill, StaysPut, put_same, LeavesSeen}
use Rattle.mc_core.proofs.Seen.SeenHolder.{has_before, same_holds, seen_quiet, leaves_same, leaves_turned, put_linked, put_referred, put_unlinked, put_let_go}

-- a held chunk's header counts its holder
module _ (m : Moment) (l : IsLawful m) (hand : ℕ) (chunk : ChunkId) (holding : Holding) (found : holding_of chunk (holdings_at m.state hand) ≡ Some holding) where
  held_at : holding.chunk ≡ chunk
  held_at = same_from_is_chunk holding.chunk chunk (found_passes (is_of_chunk chunk) (holdings_at m.state hand) holding found)

  held_is_out : IsOut m l holding
  held_is_out = found_all (IsOut m l) (is_of_chunk chunk) (holdings_at m.state hand) holding found (held_out m l hand)

  pub held_near : has_chunk m.state.table chunk ≡ true
  held_near = subst (λ (c : ChunkId). has_chunk m.state.table c ≡ true) held_at held_is_out.0

  pub held_handed_out : IsHandedOut (head_at m.state chunk) holding.issue
  held_handed_out = subst (λ (c : ChunkId). IsHandedOut (head_in m.state.table m.state.heads c) holding.issue) held_at held_is_out.1

  pub held_count : 1 ≤ (head_at m.state chunk).count
  held_count =
      let counted = l.counted.counted chunk held_near in
      let some = holds_from_found chunk (holdings_at m.state hand) holding found in
      let all = holds-le-holders chunk m.state.holdings hand in omega arith

module _ (m : Moment) (hand : ℕ) (l : IsLawful m) where
  -- what a hand with the lock saw, after a step that gives this state and teaches this
  abbrev pub SeenBy : List KnownItem → State → ℕ → Type 0
  SeenBy more s h = AreSeen s.table s.slabs s.heads s.words (with_more m.past.known hand more) (slice_index_or (same_holds m l hand) h no_hold).found (looks_at s h)

  -- one header changes
  turned : (more : List KnownItem) (chunk : ChunkId) (head : Head) → has_chunk m.state.table chunk ≡ true → StaysPut (head_at m.state chunk) head → (h : ℕ) → has_slabs m.state h ≡ true → SeenBy more (with_head m.state chunk head) h
  turned more chunk head in_range put h has =
      seen_quiet m l hand more (slice_set m.state.heads (head_place m.state.table chunk) head) m.state.words (leaves_turned m l hand more chunk head in_range put) h has

  module _ (chunk : ChunkId) (place word : ℕ) (holding : Holding) (found : holding_of chunk (holdings_at m.state hand) ≡ Some holding) (can : can_fill_in place (Some holding) ≡ true) where
    abbrev words' : List ℕ
    words' = slice_set m.state.words (place_in m.state.table m.state.slabs chunk place) word

    -- what is known to be linked isn't being filled
    not_filled : (other : ChunkId) (issue : ℕ) → IsLinkedStill m.state.table m.state.heads m.past.known other issue → other ≡ chunk → ⊥
    not_filled other issue (out, (who, k, knows, is)) same =
        fill_apart m l hand chunk place holding found can k (each_contained (IsStill m l) m.past.known who k l.known.still knows)
        (subst (λ (c : ChunkId). IsHandedOut (head_in m.state.table m.state.heads c) k.issue) (sym is.0) (subst (λ i. IsHandedOut (head_in m.state.table m.state.heads other) i) (sym is.1) out)) (is.0 ∙ same)

    pub leaves_filled : LeavesSeen m.state.table m.state.slabs m.state.heads m.state.heads m.state.words words' m.past.known (with_more m.past.known hand [])
    leaves_filled = record {
      headers = λ other in_range. put_same (head_in m.state.table m.state.heads other);
      items = λ other issue. known_more m.past.known hand [] (λ k. (k.chunk ≡ other) × (k.issue ≡ issue));
      data_words = λ other at issue in_range is within.
          get_or-set_other m.state.words (place_in m.state.table m.state.slabs chunk place) (place_in m.state.table m.state.slabs other at) word 0
          (λ same. not_filled other issue is
          (same_word m l other chunk at place (placed_at m l other issue in_range is.0).0 (fill_placed m l hand chunk place holding found can) within (fill_on m l hand chunk place holding found can) same).0);
    }

module _ (m : Moment) (hand : ℕ) where
  pub seen_fill : (chunk : ChunkId) (place word : ℕ) → MayStep m hand (Fill chunk place word) → SeenIn (moment_stepped m hand (Fill chunk place word))
  seen_fill chunk place word may h has =
      let l = may.lawful in
      let before = has_before m.state (after_step m.state hand (Fill chunk place word)) hand h (own_step m.state hand (Fill chunk place word) refl) has in
      elim (holding_of chunk (holdings_at m.state hand)) as (λ o. holding_of chunk (holdings_at m.state hand) ≡ o → can_fill_in place o ≡ true →
      SeenBy m hand l [] (after_step m.state hand (Fill chunk place word)) h) [
        | None ↦ λ _ never. absurd (cc)
        | Some holding ↦ λ found can.
            seen_quiet m l hand [] m.state.heads (words' m hand l chunk place word holding found can) (leaves_filled m hand l chunk place word holding found can) h before
      ] refl may.allowed

  seen_dropped : (l : IsLawful m) (chunk : ChunkId) (fresh : Bool) → holds_as fresh (holding_of chunk (holdings_at m.state hand)) ≡ true → (h : ℕ) → has_slabs m.state h ≡ true → SeenBy m hand l [] (after_drop m.state hand chunk) h
  seen_dropped l chunk fresh can h has =
      elim (holding_of chunk (holdings_at m.state hand)) as (λ o. holding_of chunk (holdings_at m.state hand) ≡ o → holds_as fresh o ≡ true → SeenBy m hand l [] (after_drop m.state hand chunk) h) [
        | None ↦ λ _ never. absurd (cc)
        | Some holding ↦ λ found _.
            turned m hand l [] chunk (head_after_release (head_at m.state chunk)) (held_near m l hand chunk holding found)
            (put_let_go (head_at m.state chunk) holding.issue (held_handed_out m l hand chunk holding found) (held_count m l hand chunk holding found)) h has
      ] refl can

  pub seen_release : (chunk : ChunkId) → MayStep m hand (Release chunk) → SeenIn (moment_stepped m hand (Release chunk))
  seen_release chunk may h has = seen_dropped may.lawful chunk false may.allowed h has

  pub seen_discard : (chunk : ChunkId) → MayStep m hand (Discard chunk) → SeenIn (moment_stepped m hand (Discard chunk))
  seen_discard chunk may h has = seen_dropped may.lawful chunk true may.allowed h has

  pub seen_unlink : (key : ℕ) → MayStep m hand (Unlink key) → SeenIn (moment_stepped m hand (Unlink key))
  seen_unlink key may h has =
      let l = may.lawful in
      let before = has_before m.state (after_step m.state hand (Unlink key)) hand h (own_step m.state hand (Unlink key) refl) has in
      let stripe = stripe_of m.state key in
      let left : State = with_stripe m.state stripe (stripe_unlinked (stripe_at m.state stripe) (has_fresh (holdings_at m.state hand)) (writer_of m.state hand) key) in
      elim (chunk_of_key m.state key) as (λ o. chunk_of_key m.state key ≡ o → is_linked_at m.state o ≡ true → SeenBy m hand l [] (with_unlinked left o) h) [
        | None ↦ λ _ never. absurd (cc)
        | Some place ↦ λ found _.
            let entry = entry_of m l key place found in
            turned m hand l [] place.0 (head_after_unlink (head_at m.state place.0)) entry.inside (put_unlinked (head_at m.state place.0) entry.linked) h before
      ] refl (and_parts _ (is_linked_at m.state (chunk_of_key m.state key)) may.allowed).1

  -- a linked chunk gets a holder more
  seen_referred : (l : IsLawful m) (chunk : ChunkId) (more : List KnownItem) → has_chunk m.state.table chunk ≡ true → (head_at m.state chunk).tag ≡ Linked → (h : ℕ) → has_slabs m.state h ≡ true → SeenBy m hand l more (with_reference m.state hand chunk) h
  seen_referred l chunk more in_range head_after_link h has = turned m hand l more chunk (head_after_refer (head_at m.state chunk)) in_range (put_referred (head_at m.state chunk) head_after_link) h has

  pub seen_refer : (key : ℕ) → MayStep m hand (Refer key) → SeenIn (moment_stepped m hand (Refer key))
  seen_refer key may h has =
      let l = may.lawful in
      let before = has_before m.state (after_step m.state hand (Refer key)) hand h (own_step m.state hand (Refer key) refl) has in
      elim (chunk_of_key m.state key) as (λ o. chunk_of_key m.state key ≡ o → can_refer_to m.state o ≡ true → SeenBy m hand l (known_of_place m.state o) (referred_to (with_got m.state hand key) hand o) h) [
        | None ↦ λ _ never. absurd (cc)
        | Some place ↦ λ found _.
            let entry = entry_of m l key place found in
            seen_referred l place.0 (known_of_place m.state (Some place)) entry.inside entry.linked h before
      ] refl (and_parts _ (can_refer_to m.state (chunk_of_key m.state key)) may.allowed).1

  pub seen_again : (chunk : ChunkId) (issue : ℕ) → MayStep m hand (Again chunk issue) → SeenIn (moment_stepped m hand (Again chunk issue))
  seen_again chunk issue may h has =
      let parts = and_parts _ (can_count (head_at m.state chunk)) may.allowed in
      let right = and_parts _ ((head_at m.state chunk).issue == issue) parts.0 in
      let tag = and_parts _ (is_linked (head_at m.state chunk).tag) right.0 in
      let in_range = (and_parts (has_chunk m.state.table chunk) (has_place_unlocked m.state hand) tag.0).0 in
      seen_referred may.lawful chunk _ in_range (linked_tag (head_at m.state chunk).tag tag.1) h has

  -- a fresh chunk is linked
  seen_linked : (l : IsLawful m) (chunk : ChunkId) (holding : Holding) → holding_of chunk (holdings_at m.state hand) ≡ Some holding → is_unlinked (head_at m.state chunk).tag ≡ true → (more : List KnownItem) (h : ℕ) → has_slabs m.state h ≡ true →
      (kind : Kind) → SeenBy m hand l more (with_holding (with_head (recorded_link (without_holding m.state hand (is_of_chunk chunk)) hand holding kind) chunk (head_after_link (head_at m.state chunk))) hand (as_reference holding)) h
  seen_linked l chunk holding found tag more h has kind =
      let put = put_linked (head_at m.state chunk) (unlinked_tag (head_at m.state chunk).tag tag) (held_count m l hand chunk holding found) in
      let is = turned m hand l more chunk (head_after_link (head_at m.state chunk)) (held_near m l hand chunk holding found) put h has in
      elim kind as (λ kind. SeenBy m hand l more (with_holding (with_head (recorded_link (without_holding m.state hand (is_of_chunk chunk)) hand holding kind) chunk (head_after_link (head_at m.state chunk))) hand (as_reference holding)) h) [
        | Reference own ↦ is
        | Fresh Item own ↦ is
        | Fresh (Copy old) own ↦ is
        | Fresh (Rescue old item) own ↦ is
      ]

  pub seen_link : (chunk : ChunkId) → MayStep m hand (Link chunk) → SeenIn (moment_stepped m hand (Link chunk))
  seen_link chunk may h has =
      let l = may.lawful in
      let before = has_before m.state (after_step m.state hand (Link chunk)) hand h (own_step m.state hand (Link chunk) refl) has in
      elim (holding_of chunk (holdings_at m.state hand)) as (λ o. holding_of chunk (holdings_at m.state hand) ≡ o → can_link_holding m.state hand chunk o ≡ true →
      SeenBy m hand l (known_of_holding (chunk_room m.state chunk) o) (after_link_of (without_holding m.state hand (is_of_chunk chunk)) hand chunk o) h) [
        | None ↦ λ _ never. absurd (cc)
        | Some holding ↦ λ found can.
            let parts = and_parts _ (can_count (head_at m.state chunk)) can in
            let tag = and_parts _ (is_unlinked (head_at m.state chunk).tag) parts.0 in
            seen_linked l chunk holding found tag.1 (known_of_holding (chunk_room m.state chunk) (Some holding)) h before holding.kind
      ] refl may.allowed

  -- nothing of it changes
  pub seen_same : (l : IsLawful m) (h : ℕ) → has_slabs m.state h ≡ true → SeenBy m hand l [] m.state h
  seen_same l h has = seen_quiet m l hand [] m.state.heads m.state.words (leaves_same m l hand []) h has
