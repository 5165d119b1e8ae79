-- Known items as a word of a fresh chunk is written.
use Rattle.std.proofs.Common.{◌≡◌, ℕ, ◌<◌, ◌≤◌, All, true, List, [], length, refl, sym, ap, subst, ◌∙◌, arith, slice_set, Some, None, nat_lt, ltb-true, get_or-set_other}
use Rattle.std.proofs.lemmas.Bool.{and_parts, both_ways}
use Rattle.std.proofs.lemmas.Option.{slice_get_within}
use Rattle.mc_pages.specs.declared.ids.ChunkId.{ChunkId}
use Rattle.mc_pages.specs.SlabState.{class_of_page}
use Rattle.mc_pages.proofs.Chunks.{same_from_is_chunk}
use Rattle.mc_core.specs.declared.event.Step.TheVariants.{Fill}
use Rattle.mc_core.specs.declared.holding.Holding.{Holding}
use Rattle.mc_core.specs.model.Holdings.{Words, is_of_chunk, holding_of, is_fresh, change_each, all_known, holding_words}
use Rattle.mc_core.specs.model.State.{room_in, holdings_at}
use Rattle.mc_core.specs.run.Chunks.{can_fill_in, holding_with_word, after_fill}
use Rattle.mc_core.specs.past.Past.{Moment, KnownItem, with_more, moment_stepped}
use Rattle.mc_core.specs.model.Columns.{Each, head_in, place_in, Shows, IsHandedOut, count_of_holdings}
use Rattle.mc_core.specs.law.Counts.{IsHoldingSized}
use Rattle.mc_core.specs.law.Knowing.{IsTrueStill}
use Rattle.mc_core.specs.law.Laws.{MayStep}
use Rattle.mc_core.specs.law.Lawful.{IsLawful, KnownIn}
use Rattle.mc_core.proofs.Steps.Base.{IsPlaced, placed_at, same_word, held_out, IsOut, all_lose}
use Rattle.mc_core.proofs.Counts.Changed.{rows_changed, each_changed, all_changed_once}
use Rattle.mc_core.proofs.Hands.MoreRows.{row_of, rows_set}
use Rattle.mc_core.proofs.Counts.Holders.{found_passes, found_all, found_each, fresh_once, holds-le-holders}
use Rattle.mc_core.proofs.Known.KnownStill.{IsApartFrom}
use Rattle.mc_core.proofs.Known.KnownQuiet.{known_quiet, IsOwn, IsStill}
use Rattle.mc_core.proofs.Known.KnownChunks.{KnownAt, known_end}
use Rattle.mc_core.proofs.Counts.Filling.{filled_fresh}

module _ (m : Moment) (l : IsLawful m) (chunk : ChunkId) (place word : ℕ) (placed : IsPlaced m.state.slabs chunk) (on : place < room_in m.state.table (class_of_page m.state.slabs chunk.page)) where
  -- a word of one chunk is no word of another
  pub shows_filled : (other : ChunkId) (known : Words) → IsPlaced m.state.slabs other → (other ≡ chunk → ⊥) → Shows m.state.table m.state.slabs m.state.words other known →
      Shows m.state.table m.state.slabs (slice_set m.state.words (place_in m.state.table m.state.slabs chunk place) word) other known
  shows_filled other known is apart shows = record {
    fits = shows.fits;
    known_words = λ at w e.
        let fit = shows.fits in
        let within = slice_get_within known at (Some w) e in
        get_or-set_other m.state.words (place_in m.state.table m.state.slabs chunk place) (place_in m.state.table m.state.slabs other at) word 0
        (λ same. apart (same_word m l other chunk at place is placed (omega arith) on same).0)
        ∙ shows.known_words at w e;
  }

  -- what is known of other chunks stays true
  pub still_filled : (rows' : List (List Holding)) (k : KnownItem) → (IsHandedOut (head_in m.state.table m.state.heads k.chunk) k.issue → k.chunk ≡ chunk → ⊥) →
      Each (IsApartFrom k) rows' → IsStill m l k →
      IsTrueStill m.state.table m.state.slabs m.state.heads (slice_set m.state.words (place_in m.state.table m.state.slabs chunk place) word) rows' k
  still_filled rows' k other apart is = record {
    inside = is.inside;
    whole = is.whole;
    older = is.older;
    shows = λ out. shows_filled k.chunk (all_known k.words) (placed_at m l k.chunk k.issue is.inside out).0 (other out) (is.shows out);
    room = is.room;
    apart = apart;
  }

-- the fresh holding whose chunk is filled
module _ (m : Moment) (l : IsLawful m) (hand : ℕ) (chunk : ChunkId) (place : ℕ) (holding : Holding) (found : holding_of chunk (holdings_at m.state hand) ≡ Some holding) (can : can_fill_in place (Some holding) ≡ true) where
  pub fill_at : holding.chunk ≡ chunk
  fill_at = same_from_is_chunk holding.chunk chunk (found_passes (is_of_chunk chunk) (holdings_at m.state hand) holding found)

  pub fill_fresh : is_fresh holding ≡ true
  fill_fresh = (and_parts (is_fresh holding) (nat_lt place (length (holding_words holding))) can).0

  pub fill_out : IsOut m l holding
  fill_out = found_all (IsOut m l) (is_of_chunk chunk) (holdings_at m.state hand) holding found (held_out m l hand)

  pub fill_placed : IsPlaced m.state.slabs chunk
  fill_placed = subst (λ (c : ChunkId). IsPlaced m.state.slabs c) fill_at (placed_at m l holding.chunk holding.issue fill_out.0 fill_out.1).0

  pub fill_on : place < room_in m.state.table (class_of_page m.state.slabs chunk.page)
  fill_on =
      let sized = found_each (λ h. IsHoldingSized (room_in m.state.table (class_of_page m.state.slabs h.chunk.page)) h) m.state.holdings hand (is_of_chunk chunk) holding found l.held.sized in
      let long = sized.0 fill_fresh in
      let within = ltb-true place (length (holding_words holding)) (and_parts (is_fresh holding) (nat_lt place (length (holding_words holding))) can).1 in
      subst (λ (c : ChunkId). place < room_in m.state.table (class_of_page m.state.slabs c.page)) fill_at (omega arith)

  -- no item that is shown is known of its chunk
  pub fill_apart : (k : KnownItem) → IsStill m l k → IsHandedOut (head_in m.state.table m.state.heads k.chunk) k.issue → k.chunk ≡ chunk → ⊥
  fill_apart k is shown same =
      found_each (IsApartFrom k) m.state.holdings hand (is_of_chunk chunk) holding found is.apart fill_fresh (fill_at ∙ sym same)
      (sym fill_out.1.1 ∙ (ap (λ (c : ChunkId). (head_in m.state.table m.state.heads c).issue) (fill_at ∙ sym same) ∙ shown.1))

module _ (m : Moment) (hand : ℕ) (chunk : ChunkId) (place word : ℕ) where
  known_filled : (l : IsLawful m) (holding : Holding) → holding_of chunk (holdings_at m.state hand) ≡ Some holding → can_fill_in place (Some holding) ≡ true →
      KnownAt (after_fill m.state hand chunk place word) (with_more m.past.stored hand []) (with_more m.past.known hand [])
  known_filled l holding found can =
      known_end m hand (after_fill m.state hand chunk place word)
      (known_quiet m l m.state.slabs m.state.heads (slice_set m.state.words (place_in m.state.table m.state.slabs chunk place) word) (rows_changed m.state.holdings hand (is_of_chunk chunk) (holding_with_word place word))
      (λ k is. still_filled m l chunk place word (fill_placed m l hand chunk place holding found can) (fill_on m l hand chunk place holding found can) (rows_changed m.state.holdings hand (is_of_chunk chunk) (holding_with_word place word)) k
      (fill_apart m l hand chunk place holding found can k is) (each_changed (is_of_chunk chunk) (holding_with_word place word) m.state.holdings hand (IsApartFrom k) (IsApartFrom k) (λ h apart. apart) (λ h _ apart fresh. apart (sym (filled_fresh place word h.kind) ∙ fresh)) is.apart) is)
      own_filled l.known.linked)
    where
      own_filled : (other : ℕ) → All (IsOwn m.past.known other) (row_of (rows_changed m.state.holdings hand (is_of_chunk chunk) (holding_with_word place word)) other)
      own_filled =
          let row = holdings_at m.state hand in
          let fresh = fill_fresh m l hand chunk place holding found can in
          let one = fresh_once m l hand (is_of_chunk chunk) holding found fresh in
          let within_limit = holds-le-holders holding.chunk m.state.holdings hand in
          let once : count_of_holdings chunk row ≤ 1 = subst (λ c. count_of_holdings c row ≤ 1) (fill_at m l hand chunk place holding found can) (omega arith) in
          rows_set (IsOwn m.past.known) m.state.holdings hand (change_each (is_of_chunk chunk) (holding_with_word place word) row) l.known.own
          (all_changed_once (IsOwn m.past.known hand) chunk (holding_with_word place word) row holding found once (all_lose (IsOwn m.past.known hand) (is_of_chunk chunk) row (l.known.own hand))
          (λ stale. absurd (both_ways (is_fresh holding) (sym (filled_fresh place word holding.kind) ∙ stale) fresh)))

  pub known_fill : MayStep m hand (Fill chunk place word) → KnownIn (moment_stepped m hand (Fill chunk place word))
  known_fill may =
      elim (holding_of chunk (holdings_at m.state hand)) as (λ o. holding_of chunk (holdings_at m.state hand) ≡ o → can_fill_in place o ≡ true →
      KnownAt (after_fill m.state hand chunk place word) (with_more m.past.stored hand []) (with_more m.past.known hand [])) [
        | None ↦ λ _ never. absurd (cc)
        | Some holding ↦ λ found can. known_filled may.lawful holding found can
      ] refl may.allowed
