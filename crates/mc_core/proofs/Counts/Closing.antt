-- A chunk that nobody holds is put back, cleared or cut: counts and holdings stay as the law says.
use Rattle.std.proofs.Common.{◌≡◌, ℕ, ◌||◌, ◌==◌, true, List, refl, ◌∙◌, arith, slice_set, inl, inr, eqb-true}
use Rattle.std.proofs.lemmas.Bool.{and_parts, or_cases}
use Rattle.mc_pages.specs.declared.ids.ChunkId.{ChunkId}
use Rattle.mc_pages.specs.SlabState.{SlabState, class_of_page}
use Rattle.mc_pages.specs.Changes as slabs_changes
use Rattle.mc_pages.specs.Pages.{is_on_the_move}
use Rattle.mc_core.specs.declared.head.Head.{Head}
use Rattle.mc_core.specs.declared.holding.Holding.{Holding}
use Rattle.mc_core.specs.model.Head.{is_free, is_out, is_unlinked, is_dead}
use Rattle.mc_core.specs.model.State.{has_chunk, head_place, head_at, with_head, has_slabs, with_slabs}
use Rattle.mc_core.specs.run.Silent.{is_handed_out, is_listed}
use Rattle.mc_core.specs.run.Chunks.{with_tag_free, with_tag_out, can_put_back, after_put_back, can_clear, state_after_clear, is_next_uncut, can_cut, state_after_cut}
use Rattle.mc_core.specs.model.Columns.{holder_count, link_count}
use Rattle.mc_core.specs.past.Past.{Moment}
use Rattle.mc_core.specs.law.Lawful.{IsLawful}
use Rattle.mc_core.proofs.Counts.Holders.{nobodys}
use Rattle.mc_core.proofs.Counts.Turns.{Turn, each_so, held_from_so, turn_counted, turn_each}
use Rattle.mc_core.proofs.Counts.Tallied.{IsTallied}

module _ (m : Moment) (l : IsLawful m) (hand : ℕ) where
  -- a header without count and link gets another tag without a link
  module _ (next : SlabState) (same : (page : ℕ) → class_of_page next page ≡ class_of_page m.state.slabs page) (chunk : ChunkId) (head : Head) (in_range : has_chunk m.state.table chunk ≡ true)
      (none : (head_at m.state chunk).count ≡ 0) (still : head.count ≡ (head_at m.state chunk).count) (issue : head.issue ≡ (head_at m.state chunk).issue) (no_link : link_count head.tag ≡ 0) where
    abbrev rows : List (List Holding)
    rows = m.state.holdings

    nobody : holder_count chunk rows ≡ 0
    nobody = let count = l.counted.counted chunk in_range in omega arith

    turn : Turn m.state.table m.state.heads rows rows chunk head
    turn =
        let count = l.counted.counted chunk in_range in
        let before = l.counted.issued chunk in_range in
        record {
          long = l.sized.headers;
          in_range = in_range;
          others = λ other isnt. refl;
          sum = omega arith;
          shut = λ shut. still ∙ none;
          issued = omega arith;
        }

    closed_tallied : IsTallied (with_head (with_slabs m.state next) chunk head)
    closed_tallied =
        let kept = turn_each m.state.table m.state.heads rows rows chunk head turn m.state.slabs next m.state.words same rows
        (λ i row inside j other on is. absurd (nobodys chunk rows nobody i row inside j other on is))
        (each_so m.state.table m.state.slabs m.state.heads m.state.words rows l.held) in (
          turn_counted m.state.table m.state.heads rows rows chunk head turn l.counted,
          held_from_so m.state.table next (slice_set m.state.heads (head_place m.state.table chunk) head) m.state.words rows kept l.held.most,
        )

  -- a dead chunk has no count
  dead_none : (chunk : ChunkId) → is_dead (head_at m.state chunk) ≡ true → (head_at m.state chunk).count ≡ 0
  dead_none chunk dead =
      eqb-true (head_at m.state chunk).count 0 (and_parts (is_unlinked (head_at m.state chunk).tag) ((head_at m.state chunk).count == 0) dead).1

  pub put_back_tallied : (chunk : ChunkId) → can_put_back m.state hand chunk ≡ true → IsTallied (after_put_back m.state hand chunk)
  put_back_tallied chunk can =
      let out = and_parts _ (is_handed_out m.state.slabs chunk) can in
      let dead = and_parts _ (is_dead (head_at m.state chunk)) out.0 in
      let in_range = and_parts (has_slabs m.state hand) (has_chunk m.state.table chunk) dead.0 in
      closed_tallied (slabs_changes.after_back m.state.slabs chunk) (λ page. refl) chunk (with_tag_free (head_at m.state chunk)) in_range.1 (dead_none chunk dead.1) refl refl refl

  pub clear_tallied : (chunk : ChunkId) → can_clear m.state hand chunk ≡ true → IsTallied (state_after_clear m.state hand chunk)
  clear_tallied chunk can =
      let listed = and_parts _ (is_listed m.state.slabs (class_of_page m.state.slabs chunk.page) chunk) can in
      let closed = and_parts _ (is_free (head_at m.state chunk).tag || is_dead (head_at m.state chunk)) listed.0 in
      let moving = and_parts _ (is_on_the_move m.state.slabs chunk.page) closed.0 in
      let in_range = and_parts (has_slabs m.state hand) (has_chunk m.state.table chunk) moving.0 in
      let none : (head_at m.state chunk).count ≡ 0 = elim (or_cases (is_free (head_at m.state chunk).tag) (is_dead (head_at m.state chunk)) closed.1) [
        | inl free ↦ l.counted.shut chunk in_range.1 (inl free)
        | inr dead ↦ dead_none chunk dead
      ] in
      closed_tallied (slabs_changes.after_clear m.state.slabs chunk) (λ page. refl) chunk (with_tag_out (head_at m.state chunk)) in_range.1 none refl refl refl

  pub cut_tallied : (chunk : ChunkId) → can_cut m.state hand chunk ≡ true → IsTallied (state_after_cut m.state hand chunk)
  cut_tallied chunk can =
      let out = and_parts _ (is_out (head_at m.state chunk).tag) can in
      let next = and_parts _ (is_next_uncut m.state.slabs chunk) out.0 in
      let in_range = and_parts (has_slabs m.state hand) (has_chunk m.state.table chunk) next.0 in
      closed_tallied (slabs_changes.after_cut m.state.slabs chunk) (λ page. refl) chunk (with_tag_free (head_at m.state chunk)) in_range.1 (l.counted.shut chunk in_range.1 (inr out.1)) refl refl refl
