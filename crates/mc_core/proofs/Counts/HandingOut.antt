-- A free chunk is handed out: counts and holdings stay as the law says.
use Rattle.std.proofs.Common.{◌≡◌, ◌⊎◌, ℕ, zero, suc, ◌<◌, true, false, List, length, replicate, Option, Some, None, refl, arith, nat_lt, slice_get, slice_set, inl, inr, ltb-true}
use Rattle.std.proofs.lemmas.Bool.{and_parts}
use Rattle.std.proofs.lemmas.List.{length-replicate}
use Rattle.mc_pages.specs.declared.ids.ChunkId.{ChunkId}
use Rattle.mc_pages.specs.SlabState.{SlabState, class_at, class_of_page}
use Rattle.mc_pages.specs.Changes as slabs_changes
use Rattle.mc_pages.proofs.HandedOut.{IsClass-handed_out}
use Rattle.mc_core.specs.declared.head.Head.{Head}
use Rattle.mc_core.specs.declared.head.Tag.{Tag}
use Rattle.mc_core.specs.declared.head.Tag.TheVariants.{Out, Free, Unlinked, Linked}
use Rattle.mc_core.specs.declared.holding.Holding.{Holding}
use Rattle.mc_core.specs.declared.holding.Purpose.{Purpose}
use Rattle.mc_core.specs.declared.holding.Purpose.TheVariants.{Item, Copy}
use Rattle.mc_core.specs.model.Head.{is_free}
use Rattle.mc_core.specs.model.State.{State, is_class, has_chunk, head_place, head_at, room_in, is_hand, has_slabs, with_slabs, holdings_at}
use Rattle.mc_core.specs.run.Silent.{is_handed_out}
use Rattle.mc_core.specs.run.Chunks.{most_issue, has_place, can_hand_out, head_after_hand_out, with_fresh, new_holding, next_free, can_pop, state_after_pop_of, state_after_pop, target_of, is_target, popped_off, can_pop_off, after_pop_off, most_holdings}
use Rattle.mc_core.specs.model.Columns.{Shows, holder_count, link_count}
use Rattle.mc_core.specs.past.Past.{Moment}
use Rattle.mc_core.specs.law.Lawful.{IsLawful}
use Rattle.mc_core.proofs.Steps.Listed.{IsClass_from, Contains_from_among}
use Rattle.mc_core.proofs.Counts.Holders.{nobodys, hand_within}
use Rattle.mc_core.proofs.Counts.Rows.{rows_more, each_more, most_more, more_here, more_other}
use Rattle.mc_core.proofs.Counts.Turns.{Turn, each_so, held_from_so, turn_counted, turn_each, turn_more, IsSo}
use Rattle.mc_core.proofs.Places.FreeChunks.{near_placed, first_placed, found_placed}
use Rattle.mc_core.proofs.Counts.Tallied.{IsTallied}
use Rattle.mc_core.specs.model.Holdings.{holding_words}

link_of_free : (tag : Tag) → is_free tag ≡ true → link_count tag ≡ 0
link_of_free Out free = refl
link_of_free Free free = refl
link_of_free Unlinked free = refl
link_of_free Linked free = absurd (cc)

-- of a new holding no word is known
none_known : (n place word : ℕ) (nothing : Option ℕ) → nothing ≡ None → slice_get (replicate n nothing) place ≡ Some (Some word) → ⊥
none_known zero place word nothing is at = cc
none_known (suc n) zero word nothing is at = cc
none_known (suc n) (suc place) word nothing is at = none_known n place word nothing is at

module _ (m : Moment) (l : IsLawful m) (hand : ℕ) (there : is_hand m.state hand ≡ true) (next : SlabState) (same : (page : ℕ) → class_of_page next page ≡ class_of_page m.state.slabs page)
    (chunk : ChunkId) (in_range : has_chunk m.state.table chunk ≡ true) (free : is_free (head_at m.state chunk).tag ≡ true) (unused : (head_at m.state chunk).issue < most_issue)
    (room : length (holdings_at m.state hand) < most_holdings) (purpose : Purpose) where
  abbrev old : Head
  old = head_at m.state chunk

  abbrev rows : List (List Holding)
  rows = m.state.holdings

  abbrev holding : Holding
  holding = new_holding (with_slabs m.state next) chunk purpose

  abbrev now : List (List Holding)
  now = rows_more rows hand holding

  nobody : holder_count chunk rows ≡ 0
  nobody = let count = l.counted.counted chunk in_range in let none = l.counted.shut chunk in_range (inl free) in omega arith

  turn : Turn m.state.table m.state.heads rows now chunk (head_after_hand_out old)
  turn = record {
    long = l.sized.headers;
    in_range = in_range;
    others = λ other isnt. more_other rows hand (hand_within m l hand there) chunk other holding refl isnt;
    sum = let more = more_here rows hand (hand_within m l hand there) chunk holding refl in let none = l.counted.shut chunk in_range (inl free) in let unlinked = link_of_free old.tag free in
        let no_link : link_count Unlinked ≡ 0 = refl in omega arith;
    shut = λ shut. absurd (neither shut);
    issued = omega arith;
  }
    where
      neither : (false ≡ true) ⊎ (false ≡ true) → ⊥
      neither (inl never) = cc
      neither (inr never) = cc

  unknown : Shows m.state.table next m.state.words chunk (holding_words holding)
  unknown = record {
    fits = let long = length-replicate {A = Option ℕ} (room_in m.state.table (class_of_page next chunk.page)) None in omega arith;
    known_words = λ place word at. absurd (none_known (room_in m.state.table (class_of_page next chunk.page)) place word None refl at);
  }

  pub handed_out_tallied : IsTallied (with_fresh (with_slabs m.state next) hand chunk purpose)
  handed_out_tallied =
      let empty = nobody in
      let none = nobodys chunk rows nobody in
      let kept = turn_each m.state.table m.state.heads rows now chunk (head_after_hand_out old) turn m.state.slabs next m.state.words same rows
      (λ i row in' j other on is. absurd (none i row in' j other on is))
      (each_so m.state.table m.state.slabs m.state.heads m.state.words rows l.held) in
      let one = more_here rows hand (hand_within m l hand there) chunk holding refl in
      let new = turn_more m.state.table m.state.heads rows now chunk (head_after_hand_out old) turn m.state.slabs next m.state.words same holding refl refl unknown
      ((λ fresh. length-replicate (room_in m.state.table (class_of_page next chunk.page)) None), λ stale. absurd (cc)) (λ fresh. (refl, omega arith)) in (
        turn_counted m.state.table m.state.heads rows now chunk (head_after_hand_out old) turn l.counted,
        held_from_so m.state.table next (slice_set m.state.heads (head_place m.state.table chunk) (head_after_hand_out old)) m.state.words now
            (each_more rows hand (IsSo m.state.table next (slice_set m.state.heads (head_place m.state.table chunk) (head_after_hand_out old)) m.state.words now) holding kept new)
            (most_more rows hand holding room l.held.most),
      )

-- a chunk that the hand may get
pub record MayHandOut (m : Moment) (hand : ℕ) (chunk : ChunkId) : Type 0 where
  pub in_range : has_chunk m.state.table chunk ≡ true
  pub free : is_free (head_at m.state chunk).tag ≡ true
  pub unused : (head_at m.state chunk).issue < most_issue
  pub room : length (holdings_at m.state hand) < most_holdings

module _ (m : Moment) (l : IsLawful m) (hand : ℕ) where
  can_hand_out_parts : (chunk : ChunkId) → can_hand_out m.state (Some chunk) ≡ true → (is_free (head_at m.state chunk).tag ≡ true) × ((head_at m.state chunk).issue < most_issue)
  can_hand_out_parts chunk can =
      let parts = and_parts (is_free (head_at m.state chunk).tag) (nat_lt (head_at m.state chunk).issue most_issue) can in
      (parts.0, ltb-true (head_at m.state chunk).issue most_issue parts.1)

  -- what holds after a free chunk of the class is handed out holds after the step
  pub pop_by : (P : State → Type 0) (class : ℕ) → can_pop m.state hand class ≡ true → ((chunk : ChunkId) → MayHandOut m hand chunk → P (state_after_pop_of (with_slabs m.state (slabs_changes.after_pop m.state.slabs class)) hand (Some chunk))) → P (state_after_pop m.state hand class)
  pop_by P class can each =
      let parts = and_parts _ (can_hand_out m.state (next_free m.state class)) can in
      let more = and_parts _ (has_place m.state hand) parts.0 in
      let of_table = and_parts (has_slabs m.state hand) (is_class m.state.table class) more.0 in
      let is = IsClass_from m.state.table m.state.slabs class l.paged.of_table of_table.1 in
      elim (next_free m.state class) as (λ o. next_free m.state class ≡ o → can_hand_out m.state o ≡ true → P (state_after_pop_of (with_slabs m.state (slabs_changes.after_pop m.state.slabs class)) hand o)) [
        | None ↦ λ _ never. absurd (cc)
        | Some chunk ↦ λ first may.
            let at = first_placed m l class chunk is first in
            let free = can_hand_out_parts chunk may in
            each chunk (record { in_range = near_placed m l chunk at.1; free = free.0; unused = free.1; room = ltb-true (length (holdings_at m.state hand)) most_holdings more.1 })
      ] refl parts.1

  -- and after one takes the place of another
  pub pop_off_by : (P : State → Type 0) (old : ChunkId) → can_pop_off m.state hand old ≡ true → ((chunk : ChunkId) → MayHandOut m hand chunk → P (popped_off m.state hand old (Some chunk))) → P (after_pop_off m.state hand old)
  pop_off_by P old can each =
      let parts = and_parts _ (can_hand_out m.state (target_of m.state.table m.state.heads m.state.slabs old.page)) can in
      let more = and_parts _ (has_place m.state hand) parts.0 in
      let out = and_parts _ (is_handed_out m.state.slabs old) more.0 in
      let class = class_of_page m.state.slabs old.page in
      let is = IsClass-handed_out m.state.slabs old l.paged.of_table.accounted (Contains_from_among (class_at m.state.slabs class).order old out.1) in
      elim (target_of m.state.table m.state.heads m.state.slabs old.page) as (λ o. target_of m.state.table m.state.heads m.state.slabs old.page ≡ o → can_hand_out m.state o ≡ true → P (popped_off m.state hand old o)) [
        | None ↦ λ _ never. absurd (cc)
        | Some chunk ↦ λ found may.
            let at = found_placed m l class chunk (is_target m.state.table m.state.heads old.page) is found in
            let free = can_hand_out_parts chunk may in
            each chunk (record { in_range = near_placed m l chunk at.1; free = free.0; unused = free.1; room = ltb-true (length (holdings_at m.state hand)) most_holdings more.1 })
      ] refl parts.1

  pub pop_tallied : (class : ℕ) → is_hand m.state hand ≡ true → can_pop m.state hand class ≡ true → IsTallied (state_after_pop m.state hand class)
  pop_tallied class there can = pop_by IsTallied class can (λ chunk may. handed_out_tallied m l hand there (slabs_changes.after_pop m.state.slabs class) (λ page. refl) chunk may.in_range may.free may.unused may.room Item)

  pub pop_off_tallied : (old : ChunkId) → is_hand m.state hand ≡ true → can_pop_off m.state hand old ≡ true → IsTallied (after_pop_off m.state hand old)
  pop_off_tallied old there can = pop_off_by IsTallied old can (λ chunk may. handed_out_tallied m l hand there (slabs_changes.after_replace m.state.slabs chunk old) (λ page. refl) chunk may.in_range may.free may.unused may.room (Copy old))
