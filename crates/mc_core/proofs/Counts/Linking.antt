-- A fresh chunk is linked: counts and holdings stay as the law says.
use Rattle.std.proofs.Common.{◌≡◌, ℕ, ◌<◌, true, List, length, Some, None, refl, ap, ◌∙◌, arith, subst, slice_set, is_some, sym}
use Rattle.std.proofs.lemmas.Bool.{and_parts}
use Rattle.mc_pages.specs.declared.ids.ChunkId.{ChunkId}
use Rattle.mc_pages.proofs.Chunks.{same_from_is_chunk}
use Rattle.mc_core.specs.declared.head.Head.{Head}
use Rattle.mc_core.specs.declared.head.Tag.TheVariants.{Unlinked, Linked}
use Rattle.mc_core.specs.declared.holding.Holding.{Holding}
use Rattle.mc_core.specs.declared.holding.Kind.{Kind}
use Rattle.mc_core.specs.declared.holding.Kind.TheVariants.{Reference, Fresh}
use Rattle.mc_core.specs.declared.holding.Purpose.TheVariants.{Item, Copy, Rescue}
use Rattle.mc_core.specs.model.Head.{is_unlinked}
use Rattle.mc_core.specs.model.Holdings.{Words, words_of_item, is_complete, is_of_chunk, is_fresh, is_fresh_kind, holding_of, holding_words, all_known, numbers_of_known}
use Rattle.mc_core.specs.model.State.{State, has_chunk, head_place, head_at, with_head, is_hand, holdings_at, with_holding, without_holding}
use Rattle.mc_core.specs.run.Items.{can_count, is_allowed_for, can_record_link, can_link_holding, can_link, head_after_link, as_reference, recorded_link, after_link_of, state_after_link}
use Rattle.mc_core.specs.model.Columns.{head_in, Shows, holder_count, link_count}
use Rattle.mc_core.specs.law.Counts.{AreCounted, AreHeld}
use Rattle.mc_core.specs.past.Past.{Moment}
use Rattle.mc_core.specs.law.Lawful.{IsLawful}
use Rattle.mc_core.proofs.Counts.Holders.{found_each, found_passes, hand_within, fresh_lost, nobodys}
use Rattle.mc_core.proofs.Counts.Rows.{rows_more, rows_less, each_less, each_more, length_less, most_swapped, more_here, more_other, less_here, less_other}
use Rattle.mc_core.proofs.Counts.Turns.{Turn, IsSo, each_so, held_from_so, turn_counted, turn_each, turn_more}
use Rattle.mc_core.proofs.ItemWords.WholeItems.{filled_whole, in_front}
use Rattle.mc_core.proofs.Index.Entered.{tag_unlinked}
use Rattle.mc_core.proofs.Counts.Referring.{linked_open}
use Rattle.mc_core.proofs.Counts.Tallied.{IsTallied}
use Rattle.mc_core.proofs.ItemWords.Numbers.{known_numbers, numbers_whole}
use Rattle.std.specs.List.{list_all}

-- what suits is fresh
pub suits_fresh : (state : State) (hand : ℕ) (words : Words) (kind : Kind) → is_allowed_for state hand words kind ≡ true → is_fresh_kind kind ≡ true
suits_fresh state hand words (Reference own) suit = absurd (cc)
suits_fresh state hand words (Fresh purpose own) suit = refl

-- what a link asks
pub record MayLink (m : Moment) (hand : ℕ) (chunk : ChunkId) (holding : Holding) : Type 0 where
  pub found : holding_of chunk (holdings_at m.state hand) ≡ Some holding
  pub fresh : is_fresh holding ≡ true
  pub complete : is_complete (holding_words holding) ≡ true
  pub told : can_record_link m.state hand holding ≡ true
  pub unlinked : (head_at m.state chunk).tag ≡ Unlinked

pub may_link : (m : Moment) (hand : ℕ) (chunk : ChunkId) (holding : Holding) → holding_of chunk (holdings_at m.state hand) ≡ Some holding → can_link_holding m.state hand chunk (Some holding) ≡ true → MayLink m hand chunk holding
may_link m hand chunk holding found can =
    let counts = and_parts _ (can_count (head_at m.state chunk)) can in
    let unlinked = and_parts _ (is_unlinked (head_at m.state chunk).tag) counts.0 in
    let tells = and_parts (is_complete (holding_words holding)) (can_record_link m.state hand holding) unlinked.0 in
    let suit = and_parts _ (is_allowed_for m.state hand (holding_words holding) holding.kind) tells.1 in
    record {
      found = found;
      fresh = suits_fresh m.state hand (holding_words holding) holding.kind suit.1;
      complete = tells.0;
      told = tells.1;
      unlinked = tag_unlinked (head_at m.state chunk).tag unlinked.1;
    }

module _ (m : Moment) (l : IsLawful m) (hand : ℕ) (there : is_hand m.state hand ≡ true) (chunk : ChunkId) (holding : Holding) (may : MayLink m hand chunk holding) where
  abbrev old : Head
  old = head_at m.state chunk

  abbrev rows : List (List Holding)
  rows = m.state.holdings

  abbrev left : List (List Holding)
  left = rows_less rows hand (is_of_chunk chunk)

  abbrev now : List (List Holding)
  now = rows_more left hand (as_reference holding)

  abbrev heads' : List Head
  heads' = slice_set m.state.heads (head_place m.state.table chunk) (head_after_link old)

  pub is : holding.chunk ≡ chunk
  is = same_from_is_chunk holding.chunk chunk (found_passes (is_of_chunk chunk) (holdings_at m.state hand) holding may.found)

  so : IsSo m.state.table m.state.slabs m.state.heads m.state.words rows holding
  so = found_each (IsSo m.state.table m.state.slabs m.state.heads m.state.words rows) rows hand (is_of_chunk chunk) holding may.found (each_so m.state.table m.state.slabs m.state.heads m.state.words rows l.held)

  within : hand < length rows
  within = hand_within m l hand there

  -- nobody else holds the chunk
  pub left_none : holder_count chunk left ≡ 0
  left_none = subst (λ c. holder_count c left ≡ 0) is (fresh_lost m l hand there (is_of_chunk chunk) holding may.found may.fresh)

  turn : Turn m.state.table m.state.heads rows now chunk (head_after_link old)
  turn = record {
    long = l.sized.headers;
    in_range = subst (λ c. has_chunk m.state.table c ≡ true) is so.inside;
    others = λ other isnt. more_other left hand (length_less rows hand within (is_of_chunk chunk)) chunk other (as_reference holding) is isnt
        ∙ less_other rows hand within chunk other (is_of_chunk chunk) holding may.found is isnt;
    sum =
        let less = less_here rows hand within chunk (is_of_chunk chunk) holding may.found is in
        let more = more_here left hand (length_less rows hand within (is_of_chunk chunk)) chunk (as_reference holding) is in
        let no_link : link_count old.tag ≡ 0 = ap link_count may.unlinked in
        let link : link_count Linked ≡ 1 = refl in omega arith;
    shut = λ shut. absurd (linked_open Linked refl shut);
    issued = l.counted.issued chunk (subst (λ c. has_chunk m.state.table c ≡ true) is so.inside);
  }

  shows : Shows m.state.table m.state.slabs m.state.words chunk (all_known (numbers_of_known (words_of_item (holding_words holding))))
  shows = let before = so.shows in let fits = (filled_whole (holding_words holding) may.complete).1 in subst (Shows m.state.table m.state.slabs m.state.words chunk) (sym (known_numbers (words_of_item (holding_words holding)) (and_parts (Rattle.mc_core.specs.model.Holdings.has_whole_item (holding_words holding)) (list_all is_some (words_of_item (holding_words holding))) may.complete).1))
      (subst (λ c. Shows m.state.table m.state.slabs m.state.words c (words_of_item (holding_words holding))) is (record {
        fits = let room = before.fits in omega arith;
        known_words = λ place word at. before.known_words place word (in_front _ (holding_words holding) place word at);
      }))

  linked_tallied : AreCounted m.state.table heads' now × AreHeld m.state.table m.state.slabs heads' m.state.words now
  linked_tallied =
      let kept = turn_each m.state.table m.state.heads rows now chunk (head_after_link old) turn m.state.slabs m.state.slabs m.state.words (λ page. refl) left
      (λ i row inside j other on same. absurd (nobodys chunk left left_none i row inside j other on same))
      (each_less rows hand (IsSo m.state.table m.state.slabs m.state.heads m.state.words rows) (is_of_chunk chunk) (each_so m.state.table m.state.slabs m.state.heads m.state.words rows l.held)) in
      let new = turn_more m.state.table m.state.heads rows now chunk (head_after_link old) turn m.state.slabs m.state.slabs m.state.words (λ page. refl) (as_reference holding) is
      (so.issue ∙ ap (λ c. (head_in m.state.table m.state.heads c).issue) is) shows
      ((λ fresh. absurd (cc)), λ stale. numbers_whole (words_of_item (holding_words holding)) (filled_whole (holding_words holding) may.complete).0.0) (λ fresh. absurd (cc)) in (
        turn_counted m.state.table m.state.heads rows now chunk (head_after_link old) turn l.counted,
        held_from_so m.state.table m.state.slabs heads' m.state.words now
            (each_more left hand (IsSo m.state.table m.state.slabs heads' m.state.words now) (as_reference holding) kept new)
            (most_swapped rows hand within (is_of_chunk chunk) holding (as_reference holding) may.found l.held.most),
      )

  -- whichever way the stripe is told
  told_tallied : (kind : Kind) → IsTallied (with_holding (with_head (recorded_link (without_holding m.state hand (is_of_chunk chunk)) hand holding kind) chunk (head_after_link old)) hand (as_reference holding))
  told_tallied (Reference own) = linked_tallied
  told_tallied (Fresh Item own) = linked_tallied
  told_tallied (Fresh (Copy other) own) = linked_tallied
  told_tallied (Fresh (Rescue other item) own) = linked_tallied

  pub link_of_tallied : IsTallied (after_link_of (without_holding m.state hand (is_of_chunk chunk)) hand chunk (Some holding))
  link_of_tallied = told_tallied holding.kind

pub link_tallied : (m : Moment) → IsLawful m → (hand : ℕ) → is_hand m.state hand ≡ true → (chunk : ChunkId) → can_link m.state hand chunk ≡ true → IsTallied (state_after_link m.state hand chunk)
link_tallied m l hand there chunk can =
    elim (holding_of chunk (holdings_at m.state hand)) as (λ o. holding_of chunk (holdings_at m.state hand) ≡ o → can_link_holding m.state hand chunk o ≡ true →
    IsTallied (after_link_of (without_holding m.state hand (is_of_chunk chunk)) hand chunk o)) [
      | None ↦ λ _ never. absurd (cc)
      | Some holding ↦ λ found may. link_of_tallied m l hand there chunk holding (may_link m hand chunk holding found may)
    ] refl can
