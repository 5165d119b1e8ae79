-- A reference to a linked chunk comes: counts and holdings stay as the law says.
use Rattle.std.proofs.Common.{◌≡◌, ◌⊎◌, ℕ, ◌+◌, ◌<◌, ◌≤◌, ◌==◌, true, false, List, length, Some, None, refl, sym, ap, ◌∙◌, arith, slice_set, slice_index_or, inl, inr, ltb-true}
use Rattle.std.proofs.lemmas.Bool.{cases_Bool, and_parts}
use Rattle.mc_classes.specs.Limits.{most_refs}
use Rattle.mc_pages.specs.declared.ids.ChunkId.{ChunkId}
use Rattle.mc_pages.specs.SlabState.{class_of_page}
use Rattle.mc_core.specs.declared.head.Head.{Head}
use Rattle.mc_core.specs.declared.head.Tag.{Tag}
use Rattle.mc_core.specs.declared.head.Tag.TheVariants.{Unlinked, Linked}
use Rattle.mc_core.specs.declared.holding.Holding.{Holding}
use Rattle.mc_core.specs.model.Head.{is_free, is_out, is_linked}
use Rattle.mc_core.specs.model.Holdings.{is_fresh}
use Rattle.mc_core.specs.model.State.{has_chunk, head_place, head_at, room_in, word_at, is_hand, holdings_at, item_at}
use Rattle.mc_core.specs.run.Chunks.{has_place, most_holdings}
use Rattle.mc_core.specs.run.Items.{can_count, head_after_refer, new_reference, with_reference, chunk_of_key, can_look_up, can_refer, can_refer_to, with_got, referred_to, after_refer, can_again, has_place_unlocked}
use Rattle.mc_core.specs.model.Columns.{head_in, Each}
use Rattle.mc_core.specs.past.Past.{Moment}
use Rattle.mc_core.specs.law.Lawful.{IsLawful}
use Rattle.mc_core.proofs.Counts.Holders.{hand_within}
use Rattle.mc_core.proofs.Counts.Rows.{rows_more, each_more, most_more, more_here, more_other}
use Rattle.mc_core.proofs.Counts.Turns.{Turn, IsSo, each_so, held_from_so, turn_counted, turn_each, turn_more}
use Rattle.mc_core.proofs.ItemWords.WholeItems.{item_whole, item_shows}
use Rattle.mc_core.proofs.Index.Entered.{tag_linked, entry_of, entry_linked}
use Rattle.mc_core.proofs.Counts.Tallied.{IsTallied}
use Rattle.mc_core.proofs.ItemWords.Numbers.{known_whole}

-- what is linked is neither free nor out
pub linked_open : (tag : Tag) → tag ≡ Linked → (is_free tag ≡ true) ⊎ (is_out tag ≡ true) → ⊥
linked_open tag is (inl free) = let never : is_free Linked ≡ true = ap is_free (sym is) ∙ free in cc
linked_open tag is (inr out) = let never : is_out Linked ≡ true = ap is_out (sym is) ∙ out in cc

module _ (m : Moment) (l : IsLawful m) (hand : ℕ) (there : is_hand m.state hand ≡ true) where
  -- a linked chunk has no fresh holding
  pub linked_stale : (chunk : ChunkId) → (head_in m.state.table m.state.heads chunk).tag ≡ Linked → Each (λ holding. holding.chunk ≡ chunk → is_fresh holding ≡ false) m.state.holdings
  linked_stale chunk linked = λ i row inside j holding there is.
      let this = slice_index_or (slice_index_or m.state.holdings i row) j holding in
      elim (cases_Bool (is_fresh this)) [
        | inl fresh ↦
            let unlinked = (l.held.alone i row inside j holding there fresh).0 in
            let never : Unlinked ≡ Linked = sym unlinked ∙ (ap (λ c. (head_in m.state.table m.state.heads c).tag) is ∙ linked) in
            absurd (cc)
        | inr stale ↦ stale
      ]

  module _ (chunk : ChunkId) (in_range : has_chunk m.state.table chunk ≡ true) (linked : (head_at m.state chunk).tag ≡ Linked)
      (fit : 3 + word_at m.state chunk 2 ≤ room_in m.state.table (class_of_page m.state.slabs chunk.page)) (room : length (holdings_at m.state hand) < most_holdings) where
    abbrev old : Head
    old = head_at m.state chunk

    abbrev rows : List (List Holding)
    rows = m.state.holdings

    abbrev holding : Holding
    holding = new_reference m.state chunk

    abbrev now : List (List Holding)
    now = rows_more rows hand holding

    turn : Turn m.state.table m.state.heads rows now chunk (head_after_refer old)
    turn = record {
      long = l.sized.headers;
      in_range = in_range;
      others = λ other isnt. more_other rows hand (hand_within m l hand there) chunk other holding refl isnt;
      sum = let more = more_here rows hand (hand_within m l hand there) chunk holding refl in omega arith;
      shut = λ shut. absurd (linked_open old.tag linked shut);
      issued = l.counted.issued chunk in_range;
    }

    abbrev heads' : List Head
    heads' = slice_set m.state.heads (head_place m.state.table chunk) (head_after_refer old)

    pub referred_tallied : IsTallied (with_reference m.state hand chunk)
    referred_tallied =
        let kept = turn_each m.state.table m.state.heads rows now chunk (head_after_refer old) turn m.state.slabs m.state.slabs m.state.words (λ page. refl) rows
        (λ i row inside j other on is. (refl, linked_stale chunk linked i row inside j other on is))
        (each_so m.state.table m.state.slabs m.state.heads m.state.words rows l.held) in
        let new = turn_more m.state.table m.state.heads rows now chunk (head_after_refer old) turn m.state.slabs m.state.slabs m.state.words (λ page. refl) holding refl refl
        (item_shows m.state chunk fit) ((λ fresh. absurd (cc)), λ stale. known_whole (item_at m.state chunk) (item_whole m.state chunk fit).0) (λ fresh. absurd (cc)) in (
          turn_counted m.state.table m.state.heads rows now chunk (head_after_refer old) turn l.counted,
          held_from_so m.state.table m.state.slabs heads' m.state.words now
              (each_more rows hand (IsSo m.state.table m.state.slabs heads' m.state.words now) holding kept new)
              (most_more rows hand holding room l.held.most),
        )

  pub refer_tallied : (key : ℕ) → can_refer m.state hand key ≡ true → IsTallied (after_refer m.state hand key)
  refer_tallied key can =
      let parts = and_parts _ (can_refer_to m.state (chunk_of_key m.state key)) can in
      let more = and_parts (can_look_up m.state hand key) (has_place m.state hand) parts.0 in
      let room = ltb-true (length (holdings_at m.state hand)) most_holdings more.1 in
      elim (chunk_of_key m.state key) as (λ o. chunk_of_key m.state key ≡ o → can_refer_to m.state o ≡ true → IsTallied (referred_to (with_got m.state hand key) hand o)) [
        | None ↦ λ _ never. absurd (cc)
        | Some place ↦ λ found may.
            let entry = entry_of m l key place found in
            referred_tallied place.0 entry.inside entry.linked entry.fits room
      ] refl parts.1

  pub again_tallied : (chunk : ChunkId) (issue : ℕ) → can_again m.state hand chunk issue ≡ true → IsTallied (with_reference m.state hand chunk)
  again_tallied chunk issue can =
      let count = and_parts _ (can_count (head_at m.state chunk)) can in
      let same = and_parts _ ((head_at m.state chunk).issue == issue) count.0 in
      let linked = and_parts _ (is_linked (head_at m.state chunk).tag) same.0 in
      let room = and_parts (has_chunk m.state.table chunk) (has_place_unlocked m.state hand) linked.0 in
      let is = tag_linked (head_at m.state chunk).tag linked.1 in
      let within_limit = ltb-true (length (holdings_at m.state hand)) most_refs room.1 in
      referred_tallied chunk room.0 is (entry_linked m l chunk room.0 is).fits (omega arith)
