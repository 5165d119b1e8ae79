-- Known items as a fresh chunk is linked.
use Rattle.std.proofs.Common.{◌≡◌, ℕ, ◌<◌, ◌≤◌, true, List, [], ◌∷◌, length, refl, sym, ap, subst, ◌∙◌, arith, slice_set, Option, Some, None, eqb-true, is_some}
use Rattle.std.specs.Bool.{nat_eq}
use Rattle.std.specs.Option.{option_eq}
use Rattle.std.proofs.lemmas.Bool.{and_parts}
use Rattle.mc_pages.specs.declared.ids.ChunkId.{ChunkId}
use Rattle.mc_pages.specs.SlabState.{class_of_page}
use Rattle.mc_pages.proofs.Chunks.{same_from_is_chunk}
use Rattle.mc_core.specs.declared.event.Step.TheVariants.{Link}
use Rattle.mc_core.specs.declared.head.Head.{Head}
use Rattle.mc_core.specs.declared.head.Tag.{Tag}
use Rattle.mc_core.specs.declared.head.Tag.TheVariants.{Out, Free, Unlinked, Linked}
use Rattle.mc_core.specs.declared.holding.Holding.{Holding}
use Rattle.mc_core.specs.declared.holding.Kind.{Kind}
use Rattle.mc_core.specs.declared.holding.Kind.TheVariants.{Reference, Fresh}
use Rattle.mc_core.specs.declared.holding.Purpose.TheVariants.{Item, Copy, Rescue}
use Rattle.mc_core.specs.model.Head.{is_unlinked}
use Rattle.mc_core.specs.model.Holdings.{Words, stamp_in, words_of_item, is_complete, is_of_chunk, holding_of, is_fresh, is_fresh_kind, numbers_of_known, holding_words, all_known, stamp_in_words}
use Rattle.mc_core.specs.model.State.{State, room_in, chunk_room, is_hand, has_chunk, head_place, head_at, ids_at, with_head, holdings_at, with_holding, without_holding}
use Rattle.mc_core.specs.run.Items.{head_after_link, as_reference, recorded_link, after_link_of, are_same, is_allowed_for, can_record_link, can_link_holding, can_count, is_next_stamp}
use Rattle.mc_core.specs.past.Past.{Moment, KnownItem, StoredItem, with_more, stored_item_of, item_stored_by_link, known_by, known_of_holding, moment_stepped}
use Rattle.mc_core.specs.model.Columns.{head_in, Each, Shows}
use Rattle.mc_core.specs.law.Identities.{stored_count}
use Rattle.mc_core.specs.law.Knowing.{WasStored, IsRescue, IsTrueStill}
use Rattle.mc_core.specs.law.Laws.{MayStep}
use Rattle.mc_core.specs.law.Lawful.{IsLawful, KnownIn}
use Rattle.mc_core.proofs.Steps.Base.{each_map, held_out, IsOut}
use Rattle.mc_core.proofs.Steps.Plays.{hand_there}
use Rattle.mc_core.proofs.Counts.Rows.{rows_less, rows_more, each_more}
use Rattle.mc_core.proofs.Counts.Holders.{found_passes, found_all, found_each, fresh_lost, nobodys}
use Rattle.mc_core.proofs.Hands.MoreRows.{with_none, more_added, one_contained}
use Rattle.mc_core.proofs.Histories.SaidOnce.{said_more, next_unsaid, once_more}
use Rattle.mc_core.proofs.ItemWords.ShownItems.{item_whole, item_stamp, shows_item}
use Rattle.mc_core.proofs.Known.KnownStill.{IsApartFrom, head_now, still_turned}
use Rattle.mc_core.proofs.Known.KnownQuiet.{IsStill, apart_less, own_less, younger_linked}
use Rattle.mc_core.proofs.Known.KnownLearned.{AreOne, known_learned}
use Rattle.mc_core.proofs.Known.KnownChunks.{KnownAt}
use Rattle.mc_core.proofs.ItemWords.Numbers.{known_numbers, numbers_at, numbers_whole, numbers_known}
use Rattle.std.specs.List.{list_all}

-- two items that are the same
pub same_words : (a : Words) (b : List ℕ) → are_same a b ≡ true → a ≡ all_known b
same_words [] [] h = refl
same_words [] (y ∷ ys) h = absurd (cc)
same_words (x ∷ xs) [] h = absurd (cc)
same_words (x ∷ xs) (y ∷ ys) h =
    let parts = and_parts (option_eq nat_eq x (Some y)) (are_same xs ys) h in
    let first = same_word_of x (Some y) parts.0 in let rest = same_words xs ys parts.1 in cc
  where
    same_word_of : (x y : Option ℕ) → option_eq nat_eq x y ≡ true → x ≡ y
    same_word_of None None h = refl
    same_word_of None (Some y) h = absurd (cc)
    same_word_of (Some x) None h = absurd (cc)
    same_word_of (Some x) (Some y) h = ap Some (eqb-true x y h)

pub unlinked_tag : (tag : Tag) → is_unlinked tag ≡ true → tag ≡ Unlinked
unlinked_tag Out h = absurd (cc)
unlinked_tag Free h = absurd (cc)
unlinked_tag Unlinked h = refl
unlinked_tag Linked h = absurd (cc)

module _ (m : Moment) (l : IsLawful m) (hand : ℕ) (there : is_hand m.state hand ≡ true) (chunk : ChunkId) (holding : Holding) (found : holding_of chunk (holdings_at m.state hand) ≡ Some holding)
    (fresh : is_fresh holding ≡ true) (complete : is_complete (holding_words holding) ≡ true) (unlinked : is_unlinked (head_at m.state chunk).tag ≡ true) where
  abbrev row : List Holding
  row = holdings_at m.state hand

  abbrev head : Head
  head = head_after_link (head_at m.state chunk)

  abbrev less : List (List Holding)
  less = rows_less m.state.holdings hand (is_of_chunk chunk)

  abbrev reference : Holding
  reference = as_reference holding

  abbrev knew : KnownItem
  knew = known_by (chunk_room m.state chunk) reference

  at : holding.chunk ≡ chunk
  at = same_from_is_chunk holding.chunk chunk (found_passes (is_of_chunk chunk) row holding found)

  out : IsOut m l holding
  out = found_all (IsOut m l) (is_of_chunk chunk) row holding found (held_out m l hand)

  in_range : has_chunk m.state.table chunk ≡ true
  in_range = subst (λ (c : ChunkId). has_chunk m.state.table c ≡ true) at out.0

  issue_is : holding.issue ≡ (head_at m.state chunk).issue
  issue_is = sym out.1.1 ∙ ap (λ (c : ChunkId). (head_in m.state.table m.state.heads c).issue) at

  abbrev IsStillNow : KnownItem → Type 0
  IsStillNow k = IsTrueStill m.state.table m.state.slabs (slice_set m.state.heads (head_place m.state.table chunk) head) m.state.words (rows_more less hand reference) k

  still : (k : KnownItem) → IsStill m l k → IsStillNow k
  still k is =
      still_turned m.state.table m.state.heads chunk head l.sized.headers in_range m.state.slabs m.state.slabs m.state.words m.state.holdings (rows_more less hand reference) k
      (younger_linked (head_at m.state chunk) (unlinked_tag (head_at m.state chunk).tag unlinked)) refl
      (each_more less hand (IsApartFrom k) reference (apart_less m l hand (is_of_chunk chunk) k is) (λ never _ _. absurd (cc))) is

  -- no fresh holding of the chunk is left
  knew_apart : Each (IsApartFrom knew) (rows_more less hand reference)
  knew_apart =
      each_more less hand (IsApartFrom knew) reference
      (each_map (λ h. h.chunk ≡ holding.chunk → ⊥) (IsApartFrom knew) less (λ h other _ same _. other same) (nobodys holding.chunk less (fresh_lost m l hand there (is_of_chunk chunk) holding found fresh)))
      (λ never _ _. absurd (cc))

  knew_still : IsStillNow knew
  knew_still =
      let whole = item_whole (holding_words holding) complete in
      record {
        inside = out.0;
        whole = numbers_whole (words_of_item (holding_words holding)) whole.long;
        older = head_now m.state.table m.state.heads chunk head l.sized.headers in_range (λ h. holding.issue ≤ h.issue) holding.chunk out.0 (λ _. let same = issue_is in omega arith) (λ _. let same = out.1.1 in omega arith);
        shows = λ _. subst (Shows m.state.table m.state.slabs m.state.words holding.chunk) (sym (known_numbers (words_of_item (holding_words holding)) (and_parts _ (list_all is_some (words_of_item (holding_words holding))) complete).1))
            (shows_item m.state.table m.state.slabs m.state.words holding.chunk (holding_words holding) complete
            (found_each (λ h. Shows m.state.table m.state.slabs m.state.words h.chunk (holding_words h)) m.state.holdings hand (is_of_chunk chunk) holding found l.held.shows));
        room = λ _. ap (λ (c : ChunkId). room_in m.state.table (class_of_page m.state.slabs c.page)) at;
        apart = knew_apart;
      }

  -- nobody knew an item of the fresh chunk
  none_knew : Each (AreOne knew) m.past.known
  none_knew =
      each_map (IsStill m l) (AreOne knew) m.past.known
      (λ k is same issue. absurd (found_each (IsApartFrom k) m.state.holdings hand (is_of_chunk chunk) holding found is.apart fresh (sym same) (sym issue)))
      l.known.still

  pub link_learned : (said' : List (List StoredItem)) → ((stamp : ℕ) → stored_count stamp said' ≤ 1) → ((stamp : ℕ) (words : List ℕ) → WasStored m.past.stored stamp words → WasStored said' stamp words) →
      WasStored said' (stamp_in (holding_words holding)) (numbers_of_known (words_of_item (holding_words holding))) → KnownAt (with_holding (with_head (without_holding m.state hand (is_of_chunk chunk)) chunk head) hand reference) said' (with_more m.past.known hand (knew ∷ []))
  link_learned said' once more said =
      known_learned m l hand there knew chunk head in_range reference less said' once more
      (subst (λ n. WasStored said' n (numbers_of_known (words_of_item (holding_words holding)))) (sym (numbers_at (words_of_item (holding_words holding)) 1 ∙ item_stamp (holding_words holding) complete)) said)
      still knew_still none_knew (own_less m l hand (is_of_chunk chunk)) refl at issue_is

module _ (m : Moment) (hand : ℕ) (chunk : ChunkId) where
  abbrev left : State
  left = without_holding m.state hand (is_of_chunk chunk)

  -- what is left when the stripe was told of a holding of this kind
  abbrev ends : Holding → Kind → State
  ends holding kind = with_holding (with_head (recorded_link left hand holding kind) chunk (head_after_link (head_at left chunk))) hand (as_reference holding)

  abbrev Goal : Holding → Kind → Type 0
  Goal holding kind = KnownAt (ends holding kind) (with_more m.past.stored hand (stored_item_of kind (holding_words holding))) (with_more m.past.known hand (known_by (chunk_room m.state chunk) (as_reference holding) ∷ []))

  module _ (may : MayStep m hand (Link chunk)) (holding : Holding) (found : holding_of chunk (holdings_at m.state hand) ≡ Some holding) (complete : is_complete (holding_words holding) ≡ true)
      (unlinked : is_unlinked (head_at m.state chunk).tag ≡ true) where
    within : hand < length m.past.stored
    within = let rows = may.lawful.rows.stored in let is = hand_there m.state hand may.there in omega arith

    -- an item of the hand's own is said
    linked_own : is_fresh holding ≡ true → is_next_stamp (ids_at m.state hand) (stamp_in (holding_words holding)) ≡ true →
        KnownAt (with_holding (with_head left chunk (head_after_link (head_at m.state chunk))) hand (as_reference holding)) (with_more m.past.stored hand (record { stamp = stamp_in (holding_words holding); words = numbers_of_known (words_of_item (holding_words holding)) } ∷ []))
        (with_more m.past.known hand (known_by (chunk_room m.state chunk) (as_reference holding) ∷ []))
    linked_own fresh next =
        let l = may.lawful in
        let s : StoredItem = record { stamp = stamp_in (holding_words holding); words = numbers_of_known (words_of_item (holding_words holding)) } in
        let stores_nothing = next_unsaid m.state.ids m.past.mine m.past.stored m.past.known hand s.stamp l.numbered next in
        link_learned m l hand may.there chunk holding found fresh complete unlinked (with_more m.past.stored hand (s ∷ []))
        (λ stamp. once_more m.past.stored hand s stamp within stores_nothing (l.known.once stamp)) (λ stamp words. said_more m.past.stored hand (s ∷ []) stamp words)
        (hand, s, more_added m.past.stored hand (s ∷ []) s within (one_contained s), refl, refl)

    -- what was rescued was said
    linked_rescued : (old : ChunkId) (item : List ℕ) (own : Words) → holding.kind ≡ Fresh (Rescue old item) own → are_same (words_of_item (holding_words holding)) item ≡ true → Goal holding (Fresh (Rescue old item) own)
    linked_rescued old item own kind same =
        let l = may.lawful in
        let fresh : is_fresh holding ≡ true = ap is_fresh_kind kind in
        let is = same_words (words_of_item (holding_words holding)) item same in
        let rescue : IsRescue m.past.stored holding.chunk (Fresh (Rescue old item) own) = subst (IsRescue m.past.stored holding.chunk) kind (found_each (λ h. IsRescue m.past.stored h.chunk h.kind) m.state.holdings hand (is_of_chunk chunk) holding found l.rescued) in
        let same_item : numbers_of_known (words_of_item (holding_words holding)) ≡ item = ap numbers_of_known is ∙ numbers_known item in
        let stamp : stamp_in_words item ≡ stamp_in (holding_words holding) = ap stamp_in_words (sym same_item) ∙ numbers_at (words_of_item (holding_words holding)) 1 ∙ item_stamp (holding_words holding) complete in
        let said : WasStored m.past.stored (stamp_in (holding_words holding)) (numbers_of_known (words_of_item (holding_words holding))) =
        subst (λ n. WasStored m.past.stored n (numbers_of_known (words_of_item (holding_words holding)))) stamp (subst (WasStored m.past.stored (stamp_in_words item)) (sym same_item) rescue.1) in
        subst (λ (s : List (List StoredItem)). KnownAt (ends holding (Fresh (Rescue old item) own)) s (with_more m.past.known hand (known_by (chunk_room m.state chunk) (as_reference holding) ∷ []))) (sym (with_none m.past.stored hand))
        (link_learned m l hand may.there chunk holding found fresh complete unlinked m.past.stored l.known.once (λ stamp words is. is) said)

    linked_kind : (kind : Kind) → holding.kind ≡ kind → is_allowed_for m.state hand (holding_words holding) kind ≡ true → Goal holding kind
    linked_kind (Reference own) kind can = absurd (cc)
    linked_kind (Fresh Item own) kind can = linked_own (ap is_fresh_kind kind) (and_parts _ _ can).0
    linked_kind (Fresh (Copy old) own) kind can = linked_own (ap is_fresh_kind kind) (and_parts _ _ can).0
    linked_kind (Fresh (Rescue old item) own) kind can = linked_rescued old item own kind (and_parts _ _ can).0

  pub known_link : MayStep m hand (Link chunk) → KnownIn (moment_stepped m hand (Link chunk))
  known_link may =
      elim (holding_of chunk (holdings_at m.state hand)) as (λ o. holding_of chunk (holdings_at m.state hand) ≡ o → can_link_holding m.state hand chunk o ≡ true →
      KnownAt (after_link_of left hand chunk o) (with_more m.past.stored hand (item_stored_by_link o)) (with_more m.past.known hand (known_of_holding (chunk_room m.state chunk) o))) [
        | None ↦ λ _ never. absurd (cc)
        | Some holding ↦ λ found can.
            let parts = and_parts _ (can_count (head_at m.state chunk)) can in
            let tag = and_parts _ (is_unlinked (head_at m.state chunk).tag) parts.0 in
            let tells = and_parts (is_complete (holding_words holding)) (can_record_link m.state hand holding) tag.0 in
            linked_kind may holding found tells.0 tag.1 holding.kind refl (and_parts _ (is_allowed_for m.state hand (holding_words holding) holding.kind) tells.1).1
      ] refl may.allowed
