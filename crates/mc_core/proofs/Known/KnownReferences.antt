-- Known items as a hand gets a reference to a linked chunk.
use Rattle.std.proofs.Common.{◌≡◌, ℕ, ◌==◌, true, [], ◌∷◌, refl, sym, subst, inr, slice_set, Some, None, Contains, ap, ◌∙◌}
use Rattle.std.proofs.lemmas.Bool.{and_parts}
use Rattle.mc_pages.specs.declared.ids.ChunkId.{ChunkId}
use Rattle.mc_pages.specs.SlabState.{class_of_page}
use Rattle.mc_core.specs.declared.event.Step.TheVariants.{Refer, Again}
use Rattle.mc_core.specs.declared.head.Head.{Head}
use Rattle.mc_core.specs.declared.head.Tag.{Tag}
use Rattle.mc_core.specs.declared.head.Tag.TheVariants.{Out, Free, Unlinked, Linked}
use Rattle.mc_core.specs.declared.holding.Holding.{Holding}
use Rattle.mc_core.specs.model.Head.{is_linked}
use Rattle.mc_core.specs.model.Holdings.{stamp_in_words, all_known, numbers_of_known}
use Rattle.mc_core.specs.model.State.{room_in, chunk_room, is_hand, has_chunk, head_place, head_at, item_at}
use Rattle.mc_core.specs.run.Items.{head_after_refer, new_reference, with_reference, with_got, referred_to, chunk_of_key, can_refer_to, can_count, has_place_unlocked}
use Rattle.mc_core.specs.past.Past.{Moment, KnownItem, with_more, known_by, known_of_place, moment_stepped}
use Rattle.mc_core.specs.model.Columns.{IsHandedOut, head_in, Each, Shows}
use Rattle.mc_core.specs.law.Knowing.{WasStored, IsTrueStill}
use Rattle.mc_core.specs.law.Laws.{MayStep}
use Rattle.mc_core.specs.law.Lawful.{IsLawful, KnownIn}
use Rattle.mc_core.proofs.Counts.Rows.{rows_more, each_more}
use Rattle.mc_core.proofs.Hands.MoreRows.{row_of, with_none, each_contained}
use Rattle.mc_core.proofs.ItemWords.ShownItems.{IsWhole, shown_item}
use Rattle.mc_core.proofs.Known.KnownStill.{IsApartFrom, still_turned}
use Rattle.mc_core.proofs.Known.KnownQuiet.{IsStill, younger_referred}
use Rattle.mc_core.proofs.Known.KnownLearned.{AreOne, known_learned}
use Rattle.mc_core.proofs.Known.KnownChunks.{KnownAt, entry_of}
use Rattle.mc_core.proofs.ItemWords.Numbers.{numbers_known, whole_known}

pub linked_tag : (tag : Tag) → is_linked tag ≡ true → tag ≡ Linked
linked_tag Out h = absurd (cc)
linked_tag Free h = absurd (cc)
linked_tag Unlinked h = absurd (cc)
linked_tag Linked h = refl

module _ (m : Moment) (l : IsLawful m) (chunk : ChunkId) (in_range : has_chunk m.state.table chunk ≡ true) (linked : (head_at m.state chunk).tag ≡ Linked) where
  -- the item in the chunk
  abbrev pub item_known : KnownItem
  item_known = known_by (chunk_room m.state chunk) (new_reference m.state chunk)

  -- is known to some hand
  pub linked_known : (hand : ℕ) × (k : KnownItem) × Contains (row_of m.past.known hand) k × (k ≡ item_known)
  linked_known =
      let (hand, k, has, same) = l.known.linked chunk in_range linked in
      let still = each_contained (IsStill m l) m.past.known hand k l.known.still has in
      let whole : IsWhole (all_known k.words) = whole_known k.words still.whole in
      let shown = still.shows (subst (λ (c : ChunkId). IsHandedOut (head_in m.state.table m.state.heads c) k.issue) (sym same.0) (inr linked, sym same.1)) in
      let here : Shows m.state.table m.state.slabs m.state.words chunk (all_known k.words) = subst (λ (c : ChunkId). Shows m.state.table m.state.slabs m.state.words c (all_known k.words)) same.0 shown in
      let item = shown_item m.state chunk (all_known k.words) here whole in
      let words : k.words ≡ item_at m.state chunk = sym (sym (numbers_known (item_at m.state chunk)) ∙ ap numbers_of_known item ∙ numbers_known k.words) in
      let room : k.room ≡ chunk_room m.state chunk =
      sym (still.room (subst (λ (c : ChunkId). IsHandedOut (head_in m.state.table m.state.heads c) k.issue) (sym same.0) (inr linked, sym same.1)))
      ∙ ap (λ (c : ChunkId). room_in m.state.table (class_of_page m.state.slabs c.page)) same.0 in
      (hand, k, has, λ i. record { chunk = same.0 i; issue = same.1 i; room = room i; words = words i })

  -- so what holds of each known item holds of it
  pub item_has : (P : KnownItem → Type 0) → Each P m.past.known → P item_known
  item_has P each = let (hand, k, has, same) = linked_known in subst P same (each_contained P m.past.known hand k each has)

module _ (m : Moment) (l : IsLawful m) (hand : ℕ) (there : is_hand m.state hand ≡ true) (chunk : ChunkId) (in_range : has_chunk m.state.table chunk ≡ true) (linked : (head_at m.state chunk).tag ≡ Linked) where
  abbrev reference : Holding
  reference = new_reference m.state chunk

  abbrev head : Head
  head = head_after_refer (head_at m.state chunk)

  abbrev IsStillNow : KnownItem → Type 0
  IsStillNow k = IsTrueStill m.state.table m.state.slabs (slice_set m.state.heads (head_place m.state.table chunk) head) m.state.words (rows_more m.state.holdings hand reference) k

  still : (k : KnownItem) → IsStill m l k → IsStillNow k
  still k is =
      still_turned m.state.table m.state.heads chunk head l.sized.headers in_range m.state.slabs m.state.slabs m.state.words m.state.holdings (rows_more m.state.holdings hand reference) k
      (younger_referred (head_at m.state chunk)) refl (each_more m.state.holdings hand (IsApartFrom k) reference is.apart (λ never _ _. absurd (cc))) is

  pub known_referred : KnownAt (with_reference m.state hand chunk) (with_more m.past.stored hand []) (with_more m.past.known hand (known_by (chunk_room m.state chunk) reference ∷ []))
  known_referred =
      let said = item_has m l chunk in_range linked (λ k. WasStored m.past.stored (stamp_in_words k.words) k.words) l.known.said_by_some in
      subst (λ s. KnownAt (with_reference m.state hand chunk) s (with_more m.past.known hand (known_by (chunk_room m.state chunk) reference ∷ []))) (sym (with_none m.past.stored hand))
      (known_learned m l hand there (known_by (chunk_room m.state chunk) reference) chunk head in_range reference m.state.holdings m.past.stored l.known.once (λ stamp words is. is) said still
      (still (known_by (chunk_room m.state chunk) reference) (item_has m l chunk in_range linked (IsStill m l) l.known.still))
      (item_has m l chunk in_range linked (λ k. Each (AreOne k) m.past.known) l.known.one) l.known.own refl refl refl)

module _ (m : Moment) (hand : ℕ) where
  pub known_refer : (key : ℕ) → MayStep m hand (Refer key) → KnownIn (moment_stepped m hand (Refer key))
  known_refer key may =
      let l = may.lawful in
      elim (chunk_of_key m.state key) as (λ o. chunk_of_key m.state key ≡ o → can_refer_to m.state o ≡ true →
      KnownAt (referred_to (with_got m.state hand key) hand o) (with_more m.past.stored hand []) (with_more m.past.known hand (known_of_place m.state o))) [
        | None ↦ λ _ never. absurd (cc)
        | Some place ↦ λ found _.
            let entry = entry_of m l key place found in
            known_referred m l hand may.there place.0 entry.inside entry.linked
      ] refl (and_parts _ (can_refer_to m.state (chunk_of_key m.state key)) may.allowed).1

  pub known_again : (chunk : ChunkId) (issue : ℕ) → MayStep m hand (Again chunk issue) → KnownIn (moment_stepped m hand (Again chunk issue))
  known_again chunk issue may =
      let parts = and_parts _ (can_count (head_at m.state chunk)) may.allowed in
      let right = and_parts _ ((head_at m.state chunk).issue == issue) parts.0 in
      let tag = and_parts _ (is_linked (head_at m.state chunk).tag) right.0 in
      let in_range = (and_parts (has_chunk m.state.table chunk) (has_place_unlocked m.state hand) tag.0).0 in
      known_referred m may.lawful hand may.there chunk in_range (linked_tag (head_at m.state chunk).tag tag.1)
