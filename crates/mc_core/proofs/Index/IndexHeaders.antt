-- Steps that write a header and leave it linked or not: the entries are the linked chunks still.
use Rattle.std.proofs.Common.{◌≡◌, ℕ, ◌==◌, ◌||◌, Bool, true, Some, None, refl, sym, ap, ◌∙◌, subst, slice_set, inl, inr}
use Rattle.std.proofs.lemmas.Bool.{and_parts, or_cases}
use Rattle.mc_pages.specs.declared.ids.ChunkId.{ChunkId}
use Rattle.mc_pages.specs.SlabState.{SlabState, class_of_page}
use Rattle.mc_pages.specs.Changes as slabs_changes
use Rattle.mc_pages.proofs.Chunks.{same_from_is_chunk}
use Rattle.mc_pages.specs.Pages.{is_on_the_move}
use Rattle.mc_core.specs.declared.head.Head.{Head}
use Rattle.mc_core.specs.declared.head.Tag.{Tag}
use Rattle.mc_core.specs.declared.head.Tag.TheVariants.{Unlinked, Linked}
use Rattle.mc_core.specs.model.Holdings.{is_of_chunk, holding_of}
use Rattle.mc_core.specs.model.Head.{is_free, is_out, is_unlinked, is_dead, is_linked}
use Rattle.mc_core.specs.model.State.{has_chunk, head_place, head_at, has_slabs, holdings_at}
use Rattle.mc_core.specs.run.Silent.{is_handed_out, is_listed}
use Rattle.mc_core.specs.run.Chunks.{head_after_hand_out, holds_as, after_drop, head_after_release, can_pop, state_after_pop, can_pop_off, after_pop_off, with_tag_free, with_tag_out, can_put_back, after_put_back, can_clear, state_after_clear, is_next_uncut, can_cut, state_after_cut}
use Rattle.mc_core.specs.run.Items.{can_count, head_after_refer, with_reference, can_again, has_place_unlocked}
use Rattle.mc_core.specs.law.Indexed.{AreIndexed}
use Rattle.mc_core.specs.past.Past.{Moment}
use Rattle.mc_core.specs.law.Lawful.{IsLawful}
use Rattle.mc_core.proofs.Index.Index.{AreOwn, own_from}
use Rattle.mc_core.proofs.Index.IndexStays.{IsIndexed, header_indexed}
use Rattle.mc_core.proofs.Counts.Holders.{found_each, found_passes}
use Rattle.mc_core.proofs.Index.Entered.{tag_unlinked}
use Rattle.mc_core.proofs.Counts.HandingOut.{MayHandOut, pop_by, pop_off_by}

free_not_linked : (tag : Tag) → is_free tag ≡ true → tag ≡ Linked → ⊥
free_not_linked tag free linked = let never : is_free Linked ≡ true = ap is_free (sym linked) ∙ free in cc

module _ (m : Moment) (l : IsLawful m) where
  own : AreOwn m.state.stripes
  own = own_from m.state.table m.state.slabs m.state.heads m.state.words m.state.stripes l.indexed

  -- a header is written, and no stripe
  header_only : (next : SlabState) → ((page : ℕ) → class_of_page next page ≡ class_of_page m.state.slabs page) → (chunk : ChunkId) (head : Head) → has_chunk m.state.table chunk ≡ true →
      ((head_at m.state chunk).tag ≡ Linked → head.tag ≡ Linked) → (head.tag ≡ Linked → (head_at m.state chunk).tag ≡ Linked) →
      AreIndexed m.state.table next (slice_set m.state.heads (head_place m.state.table chunk) head) m.state.words m.state.stripes
  header_only next same chunk head in_range on back = header_indexed m l chunk in_range head next same on back m.state.stripes own (λ key. refl)

  handed_out_indexed : (hand : ℕ) (next : SlabState) → ((page : ℕ) → class_of_page next page ≡ class_of_page m.state.slabs page) → (chunk : ChunkId) → MayHandOut m hand chunk →
      AreIndexed m.state.table next (slice_set m.state.heads (head_place m.state.table chunk) (head_after_hand_out (head_at m.state chunk))) m.state.words m.state.stripes
  handed_out_indexed hand next same chunk may =
      header_only next same chunk (head_after_hand_out (head_at m.state chunk)) may.in_range (λ linked. absurd (free_not_linked (head_at m.state chunk).tag may.free linked)) (λ never. absurd (cc))

  pub pop_indexed : (hand class : ℕ) → can_pop m.state hand class ≡ true → IsIndexed (state_after_pop m.state hand class)
  pop_indexed hand class can = pop_by m l hand IsIndexed class can (λ chunk may. handed_out_indexed hand (slabs_changes.after_pop m.state.slabs class) (λ page. refl) chunk may)

  pub pop_off_indexed : (hand : ℕ) (old : ChunkId) → can_pop_off m.state hand old ≡ true → IsIndexed (after_pop_off m.state hand old)
  pop_off_indexed hand old can = pop_off_by m l hand IsIndexed old can (λ chunk may. handed_out_indexed hand (slabs_changes.after_replace m.state.slabs chunk old) (λ page. refl) chunk may)

  -- a holding is given up
  pub drop_indexed : (hand : ℕ) (chunk : ChunkId) (fresh : Bool) → holds_as fresh (holding_of chunk (holdings_at m.state hand)) ≡ true → IsIndexed (after_drop m.state hand chunk)
  drop_indexed hand chunk fresh can =
      elim (holding_of chunk (holdings_at m.state hand)) as (λ o. holding_of chunk (holdings_at m.state hand) ≡ o → holds_as fresh o ≡ true → IsIndexed (after_drop m.state hand chunk)) [
        | None ↦ λ _ never. absurd (cc)
        | Some holding ↦ λ found _.
            let is = same_from_is_chunk holding.chunk chunk (found_passes (is_of_chunk chunk) (holdings_at m.state hand) holding found) in
            let inside = found_each (λ h. has_chunk m.state.table h.chunk ≡ true) m.state.holdings hand (is_of_chunk chunk) holding found l.held.inside in
            header_only m.state.slabs (λ page. refl) chunk (head_after_release (head_at m.state chunk)) (subst (λ c. has_chunk m.state.table c ≡ true) is inside) (λ linked. linked) (λ linked. linked)
      ] refl can

  pub again_indexed : (hand : ℕ) (chunk : ChunkId) (issue : ℕ) → can_again m.state hand chunk issue ≡ true → IsIndexed (with_reference m.state hand chunk)
  again_indexed hand chunk issue can =
      let count = and_parts _ (can_count (head_at m.state chunk)) can in
      let same = and_parts _ ((head_at m.state chunk).issue == issue) count.0 in
      let linked = and_parts _ (is_linked (head_at m.state chunk).tag) same.0 in
      let room = and_parts (has_chunk m.state.table chunk) (has_place_unlocked m.state hand) linked.0 in
      header_only m.state.slabs (λ page. refl) chunk (head_after_refer (head_at m.state chunk)) room.0 (λ linked. linked) (λ linked. linked)

  -- a chunk that isn't linked gets another tag
  closed_indexed : (next : SlabState) → ((page : ℕ) → class_of_page next page ≡ class_of_page m.state.slabs page) → (chunk : ChunkId) (head : Head) → has_chunk m.state.table chunk ≡ true →
      ((head_at m.state chunk).tag ≡ Linked → ⊥) → (head.tag ≡ Linked → ⊥) → AreIndexed m.state.table next (slice_set m.state.heads (head_place m.state.table chunk) head) m.state.words m.state.stripes
  closed_indexed next same chunk head in_range before after = header_only next same chunk head in_range (λ linked. absurd (before linked)) (λ linked. absurd (after linked))

  dead_not_linked : (chunk : ChunkId) → is_dead (head_at m.state chunk) ≡ true → (head_at m.state chunk).tag ≡ Linked → ⊥
  dead_not_linked chunk dead linked =
      let unlinked = tag_unlinked (head_at m.state chunk).tag (and_parts (is_unlinked (head_at m.state chunk).tag) ((head_at m.state chunk).count == 0) dead).0 in
      let never : Unlinked ≡ Linked = sym unlinked ∙ linked in cc

  pub put_back_indexed : (hand : ℕ) (chunk : ChunkId) → can_put_back m.state hand chunk ≡ true → IsIndexed (after_put_back m.state hand chunk)
  put_back_indexed hand chunk can =
      let out = and_parts _ (is_handed_out m.state.slabs chunk) can in
      let dead = and_parts _ (is_dead (head_at m.state chunk)) out.0 in
      let in_range = and_parts (has_slabs m.state hand) (has_chunk m.state.table chunk) dead.0 in
      closed_indexed (slabs_changes.after_back m.state.slabs chunk) (λ page. refl) chunk (with_tag_free (head_at m.state chunk)) in_range.1 (dead_not_linked chunk dead.1) (λ never. cc)

  pub clear_indexed : (hand : ℕ) (chunk : ChunkId) → can_clear m.state hand chunk ≡ true → IsIndexed (state_after_clear m.state hand chunk)
  clear_indexed hand chunk can =
      let listed = and_parts _ (is_listed m.state.slabs (class_of_page m.state.slabs chunk.page) chunk) can in
      let closed = and_parts _ (is_free (head_at m.state chunk).tag || is_dead (head_at m.state chunk)) listed.0 in
      let moving = and_parts _ (is_on_the_move m.state.slabs chunk.page) closed.0 in
      let in_range = and_parts (has_slabs m.state hand) (has_chunk m.state.table chunk) moving.0 in
      closed_indexed (slabs_changes.after_clear m.state.slabs chunk) (λ page. refl) chunk (with_tag_out (head_at m.state chunk)) in_range.1
      (λ linked. elim (or_cases (is_free (head_at m.state chunk).tag) (is_dead (head_at m.state chunk)) closed.1) [
        | inl free ↦ free_not_linked (head_at m.state chunk).tag free linked
        | inr dead ↦ dead_not_linked chunk dead linked
      ]) (λ never. cc)

  pub cut_indexed : (hand : ℕ) (chunk : ChunkId) → can_cut m.state hand chunk ≡ true → IsIndexed (state_after_cut m.state hand chunk)
  cut_indexed hand chunk can =
      let out = and_parts _ (is_out (head_at m.state chunk).tag) can in
      let next = and_parts _ (is_next_uncut m.state.slabs chunk) out.0 in
      let in_range = and_parts (has_slabs m.state hand) (has_chunk m.state.table chunk) next.0 in
      closed_indexed (slabs_changes.after_cut m.state.slabs chunk) (λ page. refl) chunk (with_tag_free (head_at m.state chunk)) in_range.1
      (λ linked. let never : is_out Linked ≡ true = ap is_out (sym linked) ∙ out.1 in cc) (λ never. cc)
