-- What is got by a hint is the current item of its key.
use Rattle.std.proofs.Common.{◌≡◌, ℕ, ◌<◌, ◌≤◌, ◌+◌, List, [], ◌∷◌, ◌++◌, length, min, sym, ap, subst, ◌∙◌, arith, zero-add, slice_index}
use Rattle.std.proofs.lemmas.Bool.{and_parts}
use Rattle.std.proofs.lemmas.List.FromFn.{get_or-map-range_with_len, length-map-range_with_len}
use Rattle.mc_pages.specs.declared.ids.ChunkId.{ChunkId}
use Rattle.mc_core.specs.declared.holding.Holding.{Holding}
use Rattle.mc_core.specs.model.Holdings.{item_of, key_of, stamp_in_words}
use Rattle.mc_core.specs.run.Items.{can_count, has_place_unlocked, new_reference}
use Rattle.mc_core.specs.model.Head.{is_linked}
use Rattle.mc_core.specs.past.Past.{Moment}
use Rattle.mc_core.specs.model.State.{State, has_chunk, head_at, item_at, chunk_room, word_at}
use Rattle.mc_core.proofs.Index.Entered.{tag_linked}
use Rattle.mc_words.specs.declared.item.refs.Hint.{Hint}
use Rattle.mc_words.specs.hand.View.{View}
use Rattle.mc_words.specs.hand.Views.{fields_seen}
use Rattle.mc_words.specs.item.Again.{GetsAgain, RefersAgain}
use Rattle.mc_words.specs.item.Items.{held_item}
use Rattle.mc_words.specs.item.References.{reference_to}
use Rattle.mc_words.proofs.Items.Agains.{again_view}
use Rattle.mc_words.proofs.Locks.LockViews.{may_step}
use Rattle.mc_items.specs.declared.refs.Ref.{Ref}
use Rattle.mc_items.specs.Current.{GetsCurrent, IsCurrent}
use Rattle.mc_items.specs.ItemRefs.{IsItemRef}

same_end : (xs : List Holding) (a b : Holding) → xs ++ a ∷ [] ≡ xs ++ b ∷ [] → a ≡ b
same_end [] a b e = cc
same_end (x ∷ xs) a b e = let rest : xs ++ a ∷ [] ≡ xs ++ b ∷ [] = cc in same_end xs a b rest

-- the first words of an item are those of its chunk
word_of_item : (state : State) (chunk : ChunkId) (place : ℕ) → place < length (item_at state chunk) → slice_index (item_at state chunk) place ≡ word_at state chunk place
word_of_item state chunk place in_range =
    let long = length-map-range_with_len (λ place. word_at state chunk place) 0 (min (3 + word_at state chunk 2) (chunk_room state chunk)) in
    get_or-map-range_with_len (λ place. word_at state chunk place) 0 (min (3 + word_at state chunk 2) (chunk_room state chunk)) place place 0 (omega arith) (zero-add place)

module _ (view now : View) (chunk : ChunkId) (issue room : ℕ) (refers : RefersAgain view chunk issue room now) where
  abbrev m : Moment
  m = refers.happens.was.moment

  item_is : refers.item ≡ item_at m.state chunk
  item_is = ap item_of (same_end view.row.holdings (reference_to chunk issue refers.item) (new_reference m.state chunk) (ap (λ (v : View). v.row.holdings) (sym refers.is ∙ again_view view now chunk issue refers.happens)))

  long : 3 ≤ length (item_at m.state chunk)
  long = let whole = refers.whole in let same = ap (λ (l : List ℕ). length l) item_is in omega arith

  word : (place : ℕ) → place < 3 → slice_index refers.item place ≡ word_at m.state chunk place
  word place in_range = ap (λ (l : List ℕ). slice_index l place) item_is ∙ word_of_item m.state chunk place (let l = long in omega arith)

  -- its key leads to it
  pub leads_to_it : IsCurrent m (key_of refers.item) (stamp_in_words refers.item) chunk
  leads_to_it =
      let may = (may_step refers.happens).allowed in
      let all = and_parts _ (can_count (head_at m.state chunk)) may in
      let tags = and_parts _ _ all.0 in
      let parts = and_parts _ (is_linked (head_at m.state chunk).tag) tags.0 in
      let inside = (and_parts (has_chunk m.state.table chunk) (has_place_unlocked m.state refers.happens.was.hand) parts.0).0 in
      let tag = tag_linked (head_at m.state chunk).tag parts.1 in
      let there : IsCurrent m (word_at m.state chunk 0) (word_at m.state chunk 1) chunk = refers.happens.was.lawful.indexed.linked chunk inside tag in
      subst (λ (p : ℕ × ℕ). IsCurrent m p.0 p.1 chunk) (λ k. ((sym (word 0 (omega arith))) k, (sym (word 1 (omega arith))) k)) there

-- so a reference that is got by a hint is to the current item of its key
pub gets_current : (view got now : View) (hint : Hint) (item : Ref) → GetsAgain view hint.chunk hint.issue item.reference.room got → now ≡ fields_seen hint.chunk got → item.reference.chunk ≡ hint.chunk → IsItemRef now item → GetsCurrent hint item view now
gets_current view got now hint item gets is chunk ref =
    let refers = gets.refers in
    let same : held_item now item.reference.chunk ≡ refers.item = (λ k. held_item (is k) (chunk k)) ∙ refers.held in
    record {
      gets = (got, gets, is);
      current = subst (λ (p : ℕ × ℕ). IsCurrent refers.happens.was.moment p.0 p.1 hint.chunk) (λ k. ((sym (ap key_of same) ∙ ref.key) k, (sym (ap stamp_in_words same) ∙ ref.stamp) k)) (leads_to_it _ got hint.chunk hint.issue item.reference.room refers);
    }
