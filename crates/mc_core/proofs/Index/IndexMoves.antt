-- A chunk is linked, unlinked or filled: the entries are the linked chunks still.
use Rattle.std.proofs.Common.{◌≡◌, ℕ, ◌+◌, ◌%◌, ◌<◌, ◌≤◌, true, false, cond, nat_eq, List, length, Option, Some, None, refl, sym, ap, ◌∙◌, arith, subst, slice_get, slice_set, slice_index_or, inr, is_some, unwrap_or, leb-true}
use Rattle.std.specs.List.{list_all}
use Rattle.std.proofs.lemmas.Bool.{and_parts, both_ways}
use Rattle.std.proofs.lemmas.List.{get_or-take, length-take-le}
use Rattle.std.proofs.lemmas.List.Sums.{AllPass-from_list_all}
use Rattle.std.proofs.lemmas.Option.{slice_get-get_or}
use Rattle.mc_classes.specs.Classes.{Classes}
use Rattle.mc_pages.specs.declared.ids.ChunkId.{ChunkId}
use Rattle.mc_pages.specs.ClassState.{is_chunk}
use Rattle.mc_pages.specs.SlabState.{SlabState, class_of_page}
use Rattle.mc_pages.proofs.Chunks.{is_chunk-same}
use Rattle.mc_stripe.specs.StripeState.{ReadyStripe, chunk_and_stamp}
use Rattle.mc_stripe.proofs.Entries.{by_equal}
use Rattle.mc_core.specs.declared.head.Head.{Head}
use Rattle.mc_core.specs.declared.head.Tag.TheVariants.{Linked}
use Rattle.mc_core.specs.model.Holdings.{Words, word_in, item_length, words_of_item, has_whole_item, is_complete}
use Rattle.mc_core.specs.model.State.{has_chunk, head_place, room_in}
use Rattle.mc_core.specs.model.Columns.{head_in, place_in, Shows}
use Rattle.mc_core.specs.law.Indexed.{IsEntry, stripe_for, AreIndexed}
use Rattle.mc_core.specs.past.Past.{Moment}
use Rattle.mc_core.specs.law.Lawful.{IsLawful}
use Rattle.mc_core.proofs.Steps.Base.{IsPlaced, placed_at}
use Rattle.mc_core.proofs.Index.Entered.{entry_linked}
use Rattle.mc_core.proofs.Counts.Filling.{word_kept}
use Rattle.mc_core.proofs.Index.Index.{leads, AreOwn, word_of, own_from, indexed_from, entry_from, one_leads, one_own}
use Rattle.mc_core.proofs.Index.IndexStays.{StaysEntry, entry_stays, indexed_stays, tag_after}

-- what a key leads to is one chunk
one_chunk : (a b : ChunkId) (s t : ℕ) (o : Option (ChunkId × ℕ)) → o ≡ Some (a, s) → o ≡ Some (b, t) → a ≡ b
one_chunk a b s t o e f = let both : Some (a, s) ≡ Some (b, t) = sym e ∙ f in let same : (a, s) ≡ (b, t) = cc in ap (λ (p : ChunkId × ℕ). p.0) same

module _ (m : Moment) (l : IsLawful m) where
  abbrev table : Classes
  table = m.state.table

  abbrev slabs : SlabState
  slabs = m.state.slabs

  abbrev words : List ℕ
  words = m.state.words

  abbrev stripes : List ReadyStripe
  stripes = m.state.stripes

  own : AreOwn stripes
  own = own_from table slabs m.state.heads words stripes l.indexed

  entry : (key stamp : ℕ) (chunk : ChunkId) → leads stripes key ≡ Some (chunk, stamp) → IsEntry table slabs m.state.heads words key stamp chunk
  entry = entry_from table slabs m.state.heads words stripes l.legal.some l.indexed

  -- a chunk whose header isn't written stays linked, with all its words
  others_stay : (heads' : List Head) (chunk : ChunkId) → (head_in table heads' chunk).tag ≡ Linked → StaysEntry table slabs slabs m.state.heads heads' words words chunk
  others_stay heads' chunk linked = record { tag = linked; class = refl; first_words = λ place within. refl }

  -- one key and one chunk, whose header is written
  module _ (chunk : ChunkId) (in_range : has_chunk table chunk ≡ true) (head : Head) (key stamp : ℕ) (value : ReadyStripe) where
    abbrev heads' : List Head
    heads' = slice_set m.state.heads (head_place table chunk) head

    abbrev stripes' : List ReadyStripe
    stripes' = slice_set stripes (key % length stripes) value

    apart_from : (other : ChunkId) → is_chunk chunk other ≡ false → other ≡ chunk → ⊥
    apart_from other isnt same = both_ways _ isnt (ap (is_chunk chunk) same ∙ is_chunk-same chunk)

    -- another chunk has its tag still
    tag_other : (other : ChunkId) → has_chunk table other ≡ true → (other ≡ chunk → ⊥) → (head_in table m.state.heads other).tag ≡ Linked → (head_in table heads' other).tag ≡ Linked
    tag_other = tag_after m l chunk in_range head (λ other tag. (other ≡ chunk → ⊥) → (head_in table m.state.heads other).tag ≡ Linked → tag ≡ Linked) (λ apart _. absurd (apart refl)) (λ _ _ _ _ is. is)

    -- the key leads nowhere any more, and its chunk isn't linked
    module _ (gone : head.tag ≡ Linked → ⊥) (there : leads stripes key ≡ Some (chunk, stamp))
        (gives : (other : ℕ) → chunk_and_stamp value.state other ≡ cond (nat_eq other key) None (chunk_and_stamp (stripe_for stripes key).state other)) where
      fewer_leads : (other : ℕ) → leads stripes' other ≡ cond (nat_eq other key) None (leads stripes other)
      fewer_leads = one_leads stripes l.legal.some key value None gives

      fewer_entry : (other own_stamp : ℕ) (c : ChunkId) → leads stripes' other ≡ Some (c, own_stamp) → IsEntry table slabs heads' words other own_stamp c
      fewer_entry other own_stamp c found = by_equal other key
          (λ here _. let never : None ≡ Some (c, own_stamp) = sym (fewer_leads other ∙ rw here refl) ∙ found in absurd (cc))
          (λ isnt apart.
          let before : leads stripes other ≡ Some (c, own_stamp) = sym (fewer_leads other ∙ rw isnt refl) ∙ found in
          let of = entry other own_stamp c before in
          let not_it : c ≡ chunk → ⊥ = λ same. apart (sym of.same_key ∙ (ap (λ c. word_of table slabs words c 0) same ∙ (entry key stamp chunk there).same_key)) in
          entry_stays table slabs slabs m.state.heads heads' words words other own_stamp c (others_stay heads' c (tag_other c of.inside not_it of.linked)) of)

      fewer_linked : (c : ChunkId) → has_chunk table c ≡ true → (head_in table heads' c).tag ≡ Linked → leads stripes' (word_of table slabs words c 0) ≡ Some (c, word_of table slabs words c 1)
      fewer_linked c near_c linked =
          let before = tag_after m l chunk in_range head (λ c tag. tag ≡ Linked → ((head_in table m.state.heads c).tag ≡ Linked) × (c ≡ chunk → ⊥)) (λ is. absurd (gone is))
          (λ other _ isnt is. (is, apart_from other isnt)) c near_c linked in
          let found = l.indexed.linked c near_c before.0 in
          by_equal (word_of table slabs words c 0) key
          (λ _ here. absurd (before.1 (one_chunk c chunk (word_of table slabs words c 1) stamp (leads stripes key) (ap (leads stripes) (sym here) ∙ found) there)))
          (λ isnt _. fewer_leads (word_of table slabs words c 0) ∙ rw isnt found)

      pub fewer_indexed : AreIndexed table slabs heads' words stripes'
      fewer_indexed = indexed_from table slabs heads' words stripes' (one_own stripes l.legal.some key value None gives own) fewer_entry fewer_linked

    -- the key leads to the chunk now, which wasn't linked
    module _ (linked : head.tag ≡ Linked) (new : (head_in table m.state.heads chunk).tag ≡ Linked → ⊥) (nowhere : leads stripes key ≡ None)
        (first : word_of table slabs words chunk 0 ≡ key) (second : word_of table slabs words chunk 1 ≡ stamp) (room : 3 + word_of table slabs words chunk 2 ≤ room_in table (class_of_page slabs chunk.page))
        (gives : (other : ℕ) → chunk_and_stamp value.state other ≡ cond (nat_eq other key) (Some (chunk, stamp)) (chunk_and_stamp (stripe_for stripes key).state other)) where
      more_leads : (other : ℕ) → leads stripes' other ≡ cond (nat_eq other key) (Some (chunk, stamp)) (leads stripes other)
      more_leads = one_leads stripes l.legal.some key value (Some (chunk, stamp)) gives

      written : (head_in table heads' chunk).tag ≡ Linked
      written = tag_after m l chunk in_range head (λ c tag. c ≡ chunk → tag ≡ Linked) (λ _. linked) (λ other _ isnt same. absurd (apart_from other isnt same)) chunk in_range refl

      new_entry : IsEntry table slabs heads' words key stamp chunk
      new_entry = record { inside = in_range; linked = written; same_key = first; same_stamp = second; fits = room }

      more_entry : (other own_stamp : ℕ) (c : ChunkId) → leads stripes' other ≡ Some (c, own_stamp) → IsEntry table slabs heads' words other own_stamp c
      more_entry other own_stamp c found = by_equal other key
          (λ here is.
          let both : Some (chunk, stamp) ≡ Some (c, own_stamp) = sym (more_leads other ∙ rw here refl) ∙ found in
          let same : (chunk, stamp) ≡ (c, own_stamp) = cc in
          subst (λ k. IsEntry table slabs heads' words k own_stamp c) (sym is) (subst (λ (p : ChunkId × ℕ). IsEntry table slabs heads' words key p.1 p.0) same new_entry))
          (λ isnt apart.
          let before : leads stripes other ≡ Some (c, own_stamp) = sym (more_leads other ∙ rw isnt refl) ∙ found in
          let of = entry other own_stamp c before in
          let not_it : c ≡ chunk → ⊥ = λ same. new (ap (λ c. (head_in table m.state.heads c).tag) (sym same) ∙ of.linked) in
          entry_stays table slabs slabs m.state.heads heads' words words other own_stamp c (others_stay heads' c (tag_other c of.inside not_it of.linked)) of)

      more_linked : (c : ChunkId) → has_chunk table c ≡ true → (head_in table heads' c).tag ≡ Linked → leads stripes' (word_of table slabs words c 0) ≡ Some (c, word_of table slabs words c 1)
      more_linked = tag_after m l chunk in_range head (λ c tag. tag ≡ Linked → leads stripes' (word_of table slabs words c 0) ≡ Some (c, word_of table slabs words c 1))
          (λ _. more_leads (word_of table slabs words chunk 0) ∙ by_equal (word_of table slabs words chunk 0) key
          (λ here _. rw here (ap (λ (n : ℕ). Some (chunk, n)) (sym second))) (λ _ apart. absurd (apart first)))
          (λ c near_c isnt is.
          let found = l.indexed.linked c near_c is in
          by_equal (word_of table slabs words c 0) key
          (λ _ here. let never : None ≡ Some (c, word_of table slabs words c 1) = sym nowhere ∙ (ap (leads stripes) (sym here) ∙ found) in absurd (cc))
          (λ other _. more_leads (word_of table slabs words c 0) ∙ rw other found))

      pub more_indexed : AreIndexed table slabs heads' words stripes'
      more_indexed = indexed_from table slabs heads' words stripes' (one_own stripes l.legal.some key value (Some (chunk, stamp)) gives own) more_entry more_linked

  -- a word of a chunk that isn't linked
  pub filled_indexed : (chunk : ChunkId) (place word : ℕ) → IsPlaced slabs chunk → place < room_in table (class_of_page slabs chunk.page) → ((head_in table m.state.heads chunk).tag ≡ Linked → ⊥) →
      AreIndexed table slabs m.state.heads (slice_set words (place_in table slabs chunk place) word) stripes
  filled_indexed chunk place word placed within unlinked = indexed_stays table slabs slabs m.state.heads m.state.heads words (slice_set words (place_in table slabs chunk place) word) stripes stripes l.legal.some l.indexed
      (λ c in_range linked. record {
        tag = linked;
        class = refl;
        first_words = λ at small.
            let has_whole_item = (entry_linked m l c in_range linked).fits in
            word_kept m l chunk c place at word placed (placed_at m l c (head_in table m.state.heads c).issue in_range (inr linked, refl)).0 within (omega arith)
            (λ same. unlinked (ap (λ c. (head_in table m.state.heads c).tag) (sym same) ∙ linked));
      })
      (λ c in_range linked. linked) own (λ key. refl)

-- the first words of what is whole are known
some_is : (o : Option ℕ) → is_some o ≡ true → o ≡ Some (unwrap_or o 0)
some_is None is = absurd (cc)
some_is (Some word) is = refl

pub first_known : (known : Words) (place : ℕ) → is_complete known ≡ true → place < 3 → slice_get known place ≡ Some (Some (word_in known place))
first_known known place complete small =
    let parts = and_parts (has_whole_item known) (list_all is_some (words_of_item known)) complete in
    let long = leb-true (item_length known) (length known) parts.0 in
    let count = length-take-le (item_length known) known long in
    let all = AllPass-from_list_all is_some (words_of_item known) parts.1 in
    let front = get_or-take (item_length known) known place None (omega arith) in
    slice_get-get_or known place None (omega arith) ∙ ap Some (some_is (slice_index_or known place None) (ap is_some (sym front) ∙ all place None (omega arith)))

-- so a chunk that shows them has them
pub first_shown : (table : Classes) (slabs : SlabState) (words : List ℕ) (chunk : ChunkId) (known : Words) (place : ℕ) → Shows table slabs words chunk known → is_complete known ≡ true → place < 3 →
    word_of table slabs words chunk place ≡ word_in known place
first_shown _ _ _ chunk known place shows complete small = shows.known_words place (word_in known place) (first_known known place complete small)
