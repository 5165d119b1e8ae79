-- Entries whose chunks stay linked, with their first words, stay entries.
use Rattle.std.proofs.Common.{◌≡◌, ℕ, ◌+◌, ◌*◌, ◌<◌, ◌≤◌, true, false, List, length, Some, sym, ap, ◌∙◌, arith, subst, slice_set, slice_index, inl, inr}
use Rattle.std.proofs.lemmas.Bool.{cases_Bool}
use Rattle.mc_classes.specs.Classes.{Classes}
use Rattle.mc_pages.specs.declared.ids.ChunkId.{ChunkId}
use Rattle.mc_pages.specs.ClassState.{is_chunk}
use Rattle.mc_pages.specs.SlabState.{SlabState, class_of_page}
use Rattle.mc_pages.proofs.Chunks.{same_from_is_chunk}
use Rattle.mc_stripe.specs.StripeState.{ReadyStripe}
use Rattle.mc_core.specs.declared.head.Head.{Head}
use Rattle.mc_core.specs.declared.head.Tag.{Tag}
use Rattle.mc_core.specs.declared.head.Tag.TheVariants.{Linked}
use Rattle.mc_core.specs.model.State.{State, has_chunk, head_place, page_words, room_in}
use Rattle.mc_core.specs.model.Columns.{head_in}
use Rattle.mc_core.specs.law.Indexed.{IsEntry, AreIndexed}
use Rattle.mc_core.specs.past.Past.{Moment}
use Rattle.mc_core.specs.law.Lawful.{IsLawful}
use Rattle.mc_core.proofs.Steps.Base.{head_written, head_other}
use Rattle.mc_core.proofs.Index.Index.{leads, AreOwn, word_of, indexed_from, entry_from}

-- the clause on the index, of a state
abbrev pub IsIndexed : State → Type 0
IsIndexed state = AreIndexed state.table state.slabs state.heads state.words state.stripes

-- a chunk stays linked, of its class, and with its first words
pub record StaysEntry (table : Classes) (slabs next : SlabState) (heads heads' : List Head) (words words' : List ℕ) (chunk : ChunkId) : Type 0 where
  pub tag : (head_in table heads' chunk).tag ≡ Linked
  pub class : class_of_page next chunk.page ≡ class_of_page slabs chunk.page
  pub first_words : (place : ℕ) → place < 3 → word_of table next words' chunk place ≡ word_of table slabs words chunk place

-- a word of a chunk whose page stays of its class
pub word_moved : (table : Classes) (slabs next : SlabState) (words : List ℕ) (chunk : ChunkId) (place : ℕ) → class_of_page next chunk.page ≡ class_of_page slabs chunk.page → word_of table next words chunk place ≡ word_of table slabs words chunk place
word_moved table slabs next words chunk place same = ap (λ class. slice_index words (chunk.page * page_words table + chunk.index * room_in table class + place)) same

module _ (table : Classes) (slabs next : SlabState) (heads heads' : List Head) (words words' : List ℕ) where
  pub entry_stays : (key stamp : ℕ) (chunk : ChunkId) → StaysEntry table slabs next heads heads' words words' chunk → IsEntry table slabs heads words key stamp chunk → IsEntry table next heads' words' key stamp chunk
  entry_stays key stamp chunk stays entry = record {
    inside = entry.inside;
    linked = stays.tag;
    same_key = stays.first_words 0 (omega arith) ∙ entry.same_key;
    same_stamp = stays.first_words 1 (omega arith) ∙ entry.same_stamp;
    fits =
        let size = stays.first_words 2 (omega arith) in
        let room : room_in table (class_of_page next chunk.page) ≡ room_in table (class_of_page slabs chunk.page) = ap (room_in table) stays.class in
        let fits = entry.fits in omega arith;
  }

  -- what a linked chunk's first words lead to
  pub link_stays : (stripes : List ReadyStripe) (chunk : ChunkId) → StaysEntry table slabs next heads heads' words words' chunk → leads stripes (word_of table slabs words chunk 0) ≡ Some (chunk, word_of table slabs words chunk 1) →
      leads stripes (word_of table next words' chunk 0) ≡ Some (chunk, word_of table next words' chunk 1)
  link_stays stripes chunk stays there =
      let key = stays.first_words 0 (omega arith) in
      let stamp = stays.first_words 1 (omega arith) in
      ap (leads stripes) key ∙ (there ∙ ap (λ (n : ℕ). Some (chunk, n)) (sym stamp))

  -- all linked chunks stay so, no other becomes linked, and each key leads where it led
  pub indexed_stays : (stripes other : List ReadyStripe) → 1 ≤ length stripes → AreIndexed table slabs heads words stripes →
      ((chunk : ChunkId) → has_chunk table chunk ≡ true → (head_in table heads chunk).tag ≡ Linked → StaysEntry table slabs next heads heads' words words' chunk) →
      ((chunk : ChunkId) → has_chunk table chunk ≡ true → (head_in table heads' chunk).tag ≡ Linked → (head_in table heads chunk).tag ≡ Linked) →
      AreOwn other → ((key : ℕ) → leads other key ≡ leads stripes key) → AreIndexed table next heads' words' other
  indexed_stays stripes other some indexed stays back own same = indexed_from table next heads' words' other own
      (λ key stamp chunk there.
      let entry = entry_from table slabs heads words stripes some indexed key stamp chunk (sym (same key) ∙ there) in
      entry_stays key stamp chunk (stays chunk entry.inside entry.linked) entry)
      (λ chunk in_range linked.
      let before = back chunk in_range linked in
      link_stays other chunk (stays chunk in_range before) (same (word_of table slabs words chunk 0) ∙ indexed.linked chunk in_range before))

-- one header is written
module _ (m : Moment) (l : IsLawful m) (chunk : ChunkId) (in_range : has_chunk m.state.table chunk ≡ true) (head : Head) where
  abbrev table : Classes
  table = m.state.table

  abbrev slabs : SlabState
  slabs = m.state.slabs

  abbrev heads : List Head
  heads = m.state.heads

  abbrev heads' : List Head
  heads' = slice_set heads (head_place table chunk) head

  abbrev words : List ℕ
  words = m.state.words

  -- the tag of a chunk after it
  pub tag_after : (P : ChunkId → Tag → Type 0) → P chunk head.tag → ((other : ChunkId) → has_chunk table other ≡ true → is_chunk chunk other ≡ false → P other (head_in table heads other).tag) →
      (other : ChunkId) → has_chunk table other ≡ true → P other (head_in table heads' other).tag
  tag_after P here elsewhere other there = elim (cases_Bool (is_chunk chunk other)) [
    | inl is ↦
        let same = same_from_is_chunk chunk other is in
        subst (λ c. P c (head_in table heads' c).tag) same (subst (λ (h : Head). P chunk h.tag) (sym (head_written table heads chunk head l.sized.headers in_range)) here)
    | inr isnt ↦ subst (λ (h : Head). P other h.tag) (sym (head_other table heads chunk other head in_range there isnt)) (elsewhere other there isnt)
  ]

  -- linked before and after, or neither; pages stay of their classes
  pub header_indexed : (next : SlabState) → ((page : ℕ) → class_of_page next page ≡ class_of_page slabs page) → ((head_in table heads chunk).tag ≡ Linked → head.tag ≡ Linked) → (head.tag ≡ Linked → (head_in table heads chunk).tag ≡ Linked) →
      (other : List ReadyStripe) → AreOwn other → ((key : ℕ) → leads other key ≡ leads m.state.stripes key) → AreIndexed table next heads' words other
  header_indexed next same on back other own leads_same =
      indexed_stays table slabs next heads heads' words words m.state.stripes other l.legal.some l.indexed
      (λ c there linked. record {
        tag = tag_after (λ c tag. (head_in table heads c).tag ≡ Linked → tag ≡ Linked) on (λ _ _ _ is. is) c there linked;
        class = same c.page;
        first_words = λ place _. word_moved table slabs next words c place (same c.page);
      })
      (tag_after (λ c tag. tag ≡ Linked → (head_in table heads c).tag ≡ Linked) back (λ _ _ _ is. is)) own leads_same
