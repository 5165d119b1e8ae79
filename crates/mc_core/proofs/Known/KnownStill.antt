-- A known item stays true as a header, rows of holdings or lists of chunks change.
use Rattle.std.proofs.Common.{◌≡◌, ◌⊎◌, ℕ, ◌*◌, ◌≤◌, true, false, List, length, sym, subst, ◌∙◌, inl, inr, arith, slice_set, ap}
use Rattle.std.proofs.lemmas.Bool.{cases_Bool}
use Rattle.mc_classes.specs.Classes.{Classes, arena_pages_of}
use Rattle.mc_pages.specs.declared.ids.ChunkId.{ChunkId}
use Rattle.mc_pages.specs.ClassState.{is_chunk}
use Rattle.mc_pages.specs.SlabState.{SlabState, class_of_page}
use Rattle.mc_pages.proofs.Chunks.{same_from_is_chunk}
use Rattle.mc_core.specs.declared.head.Head.{Head}
use Rattle.mc_core.specs.declared.head.Tag.{Tag}
use Rattle.mc_core.specs.declared.head.Tag.TheVariants.{Out, Free, Unlinked, Linked}
use Rattle.mc_core.specs.declared.holding.Holding.{Holding}
use Rattle.mc_core.specs.model.Holdings.{is_fresh, all_known}
use Rattle.mc_core.specs.past.Past.{KnownItem, IsKnownToSome}
use Rattle.mc_core.specs.model.State.{room_in, has_chunk, head_place, most_of}
use Rattle.mc_core.specs.model.Columns.{head_in, Shows, Each, IsHandedOut}
use Rattle.mc_core.specs.law.Knowing.{IsTrueStill}
use Rattle.mc_core.proofs.Steps.Base.{head_written, head_other}
use Rattle.mc_core.proofs.ItemWords.ShownItems.{shows_class}

-- the holding isn't a fresh one of the known chunk and issue
abbrev pub IsApartFrom : KnownItem → Holding → Type 0
IsApartFrom k holding = is_fresh holding ≡ true → holding.chunk ≡ k.chunk → holding.issue ≡ k.issue → ⊥

-- the new header has no lower issue, and shows no item of an older issue that the old one didn't show
pub record IsNoOlder (old new : Head) : Type 0 where
  pub issue : old.issue ≤ new.issue
  pub shows : (issue : ℕ) → issue ≤ old.issue → IsHandedOut new issue → IsHandedOut old issue

-- a tag that isn't handed out shows nothing
pub not_shown : (head : Head) (issue : ℕ) (P : Type 0) → (head.tag ≡ Free) ⊎ (head.tag ≡ Out) → IsHandedOut head issue → P
not_shown head issue P (inl free) (inl is, same) = let no : ◌≡◌ {A = Tag} Free Unlinked = sym free ∙ is in absurd (cc)
not_shown head issue P (inl free) (inr is, same) = let no : ◌≡◌ {A = Tag} Free Linked = sym free ∙ is in absurd (cc)
not_shown head issue P (inr out) (inl is, same) = let no : ◌≡◌ {A = Tag} Out Unlinked = sym out ∙ is in absurd (cc)
not_shown head issue P (inr out) (inr is, same) = let no : ◌≡◌ {A = Tag} Out Linked = sym out ∙ is in absurd (cc)

module _ (table : Classes) (heads : List Head) (chunk : ChunkId) (head : Head) (sized : length heads ≡ arena_pages_of table * most_of table) (inside : has_chunk table chunk ≡ true) where
  abbrev old : Head
  old = head_in table heads chunk

  abbrev now : List Head
  now = slice_set heads (head_place table chunk) head

  -- a header is the new one, or as it was
  pub head_now : (P : Head → Type 0) (other : ChunkId) → has_chunk table other ≡ true → (chunk ≡ other → P head) → (is_chunk chunk other ≡ false → P (head_in table heads other)) → P (head_in table now other)
  head_now P other in_range here there = elim (cases_Bool (is_chunk chunk other)) [
    | inl is ↦ let same = same_from_is_chunk chunk other is in
        subst (λ (c : ChunkId). P (head_in table now c)) same (subst P (sym (head_written table heads chunk head sized inside)) (here same))
    | inr isnt ↦ subst P (sym (head_other table heads chunk other head inside in_range isnt)) (there isnt)
  ]

  -- what is known stays true
  pub still_turned : (slabs next : SlabState) (words : List ℕ) (rows rows' : List (List Holding)) (k : KnownItem) → IsNoOlder old head → class_of_page next k.chunk.page ≡ class_of_page slabs k.chunk.page → Each (IsApartFrom k) rows' →
      IsTrueStill table slabs heads words rows k → IsTrueStill table next now words rows' k
  still_turned slabs next words rows rows' k younger same apart true_so_far = record {
    inside = true_so_far.inside;
    whole = true_so_far.whole;
    older = head_now (λ h. k.issue ≤ h.issue) k.chunk true_so_far.inside (λ is. let was = older_here is in let more = younger.issue in omega arith) (λ _. true_so_far.older);
    shows = head_now (λ h. IsHandedOut h k.issue → Shows table next words k.chunk (all_known k.words)) k.chunk true_so_far.inside
        (λ is out. still_shows (subst (λ (c : ChunkId). IsHandedOut (head_in table heads c) k.issue) is (younger.shows k.issue (older_here is) out)))
        (λ _. still_shows);
    room = head_now (λ h. IsHandedOut h k.issue → room_in table (class_of_page next k.chunk.page) ≡ k.room) k.chunk true_so_far.inside
        (λ is out. still_room (subst (λ (c : ChunkId). IsHandedOut (head_in table heads c) k.issue) is (younger.shows k.issue (older_here is) out)))
        (λ _. still_room);
    apart = apart;
  }
    where
      older_here : chunk ≡ k.chunk → k.issue ≤ old.issue
      older_here is = subst (λ (c : ChunkId). k.issue ≤ (head_in table heads c).issue) (sym is) true_so_far.older

      still_room : IsHandedOut (head_in table heads k.chunk) k.issue → room_in table (class_of_page next k.chunk.page) ≡ k.room
      still_room out = ap (room_in table) same ∙ true_so_far.room out

      still_shows : IsHandedOut (head_in table heads k.chunk) k.issue → Shows table next words k.chunk (all_known k.words)
      still_shows out = shows_class table slabs next words k.chunk (all_known k.words) same (true_so_far.shows out)

  -- each linked chunk is known to some hand
  pub linked_turned : (known known' : List (List KnownItem)) → ((P : KnownItem → Type 0) → IsKnownToSome known P → IsKnownToSome known' P)
      → ((other : ChunkId) → has_chunk table other ≡ true → (head_in table heads other).tag ≡ Linked → IsKnownToSome known (λ k. (k.chunk ≡ other) × (k.issue ≡ (head_in table heads other).issue)))
      → (head.tag ≡ Linked → IsKnownToSome known' (λ k. (k.chunk ≡ chunk) × (k.issue ≡ head.issue)))
      → (other : ChunkId) → has_chunk table other ≡ true → (head_in table now other).tag ≡ Linked → IsKnownToSome known' (λ k. (k.chunk ≡ other) × (k.issue ≡ (head_in table now other).issue))
  linked_turned known known' more were here other in_range =
      head_now (λ h. h.tag ≡ Linked → IsKnownToSome known' (λ k. (k.chunk ≡ other) × (k.issue ≡ h.issue))) other in_range
      (λ is linked. subst (λ (c : ChunkId). IsKnownToSome known' (λ k. (k.chunk ≡ c) × (k.issue ≡ head.issue))) is (here linked))
      (λ _ linked. more (λ k. (k.chunk ≡ other) × (k.issue ≡ (head_in table heads other).issue)) (were other in_range linked))

-- the headers stay
pub still_listed : (table : Classes) (slabs next : SlabState) (heads : List Head) (words : List ℕ) (rows rows' : List (List Holding)) (k : KnownItem) →
    (IsHandedOut (head_in table heads k.chunk) k.issue → class_of_page next k.chunk.page ≡ class_of_page slabs k.chunk.page) → Each (IsApartFrom k) rows' →
    IsTrueStill table slabs heads words rows k → IsTrueStill table next heads words rows' k
still_listed table slabs next heads words rows rows' k same apart so_far = record {
  inside = so_far.inside;
  whole = so_far.whole;
  older = so_far.older;
  shows = λ out. shows_class table slabs next words k.chunk (all_known k.words) (same out) (so_far.shows out);
  room = λ out. ap (room_in table) (same out) ∙ so_far.room out;
  apart = apart;
}
