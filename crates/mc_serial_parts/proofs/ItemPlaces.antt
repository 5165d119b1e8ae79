-- Items by place: what is found, comes in and goes at a place is so in the list of all items.
use Rattle.std.proofs.Common.{◌≡◌, ℕ, zero, suc, ◌+◌, ◌<◌, List, [], ◌∷◌, ◌++◌, length, Some, None, inl, inr, refl, ap, sym, ◌∙◌, arith, Option, slice_index_or, slice_set, Vec, Global}
use Rattle.std.proofs.lemmas.Bool.{cases_Bool, cases_eq}
use Rattle.std.proofs.lemmas.List.{map-append, map-set, get_or-map, get_or_default, get_or-set_same, get_or-set_other, length-map, length-set, set-get_or}
use Rattle.std.proofs.lemmas.Bool.Decides.{nat_tests}
use Rattle.std.specs.declared.cmp.Ordering.TheVariants.{Less, Equal, Greater}
use Rattle.std.specs.BTreeMap.{is_at}
use Rattle.mc_pages.specs.declared.ids.ChunkId.{ChunkId}
use Rattle.std.specs.Option.{option_map}
use Rattle.mc_serial_spec.specs.Item.{Item, item_after_unlink}
use Rattle.mc_serial_spec.specs.Items.{Items, chunk_cmp, item_in_chunk, unlinked_in, with_item, without_item, PlacedItem, at_chunk, with_changed_item}
use Rattle.mc_serial_parts.specs.ItemsByPlace.{chunk_of_place, items_in, items_from, table_places, AreAlike, HasPlace}

-- ---- the order of chunks

less_page : (q j p i : ℕ) → q < p → chunk_cmp (chunk_of_place q j) (chunk_of_place p i) ≡ Less
less_page q j p i h = grind (arith, nat_tests, h)

more_page : (q j p i : ℕ) → p < q → chunk_cmp (chunk_of_place q j) (chunk_of_place p i) ≡ Greater
more_page q j p i h = grind (arith, nat_tests, h)

less_index : (p j i : ℕ) → j < i → chunk_cmp (chunk_of_place p j) (chunk_of_place p i) ≡ Less
less_index p j i h = grind (arith, nat_tests, h)

more_index : (p j i : ℕ) → i < j → chunk_cmp (chunk_of_place p j) (chunk_of_place p i) ≡ Greater
more_index p j i h = grind (arith, nat_tests, h)

same_place : (p j i : ℕ) → j ≡ i → chunk_cmp (chunk_of_place p j) (chunk_of_place p i) ≡ Equal
same_place p j i is = grind (arith, nat_tests, is)

-- ---- every item comes behind the chunk

record AreBehind (chunk : ChunkId) (items : Items) : Type 0 where
  found : item_in_chunk items chunk ≡ None
  gone : without_item items chunk ≡ items
  come : (item : Item) → with_item items chunk item ≡ at_chunk chunk item ∷ items

behind_nil : (chunk : ChunkId) → AreBehind chunk []
behind_nil chunk = record { found = refl; gone = refl; come = λ item. refl }

behind_more : (chunk : ChunkId) (e : PlacedItem) (items : Items) → chunk_cmp chunk e.chunk ≡ Less → AreBehind chunk items → AreBehind chunk (e ∷ items)
behind_more chunk e items less rest = record {
  found = rw less rest.found;
  gone = rw less (ap (λ (es : Items). e ∷ es) rest.gone);
  come = λ item. rw less refl;
}

-- those of a later page
behind_in : (q j p i : ℕ) (places : List (Option Item)) (later : Items) → q < p → AreBehind (chunk_of_place q j) later → AreBehind (chunk_of_place q j) (items_in p i places later)
behind_in q j p i [] later h rest = rest
behind_in q j p i (None ∷ places) later h rest = behind_in q j p (i + 1) places later h rest
behind_in q j p i (Some item ∷ places) later h rest = behind_more _ _ _ (less_page q j p i h) (behind_in q j p (i + 1) places later h rest)

behind_from : (q j p : ℕ) (pages : List (List (Option Item))) → q < p → AreBehind (chunk_of_place q j) (items_from p pages)
behind_from q j p [] h = behind_nil (chunk_of_place q j)
behind_from q j p (places ∷ pages) h = behind_in q j p 0 places (items_from (p + 1) pages) h (behind_from q j (p + 1) pages (omega arith))

-- those of a later index of its page
behind_index : (p j i : ℕ) (places : List (Option Item)) (later : Items) → j < i → AreBehind (chunk_of_place p j) later → AreBehind (chunk_of_place p j) (items_in p i places later)
behind_index p j i [] later h rest = rest
behind_index p j i (None ∷ places) later h rest = behind_index p j (i + 1) places later (omega arith) rest
behind_index p j i (Some item ∷ places) later h rest = behind_more _ _ _ (less_index p j i h) (behind_index p j (i + 1) places later (omega arith) rest)

-- ---- every item of the page comes before a chunk of a later page

find_past : (q j p i : ℕ) (places : List (Option Item)) (later : Items) → p < q → item_in_chunk (items_in p i places later) (chunk_of_place q j) ≡ item_in_chunk later (chunk_of_place q j)
find_past q j p i [] later h = refl
find_past q j p i (None ∷ places) later h = find_past q j p (i + 1) places later h
find_past q j p i (Some item ∷ places) later h = rw (more_page q j p i h) (find_past q j p (i + 1) places later h)

go_past : (q j p i : ℕ) (places : List (Option Item)) (later : Items) → p < q
    → without_item (items_in p i places later) (chunk_of_place q j) ≡ items_in p i places (without_item later (chunk_of_place q j))
go_past q j p i [] later h = refl
go_past q j p i (None ∷ places) later h = go_past q j p (i + 1) places later h
go_past q j p i (Some item ∷ places) later h =
    rw (more_page q j p i h) (ap (λ (es : Items). at_chunk (chunk_of_place p i) item ∷ es) (go_past q j p (i + 1) places later h))

come_past : (q j p i : ℕ) (places : List (Option Item)) (later : Items) (new : Item) → p < q
    → with_item (items_in p i places later) (chunk_of_place q j) new ≡ items_in p i places (with_item later (chunk_of_place q j) new)
come_past q j p i [] later new h = refl
come_past q j p i (None ∷ places) later new h = come_past q j p (i + 1) places later new h
come_past q j p i (Some item ∷ places) later new h =
    rw (more_page q j p i h) (ap (λ (es : Items). at_chunk (chunk_of_place p i) item ∷ es) (come_past q j p (i + 1) places later new h))

set_past : (q j p i : ℕ) (places : List (Option Item)) (later : Items) (new : Item) → p < q
    → with_changed_item (items_in p i places later) (chunk_of_place q j) new ≡ items_in p i places (with_changed_item later (chunk_of_place q j) new)
set_past q j p i [] later new h = refl
set_past q j p i (None ∷ places) later new h = set_past q j p (i + 1) places later new h
set_past q j p i (Some item ∷ places) later new h =
    rw (more_page q j p i h) (ap (λ (es : Items). at_chunk (chunk_of_place p i) item ∷ es) (set_past q j p (i + 1) places later new h))

-- ---- at a place of the page itself

find_here : (p i k j : ℕ) (places : List (Option Item)) (later : Items) → j ≡ i + k → AreBehind (chunk_of_place p j) later
    → item_in_chunk (items_in p i places later) (chunk_of_place p j) ≡ slice_index_or places k None
find_here p i k j [] later is rest = rest.found
find_here p i zero j (None ∷ places) later is rest = (behind_index p j (i + 1) places later (omega (arith, is)) rest).found
find_here p i zero j (Some item ∷ places) later is rest = rw (same_place p j i (omega (arith, is))) refl
find_here p i (suc k) j (None ∷ places) later is rest = find_here p (i + 1) k j places later (omega (arith, is)) rest
find_here p i (suc k) j (Some item ∷ places) later is rest =
    rw (more_index p j i (omega (arith, is))) (find_here p (i + 1) k j places later (omega (arith, is)) rest)

go_here : (p i k j : ℕ) (places : List (Option Item)) (later : Items) → j ≡ i + k → AreBehind (chunk_of_place p j) later
    → without_item (items_in p i places later) (chunk_of_place p j) ≡ items_in p i (slice_set places k None) later
go_here p i k j [] later is rest = rest.gone
go_here p i zero j (None ∷ places) later is rest = (behind_index p j (i + 1) places later (omega (arith, is)) rest).gone
go_here p i zero j (Some item ∷ places) later is rest = rw (same_place p j i (omega (arith, is))) refl
go_here p i (suc k) j (None ∷ places) later is rest = go_here p (i + 1) k j places later (omega (arith, is)) rest
go_here p i (suc k) j (Some item ∷ places) later is rest =
    rw (more_index p j i (omega (arith, is))) (ap (λ (es : Items). at_chunk (chunk_of_place p i) item ∷ es) (go_here p (i + 1) k j places later (omega (arith, is)) rest))

come_here : (p i k j : ℕ) (places : List (Option Item)) (later : Items) (new : Item) → j ≡ i + k → k < length places → AreBehind (chunk_of_place p j) later
    → with_item (items_in p i places later) (chunk_of_place p j) new ≡ items_in p i (slice_set places k (Some new)) later
come_here p i k j [] later new is inside rest = absurd (omega (arith, inside))
come_here p i zero j (None ∷ places) later new is inside rest =
    (behind_index p j (i + 1) places later (omega (arith, is)) rest).come new
    ∙ ap (λ (n : ℕ). at_chunk (chunk_of_place p n) new ∷ items_in p (i + 1) places later) (omega (arith, is))
come_here p i zero j (Some item ∷ places) later new is inside rest = rw (same_place p j i (omega (arith, is))) refl
come_here p i (suc k) j (None ∷ places) later new is inside rest = come_here p (i + 1) k j places later new (omega (arith, is)) (omega (arith, inside)) rest
come_here p i (suc k) j (Some item ∷ places) later new is inside rest =
    rw (more_index p j i (omega (arith, is)))
    (ap (λ (es : Items). at_chunk (chunk_of_place p i) item ∷ es) (come_here p (i + 1) k j places later new (omega (arith, is)) (omega (arith, inside)) rest))

set_here : (p i k j : ℕ) (places : List (Option Item)) (later : Items) (old new : Item) → j ≡ i + k → slice_index_or places k None ≡ Some old
    → with_changed_item (items_in p i places later) (chunk_of_place p j) new ≡ items_in p i (slice_set places k (Some new)) later
set_here p i k j [] later old new is found = cc
set_here p i zero j (None ∷ places) later old new is found = cc
set_here p i zero j (Some item ∷ places) later old new is found = rw (same_place p j i (omega (arith, is))) refl
set_here p i (suc k) j (None ∷ places) later old new is found = set_here p (i + 1) k j places later old new (omega (arith, is)) found
set_here p i (suc k) j (Some item ∷ places) later old new is found =
    rw (more_index p j i (omega (arith, is))) (ap (λ (es : Items). at_chunk (chunk_of_place p i) item ∷ es) (set_here p (i + 1) k j places later old new (omega (arith, is)) found))

-- ---- at any place of the table

abbrev Pages : Type 0
Pages = List (List (Option Item))

-- the places of a page, none where the table doesn't reach so far
abbrev pub row_of : Pages → ℕ → List (Option Item)
row_of pages page = slice_index_or pages page []

here : {q p : ℕ} → q ≡ p + 0 → p ≡ q
here is = omega (arith, is)

find_from : (p n q j : ℕ) (pages : Pages) → q ≡ p + n → item_in_chunk (items_from p pages) (chunk_of_place q j) ≡ slice_index_or (row_of pages n) j None
find_from p n q j [] is = refl
find_from p zero q j (places ∷ pages) is = rw (← here is) (find_here p 0 j j places (items_from (p + 1) pages) (omega arith) (behind_from p j (p + 1) pages (omega arith)))
find_from p (suc n) q j (places ∷ pages) is =
    find_past q j p 0 places (items_from (p + 1) pages) (omega (arith, is)) ∙ find_from (p + 1) n q j pages (omega (arith, is))

go_from : (p n q j : ℕ) (pages : Pages) → q ≡ p + n
    → without_item (items_from p pages) (chunk_of_place q j) ≡ items_from p (slice_set pages n (slice_set (row_of pages n) j None))
go_from p n q j [] is = refl
go_from p zero q j (places ∷ pages) is = rw (← here is) (go_here p 0 j j places (items_from (p + 1) pages) (omega arith) (behind_from p j (p + 1) pages (omega arith)))
go_from p (suc n) q j (places ∷ pages) is =
    go_past q j p 0 places (items_from (p + 1) pages) (omega (arith, is))
    ∙ ap (λ (later : Items). items_in p 0 places later) (go_from (p + 1) n q j pages (omega (arith, is)))

come_from : (p n q j : ℕ) (pages : Pages) (new : Item) → q ≡ p + n → n < length pages → j < length (row_of pages n)
    → with_item (items_from p pages) (chunk_of_place q j) new ≡ items_from p (slice_set pages n (slice_set (row_of pages n) j (Some new)))
come_from p n q j [] new is there inside = absurd (omega (arith, there))
come_from p zero q j (places ∷ pages) new is there inside =
    rw (← here is) (come_here p 0 j j places (items_from (p + 1) pages) new (omega arith) inside (behind_from p j (p + 1) pages (omega arith)))
come_from p (suc n) q j (places ∷ pages) new is there inside =
    come_past q j p 0 places (items_from (p + 1) pages) new (omega (arith, is))
    ∙ ap (λ (later : Items). items_in p 0 places later) (come_from (p + 1) n q j pages new (omega (arith, is)) (omega (arith, there)) inside)

set_from : (p n q j : ℕ) (pages : Pages) (old new : Item) → q ≡ p + n → slice_index_or (row_of pages n) j None ≡ Some old
    → with_changed_item (items_from p pages) (chunk_of_place q j) new ≡ items_from p (slice_set pages n (slice_set (row_of pages n) j (Some new)))
set_from p n q j [] old new is found = cc
set_from p zero q j (places ∷ pages) old new is found = rw (← here is) (set_here p 0 j j places (items_from (p + 1) pages) old new (omega arith) found)
set_from p (suc n) q j (places ∷ pages) old new is found =
    set_past q j p 0 places (items_from (p + 1) pages) new (omega (arith, is))
    ∙ ap (λ (later : Items). items_in p 0 places later) (set_from (p + 1) n q j pages old new (omega (arith, is)) found)

gone_none : (chunk : ChunkId) (items : Items) → item_in_chunk items chunk ≡ None → without_item items chunk ≡ items
gone_none chunk [] none = refl
gone_none chunk (e ∷ items) none = elim (cases_Bool (is_at (chunk_cmp chunk) e.chunk)) [
  | inl same ↦ let bad : Some e.item ≡ None = rw same at none in cc
  | inr other ↦ rw other (ap (λ (es : Items). e ∷ es) (gone_none chunk items (rw other at none)))
]

pub find_at : (pages : Pages) (c : ChunkId) → item_in_chunk (items_from 0 pages) c ≡ slice_index_or (row_of pages c.page) c.index None
find_at pages c = find_from 0 c.page c.page c.index pages (omega arith)

pub go_at : (pages : Pages) (c : ChunkId)
    → without_item (items_from 0 pages) c ≡ items_from 0 (slice_set pages c.page (slice_set (row_of pages c.page) c.index None))
go_at pages c = go_from 0 c.page c.page c.index pages (omega arith)

pub come_at : (pages : Pages) (c : ChunkId) (new : Item) → c.page < length pages → c.index < length (row_of pages c.page)
    → with_item (items_from 0 pages) c new ≡ items_from 0 (slice_set pages c.page (slice_set (row_of pages c.page) c.index (Some new)))
come_at pages c new there inside = come_from 0 c.page c.page c.index pages new (omega arith) there inside

pub set_at : (pages : Pages) (c : ChunkId) (old new : Item) → slice_index_or (row_of pages c.page) c.index None ≡ Some old
    → with_changed_item (items_from 0 pages) c new ≡ items_from 0 (slice_set pages c.page (slice_set (row_of pages c.page) c.index (Some new)))
set_at pages c old new is = set_from 0 c.page c.page c.index pages old new (omega arith) is

-- ---- a place more, or a page more, holds nothing

more_in : (p i : ℕ) (places : List (Option Item)) (later : Items) → items_in p i (places ++ None ∷ []) later ≡ items_in p i places later
more_in p i [] later = refl
more_in p i (None ∷ places) later = more_in p (i + 1) places later
more_in p i (Some item ∷ places) later = ap (λ (es : Items). at_chunk (chunk_of_place p i) item ∷ es) (more_in p (i + 1) places later)

-- one more place
pub one_place_more : (places : List (Option Item)) → AreAlike places (places ++ None ∷ [])
one_place_more places page later = more_in page 0 places later

alike_from : (p n : ℕ) (pages : Pages) (new : List (Option Item)) → AreAlike (row_of pages n) new
    → items_from p (slice_set pages n new) ≡ items_from p pages
alike_from p n [] new alike = refl
alike_from p zero (places ∷ pages) new alike = alike p (items_from (p + 1) pages)
alike_from p (suc n) (places ∷ pages) new alike = ap (λ (later : Items). items_in p 0 places later) (alike_from (p + 1) n pages new alike)

-- a page that has the same items
pub alike_page : (pages : Pages) (page : ℕ) (new : List (Option Item)) → AreAlike (row_of pages page) new → items_from 0 (slice_set pages page new) ≡ items_from 0 pages
alike_page pages page new alike = alike_from 0 page pages new alike

pages_from : (p : ℕ) (pages : Pages) → items_from p (pages ++ [] ∷ []) ≡ items_from p pages
pages_from p [] = refl
pages_from p (places ∷ pages) = ap (λ (later : Items). items_in p 0 places later) (pages_from (p + 1) pages)

-- one more page
one_page_more : (pages : Pages) → items_from 0 (pages ++ [] ∷ []) ≡ items_from 0 pages
one_page_more pages = pages_from 0 pages

-- ---- in vectors

module _ (pages : List (Vec (Option Item) Global)) (chunk : ChunkId) (row : Vec (Option Item) Global) (there : HasPlace (table_places pages) chunk)
    (is : row ≡ slice_index_or pages chunk.page row) where
  within : chunk.page < length pages
  within = omega (arith, there.page, length-map pages (λ (places : Vec (Option Item) Global). places.items))

  row_is : row.items ≡ row_of (table_places pages) chunk.page
  row_is = ap (λ (places : Vec (Option Item) Global). places.items) is ∙ sym (get_or-map (λ (places : Vec (Option Item) Global). places.items) pages chunk.page row [] within)

  inside : chunk.index < length row.items
  inside = rw row_is there.index

  written : (new : Vec (Option Item) Global) (x : Option Item) → new.items ≡ slice_set row.items chunk.index x
      → table_places (slice_set pages chunk.page new) ≡ slice_set (table_places pages) chunk.page (slice_set (row_of (table_places pages) chunk.page) chunk.index x)
  written new x is =
      map-set (λ (places : Vec (Option Item) Global). places.items) pages chunk.page new
      ∙ ap (λ (places : List (Option Item)). slice_set (table_places pages) chunk.page places) (is ∙ ap (λ (places : List (Option Item)). slice_set places chunk.index x) row_is)

  pub read_there : (x : Option Item) → x ≡ slice_index_or row.items chunk.index x → x ≡ item_in_chunk (items_from 0 (table_places pages)) chunk
  read_there x is = is ∙ get_or_default row.items chunk.index x None inside ∙ ap (λ (places : List (Option Item)). slice_index_or places chunk.index None) row_is ∙ sym (find_at (table_places pages) chunk)

  pub come_there : (new : Vec (Option Item) Global) (item : Item) → new.items ≡ slice_set row.items chunk.index (Some item)
      → items_from 0 (table_places (slice_set pages chunk.page new)) ≡ with_item (items_from 0 (table_places pages)) chunk item
  come_there new item is = ap (items_from 0) (written new (Some item) is) ∙ sym (come_at (table_places pages) chunk item there.page there.index)

  pub go_there : (new : Vec (Option Item) Global) → new.items ≡ slice_set row.items chunk.index None
      → items_from 0 (table_places (slice_set pages chunk.page new)) ≡ without_item (items_from 0 (table_places pages)) chunk
  go_there new is = ap (items_from 0) (written new None is) ∙ sym (go_at (table_places pages) chunk)

  pub value_there : (new : Vec (Option Item) Global) (old item : Item) → item_in_chunk (items_from 0 (table_places pages)) chunk ≡ Some old → new.items ≡ slice_set row.items chunk.index (Some item)
      → items_from 0 (table_places (slice_set pages chunk.page new)) ≡ with_changed_item (items_from 0 (table_places pages)) chunk item
  value_there new old item found is =
      ap (items_from 0) (written new (Some item) is) ∙ sym (set_at (table_places pages) chunk old item (sym (find_at (table_places pages) chunk) ∙ found))

  pub unlinked_there : (new : Vec (Option Item) Global) (x : Option Item) → item_in_chunk (items_from 0 (table_places pages)) chunk ≡ x
      → new.items ≡ slice_set row.items chunk.index (option_map item_after_unlink x)
      → items_from 0 (table_places (slice_set pages chunk.page new)) ≡ unlinked_in (items_from 0 (table_places pages)) chunk x
  unlinked_there new None found is = go_there new is ∙ gone_none chunk (items_from 0 (table_places pages)) found
  unlinked_there new (Some item) found is = value_there new item (item_after_unlink item) found is

  -- what was there is written again: nothing changes
  pub kept_there : (new : Vec (Option Item) Global) (x : Option Item) → x ≡ slice_index_or row.items chunk.index x → new.items ≡ slice_set row.items chunk.index x
      → items_from 0 (table_places (slice_set pages chunk.page new)) ≡ items_from 0 (table_places pages)
  kept_there new x read is =
      let all = table_places pages in
      let own = row_of all chunk.page in
      let same : x ≡ slice_index_or own chunk.index None
      = read ∙ get_or_default row.items chunk.index x None inside ∙ ap (λ (places : List (Option Item)). slice_index_or places chunk.index None) row_is in
      ap (items_from 0)
      (written new x is
      ∙ ap (λ (y : Option Item). slice_set all chunk.page (slice_set own chunk.index y)) same
      ∙ ap (λ (places : List (Option Item)). slice_set all chunk.page places) (set-get_or own chunk.index None)
      ∙ set-get_or all chunk.page [])

  -- another chunk still has its place after a write
  pub still_there : (new : Vec (Option Item) Global) (x : Option Item) → new.items ≡ slice_set row.items chunk.index x
      → (other : ChunkId) → HasPlace (table_places pages) other → HasPlace (table_places (slice_set pages chunk.page new)) other
  still_there new x is other place = rw (written new x is) (record {
    page = omega (arith, place.page, length-set (table_places pages) chunk.page (slice_set (row_of (table_places pages) chunk.page) chunk.index x));
    index = elim (cases_eq other.page chunk.page) [
      | inl here ↦
          let at : other.index < length (row_of (table_places pages) chunk.page) = rw (← here) place.index in
          rw (here, get_or-set_same (table_places pages) chunk.page (slice_set (row_of (table_places pages) chunk.page) chunk.index x) [] there.page)
          (omega (arith, at, length-set (row_of (table_places pages) chunk.page) chunk.index x))
      | inr apart ↦ rw (get_or-set_other (table_places pages) chunk.page other.page (slice_set (row_of (table_places pages) chunk.page) chunk.index x) [] apart) place.index
    ];
  })

module _ (pages : List (Vec (Option Item) Global)) (page : ℕ) (new : Vec (Option Item) Global) (there : page < length pages) where
  -- what was written for a page is its row
  pub row_written : row_of (table_places (slice_set pages page new)) page ≡ new.items
  row_written =
      get_or-map (λ (places : Vec (Option Item) Global). places.items) (slice_set pages page new) page new [] (omega (arith, there, length-set pages page new))
      ∙ ap (λ (places : Vec (Option Item) Global). places.items) (get_or-set_same pages page new new there)

  pub place_written : (index : ℕ) → index < length new.items → HasPlace (table_places (slice_set pages page new)) (chunk_of_place page index)
  place_written index inside = record {
    page = omega (arith, there, length-set pages page new, length-map (slice_set pages page new) (λ (places : Vec (Option Item) Global). places.items));
    index = rw row_written inside;
  }

  -- the row has the same items
  pub alike_written : (old : Vec (Option Item) Global) → old ≡ slice_index_or pages page old → AreAlike old.items new.items
      → items_from 0 (table_places (slice_set pages page new)) ≡ items_from 0 (table_places pages)
  alike_written old is alike =
      let row : old.items ≡ row_of (table_places pages) page
      = ap (λ (places : Vec (Option Item) Global). places.items) is ∙ sym (get_or-map (λ (places : Vec (Option Item) Global). places.items) pages page old [] there) in
      ap (items_from 0) (map-set (λ (places : Vec (Option Item) Global). places.items) pages page new)
      ∙ alike_page (table_places pages) page new.items (rw (← row) alike)

-- a page more
pub page_pushed : (pages : List (Vec (Option Item) Global)) (new : Vec (Option Item) Global) → new.items ≡ []
    → items_from 0 (table_places (pages ++ new ∷ [])) ≡ items_from 0 (table_places pages)
page_pushed pages new empty =
    ap (items_from 0) (map-append (λ (places : Vec (Option Item) Global). places.items) pages (new ∷ []))
    ∙ ap (λ (row : List (Option Item)). items_from 0 (table_places pages ++ row ∷ [])) empty
    ∙ one_page_more (table_places pages)

-- ---- with no place there is no item

pub none_there : (pages : Pages) (chunk : ChunkId) → slice_index_or (row_of pages chunk.page) chunk.index None ≡ None → item_in_chunk (items_from 0 pages) chunk ≡ None
none_there pages chunk none = find_at pages chunk ∙ none

pub none_goes : (chunk : ChunkId) (items : Items) → item_in_chunk items chunk ≡ None → items ≡ without_item items chunk
none_goes chunk items none = sym (gone_none chunk items none)
