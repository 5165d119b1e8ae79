-- Facts that the proofs of all clauses start from: one header written, a chunk's place in its class, and data words apart.
use Rattle.std.proofs.Common.{◌≡◌, ◌⊎◌, ℕ, zero, suc, ◌+◌, ◌*◌, ◌/◌, ◌<◌, ◌≤◌, ◌&&◌, Bool, true, false, not, List, [], ◌∷◌, ◌++◌, find, length, Some, None, refl, sym, ap, subst, ◌∙◌, inl, inr, arith, ltb-true, eq-eqb, ne_eqb, nat_lt, Option, cond, le_trans, mul-le-mul_left, mul-le-mul_right, mul_assoc, mul_comm, add-mul, one-mul, zero-lt-suc, add_assoc, get_or-set_same, get_or-set_other, slice_set, slice_index_or, Contains, All}
use Rattle.std.proofs.lemmas.List.{get_or_past}
use Rattle.std.proofs.lemmas.List.Elements.{All-nil, All-cons, All-head, All-tail, All-get_or, All-set, All-push, All-weaker, All-contains, All-contains_itself}
use Rattle.std.proofs.lemmas.List.Sums.{get_or-le-sum_by}
use Rattle.std.proofs.lemmas.Bool.{cases_lt, and_parts, and_from, cases_Bool, cases_eq, false≢true}
use Rattle.std.proofs.lemmas.Nat.{same_from_place, mul-add-lt}
use Rattle.std.proofs.Common.{div-mul-le_self, le-div_iff_mul-le}
use Rattle.mc_classes.specs.Classes.{Classes, arena_pages_of, size_of}
use Rattle.mc_pages.specs.declared.ids.ChunkId.{ChunkId}
use Rattle.mc_pages.specs.Ledger.{owner_at}
use Rattle.mc_pages.specs.ClassState.{is_chunk, times_in}
use Rattle.mc_pages.specs.SlabState.{SlabState, HasClass, class_at, class_of_page, class_of_chunk}
use Rattle.mc_pages.specs.Accounted.{truth, is_cut, cut_count, is_of_class}
use Rattle.mc_pages.proofs.Chunks.{is_chunk-same}
use Rattle.mc_core.specs.declared.head.Head.{Head}
use Rattle.mc_core.specs.declared.head.Tag.{Tag}
use Rattle.mc_core.specs.declared.head.Tag.TheVariants.{Out, Free, Unlinked, Linked}
use Rattle.mc_core.specs.declared.holding.Holding.{Holding}
use Rattle.mc_core.specs.model.Holdings.{without_first, is_of_chunk}
use Rattle.mc_core.specs.model.Head.{never_cut, is_free, is_out}
use Rattle.mc_core.specs.model.State.{has_chunk, head_place, most_of, page_words, room_in, is_class}
use Rattle.mc_core.specs.past.Past.{Moment}
use Rattle.mc_core.specs.model.Columns.{head_in, place_in, Each, count_of_holdings, holder_count, IsHandedOut}
use Rattle.mc_core.specs.law.Places.{is_cut_there}
use Rattle.mc_core.specs.law.Lawful.{IsLawful}
use Rattle.mc_core.proofs.Steps.Listed.{per_page_is}

-- page and index of a chunk of the arena
pub chunk_within : (table : Classes) (chunk : ChunkId) → has_chunk table chunk ≡ true → (chunk.page < arena_pages_of table) × (chunk.index < most_of table)
chunk_within table chunk h =
    let parts = and_parts (nat_lt chunk.page (arena_pages_of table)) (nat_lt chunk.index (most_of table)) h in
    (ltb-true chunk.page (arena_pages_of table) parts.0, ltb-true chunk.index (most_of table) parts.1)

-- one header for each chunk
pub same_head_place : (table : Classes) (a b : ChunkId) → has_chunk table a ≡ true → has_chunk table b ≡ true → head_place table a ≡ head_place table b → a ≡ b
same_head_place table a b ha hb e =
    let wa = chunk_within table a ha in let wb = chunk_within table b hb in
    let both = same_from_place a.page a.index b.page b.index (most_of table) wa.1 wb.1 e in
    λ k. record { page = both.0 k; index = both.1 k }

pub head_place_within : (table : Classes) (heads : List Head) (chunk : ChunkId) → length heads ≡ arena_pages_of table * most_of table → has_chunk table chunk ≡ true → head_place table chunk < length heads
head_place_within table heads chunk long h =
    let w = chunk_within table chunk h in
    let below : chunk.page * most_of table + chunk.index < most_of table * arena_pages_of table = mul-add-lt chunk.page (most_of table) chunk.index (arena_pages_of table) w.0 w.1 in
    omega arith

-- a header is written: its chunk has it
pub head_written : (table : Classes) (heads : List Head) (chunk : ChunkId) (head : Head) → length heads ≡ arena_pages_of table * most_of table → has_chunk table chunk ≡ true → head_in table (slice_set heads (head_place table chunk) head) chunk ≡ head
head_written table heads chunk head long h = get_or-set_same heads (head_place table chunk) head never_cut (head_place_within table heads chunk long h)

-- and all others are as they were
pub head_other : (table : Classes) (heads : List Head) (chunk other : ChunkId) (head : Head) → has_chunk table chunk ≡ true → has_chunk table other ≡ true → is_chunk chunk other ≡ false → head_in table (slice_set heads (head_place table chunk) head) other ≡ head_in table heads other
head_other table heads chunk other head hc ho apart =
    get_or-set_other heads (head_place table chunk) (head_place table other) head never_cut
    (λ e. false≢true (sym apart ∙ subst (λ (c : ChunkId). is_chunk chunk c ≡ true) (same_head_place table chunk other hc ho (sym e)) (is_chunk-same chunk)))

-- a chunk was cut for its class
pub record IsPlaced (slabs : SlabState) (chunk : ChunkId) : Type 0 where
  pub class : HasClass slabs (class_of_page slabs chunk.page)
  pub cut : is_cut slabs (class_of_page slabs chunk.page) chunk ≡ true
  pub within : chunk.index < (class_of_chunk slabs chunk).per_page

cut_within : (uncut : Option ChunkId) (page per_page : ℕ) → ((next : ChunkId) → uncut ≡ Some next → next.page ≡ page → next.index ≤ per_page) → cut_count uncut page per_page ≤ per_page
cut_within None page per_page below = omega arith
cut_within (Some next) page per_page below =
    elim (cases_eq next.page page) [
      | inl same ↦ rw (eq-eqb next.page page same) (below next refl same)
      | inr other ↦ rw (ne_eqb next.page page other) (omega arith)
    ]

-- what was cut has a place in its class
pub placed_from : (m : Moment) → IsLawful m → (chunk : ChunkId) → is_cut_there m.state.slabs chunk ≡ true → IsPlaced m.state.slabs chunk
placed_from m l chunk h =
    let slabs = m.state.slabs in
    let class = class_of_page slabs chunk.page in
    let cut = and_parts (is_of_class class (owner_at slabs.owners chunk.page)) (nat_lt chunk.index (cut_count slabs.uncut chunk.page (class_at slabs class).per_page)) h in
    let below = ltb-true chunk.index (cut_count slabs.uncut chunk.page (class_at slabs class).per_page) cut.1 in
    let most = cut_within slabs.uncut chunk.page (class_at slabs class).per_page
    (λ next is same. let at = (l.paged.order.1.uncut next is).within in
    let here : (class_of_chunk slabs next).per_page ≡ (class_at slabs class).per_page = ap (λ (p : ℕ). (class_at slabs (class_of_page slabs p)).per_page) same in omega arith) in
    record { class = l.paged.order.1.accounted.owned class chunk.page cut.0; cut = h; within = omega (arith, below, most) }

not_out : (tag : Tag) → (tag ≡ Unlinked) ⊎ (tag ≡ Linked) → tag ≡ Out → ⊥
not_out tag (inl is) out = let no : ◌≡◌ {A = Tag} Unlinked Out = sym is ∙ out in absurd (cc)
not_out tag (inr is) out = let no : ◌≡◌ {A = Tag} Linked Out = sym is ∙ out in absurd (cc)

in_order : (tag : Tag) → (tag ≡ Unlinked) ⊎ (tag ≡ Linked) → (not (is_free tag) && not (is_out tag)) ≡ true
in_order tag (inl is) = ap (λ (t : Tag). not (is_free t) && not (is_out t)) is
in_order tag (inr is) = ap (λ (t : Tag). not (is_free t) && not (is_out t)) is

-- a handed-out chunk stands in the hand-out order of its class
pub placed_at : (m : Moment) → IsLawful m → (chunk : ChunkId) (issue : ℕ) → has_chunk m.state.table chunk ≡ true → IsHandedOut (head_in m.state.table m.state.heads chunk) issue → IsPlaced m.state.slabs chunk × (times_in chunk (class_of_chunk m.state.slabs chunk).order ≡ 1)
placed_at m l chunk issue h out =
    let slabs = m.state.slabs in
    let tag = (head_in m.state.table m.state.heads chunk).tag in
    elim (cases_Bool (is_cut_there slabs chunk)) [
      | inl cut ↦
          let placed = placed_from m l chunk cut in
          (placed, l.placed.order (class_of_page slabs chunk.page) chunk placed.class ∙ ap truth (and_from _ _ placed.cut (in_order tag out.0)))
      | inr uncut ↦ absurd (not_out tag out.0 (l.placed.elsewhere chunk h uncut))
    ]

-- a chunk's data words lie within its page
chunk_row : (page size room index place : ℕ) → index < page / size → room ≤ size / 8 → place < room → index * room + place < page / 8
chunk_row page size room index place within fits on =
    let eighth : room * 8 ≤ size = le_trans (mul-le-mul_right 8 fits) (div-mul-le_self size 8) in
    let all : (index + 1) * size ≤ page = le_trans (mul-le-mul_right size (omega arith)) (div-mul-le_self page size) in
    let rows : (index + 1) * room * 8 ≤ page = subst (λ (n : ℕ). n ≤ page) (sym (mul_assoc (index + 1) room 8)) (le_trans (mul-le-mul_left (index + 1) eighth) all) in
    let fit : (index + 1) * room ≤ page / 8 = (le-div_iff_mul-le (zero-lt-suc 7)).1 rows in
    let next : (index + 1) * room ≡ index * room + room = add-mul index 1 room ∙ ap (λ (n : ℕ). index * room + n) (one-mul room) in
    omega (arith, fit, next, on)

room_fits : (table : Classes) (class : ℕ) → room_in table class ≤ size_of table class / 8
room_fits table class =
    elim (is_class table class) as (λ b. cond b (size_of table class / 8) 0 ≤ size_of table class / 8) [ true ↦ omega arith | false ↦ omega arith ]

module _ (m : Moment) (l : IsLawful m) where
  abbrev table : Classes
  table = m.state.table

  abbrev slabs : SlabState
  slabs = m.state.slabs

  -- where a word stands in its page
  abbrev row : ChunkId → ℕ → ℕ
  row chunk place = chunk.index * room_in table (class_of_page slabs chunk.page) + place

  row_within : (chunk : ChunkId) (place : ℕ) → IsPlaced slabs chunk → place < room_in table (class_of_page slabs chunk.page) → row chunk place < page_words table
  row_within chunk place is on =
      let class = class_of_page slabs chunk.page in
      let within : chunk.index < table.page / size_of table class = omega (arith, is.within, per_page_is table slabs class l.paged.of_table is.class) in
      chunk_row table.page (size_of table class) (room_in table class) chunk.index place within (room_fits table class) on

  place_is : (chunk : ChunkId) (place : ℕ) → place_in table slabs chunk place ≡ chunk.page * page_words table + row chunk place
  place_is chunk place = add_assoc (chunk.page * page_words table) (chunk.index * room_in table (class_of_page slabs chunk.page)) place

  -- two data words that stand at one place are one
  pub same_word : (a b : ChunkId) (i j : ℕ) → IsPlaced slabs a → IsPlaced slabs b → i < room_in table (class_of_page slabs a.page) → j < room_in table (class_of_page slabs b.page)
      → place_in table slabs a i ≡ place_in table slabs b j → (a ≡ b) × (i ≡ j)
  same_word a b i j is_a is_b on_a on_b e =
      let both = same_from_place a.page (row a i) b.page (row b j) (page_words table) (row_within a i is_a on_a) (row_within b j is_b on_b) (sym (place_is a i) ∙ e ∙ place_is b j) in
      let room : room_in table (class_of_page slabs b.page) ≡ room_in table (class_of_page slabs a.page) = ap (λ (p : ℕ). room_in table (class_of_page slabs p)) (sym both.0) in
      let rows : a.index * room_in table (class_of_page slabs a.page) + i ≡ b.index * room_in table (class_of_page slabs a.page) + j = both.1 ∙ ap (λ (r : ℕ). b.index * r + j) room in
      let in' = same_from_place a.index i b.index j (room_in table (class_of_page slabs a.page)) on_a (omega (arith, on_b, room)) rows in
      ((λ k. record { page = both.0 k; index = in'.0 k }), in'.1)

  -- a data word stands within the arena
  pub word_within : (a : ChunkId) (i : ℕ) → has_chunk table a ≡ true → IsPlaced slabs a → i < room_in table (class_of_page slabs a.page) → place_in table slabs a i < length m.state.words
  word_within a i h is on =
      let page = (chunk_within table a h).0 in
      let below : a.page * page_words table + row a i < page_words table * arena_pages_of table = mul-add-lt a.page (page_words table) (row a i) (arena_pages_of table) page (row_within a i is on) in
      let all = l.sized.places in
      let turned : page_words table * arena_pages_of table ≡ arena_pages_of table * page_words table = mul_comm (page_words table) (arena_pages_of table) in
      omega (arith, below, all, turned, place_is a i)

module _ {X : Type 0} where
  -- entries of the row of a hand
  pub each_row : (P : X → Type 0) (rows : List (List X)) (hand : ℕ) → Each P rows → All P (slice_index_or rows hand [])
  each_row P rows hand each =
      elim (cases_lt hand (length rows)) [
        | inl in' ↦ All-get_or (All P) rows hand [] in' each
        | inr past ↦ subst (All P) (sym (get_or_past rows hand [] past)) (All-nil P)
      ]

  -- one row is written
  pub each_set : (P : X → Type 0) (rows : List (List X)) (hand : ℕ) (row : List X) → Each P rows → All P row → Each P (slice_set rows hand row)
  each_set P rows hand row each all = All-set (All P) rows hand row all each

  -- each entry says less
  pub each_map : (P Q : X → Type 0) (rows : List (List X)) → ((x : X) → P x → Q x) → Each P rows → Each Q rows
  each_map P Q rows f each = All-weaker (All P) (All Q) (λ row. All-weaker P Q f row) rows each

  -- one entry more
  pub all_more : (P : X → Type 0) (row : List X) (x : X) → All P row → P x → All P (row ++ x ∷ [])
  all_more P row x all is = All-push P row x all is

  -- what is found is so, and passes the test
  pub found_has : (P : X → Type 0) (test : X → Bool) (row : List X) (x : X) → find test row ≡ Some x → All P row → P x × (test x ≡ true)
  found_has P test [] x h all = absurd (cc)
  found_has P test (y ∷ row) x h all =
      elim (test y) as (λ b. cond b (Some y) (find test row) ≡ Some x → test y ≡ b → P x × (test x ≡ true)) [
        | true ↦ λ e passes. let same : y ≡ x = (cc) in (subst P same (All-head P y row all), ap test (sym same) ∙ passes)
        | false ↦ λ e _. found_has P test row x e (All-tail P y row all)
      ] h refl

-- less one entry
pub all_lose : (P : Holding → Type 0) (test : Holding → Bool) (row : List Holding) → All P row → All P (without_first test row)
all_lose P test [] all = all
all_lose P test (x ∷ row) all =
    elim (test x) as (λ b. All P (cond b row (x ∷ without_first test row))) [
      | true ↦ All-tail P x row all
      | false ↦ All-cons P x (without_first test row) (All-head P x row all) (all_lose P test row (All-tail P x row all))
    ]

-- a row's holds are among all
pub holds_row : (chunk : ChunkId) (rows : List (List Holding)) (hand : ℕ) → count_of_holdings chunk (slice_index_or rows hand []) ≤ holder_count chunk rows
holds_row chunk [] hand = omega arith
holds_row chunk (row ∷ rows) zero = omega arith
holds_row chunk (row ∷ rows) (suc hand) = let rest = holds_row chunk rows hand in omega arith

is_of-same : (chunk : ChunkId) (holding : Holding) → holding.chunk ≡ chunk → is_of_chunk chunk holding ≡ true
is_of-same chunk holding e = subst (λ (c : ChunkId). is_chunk c chunk ≡ true) (sym e) (is_chunk-same chunk)

-- a holding is one of its chunk's
pub holds_own : (row : List Holding) (holding : Holding) → Contains row holding → 1 ≤ count_of_holdings holding.chunk row
holds_own row holding (k, within, at) =
    let here : truth (is_of_chunk holding.chunk (slice_index_or row k holding)) ≡ 1 = ap (λ (h : Holding). truth (is_of_chunk holding.chunk h)) at ∙ ap truth (is_of-same holding.chunk holding refl) in
    omega (arith, get_or-le-sum_by (λ (h : Holding). truth (is_of_chunk holding.chunk h)) row k holding within, here)

-- a header with a count is of a chunk that is handed out
pub handed_out_from : (head : Head) → 1 ≤ head.count → ((is_free head.tag ≡ true) ⊎ (is_out head.tag ≡ true) → head.count ≡ 0) → IsHandedOut head head.issue
handed_out_from head some shut =
    elim head.tag as (λ tag. head.tag ≡ tag → IsHandedOut head head.issue) [
      | Out ↦ λ e. absurd (omega (arith, some, shut (inr (ap is_out e))))
      | Free ↦ λ e. absurd (omega (arith, some, shut (inl (ap is_free e))))
      | Unlinked ↦ λ e. (inl e, refl)
      | Linked ↦ λ e. (inr e, refl)
    ] refl

module _ (m : Moment) (l : IsLawful m) where
  -- the chunk of a holding is handed out with the holding's issue
  abbrev pub IsOut : Holding → Type 0
  IsOut holding = (has_chunk m.state.table holding.chunk ≡ true) × IsHandedOut (head_in m.state.table m.state.heads holding.chunk) holding.issue

  -- a chunk that somebody holds is handed out
  pub out_from_holders : (chunk : ChunkId) → has_chunk m.state.table chunk ≡ true → 1 ≤ holder_count chunk m.state.holdings → IsHandedOut (head_in m.state.table m.state.heads chunk) (head_in m.state.table m.state.heads chunk).issue
  out_from_holders chunk h some =
      let counted = l.counted.counted chunk h in
      handed_out_from (head_in m.state.table m.state.heads chunk) (omega (arith, counted, some)) (l.counted.shut chunk h)

  pub held_out : (hand : ℕ) → All IsOut (slice_index_or m.state.holdings hand [])
  held_out hand =
      let row = slice_index_or m.state.holdings hand [] in
      All-weaker (Contains row) IsOut (λ holding among.
      let inside = All-contains (λ (h : Holding). has_chunk m.state.table h.chunk ≡ true) row holding (each_row (λ (h : Holding). has_chunk m.state.table h.chunk ≡ true) m.state.holdings hand l.held.inside) among in
      let issue = All-contains (λ (h : Holding). h.issue ≡ (head_in m.state.table m.state.heads h.chunk).issue) row holding
      (each_row (λ (h : Holding). h.issue ≡ (head_in m.state.table m.state.heads h.chunk).issue) m.state.holdings hand l.held.issues) among in
      let out = out_from_holders holding.chunk inside (omega (arith, holds_own row holding among, holds_row holding.chunk m.state.holdings hand)) in
      (inside, (out.0, sym issue))) row (All-contains_itself row)
