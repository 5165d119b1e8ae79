-- Tests of events that the law answers.
use Rattle.std.proofs.Common.{◌≡◌, ℕ, ◌*◌, ◌≤◌, ◌==◌, ◌||◌, Bool, true, false, cond, List, [], ◌∷◌, length, Option, Some, None, refl, sym, ap, ◌∙◌, subst, inl, inr, arith, All, lt-ltb, ltb-true, nat_lt, eq-eqb, eqb-true}
use Rattle.std.proofs.lemmas.Bool.{cases_Bool, and_parts, and_from, or_right}
use Rattle.std.specs.Option.{option_map_or}
use Rattle.std.proofs.lemmas.List.Elements.{All-head, All-tail}
use Rattle.std.proofs.lemmas.List.Sums.{count_by-le-length}
use Rattle.mc_pages.specs.declared.ids.ChunkId.{ChunkId}
use Rattle.mc_pages.specs.declared.ids.Moving.{Moving}
use Rattle.mc_pages.specs.ClassState.{times_in}
use Rattle.mc_pages.specs.SlabState.{SlabState, HasClass, class_at, class_of_page, class_of_owner}
use Rattle.mc_pages.specs.Ledger.{owner_at}
use Rattle.mc_pages.specs.Accounted.{truth, is_of_class, is_cut, cut_count}
use Rattle.mc_pages.proofs.Chunks.{same_from_is_chunk}
use Rattle.mc_pages.specs.Pages.{is_on_the_move}
use Rattle.mc_core.specs.declared.head.Tag.{Tag}
use Rattle.mc_core.specs.declared.head.Tag.TheVariants.{Out, Free, Unlinked, Linked}
use Rattle.mc_core.specs.declared.holding.Holding.{Holding}
use Rattle.mc_core.specs.model.Head.{is_free, is_unlinked, is_linked, is_dead}
use Rattle.mc_core.specs.model.Holdings.{is_of_chunk, is_fresh, holding_of}
use Rattle.mc_core.specs.model.State.{is_class, has_chunk, head_at, holdings_at}
use Rattle.mc_core.specs.run.Silent.{is_among, is_handed_out, is_listed}
use Rattle.mc_core.specs.run.Chunks.{next_free, is_target, target_of, most_holdings}
use Rattle.mc_core.specs.run.Items.{can_count, chunk_of_key}
use Rattle.mc_core.specs.model.Columns.{head_in, holder_count}
use Rattle.mc_core.specs.law.Places.{is_cut_there}
use Rattle.mc_core.specs.past.Past.{Moment}
use Rattle.mc_core.specs.law.Lawful.{IsLawful}
use Rattle.mc_core.specs.run.Needless.{most_count, AllAreNeedless}
use Rattle.mc_core.proofs.Steps.Listed.{IsClass_from, none_among, or_parts}
use Rattle.mc_core.proofs.Steps.Base.{placed_from, placed_at}
use Rattle.mc_core.proofs.Places.FreeChunks.{near_in, near_placed, first_placed, found_placed}
use Rattle.mc_core.proofs.Counts.Holders.{found_each, found_passes}
use Rattle.mc_core.proofs.Index.Entered.{entry_of, tag_free, tag_unlinked}

-- so many hands hold a chunk at most
holders_most : (chunk : ChunkId) (rows : List (List Holding)) → All (λ row. length row ≤ most_holdings) rows → holder_count chunk rows ≤ length rows * most_holdings
holders_most chunk [] most = omega arith
holders_most chunk (row ∷ rows) most =
    let here : length row ≤ most_holdings = All-head (λ (r : List Holding). length r ≤ most_holdings) row rows most in
    let rest = holders_most chunk rows (All-tail (λ (r : List Holding). length r ≤ most_holdings) row rows most) in
    let within_limit = count_by-le-length (is_of_chunk chunk) row in
    omega (arith, here, rest, within_limit)

truth_most : (b : Bool) → truth b ≤ 1
truth_most true = omega arith
truth_most false = omega arith

not_below_itself : (n : ℕ) → nat_lt n n ≡ true → ⊥
not_below_itself n h = let below = ltb-true n n h in omega (arith, below)

-- a chunk that has a place in the list stands in it
among_from_times : (chunks : List ChunkId) (chunk : ChunkId) → times_in chunk chunks ≡ 1 → is_among chunks chunk ≡ true
among_from_times chunks chunk one = elim (cases_Bool (is_among chunks chunk)) [
  | inl is ↦ is
  | inr isnt ↦ let none = none_among chunks chunk isnt in absurd (omega arith)
]

or_left : (a b : Bool) → a ≡ true → (a || b) ≡ true
or_left true b h = refl
or_left false b h = absurd (cc)

free_not_out : (tag : Tag) → tag ≡ Free → tag ≡ Out → ⊥
free_not_out Free is out = absurd (cc)
free_not_out Out is out = absurd (cc)
free_not_out Unlinked is out = absurd (cc)
free_not_out Linked is out = absurd (cc)

module _ (m : Moment) (l : IsLawful m) where
  abbrev slabs : SlabState
  slabs = m.state.slabs

  most : (chunk : ChunkId) → has_chunk m.state.table chunk ≡ true → (head_at m.state chunk).count ≤ most_count
  most chunk in_range =
      let same = l.counted.counted chunk in_range in
      let link = truth_most (is_linked (head_in m.state.table m.state.heads chunk).tag) in
      let held = holders_most chunk m.state.holdings l.held.most in
      let rows = l.hands.holding_rows in
      let within_limit = l.hands.count.1 in
      omega (arith, same, link, held, rows, within_limit)

  room : (chunk : ChunkId) → has_chunk m.state.table chunk ≡ true → can_count (head_at m.state chunk) ≡ true
  room chunk in_range = let within_limit = most chunk in_range in lt-ltb (head_at m.state chunk).count 65535 (omega arith)

  next : (class : ℕ) (chunk : ChunkId) → is_class m.state.table class ≡ true → next_free m.state class ≡ Some chunk → (has_chunk m.state.table chunk ≡ true) × ((head_at m.state chunk).tag ≡ Free)
  next class chunk is first =
      let at = first_placed m l class chunk (IsClass_from m.state.table slabs class l.paged.of_table is) first in
      (near_placed m l chunk at.1, tag_free (head_at m.state chunk).tag at.2)

  -- the class of a moving page
  source_of : (moving : Option Moving) (page : ℕ) → slabs.moving ≡ moving → option_map_or (λ (move : Moving). move.page == page) moving false ≡ true → HasClass slabs (class_of_page slabs page)
  source_of None page is h = absurd (cc)
  source_of (Some move) page is h =
      let of_move = l.paged.of_table.accounted.move move is in
      let same : class_of_page slabs page ≡ move.src = ap (class_of_page slabs) (sym (eqb-true move.page page h)) ∙ ap class_of_owner of_move.owner in
      subst (HasClass slabs) (sym same) of_move.src

  pub source_is : (page : ℕ) → is_on_the_move slabs page ≡ true → HasClass slabs (class_of_page slabs page)
  source_is page moves = source_of slabs.moving page refl moves

  target : (page : ℕ) (chunk : ChunkId) → is_on_the_move slabs page ≡ true → target_of m.state.table m.state.heads slabs page ≡ Some chunk →
      (has_chunk m.state.table chunk ≡ true) × ((head_at m.state chunk).tag ≡ Free)
  target page chunk moves found =
      let at = found_placed m l (class_of_page slabs page) chunk (is_target m.state.table m.state.heads page) (source_is page moves) found in
      (near_placed m l chunk at.1, tag_free (head_at m.state chunk).tag at.2)

  dead : (chunk : ChunkId) → has_chunk m.state.table chunk ≡ true → is_dead (head_at m.state chunk) ≡ true → is_handed_out slabs chunk ≡ true
  dead chunk in_range is =
      let head = head_at m.state chunk in
      let tag = tag_unlinked head.tag (and_parts (is_unlinked head.tag) (head.count == 0) is).0 in
      let at = placed_at m l chunk head.issue in_range (inl tag, refl) in
      among_from_times (class_at slabs (class_of_page slabs chunk.page)).order chunk at.1

  -- a free chunk stands in its class's free list
  free_among : (chunk : ChunkId) → has_chunk m.state.table chunk ≡ true → is_free (head_at m.state chunk).tag ≡ true → is_among (class_at slabs (class_of_page slabs chunk.page)).free chunk ≡ true
  free_among chunk in_range free = elim (cases_Bool (is_cut_there slabs chunk)) [
    | inl cut ↦
        let placed = placed_from m l chunk cut in
        let class = class_of_page slabs chunk.page in
        among_from_times (class_at slabs class).free chunk (l.placed.free class chunk placed.class ∙ ap truth (and_from (is_cut slabs class chunk) (is_free (head_at m.state chunk).tag) cut free))
    | inr uncut ↦ absurd (free_not_out (head_at m.state chunk).tag (tag_free (head_at m.state chunk).tag free) (l.placed.elsewhere chunk in_range uncut))
  ]

  unused : (chunk : ChunkId) → has_chunk m.state.table chunk ≡ true → (is_free (head_at m.state chunk).tag || is_dead (head_at m.state chunk)) ≡ true → is_listed slabs (class_of_page slabs chunk.page) chunk ≡ true
  unused chunk in_range is =
      let class = class_of_page slabs chunk.page in
      or_parts (is_free (head_at m.state chunk).tag) (is_dead (head_at m.state chunk)) (is_listed slabs class chunk ≡ true) is
      (λ free. or_left (is_among (class_at slabs class).free chunk) (is_among (class_at slabs class).order chunk) (free_among chunk in_range free))
      (λ gone. or_right (is_among (class_at slabs class).free chunk) (is_among (class_at slabs class).order chunk) (dead chunk in_range gone))

  -- what is cut next wasn't cut
  uncut_yet : (chunk : ChunkId) → slabs.uncut ≡ Some chunk → is_cut_there slabs chunk ≡ false
  uncut_yet chunk is = elim (cases_Bool (is_cut_there slabs chunk)) [
    | inr uncut ↦ uncut
    | inl cut ↦
        let class = class_of_page slabs chunk.page in
        let per_page = (class_at slabs class).per_page in
        let below = (and_parts (is_of_class class (owner_at slabs.owners chunk.page)) (nat_lt chunk.index (cut_count slabs.uncut chunk.page per_page)) cut).1 in
        let here : cut_count slabs.uncut chunk.page per_page ≡ chunk.index =
        ap (λ (u : Option ChunkId). cut_count u chunk.page per_page) is ∙ ap (λ (b : Bool). cond b chunk.index per_page) (eq-eqb chunk.page chunk.page refl) in
        absurd (not_below_itself chunk.index (ap (nat_lt chunk.index) (sym here) ∙ below))
  ]

  uncut : (chunk : ChunkId) → slabs.uncut ≡ Some chunk → (has_chunk m.state.table chunk ≡ true) × ((head_at m.state chunk).tag ≡ Out)
  uncut chunk is =
      let cutting = l.paged.order.1.uncut chunk is in
      let in_range = near_in m l chunk cutting.owned cutting.within in
      (in_range, l.placed.elsewhere chunk in_range (uncut_yet chunk is))

  entry : (key : ℕ) (place : ChunkId × ℕ) → chunk_of_key m.state key ≡ Some place → (has_chunk m.state.table place.0 ≡ true) × ((head_at m.state place.0).tag ≡ Linked)
  entry key place found = let is = entry_of m l key place found in (is.inside, is.linked)

  fresh : (hand : ℕ) (chunk : ChunkId) (holding : Holding) → holding_of chunk (holdings_at m.state hand) ≡ Some holding → is_fresh holding ≡ true →
      (has_chunk m.state.table chunk ≡ true) × ((head_at m.state chunk).tag ≡ Unlinked)
  fresh hand chunk holding found is =
      let same = same_from_is_chunk holding.chunk chunk (found_passes (is_of_chunk chunk) (holdings_at m.state hand) holding found) in
      let in_range = found_each (λ h. has_chunk m.state.table h.chunk ≡ true) m.state.holdings hand (is_of_chunk chunk) holding found l.held.inside in
      let alone = found_each (λ h. is_fresh h ≡ true → ((head_in m.state.table m.state.heads h.chunk).tag ≡ Unlinked) × (holder_count h.chunk m.state.holdings ≡ 1)) m.state.holdings hand (is_of_chunk chunk) holding found l.held.alone in (
        subst (λ c. has_chunk m.state.table c ≡ true) same in_range,
        subst (λ c. (head_in m.state.table m.state.heads c).tag ≡ Unlinked) same (alone is).0,
      )

pub are_needless : AllAreNeedless
are_needless m l = record {
  most = most m l;
  room = room m l;
  fits = λ chunk in_range. record { issue = l.counted.issued chunk in_range; count = let within_limit = most m l chunk in_range in omega arith };
  next = next m l;
  target = target m l;
  dead = dead m l;
  unused = unused m l;
  uncut = uncut m l;
  entry = entry m l;
  fresh = fresh m l;
}
