-- One header and rows of holdings change: counts and holdings stay as the law says.
use Rattle.std.proofs.Common.{◌≡◌, ◌⊎◌, ℕ, ◌+◌, ◌*◌, ◌^◌, ◌<◌, ◌≤◌, true, false, List, length, sym, ap, ◌∙◌, arith, subst, slice_index, slice_index_or, slice_set, All, inl, inr}
use Rattle.std.proofs.lemmas.Bool.{cases_Bool, both_ways}
use Rattle.mc_classes.specs.Classes.{Classes, arena_pages_of}
use Rattle.mc_pages.specs.declared.ids.ChunkId.{ChunkId}
use Rattle.mc_pages.specs.ClassState.{is_chunk}
use Rattle.mc_pages.specs.SlabState.{SlabState, class_of_page}
use Rattle.mc_pages.proofs.Chunks.{same_from_is_chunk}
use Rattle.mc_core.specs.declared.head.Head.{Head}
use Rattle.mc_core.specs.declared.head.Tag.TheVariants.{Unlinked}
use Rattle.mc_core.specs.declared.holding.Holding.{Holding}
use Rattle.mc_core.specs.model.Head.{is_free, is_out}
use Rattle.mc_core.specs.model.Holdings.{Words, is_fresh, holding_words}
use Rattle.mc_core.specs.model.State.{head_place, has_chunk, most_of, page_words, room_in}
use Rattle.mc_core.specs.model.Columns.{head_in, Shows, Each, holder_count, link_count}
use Rattle.mc_core.specs.law.Counts.{AreCounted, AreHeld, IsHoldingSized}
use Rattle.mc_core.proofs.Steps.Base.{head_written, head_other}
use Rattle.mc_core.specs.run.Chunks.{most_holdings}

-- the words of a chunk whose page stays of its class
pub shows_moved : (table : Classes) (slabs next : SlabState) (words : List ℕ) (chunk : ChunkId) (known : Words) → class_of_page next chunk.page ≡ class_of_page slabs chunk.page →
    Shows table slabs words chunk known → Shows table next words chunk known
shows_moved table slabs next words chunk known same shows = record {
  fits = subst (λ class. length known ≤ room_in table class) (sym same) shows.fits;
  known_words = λ place word at.
      ap (λ class. slice_index words (chunk.page * page_words table + chunk.index * room_in table class + place)) same ∙ shows.known_words place word at;
}

-- a fresh chunk is unlinked, and held once
abbrev pub IsAlone : Classes → List Head → List (List Holding) → Holding → Type 0
IsAlone table heads rows holding = is_fresh holding ≡ true → ((head_in table heads holding.chunk).tag ≡ Unlinked) × (holder_count holding.chunk rows ≡ 1)

-- all that is said of one holding
pub record IsSo (table : Classes) (slabs : SlabState) (heads : List Head) (words : List ℕ) (rows : List (List Holding)) (holding : Holding) : Type 0 where
  pub inside : has_chunk table holding.chunk ≡ true
  pub issue : holding.issue ≡ (head_in table heads holding.chunk).issue
  pub shows : Shows table slabs words holding.chunk (holding_words holding)
  pub sized : IsHoldingSized (room_in table (class_of_page slabs holding.chunk.page)) holding
  pub alone : IsAlone table heads rows holding

pub each_so : (table : Classes) (slabs : SlabState) (heads : List Head) (words : List ℕ) (rows : List (List Holding)) → AreHeld table slabs heads words rows → Each (IsSo table slabs heads words rows) rows
each_so table slabs heads words rows held = λ hand row within place holding inside. record {
  inside = held.inside hand row within place holding inside;
  issue = held.issues hand row within place holding inside;
  shows = held.shows hand row within place holding inside;
  sized = held.sized hand row within place holding inside;
  alone = held.alone hand row within place holding inside;
}

pub held_from_so : (table : Classes) (slabs : SlabState) (heads : List Head) (words : List ℕ) (rows : List (List Holding)) → Each (IsSo table slabs heads words rows) rows → All (λ row. length row ≤ most_holdings) rows →
    AreHeld table slabs heads words rows
held_from_so table slabs heads words rows each most = record {
  inside = λ hand row within place holding inside. (each hand row within place holding inside).inside;
  issues = λ hand row within place holding inside. (each hand row within place holding inside).issue;
  shows = λ hand row within place holding inside. (each hand row within place holding inside).shows;
  sized = λ hand row within place holding inside. (each hand row within place holding inside).sized;
  alone = λ hand row within place holding inside. (each hand row within place holding inside).alone;
  most = most;
}

-- the chunk's new header suits the holdings of now, and other chunks are held as before
pub record Turn (table : Classes) (heads : List Head) (rows now : List (List Holding)) (chunk : ChunkId) (head : Head) : Type 0 where
  pub long : length heads ≡ arena_pages_of table * most_of table
  pub in_range : has_chunk table chunk ≡ true
  pub others : (other : ChunkId) → is_chunk chunk other ≡ false → holder_count other now ≡ holder_count other rows
  pub sum : (head_in table heads chunk).count + (link_count head.tag + holder_count chunk now) ≡ head.count + (link_count (head_in table heads chunk).tag + holder_count chunk rows)
  pub shut : (is_free head.tag ≡ true) ⊎ (is_out head.tag ≡ true) → head.count ≡ 0
  pub issued : head.issue < 2 ^ 46

module _ (table : Classes) (heads : List Head) (rows now : List (List Holding)) (chunk : ChunkId) (head : Head) (turn : Turn table heads rows now chunk head) where
  abbrev heads' : List Head
  heads' = slice_set heads (head_place table chunk) head

  abbrev old : Head
  old = head_in table heads chunk

  written : head_in table heads' chunk ≡ head
  written = head_written table heads chunk head turn.long turn.in_range

  -- what holds at the chunk by its new header, and elsewhere by the old ones
  at_each : (P : ChunkId → Head → Type 0) → P chunk head → ((other : ChunkId) → has_chunk table other ≡ true → is_chunk chunk other ≡ false → P other (head_in table heads other)) →
      (other : ChunkId) → has_chunk table other ≡ true → P other (head_in table heads' other)
  at_each P here elsewhere other in_range = elim (cases_Bool (is_chunk chunk other)) [
    | inl is ↦ let same = same_from_is_chunk chunk other is in subst (λ c. P c (head_in table heads' c)) same (subst (P chunk) (sym written) here)
    | inr isnt ↦ subst (P other) (sym (head_other table heads chunk other head turn.in_range in_range isnt)) (elsewhere other in_range isnt)
  ]

  pub turn_counted : AreCounted table heads rows → AreCounted table heads' now
  turn_counted counted = record {
    counted = at_each (λ c h. h.count ≡ link_count h.tag + holder_count c now)
        (let before = counted.counted chunk turn.in_range in let sum = turn.sum in omega arith)
        (λ other in_range isnt. counted.counted other in_range ∙ ap (λ n. link_count (head_in table heads other).tag + n) (sym (turn.others other isnt)));
    shut = at_each (λ c h. (is_free h.tag ≡ true) ⊎ (is_out h.tag ≡ true) → h.count ≡ 0) turn.shut (λ other in_range isnt. counted.shut other in_range);
    issued = at_each (λ c h. h.issue < 2 ^ 46) turn.issued (λ other in_range isnt. counted.issued other in_range);
  }

  module _ (slabs next : SlabState) (words : List ℕ) (same : (page : ℕ) → class_of_page next page ≡ class_of_page slabs page) where
    so_there : (holding : Holding) → is_chunk chunk holding.chunk ≡ false → IsSo table slabs heads words rows holding → IsSo table next heads' words now holding
    so_there holding isnt so =
        let kept = head_other table heads chunk holding.chunk head turn.in_range so.inside isnt in
        record {
          inside = so.inside;
          issue = so.issue ∙ ap (λ (h : Head). h.issue) (sym kept);
          shows = shows_moved table slabs next words holding.chunk (holding_words holding) (same holding.chunk.page) so.shows;
          sized = subst (λ class. IsHoldingSized (room_in table class) holding) (sym (same holding.chunk.page)) so.sized;
          alone = λ fresh. let alone = so.alone fresh in (ap (λ (h : Head). h.tag) kept ∙ alone.0, turn.others holding.chunk isnt ∙ alone.1);
        }

    so_here : (holding : Holding) → holding.chunk ≡ chunk → head.issue ≡ old.issue → is_fresh holding ≡ false → IsSo table slabs heads words rows holding → IsSo table next heads' words now holding
    so_here holding is issue stale so = record {
      inside = so.inside;
      issue = so.issue ∙ (ap (λ c. (head_in table heads c).issue) is ∙ (sym issue ∙ (ap (λ (h : Head). h.issue) (sym written) ∙ ap (λ c. (head_in table heads' c).issue) (sym is))));
      shows = shows_moved table slabs next words holding.chunk (holding_words holding) (same holding.chunk.page) so.shows;
      sized = subst (λ class. IsHoldingSized (room_in table class) holding) (sym (same holding.chunk.page)) so.sized;
      alone = λ fresh. absurd (both_ways (is_fresh holding) stale fresh);
    }

    -- holdings of the chunk that stay are references, and its issue stays for them
    abbrev pub IsQuiet : Holding → Type 0
    IsQuiet holding = holding.chunk ≡ chunk → (head.issue ≡ old.issue) × (is_fresh holding ≡ false)

    pub turn_so : (holding : Holding) → IsQuiet holding → IsSo table slabs heads words rows holding → IsSo table next heads' words now holding
    turn_so holding quiet so = elim (cases_Bool (is_chunk chunk holding.chunk)) [
      | inl is ↦ let same_chunk = sym (same_from_is_chunk chunk holding.chunk is) in let both = quiet same_chunk in so_here holding same_chunk both.0 both.1 so
      | inr isnt ↦ so_there holding isnt so
    ]

    -- all that stay are as they were
    pub turn_each : (kept : List (List Holding)) → Each IsQuiet kept → Each (IsSo table slabs heads words rows) kept → Each (IsSo table next heads' words now) kept
    turn_each kept quiet each = λ hand row within place holding inside.
        turn_so (slice_index_or (slice_index_or kept hand row) place holding) (quiet hand row within place holding inside) (each hand row within place holding inside)

    -- one more holding, of this chunk
    pub turn_more : (holding : Holding) → holding.chunk ≡ chunk → holding.issue ≡ head.issue → Shows table next words chunk (holding_words holding) → IsHoldingSized (room_in table (class_of_page next chunk.page)) holding →
        (is_fresh holding ≡ true → (head.tag ≡ Unlinked) × (holder_count chunk now ≡ 1)) → IsSo table next heads' words now holding
    turn_more holding is issue shows sized alone = record {
      inside = ap (has_chunk table) is ∙ turn.in_range;
      issue = issue ∙ (ap (λ (h : Head). h.issue) (sym written) ∙ ap (λ c. (head_in table heads' c).issue) (sym is));
      shows = subst (λ c. Shows table next words c (holding_words holding)) (sym is) shows;
      sized = subst (λ (c : ChunkId). IsHoldingSized (room_in table (class_of_page next c.page)) holding) (sym is) sized;
      alone = λ fresh. let both = alone fresh in
          (ap (λ c. (head_in table heads' c).tag) is ∙ (ap (λ (h : Head). h.tag) written ∙ both.0), ap (λ c. holder_count c now) is ∙ both.1);
    }
