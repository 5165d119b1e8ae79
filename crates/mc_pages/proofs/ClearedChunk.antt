-- A chunk of the moving page leaves the lists of its class: all stays accounted for.
use Rattle.std.proofs.Common.{◌≡◌, ◌≢◌, ℕ, ◌+◌, ◌*◌, ◌<◌, ◌≤◌, ◌==◌, Bool, true, false, not, nat_lt, List, length, count_by, Option, Some, refl, sym, ap, ap₂, ◌∙◌, subst, inl, inr, arith, eq-eqb}
use Rattle.std.proofs.lemmas.Bool.{cases_eq, cases_Bool, and_from, and_parts, ltb-true}
use Rattle.std.proofs.lemmas.Option.{same_Some}
use Rattle.std.proofs.lemmas.List.Sums.{sum_by-le-sum_by}
use Rattle.mc_pages.specs.declared.ids.ChunkId.{ChunkId}
use Rattle.mc_pages.specs.declared.ids.Moving.{Moving}
use Rattle.mc_pages.specs.Ledger.{owner_at}
use Rattle.mc_pages.specs.ClassState.{ClassState, is_chunk, times_in, class_after_clear}
use Rattle.mc_pages.specs.SlabState.{SlabState, HasClass, class_at}
use Rattle.mc_pages.specs.Changes.{with_class}
use Rattle.mc_pages.specs.Accounted.{truth, is_of_class, is_moving, cut_count, uncut_count, is_cut, places_in, is_cleared, first_chunks, cleared_count, IsMove, IsAccounted}
use Rattle.mc_pages.proofs.Chunks.{same_from_is_chunk}
use Rattle.mc_pages.proofs.Lists.{times-without_one, length-without_one}
use Rattle.mc_pages.proofs.Cleared.{truth-le_one, count_by-same, count_by-both, is_cleared-alike}
use Rattle.mc_pages.proofs.FirstChunks.{count-first_one}
use Rattle.mc_pages.proofs.OneClass.{length-with_class, IsClass-with_class, class_at-with_class_same, class_at-with_class_other, class_at-with_class_kept, replays-with_class}
use Rattle.mc_pages.proofs.Redistributed.{IsClass-before, is_cut-kept, uncut_count-kept}

-- a chunk of the page that moves, which stands in a list of its class
pub record CanClear (slabs : SlabState) (move : Moving) (chunk : ChunkId) : Type 0 where
  pub runs : slabs.moving ≡ Some move
  pub of : IsMove slabs move
  pub on : chunk.page ≡ move.page
  -- each chunk of the page was cut
  pub whole : cut_count slabs.uncut chunk.page (class_at slabs move.src).per_page ≡ (class_at slabs move.src).per_page
  pub placed : 1 ≤ places_in slabs move.src chunk

-- the whole without the chunk
abbrev without_chunk : SlabState → ℕ → ChunkId → SlabState
without_chunk slabs class chunk = with_class slabs class (class_after_clear (class_at slabs class) chunk)

-- what doesn't hold less often holds not more often
truth-not_le : (a b : Bool) → truth a ≤ truth b → truth (not b) ≤ truth (not a)
truth-not_le true true h = omega arith
truth-not_le true false h = omega arith
truth-not_le false true h = omega arith
truth-not_le false false h = omega arith

-- it was cut, stands in one list, once, and isn't cleared yet
record StandsOnce (slabs : SlabState) (class : ℕ) (chunk : ChunkId) : Type 0 where
  pub cut : is_cut slabs class chunk ≡ true
  pub once : places_in slabs class chunk ≡ 1
  pub not_yet : is_cleared slabs class chunk ≡ false

-- a chunk that stands in a list of a class does so once
StandsOnce_from : (slabs : SlabState) (class : ℕ) (chunk : ChunkId) → IsAccounted slabs → HasClass slabs class → 1 ≤ places_in slabs class chunk → StandsOnce slabs class chunk
StandsOnce_from slabs class chunk all is placed =
    let sum = all.chunks class chunk is in
    let most = truth-le_one (is_cut slabs class chunk) in
    record {
      cut = elim (cases_Bool (is_cut slabs class chunk)) [ inl cut ↦ cut | inr uncut ↦ absurd (omega (arith, sum, ap truth uncut, placed)) ];
      once = omega (arith, sum, most, placed);
      not_yet = elim (cases_Bool (is_cleared slabs class chunk)) [ inl class_after_clear ↦ absurd (omega (arith, sum, ap truth class_after_clear, most, placed)) | inr still ↦ still ];
    }

-- that chunk has a place less
places-own : (slabs : SlabState) (class : ℕ) (chunk other : ChunkId) → HasClass slabs class → places_in slabs class chunk ≡ 1 → places_in (without_chunk slabs class chunk) class other + truth (is_chunk chunk other) ≡ places_in slabs class other
places-own slabs class chunk other is once =
    let state = class_at slabs class in
    let now = ap (λ (c : ClassState). times_in other c.free + times_in other c.order) (class_at-with_class_same slabs class (class_after_clear state chunk) is) in
    omega (arith, now, times-without_one other chunk state.free state.order once)

-- each class has as many chunks a page
size_kept : (slabs : SlabState) (class other : ℕ) (chunk : ChunkId) → HasClass slabs class → 1 ≤ other → (class_at (without_chunk slabs class chunk) other).per_page ≡ (class_at slabs other).per_page
size_kept slabs class other chunk is first = class_at-with_class_kept (λ c. c.per_page) slabs class other (class_after_clear (class_at slabs class) chunk) is first refl

-- each chunk is cut as before
cut_kept : (slabs : SlabState) (class other : ℕ) (chunk c : ChunkId) → HasClass slabs class → 1 ≤ other → is_cut (without_chunk slabs class chunk) other c ≡ is_cut slabs other c
cut_kept slabs class other chunk c is first = is_cut-kept slabs (without_chunk slabs class chunk) other c refl refl (size_kept slabs class other chunk is first)

-- one more chunk of the class is cleared: this one
cleared-own : (slabs : SlabState) (move : Moving) (chunk other : ChunkId) → CanClear slabs move chunk → StandsOnce slabs move.src chunk → truth (is_cleared (without_chunk slabs move.src chunk) move.src other) ≡ truth (is_cleared slabs move.src other) + truth (is_chunk chunk other)
cleared-own slabs move chunk other can stands =
    let class = move.src in
    let is = can.of.src in
    let new : SlabState = without_chunk slabs class chunk in
    let places = places-own slabs class chunk other is stands.once in
    elim (cases_Bool (is_chunk chunk other)) [
      | inl same ↦
          let e = same_from_is_chunk chunk other same in
          let moves : is_moving (owner_at slabs.owners chunk.page) ≡ true = ap (λ (p : ℕ). is_moving (owner_at slabs.owners p)) can.on ∙ ap is_moving can.of.owner in
          let was = ap (λ (c : ChunkId). truth (is_cleared slabs class c)) (sym e) ∙ ap truth stands.not_yet in
          let once = ap (λ (c : ChunkId). places_in slabs class c) (sym e) ∙ stands.once in
          let none : places_in new class other ≡ 0 = omega (arith, places, once, ap truth same) in
          let cut = cut_kept slabs class class chunk other is is.0 ∙ (ap (λ (c : ChunkId). is_cut slabs class c) (sym e) ∙ stands.cut) in
          let moves_too : is_moving (owner_at slabs.owners other.page) ≡ true = ap (λ (c : ChunkId). is_moving (owner_at slabs.owners c.page)) (sym e) ∙ moves in
          let now : is_cleared new class other ≡ true = and_from _ _ (and_from _ _ moves_too cut) (eq-eqb (places_in new class other) 0 none) in
          omega (arith, ap truth now, was, ap truth same)
      | inr differs ↦
          let kept : places_in new class other ≡ places_in slabs class other = omega (arith, places, ap truth differs) in
          let alike = is_cleared-alike slabs new class other refl (cut_kept slabs class class chunk other is is.0) kept in
          omega (arith, ap truth alike, ap truth differs)
    ]

-- no chunk of another class is cleared by it
cleared-other : (slabs : SlabState) (class other : ℕ) (chunk c : ChunkId) → HasClass slabs class → HasClass slabs other → other ≢ class → is_cleared (without_chunk slabs class chunk) other c ≡ is_cleared slabs other c
cleared-other slabs class other chunk c is here differs =
    let same = class_at-with_class_other slabs class other (class_after_clear (class_at slabs class) chunk) is.0 here.0 differs in
    let places = ap (λ (s : ClassState). times_in c s.free + times_in c s.order) same in
    is_cleared-alike slabs (without_chunk slabs class chunk) other c refl (cut_kept slabs class other chunk c is here.0) places

-- each chunk stays accounted for
chunks-cleared : (slabs : SlabState) (move : Moving) (chunk : ChunkId) → IsAccounted slabs → CanClear slabs move chunk → (class : ℕ) (other : ChunkId) → HasClass slabs class → places_in (without_chunk slabs move.src chunk) class other + truth (is_cleared (without_chunk slabs move.src chunk) class other) ≡ truth (is_cut (without_chunk slabs move.src chunk) class other)
chunks-cleared slabs move chunk all can class other here =
    let own = move.src in
    let is = can.of.src in
    let new : SlabState = without_chunk slabs own chunk in
    let stands = StandsOnce_from slabs own chunk all is can.placed in
    elim (cases_eq class own) [
      | inl same ↦
          let at_own : places_in new own other + truth (is_cleared new own other) ≡ truth (is_cut new own other) =
          omega (arith, places-own slabs own chunk other is stands.once, cleared-own slabs move chunk other can stands, ap truth (cut_kept slabs own own chunk other is is.0), all.chunks own other is) in
          subst (λ (n : ℕ). places_in new n other + truth (is_cleared new n other) ≡ truth (is_cut new n other)) (sym same) at_own
      | inr differs ↦
          let lists = class_at-with_class_other slabs own class (class_after_clear (class_at slabs own) chunk) is.0 here.0 differs in
          let places = ap (λ (s : ClassState). times_in other s.free + times_in other s.order) lists in
          omega (arith, places, ap truth (cleared-other slabs own class chunk other is here differs), ap truth (cut_kept slabs own class chunk other is here.0), all.chunks class other here)
    ]

-- one more chunk of the class is counted as cleared
cleared_count-own : (slabs : SlabState) (move : Moving) (chunk : ChunkId) → CanClear slabs move chunk → StandsOnce slabs move.src chunk → cleared_count (without_chunk slabs move.src chunk) move.src (Some move) ≡ cleared_count slabs move.src (Some move) + 1
cleared_count-own slabs move chunk can stands =
    let own = move.src in
    let new : SlabState = without_chunk slabs own chunk in
    let per_page = (class_at slabs own).per_page in
    let size = ap (λ (n : ℕ). count_by (is_cleared new own) (first_chunks move.page n)) (size_kept slabs own own chunk can.of.src can.of.src.0) in
    let both = count_by-both (is_cleared new own) (is_cleared slabs own) (λ c. is_chunk chunk c) (first_chunks move.page per_page) (λ c. cleared-own slabs move chunk c can stands) in
    let below : chunk.index < cut_count slabs.uncut chunk.page per_page = ltb-true chunk.index (cut_count slabs.uncut chunk.page per_page) (and_parts (is_of_class own (owner_at slabs.owners chunk.page)) (nat_lt chunk.index (cut_count slabs.uncut chunk.page per_page)) stands.cut).1 in
    let one = count-first_one chunk move.page per_page can.on (omega (arith, below, can.whole)) in
    omega (arith, size, both, one)

-- the number of chunks of each class stays accounted for
total-cleared : (slabs : SlabState) (move : Moving) (chunk : ChunkId) → IsAccounted slabs → CanClear slabs move chunk → (class : ℕ) → HasClass slabs class → length (class_at (without_chunk slabs move.src chunk) class).free + length (class_at (without_chunk slabs move.src chunk) class).order + uncut_count (without_chunk slabs move.src chunk) class slabs.uncut + cleared_count (without_chunk slabs move.src chunk) class slabs.moving ≡ length (class_at (without_chunk slabs move.src chunk) class).pages * (class_at (without_chunk slabs move.src chunk) class).per_page
total-cleared slabs move chunk all can class here =
    let own = move.src in
    let is = can.of.src in
    let state = class_at slabs own in
    let new : SlabState = without_chunk slabs own chunk in
    let stands = StandsOnce_from slabs own chunk all is can.placed in
    let size = size_kept slabs own class chunk is here.0 in
    let uncut = uncut_count-kept slabs new class slabs.uncut refl size in
    let pages = class_at-with_class_kept (λ c. length c.pages) slabs own class (class_after_clear state chunk) is here.0 refl in
    let product = ap₂ (λ (m n : ℕ). m * n) pages size in
    let runs = ap (λ (o : Option Moving). cleared_count slabs class o) can.runs in
    let runs_now = ap (λ (o : Option Moving). cleared_count new class o) can.runs in
    let before = all.total class here in
    elim (cases_eq class own) [
      | inl same ↦
          let lists = ap (λ (n : ℕ). length (class_at new n).free + length (class_at new n).order) same ∙ ap (λ (c : ClassState). length c.free + length c.order) (class_at-with_class_same slabs own (class_after_clear state chunk) is) in
          let lists_before = ap (λ (n : ℕ). length (class_at slabs n).free + length (class_at slabs n).order) same in
          let shorter = length-without_one chunk state.free state.order stands.once in
          let now = ap (λ (n : ℕ). cleared_count new n (Some move)) same in
          let was = ap (λ (n : ℕ). cleared_count slabs n (Some move)) same in
          omega (arith, lists, lists_before, shorter, now, was, cleared_count-own slabs move chunk can stands, runs, runs_now, uncut, product, before)
      | inr differs ↦
          let other = class_at-with_class_other slabs own class (class_after_clear state chunk) is.0 here.0 differs in
          let lists = ap (λ (c : ClassState). length c.free + length c.order) other in
          let alike = count_by-same (is_cleared new class) (is_cleared slabs class) (first_chunks move.page (class_at new class).per_page) (λ c. cleared-other slabs own class chunk c is here differs) in
          let counts = ap (λ (n : ℕ). count_by (is_cleared slabs class) (first_chunks move.page n)) size in
          omega (arith, lists, alike, counts, runs, runs_now, uncut, product, before)
    ]

-- no more chunks are left behind
IsMove-cleared : (slabs : SlabState) (move : Moving) (chunk : ChunkId) → IsAccounted slabs → CanClear slabs move chunk → IsMove (without_chunk slabs move.src chunk) move
IsMove-cleared slabs move chunk all can =
    let own = move.src in
    let of = can.of in
    let new : SlabState = without_chunk slabs own chunk in
    let stands = StandsOnce_from slabs own chunk all of.src can.placed in
    let classes = length-with_class slabs own (class_after_clear (class_at slabs own) chunk) in
    let fewer = sum_by-le-sum_by (λ c. truth (not (is_cleared new own c))) (λ c. truth (not (is_cleared slabs own c))) (first_chunks move.page move.at) (λ c. truth-not_le (is_cleared slabs own c) (is_cleared new own c) (omega (arith, cleared-own slabs move chunk c can stands))) in
    record {
      owner = of.owner;
      src = (of.src.0, omega (arith, of.src.1, classes));
      spare = omega (arith, of.spare, class_at-with_class_kept (λ c. length c.pages) slabs own own (class_after_clear (class_at slabs own) chunk) of.src of.src.0 refl);
      dst = omega (arith, of.dst, classes);
      apart = of.apart;
      within = omega (arith, of.within, size_kept slabs own own chunk of.src of.src.0);
      busy = of.busy;
      passed = omega (arith, fewer, of.passed);
    }

-- a chunk of the moving page leaves its list
pub IsAccounted-cleared : (slabs : SlabState) (move : Moving) (chunk : ChunkId) → IsAccounted slabs → CanClear slabs move chunk → IsAccounted (with_class slabs move.src (class_after_clear (class_at slabs move.src) chunk))
IsAccounted-cleared slabs move chunk all can =
    let own = move.src in
    let state = class_after_clear (class_at slabs own) chunk in
    let new : SlabState = without_chunk slabs own chunk in
    let before = λ (class : ℕ) (here : HasClass new class). IsClass-before slabs own class state here in
    record {
      replays = replays-with_class slabs own state all;
      pages = λ class page here.
          let kept = class_at-with_class_kept (λ c. c.pages) slabs own class state can.of.src here.0 refl in
          ap (λ (ps : List ℕ). count_by (λ p. p == page) ps) kept ∙ all.pages class page (before class here);
      owned = λ class page h. IsClass-with_class slabs own class state (all.owned class page h);
      pool = all.pool;
      one_move = all.one_move;
      move = λ other h.
          let same : move ≡ other = same_Some move other (sym can.runs ∙ h) in
          subst (λ (m : Moving). IsMove new m) same (IsMove-cleared slabs move chunk all can);
      limit = all.limit;
      grace = all.grace;
      chunks = λ class other here. chunks-cleared slabs move chunk all can class other (before class here);
      total = λ class here. total-cleared slabs move chunk all can class (before class here);
      cursor = IsClass-with_class slabs own slabs.cursor state all.cursor;
      mode = all.mode;
    }
