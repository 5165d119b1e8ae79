-- The lowest uncut chunk is cut: all stays accounted for.
use Rattle.std.proofs.Common.{◌≡◌, ◌≢◌, ℕ, ◌+◌, ◌-◌, ◌*◌, ◌<◌, ◌≤◌, ◌==◌, Bool, true, false, ◌&&◌, nat_lt, List, ◌∷◌, length, count_by, Option, Some, None, if◌then◌else◌, refl, sym, ap, ap₂, ◌∙◌, inl, inr, arith, eq-eqb, ne_eqb, lt-ltb, le-ltb}
use Rattle.std.proofs.lemmas.Bool.{cases_eq, cases_lt, false_from_ne_true}
use Rattle.mc_pages.specs.declared.ids.ChunkId.{ChunkId}
use Rattle.mc_pages.specs.Ledger.{owner_at}
use Rattle.mc_pages.specs.ClassState.{ClassState, is_chunk, times_in, with_cut}
use Rattle.mc_pages.specs.SlabState.{SlabState, HasClass, class_at, class_of_page, class_of_chunk}
use Rattle.mc_pages.specs.Changes.{next_uncut, after_cut}
use Rattle.mc_pages.specs.Accounted.{truth, is_of_class, is_moving, cut_count, uncut_count, is_cut, places_in, is_cleared, cleared_count, IsAccounted}
use Rattle.mc_pages.specs.InOrder.{IsBeingCut}
use Rattle.mc_pages.proofs.Chunks.{times-cons}
use Rattle.mc_pages.proofs.FirstChunks.{truth-nat_lt_more}
use Rattle.mc_pages.proofs.Owners.{class_of_owner-is_of_class, is_of_class-class_of_owner}
use Rattle.mc_pages.proofs.OneClass.{length-with_class, IsClass-with_class, class_at-with_class_same, class_at-with_class_other, class_at-with_class_kept, replays-with_class}
use Rattle.mc_pages.proofs.Cleared.{ClearsAlike, is_cleared-still, is_cleared-alike, cleared_count-alike, IsMove-alike}
use Rattle.mc_pages.proofs.Redistributed.{IsClass-before}

-- on its page, so many chunks are cut as stand before the lowest uncut one
cut_count-same : (next : ChunkId) (per_page : ℕ) → cut_count (Some next) next.page per_page ≡ next.index
cut_count-same next per_page = ap (λ b. if b then next.index else per_page) (eq-eqb next.page next.page refl)

-- on any other page all chunks are cut
cut_count-other : (next : ChunkId) (page per_page : ℕ) → page ≢ next.page → cut_count (Some next) page per_page ≡ per_page
cut_count-other next page per_page differs = ap (λ b. if b then next.index else per_page) (ne_eqb next.page page (λ same. differs (sym same)))

-- behind the last chunk of the page none is uncut
pub next_uncut-last : (per_page : ℕ) (chunk : ChunkId) → per_page ≤ chunk.index + 1 → next_uncut per_page chunk ≡ None
next_uncut-last per_page chunk last =
    ap (λ b. if b then Some (record { page = chunk.page; index = chunk.index + 1 }) else None) (le-ltb (chunk.index + 1) per_page last)

-- before it the next one is
pub next_uncut-more : (per_page : ℕ) (chunk : ChunkId) → chunk.index + 1 < per_page → next_uncut per_page chunk ≡ Some (record { page = chunk.page; index = chunk.index + 1 })
next_uncut-more per_page chunk more =
    ap (λ b. if b then Some (record { page = chunk.page; index = chunk.index + 1 }) else None) (lt-ltb (chunk.index + 1) per_page more)

-- on its page one more chunk is cut
cut_count-next_same : (chunk : ChunkId) (per_page : ℕ) → chunk.index < per_page → cut_count (next_uncut per_page chunk) chunk.page per_page ≡ chunk.index + 1
cut_count-next_same chunk per_page within =
    elim (cases_lt (chunk.index + 1) per_page) [
      | inl more ↦ ap (λ (o : Option ChunkId). cut_count o chunk.page per_page) (next_uncut-more per_page chunk more) ∙ cut_count-same (record { page = chunk.page; index = chunk.index + 1 }) per_page
      | inr last ↦ ap (λ (o : Option ChunkId). cut_count o chunk.page per_page) (next_uncut-last per_page chunk last) ∙ omega arith
    ]

-- on any other page all chunks are still cut
cut_count-next_other : (chunk : ChunkId) (own page per_page : ℕ) → page ≢ chunk.page → cut_count (next_uncut own chunk) page per_page ≡ per_page
cut_count-next_other chunk own page per_page differs =
    elim (cases_lt (chunk.index + 1) own) [
      | inl more ↦ ap (λ (o : Option ChunkId). cut_count o page per_page) (next_uncut-more own chunk more) ∙ cut_count-other (record { page = chunk.page; index = chunk.index + 1 }) page per_page differs
      | inr last ↦ ap (λ (o : Option ChunkId). cut_count o page per_page) (next_uncut-last own chunk last)
    ]

-- the chunks that were cut for the page's class, and the one that is cut now
cut-more : (owned : Bool) (chunk other : ChunkId) (per_page : ℕ) → chunk.index < per_page → (other.page ≡ chunk.page → owned ≡ true) → truth (is_chunk chunk other) + truth (owned && nat_lt other.index (cut_count (Some chunk) other.page per_page)) ≡ truth (owned && nat_lt other.index (cut_count (next_uncut per_page chunk) other.page per_page))
cut-more owned chunk other per_page within own =
    elim (cases_eq other.page chunk.page) [
      | inl same ↦
          let here : is_chunk chunk other ≡ (chunk.index == other.index) = ap (λ b. b && (chunk.index == other.index)) (eq-eqb chunk.page other.page (sym same)) in
          let before : cut_count (Some chunk) other.page per_page ≡ chunk.index = ap (λ (p : ℕ). cut_count (Some chunk) p per_page) same ∙ cut_count-same chunk per_page in
          let after : cut_count (next_uncut per_page chunk) other.page per_page ≡ chunk.index + 1 = ap (λ (p : ℕ). cut_count (next_uncut per_page chunk) p per_page) same ∙ cut_count-next_same chunk per_page within in
          let count = λ (b : Bool) (n : ℕ). truth (b && nat_lt other.index n) in
          omega (arith, ap truth here, ap₂ count (own same) before, ap₂ count (own same) after, truth-nat_lt_more chunk.index other.index)
      | inr differs ↦
          let here : is_chunk chunk other ≡ false = ap (λ b. b && (chunk.index == other.index)) (ne_eqb chunk.page other.page (λ same. differs (sym same))) in
          let count = λ (n : ℕ). truth (owned && nat_lt other.index n) in
          omega (arith, ap truth here, ap count (cut_count-other chunk other.page per_page differs), ap count (cut_count-next_other chunk per_page other.page per_page differs))
    ]

-- the chunks that were cut for any other class
cut-other : (owned : Bool) (chunk other : ChunkId) (own per_page : ℕ) → (other.page ≡ chunk.page → owned ≡ false) → truth (owned && nat_lt other.index (cut_count (Some chunk) other.page per_page)) ≡ truth (owned && nat_lt other.index (cut_count (next_uncut own chunk) other.page per_page))
cut-other owned chunk other own per_page not_own =
    elim (cases_eq other.page chunk.page) [
      | inl same ↦
          let none = λ (n : ℕ). ap (λ b. truth (b && nat_lt other.index n)) (not_own same) in
          none (cut_count (Some chunk) other.page per_page) ∙ sym (none (cut_count (next_uncut own chunk) other.page per_page))
      | inr differs ↦
          let count = λ (n : ℕ). truth (owned && nat_lt other.index n) in
          ap count (cut_count-other chunk other.page per_page differs) ∙ sym (ap count (cut_count-next_other chunk own other.page per_page differs))
    ]

-- the class whose page it is has that many uncut chunks
pub uncut_count-own : (slabs : SlabState) (class : ℕ) (next : ChunkId) → is_of_class class (owner_at slabs.owners next.page) ≡ true → uncut_count slabs class (Some next) ≡ (class_at slabs class).per_page - next.index
uncut_count-own slabs class next own = ap (λ b. if b then (class_at slabs class).per_page - next.index else 0) own

-- no other class has
uncut_count-other : (slabs : SlabState) (class : ℕ) (next : ChunkId) → is_of_class class (owner_at slabs.owners next.page) ≡ false → uncut_count slabs class (Some next) ≡ 0
uncut_count-other slabs class next other = ap (λ b. if b then (class_at slabs class).per_page - next.index else 0) other

-- of the class's chunks one more is cut
uncut_count-next_own : (slabs : SlabState) (class : ℕ) (chunk : ChunkId) (per_page : ℕ) → is_of_class class (owner_at slabs.owners chunk.page) ≡ true → (class_at slabs class).per_page ≡ per_page → chunk.index < per_page → uncut_count slabs class (next_uncut per_page chunk) + 1 ≡ per_page - chunk.index
uncut_count-next_own slabs class chunk per_page own size within =
    elim (cases_lt (chunk.index + 1) per_page) [
      | inl more ↦
          let next = ap (λ (o : Option ChunkId). uncut_count slabs class o) (next_uncut-more per_page chunk more) in
          omega (arith, next, uncut_count-own slabs class (record { page = chunk.page; index = chunk.index + 1 }) own, size)
      | inr last ↦
          let next = ap (λ (o : Option ChunkId). uncut_count slabs class o) (next_uncut-last per_page chunk last) in
          omega (arith, next)
    ]

-- no other class has uncut chunks
uncut_count-next_other : (slabs : SlabState) (class : ℕ) (chunk : ChunkId) (per_page : ℕ) → is_of_class class (owner_at slabs.owners chunk.page) ≡ false → uncut_count slabs class (next_uncut per_page chunk) ≡ 0
uncut_count-next_other slabs class chunk per_page other =
    elim (cases_lt (chunk.index + 1) per_page) [
      | inl more ↦ ap (λ (o : Option ChunkId). uncut_count slabs class o) (next_uncut-more per_page chunk more) ∙ uncut_count-other slabs class (record { page = chunk.page; index = chunk.index + 1 }) other
      | inr last ↦ ap (λ (o : Option ChunkId). uncut_count slabs class o) (next_uncut-last per_page chunk last)
    ]

-- no chunk is cleared by it: its page stands still
ClearsAlike-after_cut : (slabs : SlabState) (chunk : ChunkId) → slabs.uncut ≡ Some chunk → IsBeingCut slabs chunk → ClearsAlike slabs (after_cut slabs chunk)
ClearsAlike-after_cut slabs chunk uncut on =
    let own = class_of_page slabs chunk.page in
    let state = class_of_chunk slabs chunk in
    let new : SlabState = after_cut slabs chunk in
    let size = λ (class : ℕ) (is : HasClass slabs class). class_at-with_class_kept (λ c. c.per_page) slabs own class (with_cut state chunk) on.owned is.0 refl in
    record {
      classes = length-with_class slabs own (with_cut state chunk);
      per_page = size;
      cleared = λ class other is.
          elim (cases_eq other.page chunk.page) [
            | inl same ↦
                let still = ap (λ (p : ℕ). is_moving (owner_at slabs.owners p)) same ∙ on.still in
                is_cleared-still new class other still ∙ sym (is_cleared-still slabs class other still)
            | inr differs ↦
                let apart : is_chunk chunk other ≡ false = ap (λ b. b && (chunk.index == other.index)) (ne_eqb chunk.page other.page (λ same. differs (sym same))) in
                let lists : times_in other (chunk ∷ state.free) + times_in other state.order ≡ times_in other state.free + times_in other state.order = omega (arith, times-cons other chunk state.free, ap truth apart) in
                let places = class_at-with_class_kept (λ c. times_in other c.free + times_in other c.order) slabs own class (with_cut state chunk) on.owned is.0 lists in
                let before = ap (λ (o : Option ChunkId). cut_count o other.page (class_at slabs class).per_page) uncut ∙ cut_count-other chunk other.page (class_at slabs class).per_page differs in
                let after = cut_count-next_other chunk state.per_page other.page (class_at new class).per_page differs ∙ size class is in
                let cut = ap (λ (n : ℕ). is_of_class class (owner_at slabs.owners other.page) && nat_lt other.index n) (after ∙ sym before) in
                is_cleared-alike slabs new class other refl cut places
          ];
    }

-- the chunks of each class stay accounted for
chunks-after_cut : (slabs : SlabState) (chunk : ChunkId) → IsAccounted slabs → slabs.uncut ≡ Some chunk → IsBeingCut slabs chunk → (class : ℕ) (other : ChunkId) → HasClass slabs class → places_in (after_cut slabs chunk) class other + truth (is_cleared (after_cut slabs chunk) class other) ≡ truth (is_cut (after_cut slabs chunk) class other)
chunks-after_cut slabs chunk all uncut on class other is =
    let own = class_of_page slabs chunk.page in
    let state = class_of_chunk slabs chunk in
    let new : SlabState = after_cut slabs chunk in
    let owner = owner_at slabs.owners chunk.page in
    let owned : Bool = is_of_class class (owner_at slabs.owners other.page) in
    let size = class_at-with_class_kept (λ c. c.per_page) slabs own class (with_cut state chunk) on.owned is.0 refl in
    let before = all.chunks class other is ∙ ap (λ (o : Option ChunkId). truth (owned && nat_lt other.index (cut_count o other.page (class_at slabs class).per_page))) uncut in
    let after = ap (λ (n : ℕ). truth (owned && nat_lt other.index (cut_count (next_uncut state.per_page chunk) other.page n))) (sym size) in
    let cleared = ap truth ((ClearsAlike-after_cut slabs chunk uncut on).cleared class other is) in
    let same_owner = λ (same : other.page ≡ chunk.page). ap (λ (p : ℕ). is_of_class class (owner_at slabs.owners p)) same in
    elim (cases_eq class own) [
      | inl same ↦
          let here = class_at-with_class_same slabs own (with_cut state chunk) on.owned in
          let there : class_at slabs class ≡ state = ap (λ (n : ℕ). class_at slabs n) same in
          let now : class_at new class ≡ with_cut state chunk = ap (λ (n : ℕ). class_at new n) same ∙ here in
          let lists = ap (λ (c : ClassState). times_in other c.free + times_in other c.order) now in
          let lists_before = ap (λ (c : ClassState). times_in other c.free + times_in other c.order) there in
          let more = cut-more owned chunk other (class_at slabs class).per_page (omega (arith, on.within, ap (λ (c : ClassState). c.per_page) there)) (λ e. same_owner e ∙ is_of_class-class_of_owner class owner is.0 (sym same)) in
          let next = ap (λ (n : ℕ). truth (owned && nat_lt other.index (cut_count (next_uncut n chunk) other.page (class_at slabs class).per_page))) (ap (λ (c : ClassState). c.per_page) there) in
          omega (arith, lists, lists_before, times-cons other chunk state.free, before, more, next, after, cleared)
      | inr differs ↦
          let other_class = class_at-with_class_other slabs own class (with_cut state chunk) on.owned.0 is.0 differs in
          let lists = ap (λ (c : ClassState). times_in other c.free + times_in other c.order) other_class in
          let not_own = λ (same : other.page ≡ chunk.page). same_owner same ∙ false_from_ne_true _ (λ e. differs (sym (class_of_owner-is_of_class class owner e))) in
          let kept = cut-other owned chunk other state.per_page (class_at slabs class).per_page not_own in
          omega (arith, lists, before, kept, after, cleared)
    ]

-- the number of chunks of each class stays accounted for
total-after_cut : (slabs : SlabState) (chunk : ChunkId) → IsAccounted slabs → slabs.uncut ≡ Some chunk → IsBeingCut slabs chunk → (class : ℕ) → HasClass slabs class → length (class_at (after_cut slabs chunk) class).free + length (class_at (after_cut slabs chunk) class).order + uncut_count (after_cut slabs chunk) class (after_cut slabs chunk).uncut + cleared_count (after_cut slabs chunk) class slabs.moving ≡ length (class_at (after_cut slabs chunk) class).pages * (class_at (after_cut slabs chunk) class).per_page
total-after_cut slabs chunk all uncut on class is =
    let own = class_of_page slabs chunk.page in
    let state = class_of_chunk slabs chunk in
    let new : SlabState = after_cut slabs chunk in
    let owner = owner_at slabs.owners chunk.page in
    let before = ap (λ (o : Option ChunkId). length (class_at slabs class).free + length (class_at slabs class).order + uncut_count slabs class o + cleared_count slabs class slabs.moving) (sym uncut) ∙ all.total class is in
    let cleared = cleared_count-alike slabs new class slabs.moving (ClearsAlike-after_cut slabs chunk uncut on) is in
    elim (cases_eq class own) [
      | inl same ↦
          let here = class_at-with_class_same slabs own (with_cut state chunk) on.owned in
          let there : class_at slabs class ≡ state = ap (λ (n : ℕ). class_at slabs n) same in
          let now : class_at new class ≡ with_cut state chunk = ap (λ (n : ℕ). class_at new n) same ∙ here in
          let own_page = is_of_class-class_of_owner class owner is.0 (sym same) in
          let lists = ap (λ (c : ClassState). length c.free + length c.order) now in
          let lists_before = ap (λ (c : ClassState). length c.free + length c.order) there in
          let size = ap (λ (c : ClassState). c.per_page) now in
          let size_before = ap (λ (c : ClassState). c.per_page) there in
          let product = ap (λ (c : ClassState). length c.pages * c.per_page) now in
          let product_before = ap (λ (c : ClassState). length c.pages * c.per_page) there in
          let next = uncut_count-next_own new class chunk state.per_page own_page size on.within in
          let first = uncut_count-own slabs class chunk own_page in
          omega (arith, lists, lists_before, size_before, product, product_before, next, first, before, cleared, on.within)
      | inr differs ↦
          let other_class = class_at-with_class_other slabs own class (with_cut state chunk) on.owned.0 is.0 differs in
          let other_page = false_from_ne_true _ (λ e. differs (sym (class_of_owner-is_of_class class owner e))) in
          let lists = ap (λ (c : ClassState). length c.free + length c.order) other_class in
          let product = ap (λ (c : ClassState). length c.pages * c.per_page) other_class in
          let next = uncut_count-next_other new class chunk state.per_page other_page in
          let first = uncut_count-other slabs class chunk other_page in
          omega (arith, lists, product, next, first, before, cleared)
    ]

-- a whole of which the lowest uncut chunk is cut stays accounted for
pub IsAccounted-after_cut : (slabs : SlabState) (chunk : ChunkId) → IsAccounted slabs → slabs.uncut ≡ Some chunk → IsBeingCut slabs chunk → IsAccounted (after_cut slabs chunk)
IsAccounted-after_cut slabs chunk all uncut on =
    let own = class_of_page slabs chunk.page in
    let state : ClassState = with_cut (class_of_chunk slabs chunk) chunk in
    record {
      replays = replays-with_class slabs own state all;
      pages = λ class page here.
          let before = IsClass-before slabs own class state here in
          let kept = class_at-with_class_kept (λ c. c.pages) slabs own class state on.owned before.0 refl in
          ap (λ (ps : List ℕ). count_by (λ p. p == page) ps) kept ∙ all.pages class page before;
      owned = λ class page h. IsClass-with_class slabs own class state (all.owned class page h);
      pool = all.pool;
      one_move = all.one_move;
      move = λ move h.
          let of = all.move move h in
          let pages = class_at-with_class_kept (λ c. length c.pages) slabs own move.src state on.owned of.src.0 refl in
          IsMove-alike slabs (after_cut slabs chunk) move (ClearsAlike-after_cut slabs chunk uncut on) refl (omega (arith, pages)) of;
      limit = all.limit;
      grace = all.grace;
      chunks = λ class other here. chunks-after_cut slabs chunk all uncut on class other (IsClass-before slabs own class state here);
      total = λ class here. total-after_cut slabs chunk all uncut on class (IsClass-before slabs own class state here);
      cursor = IsClass-with_class slabs own slabs.cursor state all.cursor;
      mode = all.mode;
    }
