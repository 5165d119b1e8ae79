-- Chunks that change between the free list and the hand-out order of a class: all stays accounted for.
use Rattle.std.proofs.Common.{◌≡◌, ℕ, ◌+◌, ◌-◌, ◌*◌, ◌≤◌, ◌==◌, ◌&&◌, nat_lt, List, [], ◌∷◌, length, count_by, Option, Some, None, if◌then◌else◌, refl, ap, ap₂, ◌∙◌, arith, length-append}
use Rattle.mc_pages.specs.declared.ids.ChunkId.{ChunkId}
use Rattle.mc_pages.specs.declared.ledger.Owner.{Owner}
use Rattle.mc_pages.specs.Ledger.{owner_at}
use Rattle.mc_pages.specs.ClassState.{ClassState, times_in, without, class_after_hand_out, class_after_pop, put_back, class_after_touch, class_after_replacement, class_after_eviction}
use Rattle.mc_pages.specs.SlabState.{SlabState, HasClass, class_at}
use Rattle.mc_pages.specs.Changes.{with_class}
use Rattle.mc_pages.specs.Accounted.{truth, is_of_class, cut_count, uncut_count, is_cut, IsAccounted}
use Rattle.mc_pages.proofs.Chunks.{times-cons, times-push, times-without, length-without}
use Rattle.mc_pages.proofs.Lists.{times-with_before, length-with_before}
use Rattle.mc_pages.proofs.Cleared.{ClearsAlike, is_cleared-alike, cleared_count-alike, IsMove-alike}
use Rattle.mc_pages.proofs.OneClass.{length-with_class, IsClass-with_class, class_at-with_class_kept, replays-with_class}

-- the class has the same pages and the same chunks, some of them in the other list
pub record Redistributes (old new : ClassState) : Type 0 where
  pub per_page : new.per_page ≡ old.per_page
  pub pages : new.pages ≡ old.pages
  pub times : (chunk : ChunkId) → times_in chunk new.free + times_in chunk new.order ≡ times_in chunk old.free + times_in chunk old.order
  pub lengths : length new.free + length new.order ≡ length old.free + length old.order

-- a head of the free list is handed out
Redistributes-handed_out : (class : ClassState) (free : List ChunkId) → class.free ≡ free → Redistributes class (class_after_hand_out class free)
Redistributes-handed_out class [] h = record { per_page = refl; pages = refl; times = λ chunk. refl; lengths = refl }
Redistributes-handed_out class (head ∷ free) h =
    record {
      per_page = refl;
      pages = refl;
      times = λ chunk. omega (arith, times-cons chunk head free, times-push chunk head class.order, ap (λ (cs : List ChunkId). times_in chunk cs) h);
      lengths = omega (arith, length-append class.order (head ∷ []), ap length h);
    }

-- the next chunk is handed out
pub Redistributes-popped : (class : ClassState) → Redistributes class (class_after_pop class)
Redistributes-popped class = Redistributes-handed_out class class.free refl

-- a handed-out chunk comes back
pub Redistributes-put_back : (class : ClassState) (chunk : ChunkId) → 1 ≤ times_in chunk class.order → Redistributes class (put_back class chunk)
Redistributes-put_back class chunk h =
    record {
      per_page = refl;
      pages = refl;
      times = λ other. omega (arith, times-cons other chunk class.free, times-without other chunk class.order h);
      lengths = omega (arith, length-without chunk class.order h);
    }

-- a handed-out chunk becomes the youngest
pub Redistributes-touched : (class : ClassState) (chunk : ChunkId) → 1 ≤ times_in chunk class.order → Redistributes class (class_after_touch class chunk)
Redistributes-touched class chunk h =
    record {
      per_page = refl;
      pages = refl;
      times = λ other. omega (arith, times-push other chunk (without chunk class.order), times-without other chunk class.order h);
      lengths = omega (arith, length-append (without chunk class.order) (chunk ∷ []), length-without chunk class.order h);
    }

-- a free chunk takes the place of a handed-out one
pub Redistributes-replaced : (class : ClassState) (new old : ChunkId) → 1 ≤ times_in new class.free → 1 ≤ times_in old class.order → Redistributes class (class_after_replacement class new old)
Redistributes-replaced class new old free handed =
    record {
      per_page = refl;
      pages = refl;
      times = λ other. omega (arith, times-without other new class.free free, times-with_before other new old class.order handed);
      lengths = omega (arith, length-without new class.free free, length-with_before new old class.order handed);
    }

-- an eviction is counted
pub Redistributes-evicted : (class : ClassState) → Redistributes class (class_after_eviction class)
Redistributes-evicted class = record { per_page = refl; pages = refl; times = λ chunk. refl; lengths = refl }

-- a class of the changed whole is one of the whole before
pub IsClass-before : (slabs : SlabState) (class other : ℕ) (state : ClassState) → HasClass (with_class slabs class state) other → HasClass slabs other
IsClass-before slabs class other state is = (is.0, omega (arith, is.1, length-with_class slabs class state))

-- as many chunks of a class are uncut where neither the owners nor its chunks a page have changed
pub uncut_count-kept : (slabs new : SlabState) (class : ℕ) (uncut : Option ChunkId) → new.owners ≡ slabs.owners → (class_at new class).per_page ≡ (class_at slabs class).per_page → uncut_count new class uncut ≡ uncut_count slabs class uncut
uncut_count-kept slabs new class None owners size = refl
uncut_count-kept slabs new class (Some next) owners size =
    ap₂ (λ (os : List Owner) (n : ℕ). if is_of_class class (owner_at os next.page) then n - next.index else 0) owners size

-- the chunk was cut for the class as before where owners, uncut chunk and chunks a page are as before
pub is_cut-kept : (slabs new : SlabState) (class : ℕ) (chunk : ChunkId) → new.owners ≡ slabs.owners → new.uncut ≡ slabs.uncut → (class_at new class).per_page ≡ (class_at slabs class).per_page → is_cut new class chunk ≡ is_cut slabs class chunk
is_cut-kept slabs new class chunk owners uncut size =
    let counts = ap₂ (λ (o : Option ChunkId) (n : ℕ). cut_count o chunk.page n) uncut size in
    ap₂ (λ (os : List Owner) (n : ℕ). is_of_class class (owner_at os chunk.page) && nat_lt chunk.index n) owners counts

-- chunks that change their list are cleared or not as before
ClearsAlike-redistributed : (slabs : SlabState) (class : ℕ) (state : ClassState) → HasClass slabs class → Redistributes (class_at slabs class) state → ClearsAlike slabs (with_class slabs class state)
ClearsAlike-redistributed slabs class state is change =
    let new : SlabState = with_class slabs class state in
    let size = λ (other : ℕ) (here : HasClass slabs other). class_at-with_class_kept (λ c. c.per_page) slabs class other state is here.0 change.per_page in
    record {
      classes = length-with_class slabs class state;
      per_page = size;
      cleared = λ other chunk here.
          let kept = class_at-with_class_kept (λ c. times_in chunk c.free + times_in chunk c.order) slabs class other state is here.0 (change.times chunk) in
          is_cleared-alike slabs new other chunk refl (is_cut-kept slabs new other chunk refl refl (size other here)) kept;
    }

-- chunks that change their list stay accounted for
pub IsAccounted-redistributed : (slabs : SlabState) (class : ℕ) (state : ClassState) → IsAccounted slabs → HasClass slabs class → Redistributes (class_at slabs class) state → IsAccounted (with_class slabs class state)
IsAccounted-redistributed slabs class state all is change =
    let new : SlabState = with_class slabs class state in
    let alike = ClearsAlike-redistributed slabs class state is change in
    record {
      replays = replays-with_class slabs class state all;
      pages = λ other page here.
          let before = IsClass-before slabs class other state here in
          let kept = class_at-with_class_kept (λ c. c.pages) slabs class other state is before.0 change.pages in
          ap (λ (ps : List ℕ). count_by (λ p. p == page) ps) kept ∙ all.pages other page before;
      owned = λ other page h. IsClass-with_class slabs class other state (all.owned other page h);
      pool = all.pool;
      one_move = all.one_move;
      move = λ move h.
          let of = all.move move h in
          let pages = class_at-with_class_kept (λ c. c.pages) slabs class move.src state is of.src.0 change.pages in
          IsMove-alike slabs new move alike refl (omega (arith, ap (λ (ps : List ℕ). length ps) pages)) of;
      limit = all.limit;
      grace = all.grace;
      chunks = λ other chunk here.
          let before = IsClass-before slabs class other state here in
          let kept = class_at-with_class_kept (λ c. times_in chunk c.free + times_in chunk c.order) slabs class other state is before.0 (change.times chunk) in
          let cut = is_cut-kept slabs new other chunk refl refl (alike.per_page other before) in
          omega (arith, kept, ap truth cut, ap truth (alike.cleared other chunk before), all.chunks other chunk before);
      total = λ other here.
          let before = IsClass-before slabs class other state here in
          let lengths = class_at-with_class_kept (λ c. length c.free + length c.order) slabs class other state is before.0 change.lengths in
          let pages = class_at-with_class_kept (λ c. c.pages) slabs class other state is before.0 change.pages in
          let uncut = uncut_count-kept slabs new other slabs.uncut refl (alike.per_page other before) in
          let cleared = cleared_count-alike slabs new other slabs.moving alike before in
          let product = ap₂ (λ (ps : List ℕ) (n : ℕ). length ps * n) pages (alike.per_page other before) in
          omega (arith, lengths, uncut, cleared, product, all.total other before);
      cursor = IsClass-with_class slabs class slabs.cursor state all.cursor;
      mode = all.mode;
    }
