-- Cleared chunks and their number: what a change keeps that leaves each chunk cleared or not as before.
use Rattle.std.proofs.Common.{◌≡◌, ℕ, ◌+◌, ◌≤◌, ◌==◌, Bool, true, false, not, ◌&&◌, List, [], ◌∷◌, length, count_by, Option, Some, None, refl, sym, ap, ap₂, ◌∙◌, arith}
use Rattle.std.proofs.lemmas.Bool.{and_left}
use Rattle.std.proofs.lemmas.List.Sums.{sum_by-cons, sum_by-le-sum_by}
use Rattle.mc_pages.specs.declared.ids.ChunkId.{ChunkId}
use Rattle.mc_pages.specs.declared.ids.Moving.{Moving}
use Rattle.mc_pages.specs.Ledger.{owner_at}
use Rattle.mc_pages.specs.SlabState.{SlabState, HasClass, class_at}
use Rattle.mc_pages.specs.Accounted.{truth, is_moving, is_cut, places_in, is_cleared, first_chunks, cleared_count, IsMove}

-- a fact that is another is counted no more often
truth-le : (a b : Bool) → a ≡ b → truth a ≤ truth b
truth-le a b h = omega (arith, ap truth h)

-- a fact counts once at most
pub truth-le_one : (b : Bool) → truth b ≤ 1
truth-le_one true = omega arith
truth-le_one false = omega arith

-- tests that agree count alike
pub count_by-same : {X : Type 0} (p q : X → Bool) (xs : List X) → ((x : X) → p x ≡ q x) → count_by p xs ≡ count_by q xs
count_by-same {X} p q xs same =
    omega (arith, sum_by-le-sum_by (λ (x : X). truth (p x)) (λ (x : X). truth (q x)) xs (λ x. truth-le (p x) (q x) (same x)), sum_by-le-sum_by (λ (x : X). truth (q x)) (λ (x : X). truth (p x)) xs (λ x. truth-le (q x) (p x) (sym (same x))))

-- a test that nothing passes counts nothing
pub count_by-none : {X : Type 0} (p : X → Bool) (xs : List X) → ((x : X) → p x ≡ false) → count_by p xs ≡ 0
count_by-none {X} p [] none = refl
count_by-none {X} p (x ∷ xs) none = omega (arith, sum_by-cons (λ (x : X). truth (p x)) x xs, ap truth (none x), count_by-none p xs none)

-- a test that passes where one of two passes counts as much as both
pub count_by-both : {X : Type 0} (p q r : X → Bool) (xs : List X) → ((x : X) → truth (p x) ≡ truth (q x) + truth (r x)) → count_by p xs ≡ count_by q xs + count_by r xs
count_by-both {X} p q r [] sums = refl
count_by-both {X} p q r (x ∷ xs) sums =
    omega (arith, sum_by-cons (λ (x : X). truth (p x)) x xs, sum_by-cons (λ (x : X). truth (q x)) x xs, sum_by-cons (λ (x : X). truth (r x)) x xs, sums x, count_by-both p q r xs sums)

-- no chunk of a page that stands still is cleared
pub is_cleared-still : (slabs : SlabState) (class : ℕ) (chunk : ChunkId) → is_moving (owner_at slabs.owners chunk.page) ≡ false → is_cleared slabs class chunk ≡ false
is_cleared-still slabs class chunk still = and_left _ _ (and_left _ _ still)

-- a chunk is cleared as before where its page moves or not, it is cut or not, and it has its places as before
pub is_cleared-alike : (slabs new : SlabState) (class : ℕ) (chunk : ChunkId) → is_moving (owner_at new.owners chunk.page) ≡ is_moving (owner_at slabs.owners chunk.page) → is_cut new class chunk ≡ is_cut slabs class chunk → places_in new class chunk ≡ places_in slabs class chunk → is_cleared new class chunk ≡ is_cleared slabs class chunk
is_cleared-alike slabs new class chunk moving cut places =
    let both : Bool → Bool → Bool = λ a b. a && b in
    ap₂ (λ (b : Bool) (n : ℕ). b && (n == 0)) (ap₂ both moving cut) places

-- there are as many classes with as many chunks a page as before, and each chunk is cleared or not as before
pub record ClearsAlike (slabs new : SlabState) : Type 0 where
  pub classes : length new.classes ≡ length slabs.classes
  pub per_page : (class : ℕ) → HasClass slabs class → (class_at new class).per_page ≡ (class_at slabs class).per_page
  pub cleared : (class : ℕ) (chunk : ChunkId) → HasClass slabs class → is_cleared new class chunk ≡ is_cleared slabs class chunk

-- as many chunks of the class are cleared
pub cleared_count-alike : (slabs new : SlabState) (class : ℕ) (moving : Option Moving) → ClearsAlike slabs new → HasClass slabs class → cleared_count new class moving ≡ cleared_count slabs class moving
cleared_count-alike slabs new class None alike is = refl
cleared_count-alike slabs new class (Some move) alike is =
    count_by-same (is_cleared new class) (is_cleared slabs class) (first_chunks move.page (class_at new class).per_page) (λ chunk. alike.cleared class chunk is)
    ∙ ap (λ (n : ℕ). count_by (is_cleared slabs class) (first_chunks move.page n)) (alike.per_page class is)

-- a move stays one where no class lost a page
pub IsMove-alike : (slabs new : SlabState) (move : Moving) → ClearsAlike slabs new → owner_at new.owners move.page ≡ owner_at slabs.owners move.page → length (class_at slabs move.src).pages ≤ length (class_at new move.src).pages → IsMove slabs move → IsMove new move
IsMove-alike slabs new move alike owner pages is =
    let behind = count_by-same (λ chunk. not (is_cleared new move.src chunk)) (λ chunk. not (is_cleared slabs move.src chunk)) (first_chunks move.page move.at) (λ chunk. ap not (alike.cleared move.src chunk is.src)) in
    record {
      owner = owner ∙ is.owner;
      src = (is.src.0, omega (arith, is.src.1, alike.classes));
      spare = omega (arith, is.spare, pages);
      dst = omega (arith, is.dst, alike.classes);
      apart = is.apart;
      within = omega (arith, is.within, alike.per_page move.src is.src);
      busy = is.busy;
      passed = omega (arith, is.passed, behind);
    }
