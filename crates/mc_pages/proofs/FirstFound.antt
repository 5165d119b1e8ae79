-- The search for an item to evict, one chunk after another.
use Rattle.std.proofs.Common.{◌≡◌, ℕ, ◌<◌, List, [], ◌∷◌, take, Bool, true, false, cond, Option, Some, None, refl, arith, Contains, slice_get, zero, suc}
use Rattle.std.specs.Prelude.{find}
use Rattle.mc_pages.specs.declared.ids.ChunkId.{ChunkId}

-- a head that fails, and one that passes
fails_first : (b : Bool) (c : ChunkId) (rest : Option ChunkId) → cond b (Some c) rest ≡ None → (b ≡ false) × (rest ≡ None)
fails_first true c rest none = cc
fails_first false c rest none = (refl, none)

-- where no chunk up to a place passes and the chunk there doesn't, none up to the next place does
pub find_more : (p : ChunkId → Bool) (chunks : List ChunkId) (place : ℕ) (x : ChunkId) → slice_get chunks place ≡ Some x
    → find p (take place chunks) ≡ None → p x ≡ false → find p (take (suc place) chunks) ≡ None
find_more p [] place x at none fails = cc
find_more p (c ∷ chunks) zero x at none fails =
    let here : c ≡ x = cc in
    rw (here, fails) refl
find_more p (c ∷ chunks) (suc place) x at none fails =
    let first = fails_first (p c) c (find p (take place chunks)) none in
    rw first.0 (find_more p chunks place x at first.1 fails)

-- where it does, it is the first among more
pub find_here : (p : ChunkId → Bool) (chunks : List ChunkId) (place n : ℕ) (x : ChunkId) → slice_get chunks place ≡ Some x
    → find p (take place chunks) ≡ None → p x ≡ true → place < n → find p (take n chunks) ≡ Some x
find_here p [] place n x at none passes within = cc
find_here p (c ∷ chunks) place zero x at none passes within = absurd (omega arith)
find_here p (c ∷ chunks) zero (suc n) x at none passes within =
    let here : c ≡ x = cc in
    rw (here, passes) refl
find_here p (c ∷ chunks) (suc place) (suc n) x at none passes within =
    let first = fails_first (p c) c (find p (take place chunks)) none in
    rw first.0 (find_here p chunks place n x at first.1 passes (omega arith))

-- what is found passes, and stands in the list
pub found_holds : (p : ChunkId → Bool) (chunks : List ChunkId) (n : ℕ) (x : ChunkId) → find p (take n chunks) ≡ Some x
    → (p x ≡ true) × Contains chunks x
found_holds p [] zero x found = cc
found_holds p [] (suc n) x found = cc
found_holds p (c ∷ chunks) zero x found = cc
found_holds p (c ∷ chunks) (suc n) x found = found_at (p c) refl found (found_holds p chunks n x)
  where
    found_at : (b : Bool) → p c ≡ b → cond b (Some c) (find p (take n chunks)) ≡ Some x
        → (find p (take n chunks) ≡ Some x → (p x ≡ true) × Contains chunks x) → (p x ≡ true) × Contains (c ∷ chunks) x
    found_at true is here more =
        let same : c ≡ x = cc in
        (rw same at is, (0, omega arith, same))
    found_at false is behind more =
        let there = more behind in
        (there.0, (suc there.1.0, omega (arith, there.1.1), there.1.2))
