-- The first n chunks of a class's hand-out order, by how far a walk along it came.
use Rattle.std.proofs.Common.{◌≡◌, ◌+◌, ◌-◌, ◌<◌, ℕ, List, [], ◌∷◌, ◌++◌, length, suc, take, Some, Option, slice_get, ap, ◌∙◌, append-nil, arith}
use Rattle.std.proofs.Math.Seq.{take-append-add}
use Rattle.std.proofs.lemmas.List.{take_all, take_at}
use Rattle.mc_pages.specs.declared.ids.ChunkId.{ChunkId}

-- the walk came to the end
pub candidates_are_all : (n : ℕ) (order done : List ChunkId) → order ≡ done ++ [] → length done < n → take n order ≡ done
candidates_are_all n order done split within_limit =
    let all = split ∙ append-nil done in
    let len = ap length all in
    take_all n order (omega arith) ∙ all

-- all n were passed
pub candidates_passed : (n : ℕ) (order done rest : List ChunkId) → order ≡ done ++ rest → length done ≡ n → take n order ≡ done
candidates_passed n order done rest split count = ap (take n) split ∙ take_at done rest n count

-- the next one is among them
pub candidates_with : (n : ℕ) (order done : List ChunkId) (chunk : ChunkId) (more : List ChunkId) → order ≡ done ++ chunk ∷ more → length done < n → take n order ≡ done ++ chunk ∷ take (n - (length done + 1)) more
candidates_with n order done chunk more split within_limit =
    let all : n ≡ length done + suc (n - (length done + 1)) = omega arith in
    ap (take n) split ∙ (ap (λ k. take k (done ++ chunk ∷ more)) all ∙ take-append-add done (chunk ∷ more) (suc (n - (length done + 1))))

-- what a walk is at is the first of what is left
pub rest_begins : (rest : List ChunkId) (next : Option ChunkId) (chunk : ChunkId) → next ≡ slice_get rest 0 → next ≡ Some chunk → (more : List ChunkId) × (rest ≡ chunk ∷ more)
rest_begins [] next chunk at is = absurd (cc)
rest_begins (c ∷ more) next chunk at is = let same : c ≡ chunk = cc in (more, ap (λ x. x ∷ more) same)
