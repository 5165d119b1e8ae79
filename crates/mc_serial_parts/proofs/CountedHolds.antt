-- How many holds there are of each chunk, through each change of the holds.
use Rattle.std.proofs.Common.{◌≡◌, ℕ, ◌+◌, ◌*◌, ◌<◌, ◌≤◌, List, [], ◌∷◌, length, get_or, Contains, All, false, subst, arith}
use Rattle.std.specs.Prelude.{sum_by}
use Rattle.std.proofs.lemmas.Bool.Decides.{nat_tests}
use Rattle.std.proofs.lemmas.List.Elements.{All-set}
use Rattle.std.proofs.lemmas.List.Sums.{sum_by-le, sum_by-set, count_by-le-length}
use Rattle.mc_classes.specs.Limits.{most_refs}
use Rattle.mc_pages.specs.declared.ids.ChunkId.{ChunkId}
use Rattle.mc_pages.specs.Accounted.{truth}
use Rattle.mc_pages.specs.ClassState.{is_chunk, times_in, without}
use Rattle.mc_pages.proofs.Chunks.{times-cons, times-without, times_from_Contains, length-without}
use Rattle.mc_serial_spec.specs.Holds.{Holds, held_by, hold_count, is_full, most_holds, with_hold, without_hold}

-- no worker holds more than it may
abbrev AreFew : Holds → Type 0
AreFew holds = All (λ (chunks : List ChunkId). length chunks ≤ most_holds) holds

module _ (holds : Holds) (worker : ℕ) (x : ChunkId) (inside : worker < length holds) where
  pub counted_with : (y : ChunkId) → hold_count (with_hold holds worker x) y ≡ hold_count holds y + truth (is_chunk x y)
  counted_with y =
      omega (arith, sum_by-set (times_in y) holds worker (x ∷ held_by holds worker) [] inside, times-cons y x (held_by holds worker))

  pub few_with : is_full holds worker ≡ false → AreFew holds → AreFew (with_hold holds worker x)
  few_with room within_limit =
      let short : length (held_by holds worker) < most_holds = grind (arith, nat_tests, room) in
      All-set (λ (chunks : List ChunkId). length chunks ≤ most_holds) holds worker (x ∷ held_by holds worker) (omega (arith, short)) within_limit

  module _ (there : Contains (held_by holds worker) x) where
    some : 1 ≤ times_in x (held_by holds worker)
    some = times_from_Contains x (held_by holds worker) there

    pub counted_without : (y : ChunkId) → hold_count (without_hold holds worker x) y + truth (is_chunk x y) ≡ hold_count holds y
    counted_without y =
        omega (arith, sum_by-set (times_in y) holds worker (without x (held_by holds worker)) [] inside, times-without y x (held_by holds worker) some)

    pub few_without : AreFew holds → AreFew (without_hold holds worker x)
    few_without within_limit =
        All-set (λ (chunks : List ChunkId). length chunks ≤ most_holds) holds worker (without x (held_by holds worker))
        (omega (arith, length-without x (held_by holds worker) some, within_limit worker [] inside)) within_limit

-- there are few holds of one chunk
pub holds_few : (holds : Holds) (y : ChunkId) → length holds ≡ 64 → AreFew holds → hold_count holds y < 65535
holds_few holds y of_each within_limit =
    let most : sum_by (times_in y) holds ≤ length holds * most_refs
    = sum_by-le (times_in y) most_refs holds (λ k d within. omega (arith, count_by-le-length (λ (c : ChunkId). is_chunk c y) (get_or holds k d), within_limit k d within)) in
    let in_all : sum_by (times_in y) holds ≤ 64 * most_refs = subst (λ (n : ℕ). sum_by (times_in y) holds ≤ n * most_refs) of_each most in
    omega (arith, in_all)
