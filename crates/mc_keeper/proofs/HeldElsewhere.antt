-- A hold of one chunk is taken or given back: who holds the others stays.
use Rattle.std.proofs.Common.{◌≡◌, ℕ, ◌≤◌, List, [], ◌∷◌, length, set, Contains, true, false, inl, inr, refl, ap, arith}
use Rattle.std.specs.Prelude.{nat_lt}
use Rattle.std.proofs.lemmas.Bool.{cases_lt}
use Rattle.std.proofs.lemmas.Bool.Decides.{nat_tests}
use Rattle.std.proofs.lemmas.List.{set_past, get_or_past}
use Rattle.std.proofs.lemmas.List.Sums.{sum_by-set, get_or-le-sum_by}
use Rattle.mc_pages.specs.declared.ids.ChunkId.{ChunkId}
use Rattle.mc_pages.specs.ClassState.{is_chunk, times_in, without}
use Rattle.mc_pages.specs.Accounted.{truth}
use Rattle.mc_pages.proofs.Chunks.{times-cons, times-without, times_from_Contains}
use Rattle.mc_serial_spec.specs.Holds.{Holds, held_by, hold_count, is_held, with_hold, without_hold}

-- a worker's list changes, and has another chunk as often
count_same : (holds : Holds) (worker : ℕ) (chunks : List ChunkId) (y : ChunkId) → times_in y chunks ≡ times_in y (held_by holds worker)
    → hold_count (set holds worker chunks) y ≡ hold_count holds y
count_same holds worker chunks y same = elim (cases_lt worker (length holds)) [
  | inl inside ↦ omega (arith, same, sum_by-set (times_in y) holds worker chunks [] inside)
  | inr past ↦ rw (set_past holds worker chunks past) refl
]

apart_from : (x y : ChunkId) → is_chunk y x ≡ false → is_chunk x y ≡ false
apart_from x y apart = grind (arith, nat_tests)

pub held-taken : (holds : Holds) (worker : ℕ) (x y : ChunkId) → is_chunk y x ≡ false → is_held (with_hold holds worker x) y ≡ is_held holds y
held-taken holds worker x y apart =
    ap (nat_lt 0) (count_same holds worker (x ∷ held_by holds worker) y
    (omega (arith, times-cons y x (held_by holds worker), ap truth (apart_from x y apart))))

pub held-given_back : (holds : Holds) (worker : ℕ) (x y : ChunkId) → Contains (held_by holds worker) x → is_chunk y x ≡ false
    → is_held (without_hold holds worker x) y ≡ is_held holds y
held-given_back holds worker x y there apart =
    ap (nat_lt 0) (count_same holds worker (without x (held_by holds worker)) y
    (omega (
      arith,
      times-without y x (held_by holds worker) (times_from_Contains x (held_by holds worker) there),
      ap truth (apart_from x y apart),
    )))

-- what a worker holds is held
pub is_held-Contains : (holds : Holds) (worker : ℕ) (x : ChunkId) → Contains (held_by holds worker) x → is_held holds x ≡ true
is_held-Contains holds worker x there =
    let some : 1 ≤ times_in x (held_by holds worker) = times_from_Contains x (held_by holds worker) there in
    elim (cases_lt worker (length holds)) [
      | inl inside ↦
          let count : 1 ≤ hold_count holds x = omega (arith, some, get_or-le-sum_by (times_in x) holds worker [] inside) in
          grind (arith, nat_tests, count)
      | inr past ↦
          let none : held_by holds worker ≡ [] = get_or_past holds worker [] past in
          let bad : 1 ≤ times_in x [] = rw none at some in
          absurd (omega (arith, bad))
    ]
