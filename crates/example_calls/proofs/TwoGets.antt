-- What the hits of two gets show.
use Rattle.std.proofs.Common.{◌≡◌, ◌≤◌, ◌∙◌, ℕ, Bool, true, false, Result, Ok, Err, ap, arith, refl}
use Rattle.mc_cache.specs.declared.working.CallError.{CallError}
use Rattle.mc_stats.specs.Counts.{counts_after_get, no_calls}
use Rattle.mc_stats.specs.declared.counts.Counts.{Counts}

-- the counts behind two gets with these results
abbrev pub counts_of_two : Result Bool CallError → Result Bool CallError → Counts
counts_of_two a b = counts_after_get b (counts_after_get a no_calls)

-- each get counted its result
pub two_counted : (a b : Result Bool CallError) (start between end : Counts) → start ≡ no_calls → between ≡ counts_after_get a start
    → end ≡ counts_after_get b between → end ≡ counts_of_two a b
two_counted a b start between end none first second = second ∙ ap (counts_after_get b) (first ∙ ap (counts_after_get a) none)

-- no more than two hit
pub hits_most : (a b : Result Bool CallError) (counts : Counts) → counts ≡ counts_of_two a b → counts.get_hits ≤ 2
hits_most (Ok true) (Ok true) counts is = rw is (omega arith)
hits_most (Ok true) (Ok false) counts is = rw is (omega arith)
hits_most (Ok true) (Err e) counts is = rw is (omega arith)
hits_most (Ok false) (Ok true) counts is = rw is (omega arith)
hits_most (Ok false) (Ok false) counts is = rw is (omega arith)
hits_most (Ok false) (Err e) counts is = rw is (omega arith)
hits_most (Err d) (Ok true) counts is = rw is (omega arith)
hits_most (Err d) (Ok false) counts is = rw is (omega arith)
hits_most (Err d) (Err e) counts is = rw is (omega arith)

-- where two hit, both did
both_hit : (a b : Result Bool CallError) → (counts_of_two a b).get_hits ≡ 2 → (a ≡ Ok true) × (b ≡ Ok true)
both_hit (Ok true) (Ok true) is = (refl, refl)
both_hit (Ok true) (Ok false) is = absurd (cc)
both_hit (Ok true) (Err e) is = absurd (cc)
both_hit (Ok false) (Ok true) is = absurd (cc)
both_hit (Ok false) (Ok false) is = absurd (cc)
both_hit (Ok false) (Err e) is = absurd (cc)
both_hit (Err d) (Ok true) is = absurd (cc)
both_hit (Err d) (Ok false) is = absurd (cc)
both_hit (Err d) (Err e) is = absurd (cc)

pub hits_both : (a b : Result Bool CallError) (counts : Counts) → counts ≡ counts_of_two a b → counts.get_hits ≡ 2 → (a ≡ Ok true) × (b ≡ Ok true)
hits_both a b counts is two = both_hit a b (rw (← is) two)
