-- Rows of statistics, one written behind another.
use Rattle.std.proofs.Common.{◌≡◌, ◌<◌, ◌≤◌, ◌+◌, ◌∙◌, ℕ, List, arith, get_or, length, refl, set, ⊎_elim}
use Rattle.std.proofs.lemmas.Bool.{cases_eq}
use Rattle.std.proofs.lemmas.List.{get_or-set_other, get_or-set_same, length-set}
use Rattle.mc_classes.specs.Classes.{Classes, per_page_of, size_of}
use Rattle.mc_cache.specs.declared.stats.ClassStats.{ClassStats}
use Rattle.mc_cache.specs.Stats.{no_statistics}
use Rattle.mc_c.specs.declared.tending.McClassStats.{McClassStats}
use Rattle.mc_c.specs.TenderCalls.{class_row}

-- the first n rows were written, and the others are as they were
pub record AreWritten (count : ℕ) (table : Classes) (stats : List ClassStats) (before now : List McClassStats) : Type 0 where
  pub length_is : length now ≡ length before
  pub first : (place : ℕ) (row : McClassStats) → place < count → get_or now place row ≡ class_row table (place + 1) (get_or stats place no_statistics)
  pub others : (place : ℕ) (row : McClassStats) → count ≤ place → get_or now place row ≡ get_or before place row

pub none_written : (table : Classes) (stats : List ClassStats) (rows : List McClassStats) → AreWritten 0 table stats rows rows
none_written table stats rows = record { length_is = refl; first = λ place row less. absurd (omega arith); others = λ place row from. refl }

pub one_written : (count : ℕ) (table : Classes) (stats : List ClassStats) (before now : List McClassStats) (own : McClassStats) → count < length now → own ≡ class_row table (count + 1) (get_or stats count no_statistics) → AreWritten count table stats before now
    → AreWritten (count + 1) table stats before (set now count own)
one_written count table stats before now own in_range is h = record {
  length_is = length-set now count own ∙ h.length_is;
  first = λ place row less.
      ⊎_elim
      (λ (same : place ≡ count). rw same (get_or-set_same now count own row in_range ∙ is))
      (λ (other : place ≡ count → ⊥). get_or-set_other now count place own row other ∙ h.first place row (omega arith))
      (cases_eq place count);
  others = λ place row from. get_or-set_other now count place own row (λ (same : place ≡ count). omega arith) ∙ h.others place row (omega arith);
}

-- a row of these numbers is the class's
pub row_is : (table : Classes) (place : ℕ) (stats : ClassStats) (size per_page : ℕ) → size ≡ size_of table (place + 1) → per_page ≡ per_page_of table (place + 1)
    → record { size = size; per_page = per_page; pages = stats.pages; free_chunks = stats.free; evictions = stats.evictions } ≡ class_row table (place + 1) stats
row_is table place stats size per_page s p = rw (s, p) refl
