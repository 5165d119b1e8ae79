-- The texts of counts.
use Rattle.std.specs.Prelude.{ℕ, List, [], ◌∷◌, ◌++◌, codes, decimal}
use Rattle.std.specs.List.{flat_map}
use Rattle.mc_watch.specs.Texts.{line, stat_line}
use Rattle.mc_stats.specs.declared.counts.Counts.{Counts}

-- the name and the number of each count, in the order of the text
abbrev pub named_counts : Counts → List (List ℕ × ℕ)
named_counts counts =
    (codes "get_hits", counts.get_hits)
    ∷ (codes "get_misses", counts.get_misses)
    ∷ (codes "sets_stored", counts.sets_stored)
    ∷ (codes "sets_unmet", counts.sets_unmet)
    ∷ (codes "store_too_large", counts.store_too_large)
    ∷ (codes "store_no_memory", counts.store_no_memory)
    ∷ (codes "delete_hits", counts.delete_hits)
    ∷ (codes "delete_misses", counts.delete_misses)
    ∷ (codes "touch_hits", counts.touch_hits)
    ∷ (codes "touch_misses", counts.touch_misses)
    ∷ []

-- the text of the counts as memcached's `stats` writes its numbers: a line for each, and a last one
abbrev pub stats_text : Counts → List ℕ
stats_text counts = flat_map (λ count. stat_line count.0 count.1) (named_counts counts) ++ line (codes "END")

-- a number of a metric behind its name, whose label is the result that is counted
abbrev pub sample_line : List ℕ → ℕ → List ℕ
sample_line name count = name ++ codes " " ++ decimal count ++ codes "\n"

-- the name and the number of each result in the format OpenMetrics, in the order of the text; a metric's type stands before its first name
abbrev pub samples_of_counts : Counts → List (List ℕ × ℕ)
samples_of_counts counts =
    (codes "# TYPE mc_gets counter\nmc_gets_total{result=\"hit\"}", counts.get_hits)
    ∷ (codes "mc_gets_total{result=\"miss\"}", counts.get_misses)
    ∷ (codes "# TYPE mc_sets counter\nmc_sets_total{result=\"stored\"}", counts.sets_stored)
    ∷ (codes "mc_sets_total{result=\"unmet\"}", counts.sets_unmet)
    ∷ (codes "mc_sets_total{result=\"too_large\"}", counts.store_too_large)
    ∷ (codes "mc_sets_total{result=\"no_memory\"}", counts.store_no_memory)
    ∷ (codes "# TYPE mc_deletes counter\nmc_deletes_total{result=\"hit\"}", counts.delete_hits)
    ∷ (codes "mc_deletes_total{result=\"miss\"}", counts.delete_misses)
    ∷ (codes "# TYPE mc_touches counter\nmc_touches_total{result=\"hit\"}", counts.touch_hits)
    ∷ (codes "mc_touches_total{result=\"miss\"}", counts.touch_misses)
    ∷ []

-- the text of the counts in the format OpenMetrics
abbrev pub openmetrics_text : Counts → List ℕ
openmetrics_text counts = flat_map (λ sample. sample_line sample.0 sample.1) (samples_of_counts counts) ++ codes "# EOF\n"
