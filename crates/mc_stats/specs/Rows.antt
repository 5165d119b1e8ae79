-- Worked texts of counts, which the prover computes.
use Rattle.std.specs.Prelude.{◌≡◌, ◌++◌, codes}
use Rattle.mc_stats.specs.Counts.{no_calls}
use Rattle.mc_stats.specs.Texts.{openmetrics_text, stats_text}
use Rattle.mc_stats.specs.declared.counts.Counts.{Counts}

-- 12 gets hit and 3 missed, 7 sets stored and 1 was too large, and 1 delete hit
abbrev pub some_calls : Counts
some_calls = record no_calls { get_hits = 12; get_misses = 3; sets_stored = 7; store_too_large = 1; delete_hits = 1 }

-- the text of these counts in memcached's form
abbrev pub StatsOfSomeCalls : Type 0
StatsOfSomeCalls =
    stats_text some_calls
    ≡ codes "STAT get_hits 12\r\nSTAT get_misses 3\r\nSTAT sets_stored 7\r\nSTAT sets_unmet 0\r\nSTAT store_too_large 1\r\n"
    ++ codes "STAT store_no_memory 0\r\nSTAT delete_hits 1\r\nSTAT delete_misses 0\r\nSTAT touch_hits 0\r\nSTAT touch_misses 0\r\nEND\r\n"

-- their text in the format OpenMetrics
abbrev pub MetricsOfSomeCalls : Type 0
MetricsOfSomeCalls =
    openmetrics_text some_calls
    ≡ codes "# TYPE mc_gets counter\nmc_gets_total{result=\"hit\"} 12\nmc_gets_total{result=\"miss\"} 3\n"
    ++ codes "# TYPE mc_sets counter\nmc_sets_total{result=\"stored\"} 7\nmc_sets_total{result=\"unmet\"} 0\n"
    ++ codes "mc_sets_total{result=\"too_large\"} 1\nmc_sets_total{result=\"no_memory\"} 0\n"
    ++ codes "# TYPE mc_deletes counter\nmc_deletes_total{result=\"hit\"} 1\nmc_deletes_total{result=\"miss\"} 0\n"
    ++ codes "# TYPE mc_touches counter\nmc_touches_total{result=\"hit\"} 0\nmc_touches_total{result=\"miss\"} 0\n"
    ++ codes "# EOF\n"
