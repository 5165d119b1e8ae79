use Rattle.std.proofs.Common.{◌≡◌, Bool, true, false, List, ℕ, ap, ◌++◌, ◌∙◌, refl}
use Rattle.std.specs.Prelude.{codes, if◌then◌else◌}
use Rattle.mc_watch.specs.Texts.{general_text, line, stat_line}
use Rattle.mc_watch.proofs.Writes.{appends_then, six_lines}
use Rattle.mc_watch.proofs.statistics.stats_general.Goals as goal
use mir.Val.{bool_byte}

-- a bool as a number
truth_byte : (b : Bool) → bool_byte b ≡ (if b then 1 else 0)
truth_byte true = refl
truth_byte false = refl

pub returns-clause-bytes : goal.returns-clause-bytes
returns-clause-bytes g c =
    let a = c.args in
    let running : c.from.result ≡ (if a.running then 1 else 0) = c.from.ensures ∙ truth_byte a.running in
    appends_then _ _ _ _ _ _ _ c.in_ok-write_stats.ensures.bytes c.write_all.ensures.bytes
    (ap (λ (text : List ℕ). text ++ line (codes "END"))
    (six_lines (stat_line (codes "slab_global_page_pool") a.pool) (stat_line (codes "slab_reassign_running") c.from.result)
    (stat_line (codes "slabs_moved") a.moved) (stat_line (codes "slab_reassign_rescues") a.rescues)
    (stat_line (codes "slab_reassign_evictions_nomem") a.evictions_nomem) (stat_line (codes "slab_reassign_busy_items") a.busy))
    ∙ ap (λ (n : ℕ). general_text a.pool n a.moved a.rescues a.evictions_nomem a.busy) running)
