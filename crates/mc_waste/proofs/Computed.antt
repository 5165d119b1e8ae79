-- The computed sizes come from raw sizes, as a table's have to.
use Rattle.std.proofs.Common.{◌≡◌, ℕ, zero, suc, ◌+◌, ◌*◌, ◌<◌, ◌≤◌, true, false, List, [], ◌∷◌, ◌++◌, length, refl, sym, ap, ◌∙◌, subst, arith, ⊎_elim}
use Rattle.std.proofs.lemmas.Bool.{cases_lt, cond-true, cond-false, le-ltb, lt-ltb}
use Rattle.std.proofs.lemmas.List.{length_push, append_assoc}
use Rattle.mc_classes.specs.declared.config.Config.{Config}
use Rattle.mc_classes.specs.Classes.{Classes, ComesFrom, IsTableOf}
use Rattle.mc_classes.specs.Refusals.{is_below_max, rounded_up}
use Rattle.mc_classes.proofs.Begun.{IsBegun, begun_all, begun_more, begun_none}
use Rattle.mc_classes.proofs.OneTable.{one_table}
use Rattle.mc_waste.specs.Tables.{sizes_from, table_of}
use Rattle.mc_waste.specs.Waste.{scaled_size}

-- the sizes so far, and those from the next raw size on, come from raw sizes
goes_on : (config : Config) (more : ℕ) (raws sizes : List ℕ) (raw : ℕ) → IsBegun config raws sizes raw → length sizes + more ≡ 62 → (all : List ℕ) × ComesFrom config all (sizes ++ sizes_from more config raw)
unfolding sizes_from
goes_on config zero raws sizes raw begun count = (raws, begun_all config raws sizes raw begun (omega arith) (λ less. absurd (omega arith)))
goes_on config (suc more) raws sizes raw begun count =
    ⊎_elim
    (λ (below : raw * config.num < config.max * config.den).
    let is : is_below_max config raw ≡ true = lt-ltb (raw * config.num) (config.max * config.den) below in
    let size = rounded_up raw in
    let next = scaled_size config size in
    let later = goes_on config more (raws ++ next ∷ []) (sizes ++ size ∷ []) next
    (begun_more config raws sizes raw size next begun (record { below = is; raised = refl; grown = refl }))
    (omega (arith, length_push sizes size)) in
    let sizes_are : sizes_from (suc more) config raw ≡ size ∷ sizes_from more config next = cond-true (is_below_max config raw) (size ∷ sizes_from more config next) (config.max ∷ []) is in
    let all_are : (sizes ++ size ∷ []) ++ sizes_from more config next ≡ sizes ++ sizes_from (suc more) config raw =
    append_assoc sizes (size ∷ []) (sizes_from more config next) ∙ ap (λ (rest : List ℕ). sizes ++ rest) (sym sizes_are) in
    (later.0, subst (λ (all : List ℕ). ComesFrom config later.0 all) all_are later.1))
    (λ (above : config.max * config.den ≤ raw * config.num).
    let is : is_below_max config raw ≡ false = le-ltb (raw * config.num) (config.max * config.den) above in
    let size = rounded_up raw in
    let sizes_are : sizes_from (suc more) config raw ≡ config.max ∷ [] = cond-false (is_below_max config raw) (size ∷ sizes_from more config (scaled_size config size)) (config.max ∷ []) is in
    (raws, subst (λ (rest : List ℕ). ComesFrom config raws (sizes ++ rest)) (sym sizes_are) (begun_all config raws sizes raw begun (omega arith) (λ less. above))))
    (cases_lt (raw * config.num) (config.max * config.den))

computed : (config : Config) → IsTableOf config (table_of config)
computed config =
    let all = goes_on config 62 (config.first ∷ []) [] config.first (begun_none config) refl in
    record { page = refl; limit = refl; raws = all.0; comes = all.1 }

pub is_computed : (config : Config) (table : Classes) → IsTableOf config table → table ≡ table_of config
is_computed config table of = one_table config table (table_of config) of (computed config)
