-- The words of an arena's table, by its configuration.
use Rattle.std.proofs.Common.{Bool, Option, Some, cond, not, ◌≡◌, ◌+◌, ◌-◌, ◌*◌, ◌/◌, ◌<◌, ◌≤◌, ◌∷◌, ◌∙◌, [], ℕ, zero, suc, All, List, None, true, false, ap, arith, get_or, length, refl, subst, sym, ⊎_elim}
use Rattle.std.proofs.lemmas.Bool.{cases_lt, cond-true, cond-false, le-ltb}
use Rattle.std.proofs.lemmas.Option.{get_or_from_slice_get, none-some}
use Rattle.std.specs.Option.{option_map}
use Rattle.mc_classes.specs.declared.config.Config.{Config}
use Rattle.mc_classes.specs.declared.config.ConfigError.{ConfigError}
use Rattle.mc_classes.specs.Classes.{ComesFrom}
use Rattle.mc_classes.specs.Refusals.{first_size, is_below_max, is_between, config_refusal, rounded_up}
use Rattle.mc_classes.proofs.Accepted.{IsAccepted, accepted}
use Rattle.mc_classes.proofs.Sizes.{last_size, some_class}
use Rattle.mc_words.specs.declared.arena.Arena.{Arena}
use Rattle.mc_words.specs.hand.Arenas.{setup_of}
use Rattle.mc_words.specs.hand.Hands.{IsMadeWith}
use Rattle.mc_words.specs.rule.Layout.{word_count}
use Rattle.mc_words.specs.hand.View.{Setup}
use Rattle.mc_cache.specs.declared.opening.CacheConfig.{CacheConfig}
use Rattle.mc_cache.specs.declared.opening.NewError.{NewError}
use Rattle.mc_cache.specs.declared.opening.NewError.TheVariants as refused
use Rattle.mc_cache.specs.Bytes.{class_count, classes_from, config_table_bytes, words_an_arena, words_of_arenas}
use Rattle.mc_cache.specs.Opening.{IsNewShard, cache_refusal}

-- the first of a table's sizes is the one that the configuration tells
first_is : (config : Config) (raws sizes : List ℕ) → IsAccepted config → ComesFrom config raws sizes → get_or sizes 0 0 ≡ first_size config
first_is config raws sizes acc comes =
    let some = some_class config raws sizes acc comes in
    ⊎_elim
    (λ (more : 0 + 1 < length sizes).
    let first : get_or raws 0 0 ≡ config.first = get_or_from_slice_get raws 0 config.first 0 comes.begins in
    let step = comes.steps 0 more in
    let below : is_below_max config config.first ≡ true = ap (is_below_max config) (sym first) ∙ step.below in
    let raised : get_or sizes 0 0 ≡ rounded_up config.first = step.raised ∙ ap rounded_up first in
    raised ∙ sym (cond-true (is_below_max config config.first) (rounded_up config.first) config.max below))
    (λ (one : length sizes ≤ 0 + 1).
    let first : get_or raws (length raws - 1) 0 ≡ config.first = ap (λ (k : ℕ). get_or raws k 0) (omega (arith, comes.paired)) ∙ get_or_from_slice_get raws 0 config.first 0 comes.begins in
    let ends : config.max * config.den ≤ config.first * config.num = subst (λ (r : ℕ). config.max * config.den ≤ r * config.num) first (comes.ends (omega arith)) in
    let above : is_below_max config config.first ≡ false = le-ltb (config.first * config.num) (config.max * config.den) ends in
    let top : get_or sizes 0 0 ≡ config.max = ap (λ (k : ℕ). get_or sizes k 0) (omega arith) ∙ last_size config raws sizes acc comes in
    top ∙ sym (cond-false (is_below_max config config.first) (rounded_up config.first) config.max above))
    (cases_lt (0 + 1) (length sizes))

-- the classes from one of a table's raw sizes on
classes_behind : (config : Config) (raws sizes : List ℕ) → ComesFrom config raws sizes → (more place : ℕ) → place < length sizes → more + place ≡ 62 → classes_from more config (get_or raws place 0) ≡ length sizes - place
unfolding classes_from
classes_behind config raws sizes comes zero place within all = omega (arith, comes.most, within, all)
classes_behind config raws sizes comes (suc more) place within all =
    let raw = get_or raws place 0 in
    ⊎_elim
    (λ (others : place + 1 < length sizes).
    let step = comes.steps place others in
    let next : rounded_up raw * config.num / config.den ≡ get_or raws (place + 1) 0 = sym (step.grown ∙ ap (λ (size : ℕ). size * config.num / config.den) step.raised) in
    let rest = classes_behind config raws sizes comes more (place + 1) others (omega (arith, all)) in
    cond-true (is_below_max config raw) (classes_from more config (rounded_up raw * config.num / config.den) + 1) 1 step.below
    ∙ (ap (λ (r : ℕ). classes_from more config r + 1) next ∙ omega (arith, rest, others)))
    (λ (last : length sizes ≤ place + 1).
    let at : length raws - 1 ≡ place = omega (arith, comes.paired, within, last) in
    let ends : config.max * config.den ≤ raw * config.num = subst (λ (k : ℕ). config.max * config.den ≤ get_or raws k 0 * config.num) at (comes.ends (omega (arith, within, last, all))) in
    cond-false (is_below_max config raw) (classes_from more config (rounded_up raw * config.num / config.den) + 1) 1 (le-ltb (raw * config.num) (config.max * config.den) ends)
    ∙ omega (arith, within, last))
    (cases_lt (place + 1) (length sizes))

-- while a raw size is below the greatest size, there is one class more
pub more_classes : (config : Config) (count raw : ℕ) → 1 ≤ count → count < 63 → is_below_max config raw ≡ true → classes_from (63 - count) config raw + (count - 1) ≡ classes_from (63 - (count + 1)) config (rounded_up raw * config.num / config.den) + count
unfolding classes_from
more_classes config count raw some within_limit below =
    let more = 63 - (count + 1) in
    let next = rounded_up raw * config.num / config.den in
    let at : 63 - count ≡ suc more = omega (arith, within_limit) in
    ap (λ (n : ℕ). classes_from n config raw + (count - 1)) at
    ∙ (ap (λ (b : Bool). cond b (classes_from more config next + 1) 1 + (count - 1)) below ∙ omega (arith, some))

-- and else one, the last
one_class : (more : ℕ) (config : Config) (raw : ℕ) → is_below_max config raw ≡ false → classes_from more config raw ≡ 1
unfolding classes_from
one_class zero config raw above = refl
one_class (suc more) config raw above = ap (λ (b : Bool). cond b (classes_from more config (rounded_up raw * config.num / config.den) + 1) 1) above

pub last_class : (config : Config) (count raw : ℕ) → 1 ≤ count → is_below_max config raw ≡ false → classes_from (63 - count) config raw + (count - 1) ≡ count
last_class config count raw some above = omega (arith, some, one_class (63 - count) config raw above)

pub most_classes : (config : Config) (count raw : ℕ) → 63 ≤ count → classes_from (63 - count) config raw + (count - 1) ≡ count
unfolding classes_from
most_classes config count raw all =
    let none : 63 - count ≡ 0 = omega (arith, all) in
    ap (λ (n : ℕ). classes_from n config raw + (count - 1)) none ∙ omega (arith, all)

-- a table has as many classes as its configuration tells
classes_are : (config : Config) (raws sizes : List ℕ) → IsAccepted config → ComesFrom config raws sizes → length sizes ≡ class_count config
classes_are config raws sizes acc comes =
    let first : get_or raws 0 0 ≡ config.first = get_or_from_slice_get raws 0 config.first 0 comes.begins in
    let all = classes_behind config raws sizes comes 62 0 (some_class config raws sizes acc comes) refl in
    let whole : length sizes - 0 ≡ length sizes = omega arith in
    sym (sym (ap (classes_from 62 config) first) ∙ (all ∙ whole))

-- the groups of words, and a page's words together
regrouped : (stripes page limit size count stripes' page' limit' size' count' : ℕ) → stripes ≡ stripes' → page ≡ page' → limit ≡ limit' → size ≡ size' → count ≡ count'
    → 16 * (2 + stripes) + (limit / page + count) + (limit / page + count) * (page / size) + (limit / page + count) * (page / 8) + 8 ≡ 16 * (2 + stripes') + (limit' / page' + count') * (1 + page' / size' + page' / 8) + 8
regrouped stripes page limit size count stripes' page' limit' size' count' s p l f n = rw (s, p, l, f, n) (omega (arith, spread (limit' / page' + count') (page' / size') (page' / 8)))
  where
    spread : (pages heads rest : ℕ) → pages + pages * heads + pages * rest ≡ pages * (1 + heads + rest)
    spread pages heads rest = omega arith

pub words_are : (config : Config) (hands : ℕ) (setup : Setup) → config_refusal config ≡ None → IsMadeWith config hands 0 setup → word_count setup ≡ words_an_arena config
words_are config hands setup none made =
    let acc = accepted config none in
    let comes = made.table.comes in
    regrouped setup.config.stripes setup.table.page setup.table.limit (get_or setup.table.sizes 0 0) (length setup.table.sizes) config.stripes config.page config.limit (first_size config) (class_count config)
    (ap (λ (c : Config). c.stripes) made.config_is) made.table.page made.table.limit (first_is config made.table.raws setup.table.sizes acc comes) (classes_are config made.table.raws setup.table.sizes acc comes)

words_of_all : (arenas : List Arena) (words : ℕ) → ((place : ℕ) (arena : Arena) → place < length arenas → word_count (setup_of (get_or arenas place arena)) ≡ words) → words_of_arenas arenas ≡ length arenas * words
unfolding words_of_arenas
words_of_all [] words all =
    let none : words_of_arenas [] ≡ 0 = refl in
    rw none (omega arith)
words_of_all (arena ∷ arenas) words all =
    let first : word_count (setup_of arena) ≡ words = all 0 arena (omega arith) in
    let rest : words_of_arenas arenas ≡ length arenas * words = words_of_all arenas words (λ place a in_range. all (suc place) a (omega arith)) in
    let more : words_of_arenas (arena ∷ arenas) ≡ word_count (setup_of arena) + words_of_arenas arenas = refl in
    rw (more, first, rest) (omega arith)

-- where the cache isn't refused, its arenas aren't
passed : (test : Bool) (error : NewError) (rest : Option NewError) → cond (not test) (Some error) rest ≡ None → rest ≡ None
passed true error rest h = h
passed false error rest h = absurd (none-some error (sym h))

unmapped : (refusal : Option ConfigError) → option_map (λ error. refused.Config error) refusal ≡ None → refusal ≡ None
unmapped None h = refl
unmapped (Some error) h = absurd (none-some (refused.Config error) (sym h))

pub arena_accepted : (config : CacheConfig) → cache_refusal config ≡ None → config_refusal config.arena ≡ None
arena_accepted config h =
    let workers = passed (is_between 1 4096 config.shards) refused.Shards _ h in
    unmapped _ (passed (is_between 1 63 config.workers) refused.Workers _ workers)

-- the tables of all shards of a new cache
pub bytes_are : (config : CacheConfig) (arenas : List Arena) → config_refusal config.arena ≡ None → length arenas ≡ config.shards → All (IsNewShard config) arenas → 8 * words_of_arenas arenas ≡ config_table_bytes config
bytes_are config arenas none count new =
    let all : words_of_arenas arenas ≡ length arenas * words_an_arena config.arena =
    words_of_all arenas (words_an_arena config.arena) (λ place arena in_range. words_are config.arena (config.workers + 1) (setup_of (get_or arenas place arena)) none (new place arena in_range).made) in
    rw (all, count) (omega arith)
