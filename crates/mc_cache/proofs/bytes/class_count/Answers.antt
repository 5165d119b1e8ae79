use Rattle.std.proofs.Common.{◌≡◌, ℕ, ◌+◌, ◌-◌, ◌*◌, ◌/◌, sym, ap, ◌∙◌, arith}
use Rattle.std.proofs.lemmas.Bool.{lt-ltb, le-ltb}
use Rattle.std.proofs.lemmas.Nat.{mul-le}
use Rattle.mc_classes.specs.Refusals.{rounded_up}
use Rattle.mc_classes.proofs.Accepted.{accepted}
use Rattle.mc_classes.proofs.Begun.{below_max, grown_within, rounded_within}
use Rattle.mc_cache.specs.Bytes.{classes_from}
use Rattle.mc_cache.proofs.TableWords.{last_class, more_classes, most_classes}
use Rattle.mc_cache.proofs.bytes.class_count.Goals as goal

pub overflow_mul-raw : goal.overflow_mul-raw
overflow_mul-raw c =
    let config = c.args.config.now in
    let a = accepted config c.requires.accepted in
    omega (arith, mul-le c.loop-count.raw config.num (16384 * 65535) 65535 c.loop-count.invariant.small a.factor.2)

pub overflow_mul-config : goal.overflow_mul-config
overflow_mul-config c =
    let config = c.args.config.now in
    let a = accepted config c.requires.accepted in
    omega (arith, mul-le config.max config.den 16384 65535 (omega (arith, a.max.1, a.page.1)) (omega (arith, a.factor.1, a.factor.2)))

pub overflow_mul-raw-in-loop-count-2 : goal.overflow_mul-raw-in-loop-count-2
overflow_mul-raw-in-loop-count-2 c =
    let config = c.args.config.now in
    let raw = c.loop-count.raw in
    let a = accepted config c.requires.accepted in
    let below = lt-ltb (raw * config.num) (config.max * config.den) c.if-raw-config.true in
    let within = rounded_within config raw a (below_max config raw a below) in
    omega (arith, mul-le (c.div_ceil.result * 8) config.num 16384 65535 (omega (arith, c.div_ceil.ensures, within.1, a.max.1, a.page.1)) a.factor.2)

pub loop-count-preserved : goal.loop-count-preserved
loop-count-preserved c =
    let config = c.args.config.now in
    let raw = c.loop-count.raw in
    let count = c.loop-count.count in
    let inv = c.loop-count.invariant in
    let a = accepted config c.requires.accepted in
    let below = lt-ltb (raw * config.num) (config.max * config.den) c.if-raw-config.true in
    let within = rounded_within config raw a (below_max config raw a below) in
    let size : c.div_ceil.result * 8 ≡ rounded_up raw = omega (arith, c.div_ceil.ensures) in
    let next : c.div_ceil.result * 8 * config.num / config.den ≡ rounded_up raw * config.num / config.den = ap (λ (n : ℕ). n * config.num / config.den) size in
    record {
      small = omega (arith, next, (grown_within config (rounded_up raw) a within.1).1);
      some = omega (arith, inv.some);
      within_limit = omega (arith, c.loop-count-test.true);
      counted = inv.counted
          ∙ (more_classes config count raw inv.some c.loop-count-test.true below
          ∙ (ap (λ (n : ℕ). classes_from (63 - (count + 1)) config n + count) (sym next) ∙ ap (λ (n : ℕ). classes_from (63 - (count + 1)) config (c.div_ceil.result * 8 * config.num / config.den) + n) (omega arith)));
    }

pub returns-else-raw-config-clause-count : goal.returns-else-raw-config-clause-count
returns-else-raw-config-clause-count c =
    let config = c.args.config.now in
    let raw = c.loop-count.raw in
    let above = le-ltb (raw * config.num) (config.max * config.den) c.if-raw-config.false in
    sym (c.loop-count.invariant.counted ∙ last_class config c.loop-count.count raw c.loop-count.invariant.some above)

pub returns-after-loop-count-clause-count : goal.returns-after-loop-count-clause-count
returns-after-loop-count-clause-count c =
    sym (c.loop-count.invariant.counted ∙ most_classes c.args.config.now c.loop-count.count c.loop-count.raw c.loop-count-test.false)
