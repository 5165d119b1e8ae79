use Rattle.std.proofs.Common.{arith}
use Rattle.std.proofs.lemmas.Nat.{mul-le}
use Rattle.mc_classes.proofs.Accepted.{accepted}
use Rattle.mc_cache.proofs.bytes.first_size.Goals as goal

pub overflow_mul-config : goal.overflow_mul-config
overflow_mul-config c =
    let config = c.args.config.now in
    let a = accepted config c.requires.accepted in
    omega (arith, mul-le config.first config.num 16384 65535 (omega (arith, a.first.1, a.page.1)) a.factor.2)

pub overflow_mul-config-2 : goal.overflow_mul-config-2
overflow_mul-config-2 c =
    let config = c.args.config.now in
    let a = accepted config c.requires.accepted in
    omega (arith, mul-le config.max config.den 16384 65535 (omega (arith, a.max.1, a.page.1)) (omega (arith, a.factor.1, a.factor.2)))
