use Rattle.std.proofs.Common.{◌≡◌, Ok, ap, arith, length}
use Rattle.mc_large.proofs.Gets.{are_whole}
use Rattle.mc_large.proofs.getting.get_parts.Goals as goal

pub returns-then-len-start-clause-value : goal.returns-then-len-start-clause-value
returns-then-len-start-clause-value g c = λ is.
    let start : c.len-start.result ≡ length c.args.into.now.items = omega (arith, c.len-start.ensures) in
    let end : c.len.result ≡ length c.add_parts.new.into.items = omega (arith, c.len.ensures) in
    are_whole c.args.cache.now c.args.key.now c.args.versions.now c.args.into.now.items c.add_parts.new.into.items c.args.len c.len-start.result c.len.result c.args.worker.now c.add_parts.new.worker start end c.if-len-start.true (c.in-Ok-true.ensures.adds (ap Ok c.in-Ok-true.field-0-test))
