use Rattle.std.proofs.Common.{arith}
use Rattle.mc_large.proofs.Words.{few_lack, great_lack, is_length}
use Rattle.mc_large.proofs.roots.read_length.Goals as goal

pub returns-in_default-clause-none : goal.returns-in_default-clause-none
returns-in_default-clause-none c = λ none. few_lack c.args.bytes.now c.in_default.ensures.cases

pub returns-then-len-clause-none : goal.returns-then-len-clause-none
returns-then-len-clause-none c = λ none.
    let parts = c.in-Some.ensures.cases in
    great_lack c.args.bytes.now c.in-Some.first.now c.in-Some.rest.now c.from_le_bytes-len.result (λ place. let small = c.type_inv.bytes place in omega arith) parts.0 parts.1 parts.2 c.from_le_bytes-len.ensures c.from_le_bytes-len.type_inv c.if-len.true

pub returns-clause-some : goal.returns-clause-some
returns-clause-some c =
    let parts = c.in-Some.ensures.cases in
    is_length c.args.bytes.now c.in-Some.first.now c.in-Some.rest.now c.from_le_bytes-len.result (λ place. let small = c.type_inv.bytes place in omega arith) parts.0 parts.1 parts.2 c.from_le_bytes-len.ensures c.if-len.false
