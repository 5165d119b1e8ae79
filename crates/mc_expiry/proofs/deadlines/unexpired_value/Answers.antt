use Rattle.std.proofs.Common.{arith, inr}
use Rattle.mc_expiry.proofs.Timed.{timed_again}
use Rattle.mc_expiry.proofs.deadlines.unexpired_value.Goals as goal

pub returns-then-is_expired-clause-none : goal.returns-then-is_expired-clause-none
returns-then-is_expired-clause-none c = λ none.
    let parts = c.in-Some.ensures.cases in
    inr (record {
      deadline = c.from_le_bytes-deadline.result;
      value = c.in-Some.value.now;
      fits = c.from_le_bytes-deadline.type_inv;
      is_timed = timed_again c.args.stored.now c.in-Some.first.now c.in-Some.value.now c.from_le_bytes-deadline.result parts.0 parts.1 parts.2 (λ i. let small = c.type_inv.stored i in omega arith) c.from_le_bytes-deadline.ensures;
      expired = c.is_expired.ensures.expired c.if-is_expired.true;
    })

pub returns-clause-some : goal.returns-clause-some
returns-clause-some c =
    let parts = c.in-Some.ensures.cases in
    record {
      deadline = c.from_le_bytes-deadline.result;
      fits = c.from_le_bytes-deadline.type_inv;
      is_timed = timed_again c.args.stored.now c.in-Some.first.now c.in-Some.value.now c.from_le_bytes-deadline.result parts.0 parts.1 parts.2 (λ i. let small = c.type_inv.stored i in omega arith) c.from_le_bytes-deadline.ensures;
      unexpired = c.is_expired.ensures.unexpired c.if-is_expired.false;
    }
