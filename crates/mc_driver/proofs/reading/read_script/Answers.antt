use Rattle.std.proofs.Common.{arith, ap, Ok}
use Rattle.std.proofs.lemmas.List.{length-take}
use Rattle.mc_driver.proofs.Taken.{taken_full, taken_end, takes_more, gave_piece, gives_more}
use Rattle.mc_driver.proofs.reading.read_script.Goals as goal

-- the reader is at its end
pub returns-then-count-eq0-clause-bytes : goal.returns-then-count-eq0-clause-bytes
returns-then-count-eq0-clause-bytes g c =
    taken_end 1048577 _ _ _ _ _ _ _ c.loop-bytes.invariant.taken (rw c.if-count-eq0.true at c.in_ok-count.ensures.taken) (c.in_ok-count.ensures.end (ap (λ n. Ok n) c.if-count-eq0.true)) (omega (arith, c.loop-bytes.invariant.most))

pub returns-then-count-eq0-clause-given : goal.returns-then-count-eq0-clause-given
returns-then-count-eq0-clause-given g c = gave_piece _ _ _ _ _ _ _ _ c.loop-bytes.invariant.given c.in_ok-count.ensures.taken

pub returns-then-count-eq0-clause-ended : goal.returns-then-count-eq0-clause-ended
returns-then-count-eq0-clause-ended g c = λ short. c.in_ok-count.ensures.ended (ap (λ n. Ok n) c.if-count-eq0.true)

-- a byte more than the longest script was read
pub returns-clause-bytes : goal.returns-clause-bytes
returns-clause-bytes g c =
    taken_full 1048577 _ _ _ c.loop-bytes.invariant.taken (omega (arith, c.loop-bytes.invariant.most, c.loop-bytes-test.false))

pub returns-clause-ended : goal.returns-clause-ended
returns-clause-ended g c = λ short. absurd (omega (arith, short, c.loop-bytes-test.false))

-- a read failed, or memory ran out for what it gave
pub returns-in_err-count-clause-most : goal.returns-in_err-count-clause-most
returns-in_err-count-clause-most g c =
    takes_more _ 1048577 _ _ _ _ c.loop-bytes.invariant.taken c.read_piece.ensures.most
    (omega (
      arith,
      c.loop-bytes.invariant.most,
      c.min-room.ensures,
      c.len-in-loop-bytes.ensures,
      c.loop-bytes-test.true,
      length-take c.min-room.result c.deref_mut.result.now,
    ))

pub returns-in_err-count-clause-most_given : goal.returns-in_err-count-clause-most_given
returns-in_err-count-clause-most_given g c =
    gives_more _ 1048577 _ _ _ _ c.loop-bytes.invariant.given c.read_piece.ensures.most_given
    (omega (
      arith,
      c.loop-bytes.invariant.most,
      c.min-room.ensures,
      c.len-in-loop-bytes.ensures,
      c.loop-bytes-test.true,
      length-take c.min-room.result c.deref_mut.result.now,
    ))
