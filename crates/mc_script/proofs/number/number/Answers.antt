use Rattle.std.proofs.Common.{suc, sym, ◌∙◌, ap, drop, get_or, arith}
use Rattle.std.proofs.Math.ListN.{drop_of_length-le}
use Rattle.std.proofs.Math.Seq.{drop-cons}
use Rattle.std.specs.Str.{all_ascii_digits}
use Rattle.std.specs.Str.Parse.{digits_value_after}
use Rattle.mc_script.proofs.Digits.{stops_there, all_read}
use Rattle.mc_script.proofs.number.number.Goals as goal

pub returns-in_err-value : goal.returns-in_err-value
returns-in_err-value c =
    let i = c.loop-byte.byte-index in
    let word = c.args.word.now in
    let front = drop-cons word i 0 c.loop-byte-test.true in
    c.from_residual.ensures
    ∙ stops_there c.loop-byte.value (get_or word i 0) (drop (suc i) word) word (sym c.in_err-value.was ∙ c.with_digit.ensures)
    (ap all_ascii_digits (sym front) ∙ c.loop-byte.invariant.digits) (ap (digits_value_after 10 c.loop-byte.value) (sym front) ∙ c.loop-byte.invariant.told)

pub returns : goal.returns
returns c =
    all_read c.loop-byte.value (drop c.loop-byte.byte-index c.args.word.now) c.args.word.now (drop_of_length-le c.args.word.now (omega arith))
    (grind arith) (omega arith) c.loop-byte.invariant.fits c.loop-byte.invariant.digits c.loop-byte.invariant.told
