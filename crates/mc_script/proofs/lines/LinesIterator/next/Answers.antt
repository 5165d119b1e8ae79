use Rattle.std.proofs.Common.{◌<◌, sym, ap, ◌∙◌, length, arith}
use Rattle.std.proofs.lemmas.List.{take_rest}
use Rattle.mc_script.proofs.FirstLine.{lines_at, lines_last}
use Rattle.mc_script.proofs.lines.LinesIterator.next.Goals as goal

-- up to an LF
pub returns-in-Some-clause-steps : goal.returns-in-Some-clause-steps
returns-in-Some-clause-steps c =
    let first = lines_at c.args.self.now.rest.now c.in-Some.end (sym c.newline.ensures ∙ c.in-Some.is) in
    rw (take_rest, c.without_carriage_return.ensures) first

pub returns-in-Some-clause-goes : goal.returns-in-Some-clause-goes
returns-in-Some-clause-goes c =
    let first = lines_at c.args.self.now.rest.now c.in-Some.end (sym c.newline.ensures ∙ c.in-Some.is) in
    record { on = λ _. (tt, tt, rw take_rest (omega (arith, ap length first))); keeps = tt; rests = λ _. tt }

-- with no LF
pub returns-in-None-2-clause-steps : goal.returns-in-None-2-clause-steps
returns-in-None-2-clause-steps c =
    let some : 0 < length c.args.self.now.rest.now = grind arith in
    lines_last c.args.self.now.rest.now (sym c.newline.ensures ∙ c.in-None.is) some

pub returns-in-None-2-clause-goes : goal.returns-in-None-2-clause-goes
returns-in-None-2-clause-goes c =
    let some : 0 < length c.args.self.now.rest.now = grind arith in
    let last = lines_last c.args.self.now.rest.now (sym c.newline.ensures ∙ c.in-None.is) some in
    record { on = λ _. (tt, tt, omega (arith, ap length last)); keeps = tt; rests = λ _. tt }
