use Rattle.std.proofs.Common.{◌==◌, ap, sym, ◌∙◌, drop, length, refl, arith}
use Rattle.std.proofs.lemmas.List.{take_rest}
use Rattle.std.specs.List.{position_or_len}
use Rattle.mc_script.proofs.FirstParts.{no_words, next_word}
use Rattle.mc_script.proofs.parts.RestIterator.next.Goals as goal

pub returns-in-Some-clause-steps : goal.returns-in-Some-clause-steps
returns-in-Some-clause-steps c =
    let counted = c.word_length-length.ensures.first ∙ ap (position_or_len (λ byte. byte == 32)) (take_rest c.args.self.now.line.now c.in-Some.start) in
    let next = next_word c.args.self.now.line.now (drop c.in-Some.start c.args.self.now.line.now) c.in-Some.start c.word_length-length.result (sym c.word_start.ensures ∙ c.in-Some.is) refl counted in
    rw (take_rest, take_rest) next

pub returns-in-Some-clause-goes : goal.returns-in-Some-clause-goes
returns-in-Some-clause-goes c =
    let counted = c.word_length-length.ensures.first ∙ ap (position_or_len (λ byte. byte == 32)) (take_rest c.args.self.now.line.now c.in-Some.start) in
    let next = next_word c.args.self.now.line.now (drop c.in-Some.start c.args.self.now.line.now) c.in-Some.start c.word_length-length.result (sym c.word_start.ensures ∙ c.in-Some.is) refl counted in
    record { on = λ _. (tt, tt, rw (take_rest, take_rest) (omega (arith, ap length next))); keeps = tt; rests = λ _. tt }

pub returns-in-None-clause-steps : goal.returns-in-None-clause-steps
returns-in-None-clause-steps c =
    let none = no_words c.args.self.now.line.now (sym c.word_start.ensures ∙ c.in-None.is) in (none, none)
