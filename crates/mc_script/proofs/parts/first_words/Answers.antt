use Rattle.std.proofs.Common.{◌≡◌, ◌+◌, ◌<◌, ◌++◌, ap, sym, ◌∙◌, length, map, take, slice_set, arith}
use Rattle.std.proofs.lemmas.List.{length-map, length-set, length-take-le}
use Rattle.mc_script.specs.Words.{line_words}
use Rattle.mc_script.proofs.FirstParts.{one_more, six_first, no_more}
use Rattle.mc_script.proofs.parts.first_words.Goals as goal

pub returns-then-count-eq-MOST-clause-words : goal.returns-then-count-eq-MOST-clause-words
returns-then-count-eq-MOST-clause-words c =
    let within : c.loop-word.count < length c.loop-word.words = let long = c.loop-word.invariant.long in let within_limit = c.loop-word.invariant.within_limit in omega arith in
    let told = one_more (λ word. word.now) c.loop-word.words c.loop-word.count c.in-Some.word (line_words c.next.new.self.line.now) (line_words c.args.line.now) within
    (ap (λ ws. map (λ word. word.now) (take c.loop-word.count c.loop-word.words) ++ ws) (sym c.in-Some.ensures.steps) ∙ c.loop-word.invariant.told) in
    let front = take (c.loop-word.count + 1) (slice_set c.loop-word.words c.loop-word.count c.in-Some.word) in
    let six : length front ≡ c.loop-word.count + 1 = length-take-le (c.loop-word.count + 1) (slice_set c.loop-word.words c.loop-word.count c.in-Some.word) (let same = length-set c.loop-word.words c.loop-word.count c.in-Some.word in omega arith) in
    six_first (map (λ word. word.now) front) (line_words c.next.new.self.line.now) (line_words c.args.line.now) (length-map front (λ word. word.now) ∙ six ∙ c.if-count-eq-MOST.true) told

pub loop-word-preserved : goal.loop-word-preserved
loop-word-preserved c =
    let within : c.loop-word.count < length c.loop-word.words = let long = c.loop-word.invariant.long in let within_limit = c.loop-word.invariant.within_limit in omega arith in
    record {
      can = tt;
      ends = tt;
      within_limit = (let within_limit = c.loop-word.invariant.within_limit in let other = c.if-count-eq-MOST.false in omega arith);
      long = length-set c.loop-word.words c.loop-word.count c.in-Some.word ∙ c.loop-word.invariant.long;
      told = one_more (λ word. word.now) c.loop-word.words c.loop-word.count c.in-Some.word (line_words c.next.new.self.line.now) (line_words c.args.line.now) within
          (ap (λ ws. map (λ word. word.now) (take c.loop-word.count c.loop-word.words) ++ ws) (sym c.in-Some.ensures.steps) ∙ c.loop-word.invariant.told);
    }

pub returns-clause-words : goal.returns-clause-words
returns-clause-words c =
    let front = take c.loop-word.count c.loop-word.words in
    let long : length front ≡ c.loop-word.count = length-take-le c.loop-word.count c.loop-word.words (let long = c.loop-word.invariant.long in let within_limit = c.loop-word.invariant.within_limit in omega arith) in
    let some = length-map front (λ word. word.now) in
    let within_limit = c.loop-word.invariant.within_limit in
    no_more (map (λ word. word.now) front) (line_words c.args.line.now) (omega arith)
    (ap (λ ws. map (λ word. word.now) front ++ ws) (sym c.in-None.ensures.steps.0) ∙ c.loop-word.invariant.told)
