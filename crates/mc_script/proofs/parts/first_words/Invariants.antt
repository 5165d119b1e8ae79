use Rattle.std.proofs.Common.{◌≡◌, ◌<◌, ◌++◌, length, map, take}
use Rattle.mc_script.specs.Words.{line_words}
use Rattle.mc_script.proofs.parts.first_words.Given as goal

-- the words so far, before those that are left, are the line's
abbrev pub invariant-loop-word : goal.invariant-loop-word
invariant-loop-word l =
    record {
      can : (goal.iterator-loop-word).can_next l.word-iterator;
      ends : (goal.iterator-loop-word).is_finite l.word-iterator;
      within_limit : l.count < 6;
      long : length l.words ≡ 6;
      told : map (λ word. word.now) (take l.count l.words) ++ line_words l.word-iterator.line.now ≡ line_words l.line;
    }
