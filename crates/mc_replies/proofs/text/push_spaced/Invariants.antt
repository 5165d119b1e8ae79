use Rattle.std.proofs.Common.{◌≡◌, ◌++◌, drop}
use Rattle.std.specs.Io.{StartsWith}
use Rattle.mc_serial_spec.specs.Texts.{spaced_words}
use Rattle.mc_replies.proofs.text.push_spaced.Given as goal

-- the numbers so far, and those that are left; what stood there stays
abbrev pub invariant-loop-number : goal.invariant-loop-number
invariant-loop-number l =
    (l.text.items ++ spaced_words (drop l.number-index l.numbers) ≡ l.initial.text.items ++ spaced_words l.numbers)
    × StartsWith l.text.items l.initial.text.items
