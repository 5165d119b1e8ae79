use Rattle.std.proofs.Common.{◌≡◌, ℕ, ◌+◌, ◌%◌, ◌^◌, ◌<◌, get_or}
use Rattle.mc_serial_parts.proofs.item.count_up.Given as goal

-- the words so far, and the next one
abbrev pub invariant-loop-word : goal.invariant-loop-word
invariant-loop-word l = record {
  next : l.next ≡ (l.base + l.word-index) % 2 ^ 64;
  written : (k : ℕ) → k < l.word-index → get_or l.all k 0 ≡ (l.base + k) % 2 ^ 64;
}
