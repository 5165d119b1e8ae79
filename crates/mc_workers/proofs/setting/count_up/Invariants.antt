use Rattle.std.proofs.Common.{◌≡◌, ◌≤◌}
use Rattle.mc_serial_spec.specs.Item.{counting_words}
use Rattle.mc_workers.proofs.setting.count_up.Given as goal

-- the words so far, and there is room for all
abbrev pub invariant-loop-place : goal.invariant-loop-place
invariant-loop-place l = (l.count ≤ l.words.cap) × (l.words.items ≡ counting_words l.base l.place)
