use Rattle.std.proofs.Common.{◌≡◌, ℕ, ◌<◌, false, slice_index_or}
use Rattle.std.specs.Slots.{slots_filled, slots_len}
use Rattle.std.specs.Slots.Ownership.{Filled}
use Rattle.mc_words.proofs.arena.end.Final.drop.Given as goal

abbrev pub invariant-loop-slot : goal.invariant-loop-slot
invariant-loop-slot l = (slots_len l.closed.slots ≡ l.slot-end) × Filled (slots_filled l.closed.slots) l.slot l.slot-end × ((k : ℕ) → k < l.slot → slice_index_or (slots_filled l.closed.slots) k false ≡ false)
