use Rattle.std.proofs.Common.{◌≡◌, ◌∷◌, ◌++◌}
use Rattle.std.specs.Prelude.{replicate}
use Rattle.mc_words.specs.declared.lock.slot.Slot.TheVariants.{Empty}
use Rattle.mc_words.proofs.arena.beginning.push_apart.Given as goal

abbrev pub invariant-loop-between : goal.invariant-loop-between
invariant-loop-between l = l.slots.items ≡ l.fn.slots.items ++ l.fn.value ∷ replicate l._between Empty
