use Rattle.std.proofs.Common.{◌≡◌, map}
use Rattle.std.specs.List.{range_with_len}
use Rattle.mc_core.specs.model.State.{word_at}
use Rattle.mc_core.proofs.state.State.item.Given as goal

abbrev pub invariant-loop-place : goal.invariant-loop-place
invariant-loop-place l = l.words ≡ map (λ place. word_at l.self l.chunk place) (range_with_len 0 l.place)
