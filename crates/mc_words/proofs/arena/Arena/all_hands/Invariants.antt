use Rattle.std.proofs.Common.{◌≡◌, ◌+◌, ◌-◌, ◌≤◌, length}
use Rattle.std.specs.Vec.{vec_len, vec_capacity}
use Rattle.mc_words.specs.hand.Arenas.{IsHandOf, setup_of, view}
use Rattle.mc_words.specs.hand.Hands.{AreHandsFrom}
use Rattle.mc_words.specs.hand.View.{new_view}
use Rattle.mc_words.proofs.arena.Arena.all_hands.Given as goal

-- the hands from 1 up to this number are made
abbrev pub invariant-loop-number : goal.invariant-loop-number
invariant-loop-number l =
    IsHandOf l.self l.first
    × (view l.first ≡ new_view (setup_of l.self) 0 ((setup_of l.self).hands - l.number))
    × (length l.all.items + 1 ≡ l.number)
    × (vec_len l.all + 1 ≡ l.number)
    × (l.number ≤ l.count)
    × (l.count ≤ vec_capacity l.all)
    × AreHandsFrom l.self 1 l.all.items
