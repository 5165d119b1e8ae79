-- Hands that become one.
use Rattle.std.specs.Prelude.{ℕ, ◌==◌, Bool, not, ◌&&◌, [], length}
use Rattle.std.specs.List.{list_all}
use Rattle.mc_core.specs.model.State.{State, no_ids, number_at, is_hand, is_held_by, has_slabs, holdings_at, with_ids, with_looks}

-- the hand has the lock of no stripe
abbrev pub hand_has_no_stripe : State → ℕ → Bool
hand_has_no_stripe state hand = list_all (λ word. not (is_held_by word (number_at state hand))) state.stripe_locks

-- the hand has no lock and no chunk
abbrev pub is_hand_idle : State → ℕ → Bool
is_hand_idle state hand =
    not (has_slabs state hand) && hand_has_no_stripe state hand && length (holdings_at state hand) == 0

-- the kept hand is the one that steps, the spent one another that is there, and neither has a lock or a chunk
abbrev pub can_join : State → ℕ → ℕ → ℕ → Bool
can_join state hand kept spent = hand == kept && not (kept == spent) && is_hand state spent && is_hand_idle state kept && is_hand_idle state spent

-- the spent hand is gone
abbrev pub after_join : State → ℕ → State
after_join state spent = with_looks (with_ids state spent no_ids) spent []
