-- The slots that are out with a hand.
use Rattle.std.proofs.Common.{◌≡◌, ℕ, ◌<◌, ◌≤◌, ◌^◌, List, [], ◌∷◌, ap, arith}
use Rattle.atomic_table.specs.Table.{rest}
use Rattle.mc_words.specs.declared.lock.slot.Slot.{Slot}
use Rattle.mc_words.specs.declared.lock.locks.Lock.{Lock}
use Rattle.mc_words.specs.hand.View.{Setup}
use Rattle.mc_words.specs.lock.Out.{slots_out}
use Rattle.mc_words.specs.lock.Slots.{lock_number}
use Rattle.mc_words.specs.lock.Tries.{IsLockOf}

abbrev front_or : List ℕ → ℕ → ℕ
front_or [] none = none
front_or (slot ∷ slots) none = slot

-- the slot is the first that is out, which it is where it is the first of their numbers
pub first_slot : (out : List (ℕ × Slot)) (slot : ℕ) (more : List ℕ) → slots_out out ≡ slot ∷ more → (old : Slot) × (out ≡ (slot, old) ∷ rest out)
first_slot [] slot more e = absurd (cc)
first_slot (x ∷ xs) slot more e = (x.1, ap (λ (j : ℕ). (j, x.1) ∷ xs) (ap (λ slots. front_or slots slot) e))

-- an arena's locks are few
pub few_locks : (setup plan : Setup) (lock told : Lock) → setup ≡ plan → plan.config.stripes ≤ 64 → told ≡ lock → IsLockOf setup told → lock_number lock < 2 ^ 59
few_locks setup plan lock told planned within_limit is in_range =
    let same = ap lock_number is in
    let stripes : setup.config.stripes ≡ plan.config.stripes = ap (λ (s : Setup). s.config.stripes) planned in
    omega arith
