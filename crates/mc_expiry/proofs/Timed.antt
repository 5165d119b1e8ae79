-- The bytes of a value with a deadline, and what they say of it.
use Rattle.std.proofs.Common.{◌≡◌, ◌⊎◌, ◌∙◌, ◌≤◌, ◌<◌, ◌^◌, ◌+◌, ◌++◌, ◌∷◌, [], ℕ, zero, suc, List, length, get_or, take, drop, ap, arith, inl, inr, refl, subst, sym}
use Rattle.std.proofs.lemmas.Bool.{cases_lt}
use Rattle.std.proofs.lemmas.Nat.{from_le_bytes-to_le_bytes_4, le_bytes_4}
use Rattle.std.specs.Int.{w32, byte_at, from_le_bytes, to_le_bytes}
use Rattle.mc_expiry.specs.Deadlines.{HasUnexpired, IsExpired, IsUnexpired, LacksUnexpired, timed_bytes}

-- two lists that begin with four numbers each
parts_of : (a b c d i j k l : ℕ) (v w : List ℕ) → a ∷ b ∷ c ∷ d ∷ v ≡ i ∷ j ∷ k ∷ l ∷ w → (a ∷ b ∷ c ∷ d ∷ [] ≡ i ∷ j ∷ k ∷ l ∷ []) × (v ≡ w)
parts_of a b c d i j k l v w same = (ap (take 4) same, ap (drop 4) same)

-- stored bytes are those of one deadline and one value
pub timed_once : (deadline other : ℕ) (value another : List ℕ) → deadline < 2 ^ 32 → other < 2 ^ 32 → timed_bytes deadline value ≡ timed_bytes other another → (deadline ≡ other) × (value ≡ another)
timed_once deadline other value another fits fits_too same =
    let parts = parts_of (byte_at 0 deadline) (byte_at 1 deadline) (byte_at 2 deadline) (byte_at 3 deadline) (byte_at 0 other) (byte_at 1 other) (byte_at 2 other) (byte_at 3 other) value another same in
    let first : to_le_bytes w32 deadline ≡ to_le_bytes w32 other = parts.0 in
    (sym (from_le_bytes-to_le_bytes_4 deadline fits) ∙ ap (from_le_bytes w32) first ∙ from_le_bytes-to_le_bytes_4 other fits_too, parts.1)

-- stored bytes have room for a deadline, and a value behind
pub timed_length : (deadline : ℕ) (value : List ℕ) → 4 ≤ length (timed_bytes deadline value)
timed_length deadline value = omega arith

-- a deadline is reached, or it isn't
pub either_is : (deadline time : ℕ) → IsExpired deadline time ⊎ IsUnexpired deadline time
either_is zero time = inr (inl refl)
either_is (suc n) time = elim (cases_lt time (suc n)) [
  | inl later ↦ inr (inr later)
  | inr reached ↦ inl (omega arith, reached)
]

-- and never both
pub never_both : (deadline time : ℕ) → IsExpired deadline time → IsUnexpired deadline time → ⊥
never_both deadline time (some, reached) (inl none) = let one : 1 ≤ deadline = some in let never : deadline ≡ 0 = none in omega (arith, one, never)
never_both deadline time (some, reached) (inr later) = let past : deadline ≤ time = reached in let before : time < deadline = later in omega (arith, past, before)

-- stored bytes without an unexpired value have none
pub lackers_have : (time : ℕ) (stored value : List ℕ) → LacksUnexpired time stored → HasUnexpired time stored value → ⊥
lackers_have time stored value (inl short) has =
    let few : length stored < 4 = short in
    let long : 4 ≤ length stored = subst (λ (bytes : List ℕ). 4 ≤ length bytes) (sym has.is_timed) (timed_length has.deadline value) in
    omega (arith, few, long)
lackers_have time stored value (inr past) has =
    let same = timed_once past.deadline has.deadline past.value value past.fits has.fits (sym past.is_timed ∙ has.is_timed) in
    never_both has.deadline time (subst (λ (deadline : ℕ). IsExpired deadline time) same.0 past.expired) has.unexpired

-- four bytes are below 256 wherever they are read
four_small : (a b c d : ℕ) → a < 256 → b < 256 → c < 256 → d < 256 → (i : ℕ) → get_or (a ∷ b ∷ c ∷ d ∷ []) i 0 < 256
four_small a b c d p q r s zero = p
four_small a b c d p q r s (suc zero) = q
four_small a b c d p q r s (suc (suc zero)) = r
four_small a b c d p q r s (suc (suc (suc zero))) = s
four_small a b c d p q r s (suc (suc (suc (suc i)))) = omega arith

-- bytes that are read as a deadline and a value are those of the two
pub timed_again : (stored first value : List ℕ) (deadline : ℕ) → first ≡ take 4 stored → value ≡ drop 4 stored → length value + 4 ≡ length stored → ((i : ℕ) → get_or stored i 0 < 256) → deadline ≡ from_le_bytes w32 first → stored ≡ timed_bytes deadline value
timed_again [] first value deadline front back long small is = absurd (omega (arith, long))
timed_again (a ∷ []) first value deadline front back long small is = absurd (omega (arith, long))
timed_again (a ∷ b ∷ []) first value deadline front back long small is = absurd (omega (arith, long))
timed_again (a ∷ b ∷ c ∷ []) first value deadline front back long small is = absurd (omega (arith, long))
timed_again (a ∷ b ∷ c ∷ d ∷ rest) first value deadline front back long small is =
    let four : List ℕ = a ∷ b ∷ c ∷ d ∷ [] in
    let bytes : to_le_bytes w32 deadline ≡ four = le_bytes_4 four deadline refl (four_small a b c d (small 0) (small 1) (small 2) (small 3)) (is ∙ ap (from_le_bytes w32) front) in
    sym (ap (λ (v : List ℕ). four ++ v) back) ∙ sym (ap (λ (v : List ℕ). v ++ value) bytes)
