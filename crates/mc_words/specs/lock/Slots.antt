-- The numbers of locks, and the slots of the values behind them.
use Rattle.std.specs.Prelude.{ℕ, zero, suc, ◌+◌, ◌-◌, ◌*◌}
use Rattle.mc_words.specs.declared.lock.locks.Lock.{Lock}
use Rattle.mc_words.specs.declared.lock.locks.Lock.TheVariants.{SlabsLock, StripeLock}

-- the slots of 16 bytes from the value behind one lock to the next: 128 bytes, so that no two are in one line of a cache
abbrev pub slots_apart : ℕ
slots_apart = 8

-- how many slots are between those of two locks; they are empty
abbrev pub slots_between : ℕ
slots_between = slots_apart - 1

-- the number of a lock: 0 of the slabs, and i + 1 of stripe i
abbrev pub lock_number : Lock → ℕ
lock_number SlabsLock = zero
lock_number (StripeLock stripe) = suc stripe

-- the slot of the value behind the lock of this number
abbrev pub slot_at : ℕ → ℕ
slot_at lock = slots_apart * lock

-- the slot of the value behind this lock
abbrev pub slot_of : Lock → ℕ
slot_of lock = slot_at (lock_number lock)

-- how many slots there are for n stripes
abbrev pub slot_count : ℕ → ℕ
slot_count stripes = slots_apart * (1 + stripes)
