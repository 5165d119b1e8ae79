-- SipHash-1-3 over whole words, beside the hasher of std.
use Rattle.std.specs.Prelude.{◌≡◌, ℕ, ◌-◌, ◌%◌, ◌^◌, ◌<◌, List, length, take}
use Rattle.std.specs.List.{fold}
use Rattle.std.specs.declared.hash.DefaultHasher.{DefaultHasher}
use Rattle.std.specs.Hash.DefaultHasher as sip
use Rattle.mc_cache.specs.declared.sip.Lanes.{Lanes}

-- std's hasher with these four numbers, this tail, and this many bytes written
abbrev pub hasher_of : Lanes → ℕ → ℕ → DefaultHasher
hasher_of lanes tail count = record { v0 = lanes.v0; v1 = lanes.v1; v2 = lanes.v2; v3 = lanes.v3; tail = tail; length = count }

-- where the bytes before this place left a whole number of words, all bytes leave this tail
abbrev pub LeavesTail : List ℕ → ℕ → ℕ → Type 0
LeavesTail bytes at tail = (lanes : Lanes) (begun : DefaultHasher) (count : ℕ) → count < 2 ^ 64 → count % 8 ≡ 0 →
    hasher_of lanes 0 count ≡ fold sip.write_byte begun (take at bytes) →
    hasher_of lanes tail (sip.wrapping_add count (length bytes - at)) ≡ fold sip.write_byte begun bytes
