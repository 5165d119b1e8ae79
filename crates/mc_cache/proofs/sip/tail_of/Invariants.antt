use Rattle.std.proofs.Common.{◌≡◌, ℕ, ◌-◌, ◌%◌, ◌^◌, ◌<◌, take}
use Rattle.std.specs.List.{fold}
use Rattle.std.specs.declared.hash.DefaultHasher.{DefaultHasher}
use Rattle.std.specs.Hash.DefaultHasher.{wrapping_add, write_byte}
use Rattle.mc_cache.specs.declared.sip.Lanes.{Lanes}
use Rattle.mc_cache.specs.Sip.{hasher_of}
use Rattle.mc_cache.proofs.sip.tail_of.Given as goal

abbrev pub invariant-loop-place : goal.invariant-loop-place
invariant-loop-place l = (lanes : Lanes) (begun : DefaultHasher) (count : ℕ) → count < 2 ^ 64 → count % 8 ≡ 0 →
    hasher_of lanes 0 count ≡ fold write_byte begun (take l.at l.bytes) →
    hasher_of lanes l.tail (wrapping_add count (l.place - l.at)) ≡ fold write_byte begun (take l.place l.bytes)
