use Rattle.std.proofs.Common.{◌≡◌, ◌≤◌, ◌-◌, ◌%◌, length, take}
use Rattle.std.specs.List.{fold}
use Rattle.std.specs.Hash.DefaultHasher.{wrapping_add, write_byte}
use Rattle.mc_cache.specs.Hashing.{started_by}
use Rattle.mc_cache.specs.Sip.{hasher_of}
use Rattle.mc_cache.proofs.hashing.KeyedHasher.hash.Given as goal

abbrev pub invariant-loop-at : goal.invariant-loop-at
invariant-loop-at l = record {
  inside : l.at ≤ length l.key;
  whole : l.at % 8 ≡ 0;
  so_far : hasher_of l.lanes 0 (wrapping_add 16 l.at) ≡ fold write_byte (started_by l.self) (take l.at l.key);
}

abbrev pub decreases-loop-at : goal.decreases-loop-at
decreases-loop-at l = length l.key - l.at
