use Rattle.std.proofs.Common.{◌≡◌, ◌++◌, take}
use Rattle.mc_shard.specs.Listing.{bytes_of_keys}
use Rattle.mc_c.specs.Listing.{entries_of}
use Rattle.mc_c.proofs.listing.push_entries.Given as goal

-- the entries so far were put
abbrev pub invariant-loop-key : goal.invariant-loop-key
invariant-loop-key l = l.into.items ≡ l.fn.into.items ++ entries_of (bytes_of_keys (take l.key-index l.keys))
