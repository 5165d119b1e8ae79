-- The entries of the ledger in memory.
use Rattle.std.specs.Prelude.{◌≡◌, ◌-◌, ◌^◌, ◌++◌, min, length, replicate, vec_len, vec_capacity}
use Rattle.mc_pages.specs.declared.recorded.Recorded.TheInside.{Inside}
use Rattle.mc_pages.specs.Base.{Entries, pages_after_entries, never_granted}

-- all entries, in memory or not
abbrev pub entries_of : Inside → Entries
entries_of entries = record {
  all = entries.past.entries ++ entries.tail.items;
  trimmed = length entries.past.entries;
  pages = vec_len entries.base;
  room = vec_capacity entries.tail - vec_len entries.tail;
}

-- the entries that aren't in memory are counted, and the base has what they left of each page
pub record AreEntriesRecorded (entries : Inside) : Type 0 where
  -- the count of the entries that aren't in memory, which stops at 2^64 - 1
  pub trimmed : entries.trimmed ≡ min (length entries.past.entries) (2 ^ 64 - 1)
  -- the base is what the entries that aren't in memory left
  pub base : entries.base.items ≡ pages_after_entries (replicate (vec_len entries.base) never_granted) entries.past.entries
