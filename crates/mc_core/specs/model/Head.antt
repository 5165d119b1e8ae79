-- The header of a chunk, and the word that it is.
use Rattle.std.specs.Prelude.{ℕ, zero, suc, ◌+◌, ◌*◌, ◌/◌, ◌%◌, ◌==◌, Bool, true, false, ◌&&◌}
use Rattle.mc_core.specs.declared.head.Head.{Head}
use Rattle.mc_core.specs.declared.head.Tag.{Tag}
use Rattle.mc_core.specs.declared.head.Tag.TheVariants.{Out, Free, Unlinked, Linked}

-- the number of a tag in a header's word
abbrev pub number_of_tag : Tag → ℕ
number_of_tag Out = 0
number_of_tag Free = 1
number_of_tag Unlinked = 2
number_of_tag Linked = 3

-- the tag of a number; any beyond is read as Linked
abbrev pub tag_of : ℕ → Tag
tag_of zero = Out
tag_of (suc zero) = Free
tag_of (suc (suc zero)) = Unlinked
tag_of (suc (suc (suc n))) = Linked

-- the header as a word: its count in the lowest 16 bits, the number of its tag in the next 2, and above them its issue
unfoldable pub code : Head → ℕ
code head = head.issue * 262144 + number_of_tag head.tag * 65536 + head.count

-- the header that a word is
unfoldable pub decode : ℕ → Head
decode word = record { issue = word / 262144; tag = tag_of (word / 65536 % 4); count = word % 65536 }

-- the chunk was cut, and waits on its free list
abbrev pub is_free : Tag → Bool
is_free Free = true
is_free tag = false

-- the chunk is in no list: it wasn't cut for its page's class, or was cleared as its page moves
abbrev pub is_out : Tag → Bool
is_out Out = true
is_out tag = false

-- the chunk is handed out, and no key leads to it, whether a hand holds it or not
abbrev pub is_unlinked : Tag → Bool
is_unlinked Unlinked = true
is_unlinked tag = false

-- the chunk is handed out, and the key in its first word leads to it
abbrev pub is_linked : Tag → Bool
is_linked Linked = true
is_linked tag = false

-- the chunk is handed out, but nobody holds it and no key leads to it
abbrev pub is_dead : Head → Bool
is_dead head = is_unlinked head.tag && head.count == 0

-- the header of a chunk that was never cut, where issue numbers count on from this one
abbrev pub uncut_from : ℕ → Head
uncut_from start = record { issue = start; tag = Out; count = 0 }

-- the header of a chunk that was never cut, with issue 0, which is read behind the last header. No bounds of a page are tested: an index too high
-- reads the header of a later page's chunk, where there is one
abbrev pub never_cut : Head
never_cut = uncut_from 0
