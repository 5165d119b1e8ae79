-- Maps from keys to something else, as lists of entries by rising key.
use Rattle.std.specs.Prelude.{ℕ, ◌<◌, nat_eq, ⊤, List, [], ◌∷◌, Option, Some, None}
use Rattle.std.specs.Ordering.{nat_cmp}
use Rattle.std.specs.BTreeMap.{insert_entry}
use Rattle.std.specs.List.{IsDistinct}
use Rattle.std.specs.Map.{lookup, remove_entry, keys_of}

module _ {X : Type 0} where
  -- what the key leads to
  abbrev pub entry_at : List (ℕ × X) → ℕ → Option X
  entry_at entries key = lookup (nat_eq key) entries

  -- the key leads to this now
  abbrev pub with_entry : List (ℕ × X) → ℕ → X → List (ℕ × X)
  with_entry entries key value = insert_entry nat_cmp entries key value

  -- the key leads nowhere any more
  abbrev pub without_entry : List (ℕ × X) → ℕ → List (ℕ × X)
  without_entry entries key = remove_entry (nat_eq key) entries

  -- the entries of all keys but this one, if there is one
  abbrev pub entries_but : Option ℕ → List (ℕ × X) → List (ℕ × X)
  entries_but None entries = entries
  entries_but (Some key) entries = without_entry entries key

  -- the key is below all of these
  abbrev pub IsBelow : ℕ → List (ℕ × X) → Type 0
  IsBelow key [] = ⊤
  IsBelow key (entry ∷ entries) = (key < entry.0) × IsBelow key entries

  -- each key is below all that follow
  abbrev pub AreRising : List (ℕ × X) → Type 0
  AreRising [] = ⊤
  AreRising (entry ∷ entries) = IsBelow entry.0 entries × AreRising entries

  -- the entries by rising key, in whatever order they come
  abbrev pub by_key : List (ℕ × X) → List (ℕ × X)
  by_key [] = []
  by_key (entry ∷ entries) = with_entry (by_key entries) entry.0 entry.1

  -- no key is in two of the entries
  abbrev pub HasEachKeyOnce : List (ℕ × X) → Type 0
  HasEachKeyOnce entries = IsDistinct nat_eq (keys_of entries)
