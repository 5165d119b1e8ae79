-- The entries of the ledger of which the newest are recorded, and what the others left of each page.
use Rattle.std.specs.Prelude.{ℕ, ◌==◌, Bool, false, not, if◌then◌else◌, List, [], ◌∷◌, map, drop, take, replicate, slice_index_or, slice_set, Option, Some, None}
use Rattle.std.specs.Option.{option_map_or}
use Rattle.mc_pages.specs.declared.ledger.Owner.{Owner}
use Rattle.mc_pages.specs.declared.ledger.Owner.TheVariants.{Untouched}
use Rattle.mc_pages.specs.declared.ledger.BasePage.{BasePage}
use Rattle.mc_pages.specs.declared.ledger.Entry.{Entry}
use Rattle.mc_pages.specs.declared.ledger.Entry.TheVariants.{Granted}
use Rattle.mc_pages.specs.Ledger.{owner_after, page_of}
use Rattle.mc_pages.specs.SlabState.{SlabState, is_untouched, page_count}

-- all entries of a ledger, how many of them aren't recorded any more, how many pages they are about, and the room to record more
pub record Entries : Type 0 where
  -- all entries that there were, the oldest first
  pub all : List Entry
  -- how many entries, the oldest, aren't recorded
  pub trimmed : ℕ
  pub pages : ℕ
  -- room to record n more entries
  pub room : ℕ

-- the entries that are recorded
abbrev pub recorded_entries : List Entry → ℕ → List Entry
recorded_entries all trimmed = drop trimmed all

-- a page that was never granted
abbrev pub never_granted : BasePage
never_granted = record { owner = Untouched; grace = None }

-- the class that got the page beyond the limit after the entry, if one did, by what was known before the entry
abbrev pub grace_after : Entry → Option ℕ → Option ℕ
grace_after (Granted page class grace) known = if grace then Some class else None
grace_after entry known = known

-- a page after an entry about it
abbrev pub page_after : Entry → BasePage → BasePage
page_after entry page = record { owner = owner_after entry; grace = grace_after entry page.grace }

-- the pages after an entry about one of them
abbrev pub left_by_one : List BasePage → Entry → List BasePage
left_by_one pages entry = slice_set pages (page_of entry) (page_after entry (slice_index_or pages (page_of entry) never_granted))

-- the pages after these entries
abbrev pub pages_after_entries : List BasePage → List Entry → List BasePage
pages_after_entries pages [] = pages
pages_after_entries pages (entry ∷ entries) = pages_after_entries (left_by_one pages entry) entries

-- the pages as the entries that aren't recorded left them
abbrev pub base_pages : SlabState → List BasePage
base_pages slabs = pages_after_entries (replicate (page_count slabs) never_granted) (take slabs.trimmed slabs.ledger)

-- the entries that are recorded
abbrev pub ledger_tail : SlabState → List Entry
ledger_tail slabs = recorded_entries slabs.ledger slabs.trimmed

-- who owns each of the pages
abbrev pub owners_in : List BasePage → List Owner
owners_in pages = map (λ page. page.owner) pages

-- the page was granted within the limit
abbrev pub is_within_limit : BasePage → Bool
is_within_limit page = option_map_or (λ class. false) page.grace (not (is_untouched page.owner))

-- the page was granted to the class beyond the limit
abbrev pub is_grace_of : ℕ → BasePage → Bool
is_grace_of class page = option_map_or (λ own. own == class) page.grace false

-- two pages that were never granted, for worked cases
abbrev pub two_pages : List BasePage
two_pages = never_granted ∷ never_granted ∷ []
