-- Who owns each page, how the ledger's entries made it so, and which pages were granted beyond the limit.
use Rattle.std.specs.Prelude.{◌≡◌, ℕ, ◌≤◌, ◌==◌, Bool, true, false, not, ◌&&◌, if◌then◌else◌, nat_lt, List, [], ◌∷◌, length, replicate, count_by, slice_index_or, slice_set, Option, Some, None}
use Rattle.mc_pages.specs.declared.ledger.Owner.{Owner}
use Rattle.mc_pages.specs.declared.ledger.Owner.TheVariants.{Untouched, Pool, Class, Moving}
use Rattle.mc_pages.specs.declared.ledger.Entry.{Entry}
use Rattle.mc_pages.specs.declared.ledger.Entry.TheVariants.{Granted, Taken, Began, Ended}

-- no page was granted yet
abbrev pub all_untouched : ℕ → List Owner
all_untouched pages = replicate pages Untouched

-- the owner of a page
abbrev pub owner_at : List Owner → ℕ → Owner
owner_at owners page = slice_index_or owners page Untouched

-- the page that an entry is about
abbrev pub page_of : Entry → ℕ
page_of (Granted page class grace) = page
page_of (Taken page class) = page
page_of (Began page src dst) = page
page_of (Ended page dst) = page

-- an entry fits the owner that it finds
abbrev pub fits_owner : Entry → Owner → Bool
fits_owner (Granted page class grace) Untouched = true
fits_owner (Taken page class) Pool = true
fits_owner (Began page src dst) (Class class) = class == src
fits_owner (Ended page dst) (Moving src to) = to == dst
fits_owner entry owner = false

-- the owner that an entry leaves
abbrev pub owner_after : Entry → Owner
owner_after (Granted page class grace) = Class class
owner_after (Taken page class) = Class class
owner_after (Began page src dst) = Moving src dst
owner_after (Ended page dst) = if dst == 0 then Pool else Class dst

-- the owners after these entries, or none where an entry finds its page otherwise
abbrev pub replay : List Owner → List Entry → Option (List Owner)
replay owners [] = Some owners
replay owners (entry ∷ ledger) =
    if nat_lt (page_of entry) (length owners) && fits_owner entry (owner_at owners (page_of entry))
    then replay (slice_set owners (page_of entry) (owner_after entry)) ledger
    else None

-- a page was granted within the limit
abbrev pub is_ordinary : Entry → Bool
is_ordinary (Granted page class grace) = not grace
is_ordinary entry = false

-- a page was granted to the class beyond the limit
abbrev pub is_grace : ℕ → Entry → Bool
is_grace class (Granted page own grace) = grace && own == class
is_grace class entry = false

-- how many pages were granted within the limit
abbrev pub ordinary_count : List Entry → ℕ
ordinary_count ledger = count_by is_ordinary ledger

-- how many pages the class got beyond the limit
abbrev pub grace_count : List Entry → ℕ → ℕ
grace_count ledger class = count_by (is_grace class) ledger

-- a class gets one page at most beyond the limit, and always has a page of its own from then on, which isn't moving
pub record KeepsGrace (owners : List Owner) (ledger : List Entry) : Type 0 where
  pub once : (class : ℕ) → grace_count ledger class ≤ 1
  pub stays : (class : ℕ) → 1 ≤ grace_count ledger class → (page : ℕ) × (owner_at owners page ≡ Class class)
