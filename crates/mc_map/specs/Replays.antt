-- What the first entries of a ledger make of untouched pages.
use Rattle.std.specs.Prelude.{ℕ, Bool, ◌&&◌, nat_lt, List, length, map, take, Option}
use Rattle.std.specs.List.{range_with_len}
use Rattle.mc_pages.specs.declared.ledger.Owner.{Owner}
use Rattle.mc_pages.specs.declared.ledger.Entry.{Entry}
use Rattle.mc_pages.specs.Ledger.{all_untouched, fits_owner, owner_at, page_of, replay}

-- the entry's page is among the owners, and the entry fits the page's owner
abbrev pub is_fitting : List Owner → Entry → Bool
is_fitting owners entry = nat_lt (page_of entry) (length owners) && fits_owner entry (owner_at owners (page_of entry))

-- the owners after no entry, after the first one, and so on, n times
abbrev pub replayed_owners : ℕ → List Entry → ℕ → List (Option (List Owner))
replayed_owners pages entries count = map (λ k. replay (all_untouched pages) (take k entries)) (range_with_len 0 count)
