-- The table of a stripe, as the stripe sees it.
use Rattle.std.specs.Prelude.{ℕ, Option}
use Rattle.std.specs.Option.{option_map}
use Rattle.mc_pages.specs.declared.ids.ChunkId.{ChunkId}
use Rattle.mc_stripe.specs.StripeState.{Index}

-- an index that lacks the key aside, the entry aside, and the room of the table for more keys
pub record PlaceTable : Type 0 where
  pub index : Index
  -- an entry that was lifted out of the index, until its key comes back
  pub aside : Option (ℕ × (ChunkId × ℕ))
  -- room for n more keys
  pub room : ℕ

-- the key of the entry aside
abbrev pub aside_key : PlaceTable → Option ℕ
aside_key table = option_map (λ entry. entry.0) table.aside
