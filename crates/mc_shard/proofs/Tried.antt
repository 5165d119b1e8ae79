-- A store that was tried behind a look.
use Rattle.std.proofs.Common.{◌≡◌, ℕ, List, Result, Ok, Err, IfOk, IfErr, OnErr, subst}
use Rattle.mc_words.specs.declared.hand.Hand.{Hand}
use Rattle.mc_words.specs.hand.Arenas.{view}
use Rattle.mc_words.specs.item.Items.{item_with}
use Rattle.mc_packing.specs.Packing.{packed_item}
use Rattle.mc_items.specs.Keeping.{StoresNothing, StoresWithStamp}
use Rattle.mc_items.specs.declared.within.comparing.CompareWithinError.{CompareWithinError}
use Rattle.mc_items.specs.declared.comparing.CompareError.{CompareError}
use Rattle.mc_items.specs.declared.comparing.Expected.{Expected}
use Rattle.mc_shard.specs.Setting.{RecordsEvictionsAlone, RecordsSetBehindRoom, RefusesCompareBytes, SetsBehindRoom}
use Rattle.mc_shard.specs.Within.{RefusesCompareBytesWithin}
use Rattle.mc_shard.specs.Conditions.{StoresExpected, StoresNoItem, TriesStore, TriesStoreWithin}

-- a store was tried behind a look, by the hand of this number
module _ (number own hash : ℕ) (same : own ≡ number) (key value : List ℕ) (before now : Hand) where
  nothing_stored : RecordsEvictionsAlone own before now → StoresNothing (view before) (view now) → StoresNoItem number before now
  nothing_stored evicts none = record { evicts = subst (λ (n : ℕ). RecordsEvictionsAlone n before now) same evicts; stores_nothing = none }

  was_stored : (expected : Expected) (stamp : ℕ) → SetsBehindRoom expected own hash stamp (packed_item key value) before now → StoresWithStamp (item_with hash stamp (packed_item key value)) stamp (view before) (view now) → RecordsSetBehindRoom own hash stamp before now
      → StoresExpected expected number hash stamp key value before now
  was_stored expected stamp sets words calls = record {
    stores_words = words;
    sets = subst (λ (n : ℕ). SetsBehindRoom expected n hash stamp (packed_item key value) before now) same sets;
    calls = subst (λ (n : ℕ). RecordsSetBehindRoom n hash stamp before now) same calls;
  }

  pub tried : (expected : Expected) (stored : Result ℕ CompareError) → IfOk stored (λ stamp. SetsBehindRoom expected own hash stamp (packed_item key value) before now) → IfOk stored (λ stamp. StoresWithStamp (item_with hash stamp (packed_item key value)) stamp (view before) (view now))
      → IfOk stored (λ stamp. RecordsSetBehindRoom own hash stamp before now) → IfErr stored (λ error. RefusesCompareBytes expected own hash (packed_item key value) error before now) → OnErr stored (RecordsEvictionsAlone own before now) → OnErr stored (StoresNothing (view before) (view now))
      → TriesStore expected number hash key value stored before now
  tried expected (Ok stamp) sets words calls refused evicts none = was_stored expected stamp sets words calls
  tried expected (Err error) sets words calls refused evicts none =
      (subst (λ (n : ℕ). RefusesCompareBytes expected n hash (packed_item key value) error before now) same refused, nothing_stored evicts none)

  pub tried_within : (tries : ℕ) (expected : Expected) (stored : Result ℕ CompareWithinError) → IfOk stored (λ stamp. SetsBehindRoom expected own hash stamp (packed_item key value) before now) → IfOk stored (λ stamp. StoresWithStamp (item_with hash stamp (packed_item key value)) stamp (view before) (view now))
      → IfOk stored (λ stamp. RecordsSetBehindRoom own hash stamp before now) → IfErr stored (λ error. RefusesCompareBytesWithin expected own tries hash (packed_item key value) error before now) → OnErr stored (RecordsEvictionsAlone own before now) → OnErr stored (StoresNothing (view before) (view now))
      → TriesStoreWithin tries expected number hash key value stored before now
  tried_within tries expected (Ok stamp) sets words calls refused evicts none = was_stored expected stamp sets words calls
  tried_within tries expected (Err error) sets words calls refused evicts none =
      (subst (λ (n : ℕ). RefusesCompareBytesWithin expected n tries hash (packed_item key value) error before now) same refused, nothing_stored evicts none)
