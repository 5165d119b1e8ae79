-- What a set on a condition stored took the place of.
use Rattle.std.proofs.Common.{◌≡◌, ◌⊎◌, ◌==◌, ℕ, Bool, true, false, List, None, Some, Result, Ok, Err, if◌then◌else◌, eqb-true, ap, inl, inr, refl, subst}
use Rattle.mc_words.specs.declared.hand.Hand.{Hand}
use Rattle.mc_words.specs.hand.Observers.{hand_number}
use Rattle.mc_words.specs.hand.View.{Setup}
use Rattle.mc_words.specs.declared.arena.Arena.{Arena}
use Rattle.mc_words.specs.hand.Arenas.{setup_of}
use Rattle.mc_items.specs.declared.setting.SetError as items
use Rattle.mc_items.specs.declared.comparing.CompareError.{CompareError}
use Rattle.mc_items.specs.declared.comparing.CompareError.TheVariants as compare
use Rattle.mc_items.specs.declared.comparing.Expected.{Expected}
use Rattle.mc_items.specs.declared.comparing.Expected.TheVariants as expected
use Rattle.mc_shard.specs.declared.conditions.Outcome.{Outcome}
use Rattle.mc_shard.specs.declared.conditions.Outcome.TheVariants.{Stored, Exists}
use Rattle.mc_cache.specs.declared.working.SetError.{SetError}
use Rattle.mc_shard.specs.declared.conditions.When.{When}
use Rattle.mc_shard.specs.declared.conditions.When.TheVariants.{Absent, Present, Version}
use Rattle.mc_shard.specs.declared.looking.Seen.{Seen}
use Rattle.mc_shard.specs.declared.looking.Seen.TheVariants.{Nothing, OtherKey, Key}
use Rattle.mc_cache.specs.Conditional.{AddsFindNone, ReplacesFindOne, SetsValueIf, StoresBehindLook, VersionsAreReplaced, of_item}
use Rattle.mc_shard.specs.Conditions.{DoesBehindLook, FindsOtherStamp, FindsVersion, Sees, SetsBehindLook, SetsIf, StoresExpected, TriesStore, expected_by, outcome_of}
use Rattle.mc_shard.specs.Finding.{FindsKey, FindsWords}

-- a store whose set returned that it stored did so
stored_so : (expected : Expected) (number hash stamp : ℕ) (key value : List ℕ) (between now : Hand) (stored : Result ℕ CompareError) → Ok (Stored stamp) ≡ outcome_of stored → TriesStore expected number hash key value stored between now → StoresExpected expected number hash stamp key value between now
stored_so expected number hash stamp key value between now (Ok other) is tries =
    let same : other ≡ stamp = cc in subst (λ (s : ℕ). StoresExpected expected number hash s key value between now) same tries
stored_so expected number hash stamp key value between now (Err (compare.Refused error)) is tries = absurd (cc)
stored_so expected number hash stamp key value between now (Err (compare.Differs (Some found))) is tries = absurd (cc)
stored_so expected number hash stamp key value between now (Err (compare.Differs None)) is tries = absurd (cc)

module _ (setup : Setup) (hash : ℕ) (key value : List ℕ) (stamp : ℕ) (before between now : Hand) where
  abbrev Does : Result Expected Outcome → Type 0
  Does choice = DoesBehindLook choice (hand_number before) hash key value (Ok (Stored stamp)) between now

  stores : (expected : Expected) → Does (Ok expected) → StoresBehindLook expected hash stamp key value before now
  stores expected does = (between, stored_so expected (hand_number before) hash stamp key value between now does.0 does.1 does.2)

  -- where a version is seen
  at_version : (version seen : ℕ) (b : Bool) → (seen == version) ≡ b → ((old : List ℕ) × FindsVersion setup hash key old seen before) → Does (if b then Ok (expected.Item version) else Err Exists)
      → ((old : List ℕ) × FindsVersion setup hash key old version before) × StoresBehindLook (expected.Item version) hash stamp key value before now
  at_version version seen true is finds does = (subst (λ (s : ℕ). (old : List ℕ) × FindsVersion setup hash key old s before) (eqb-true seen version is) finds, stores (expected.Item version) does)
  at_version version seen false is finds does = let wrong = does.0 in absurd (cc)

  version_of : (version : ℕ) (seen : Seen) → Sees setup hash key seen before → Does (expected_by (Version version) seen)
      → ((old : List ℕ) × FindsVersion setup hash key old version before) × StoresBehindLook (expected.Item version) hash stamp key value before now
  version_of version Nothing sees does = let wrong = does.0 in absurd (cc)
  version_of version (OtherKey other) sees does = let wrong = does.0 in absurd (cc)
  version_of version (Key seen) sees does = at_version version seen (seen == version) refl sees does

  none_of : (seen : Seen) → Sees setup hash key seen before → Does (expected_by Absent seen)
      → (FindsWords setup hash before None × StoresBehindLook expected.Nothing hash stamp key value before now)
      ⊎ ((other : ℕ) × FindsOtherStamp setup hash key other before × StoresBehindLook (expected.Item other) hash stamp key value before now)
  none_of Nothing sees does = inl (sees, stores expected.Nothing does)
  none_of (OtherKey other) sees does = inr (other, sees, stores (expected.Item other) does)
  none_of (Key seen) sees does = let wrong = does.0 in absurd (cc)

  one_of : (seen : Seen) → Sees setup hash key seen before → Does (expected_by Present seen)
      → FindsKey setup hash key before × StoresBehindLook expected.Something hash stamp key value before now
  one_of Nothing sees does = let wrong = does.0 in absurd (cc)
  one_of (OtherKey other) sees does = let wrong = does.0 in absurd (cc)
  one_of (Key seen) sees does = ((sees.0, sees.1.0), stores expected.Something does)

-- a set whose result is that it stored returned so on its shard
returned_stored : (stamp : ℕ) (returned : Result Outcome items.SetError) → ◌≡◌ {A = Result Outcome SetError} (Ok (Stored stamp)) (of_item returned) → returned ≡ Ok (Stored stamp)
returned_stored stamp (Ok outcome) is = let same : outcome ≡ Stored stamp = cc in ap Ok same
returned_stored stamp (Err error) is = absurd (cc)

module _ (arena : Arena) (hash : ℕ) (key value : List ℕ) (stamp : ℕ) (before now : Hand) where
  -- it looked, and then did this
  behind : (when : When) → SetsValueIf hash key value when (Ok (Stored stamp)) arena before now → SetsBehindLook (setup_of arena) hash key value when (Ok (Stored stamp)) before now
  behind when sets = looked (subst (λ (r : Result Outcome items.SetError). SetsIf (setup_of arena) hash key value when r before now) (returned_stored stamp sets.returned sets.result_is) sets.sets)
    where
      looked : SetsIf (setup_of arena) hash key value when (Ok (Stored stamp)) before now → SetsBehindLook (setup_of arena) hash key value when (Ok (Stored stamp)) before now
      looked (inl found) = found
      looked (inr refused) = let wrong = refused.0 in absurd (cc)

pub versions_are_replaced : VersionsAreReplaced
versions_are_replaced arena hash key value version stamp before now sets =
    let found = behind arena hash key value stamp before now (Version version) sets in
    version_of (setup_of arena) hash key value stamp before found.between now version found.seen found.sees found.does

pub adds_find_none : AddsFindNone
adds_find_none arena hash key value stamp before now sets =
    let found = behind arena hash key value stamp before now Absent sets in
    none_of (setup_of arena) hash key value stamp before found.between now found.seen found.sees found.does

pub replaces_find_one : ReplacesFindOne
replaces_find_one arena hash key value stamp before now sets =
    let found = behind arena hash key value stamp before now Present sets in
    one_of (setup_of arena) hash key value stamp before found.between now found.seen found.sees found.does
