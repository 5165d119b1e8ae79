-- Counts of calls, and what becomes of them behind a call.
use Rattle.std.specs.Prelude.{◌≡◌, ◌≤◌, ℕ, ◌+◌, ◌-◌, ◌^◌, Bool, true, false, List, Option, None, Some, Result, Ok, Err, if◌then◌else◌, min, nat_lt}
use Rattle.std.specs.List.{fold, sum_by}
use Rattle.mc_items.specs.declared.setting.SetError.TheVariants as item_error
use Rattle.mc_shard.specs.declared.conditions.Outcome.{Outcome}
use Rattle.mc_shard.specs.declared.conditions.Outcome.TheVariants.{Stored, Exists, Missing}
use Rattle.mc_cache.specs.declared.working.CallError.{CallError}
use Rattle.mc_cache.specs.declared.working.SetError.{SetError}
use Rattle.mc_cache.specs.declared.working.SetError.TheVariants as set_error
use Rattle.mc_stats.specs.declared.counts.Counts.{Counts}

-- the counts before any call
abbrev pub no_calls : Counts
no_calls = record {
  get_hits = 0;
  get_misses = 0;
  sets_stored = 0;
  sets_unmet = 0;
  store_too_large = 0;
  store_no_memory = 0;
  delete_hits = 0;
  delete_misses = 0;
  touch_hits = 0;
  touch_misses = 0;
}

-- one call more, until there are 2^64 - 1
abbrev pub one_call_more : ℕ → ℕ
one_call_more count = if nat_lt count (2 ^ 64 - 1) then count + 1 else count

-- the counts behind a get, a peek or a look whether the key has a value, with this result: a hit where it has one
abbrev pub counts_after_get : Result Bool CallError → Counts → Counts
counts_after_get (Ok true) counts = record counts { get_hits = one_call_more counts.get_hits }
counts_after_get (Ok false) counts = record counts { get_misses = one_call_more counts.get_misses }
counts_after_get (Err _) counts = counts

-- the counts behind a get that returns the version of the value, with this result
abbrev pub counts_after_versioned_get : Result (Option ℕ) CallError → Counts → Counts
counts_after_versioned_get (Ok (Some _)) counts = record counts { get_hits = one_call_more counts.get_hits }
counts_after_versioned_get (Ok None) counts = record counts { get_misses = one_call_more counts.get_misses }
counts_after_versioned_get (Err _) counts = counts

-- the counts behind a set that was refused: the item was too large, or there was no memory for it; a key of no byte or too many isn't counted
abbrev pub counts_after_refusal : SetError → Counts → Counts
counts_after_refusal set_error.KeyLength counts = counts
counts_after_refusal (set_error.Item item_error.TooLarge) counts = record counts { store_too_large = one_call_more counts.store_too_large }
counts_after_refusal (set_error.Item _) counts = record counts { store_no_memory = one_call_more counts.store_no_memory }

-- the counts behind a set with this result
abbrev pub counts_after_set : Result (Unit {0}) SetError → Counts → Counts
counts_after_set (Ok _) counts = record counts { sets_stored = one_call_more counts.sets_stored }
counts_after_set (Err error) counts = counts_after_refusal error counts

-- the counts behind a set on a condition with this result: it stored, or found that the condition isn't met
abbrev pub counts_after_set_if : Result Outcome SetError → Counts → Counts
counts_after_set_if (Ok (Stored _)) counts = record counts { sets_stored = one_call_more counts.sets_stored }
counts_after_set_if (Ok Exists) counts = record counts { sets_unmet = one_call_more counts.sets_unmet }
counts_after_set_if (Ok Missing) counts = record counts { sets_unmet = one_call_more counts.sets_unmet }
counts_after_set_if (Err error) counts = counts_after_refusal error counts

-- the counts behind a delete with this result
abbrev pub counts_after_delete : Result Bool CallError → Counts → Counts
counts_after_delete (Ok true) counts = record counts { delete_hits = one_call_more counts.delete_hits }
counts_after_delete (Ok false) counts = record counts { delete_misses = one_call_more counts.delete_misses }
counts_after_delete (Err _) counts = counts

-- the counts behind a touch with this result
abbrev pub counts_after_touch : Result Bool CallError → Counts → Counts
counts_after_touch (Ok true) counts = record counts { touch_hits = one_call_more counts.touch_hits }
counts_after_touch (Ok false) counts = record counts { touch_misses = one_call_more counts.touch_misses }
counts_after_touch (Err _) counts = counts

-- the sum of two numbers of calls, which stays at 2^64 - 1 once there
abbrev pub call_sum : ℕ → ℕ → ℕ
call_sum a b = min (a + b) (2 ^ 64 - 1)

-- the sum of two counts, number by number
abbrev pub counts_sum : Counts → Counts → Counts
counts_sum a b = record {
  get_hits = call_sum a.get_hits b.get_hits;
  get_misses = call_sum a.get_misses b.get_misses;
  sets_stored = call_sum a.sets_stored b.sets_stored;
  sets_unmet = call_sum a.sets_unmet b.sets_unmet;
  store_too_large = call_sum a.store_too_large b.store_too_large;
  store_no_memory = call_sum a.store_no_memory b.store_no_memory;
  delete_hits = call_sum a.delete_hits b.delete_hits;
  delete_misses = call_sum a.delete_misses b.delete_misses;
  touch_hits = call_sum a.touch_hits b.touch_hits;
  touch_misses = call_sum a.touch_misses b.touch_misses;
}

-- the sum of some counts, the first first
abbrev pub sum_of_counts : List Counts → Counts
sum_of_counts all = fold counts_sum no_calls all

-- the sum of a number over some counts, or 2^64 - 1
abbrev pub sum_of_number : (Counts → ℕ) → List Counts → ℕ
sum_of_number number all = min (sum_by number all) (2 ^ 64 - 1)

-- each number of the counts is the sum of that number over all of these
pub record HasEachSum (all : List Counts) (counts : Counts) : Type 0 where
  pub get_hits : counts.get_hits ≡ sum_of_number (λ c. c.get_hits) all
  pub get_misses : counts.get_misses ≡ sum_of_number (λ c. c.get_misses) all
  pub sets_stored : counts.sets_stored ≡ sum_of_number (λ c. c.sets_stored) all
  pub sets_unmet : counts.sets_unmet ≡ sum_of_number (λ c. c.sets_unmet) all
  pub store_too_large : counts.store_too_large ≡ sum_of_number (λ c. c.store_too_large) all
  pub store_no_memory : counts.store_no_memory ≡ sum_of_number (λ c. c.store_no_memory) all
  pub delete_hits : counts.delete_hits ≡ sum_of_number (λ c. c.delete_hits) all
  pub delete_misses : counts.delete_misses ≡ sum_of_number (λ c. c.delete_misses) all
  pub touch_hits : counts.touch_hits ≡ sum_of_number (λ c. c.touch_hits) all
  pub touch_misses : counts.touch_misses ≡ sum_of_number (λ c. c.touch_misses) all

-- no number of the counts is less than it was
pub record NoCountIsLess (before now : Counts) : Type 0 where
  pub get_hits : before.get_hits ≤ now.get_hits
  pub get_misses : before.get_misses ≤ now.get_misses
  pub sets_stored : before.sets_stored ≤ now.sets_stored
  pub sets_unmet : before.sets_unmet ≤ now.sets_unmet
  pub store_too_large : before.store_too_large ≤ now.store_too_large
  pub store_no_memory : before.store_no_memory ≤ now.store_no_memory
  pub delete_hits : before.delete_hits ≤ now.delete_hits
  pub delete_misses : before.delete_misses ≤ now.delete_misses
  pub touch_hits : before.touch_hits ≤ now.touch_hits
  pub touch_misses : before.touch_misses ≤ now.touch_misses
