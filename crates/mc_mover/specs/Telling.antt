-- What a turn records: an eviction or a rescue for each item that was saved, and no other call.
use Rattle.std.specs.Prelude.{◌≡◌, ℕ, ◌+◌, ◌%◌, ◌<◌, Bool, true, false, not, ◌||◌, List, [], ◌∷◌, length, map, count_by, All}
use Rattle.std.specs.List.{sum_by}
use Rattle.mc_pages.specs.declared.moves.Found.{Found}
use Rattle.mc_stripe.specs.declared.history.Call.{Call}
use Rattle.mc_stripe.specs.declared.history.Call.TheVariants.{Set, Get, Delete, Evict, Rescue}
use Rattle.mc_core.specs.past.Past.{Own}
use Rattle.mc_words.specs.hand.View.{View}
use Rattle.mc_words.specs.item.Calls.{with_own_call}
use Rattle.mc_mover.specs.declared.counts.Counts.{Counts}
use Rattle.mc_mover.specs.declared.counts.Turn.{Turn}
use Rattle.mc_mover.specs.declared.counts.Turn.TheVariants.{Idle, Went, Finished}
use Rattle.mc_mover.specs.Turning.{counts_with_all, no_counts}

-- the call evicted a key's item
abbrev pub is_eviction : Call → Bool
is_eviction (Evict hand key) = true
is_eviction other = false

-- the call took a key's item to another chunk
abbrev pub is_rescue : Call → Bool
is_rescue (Rescue hand key) = true
is_rescue other = false

-- the call neither evicted a key's item nor took it to another chunk
abbrev pub is_other : Call → Bool
is_other call = not (is_eviction call || is_rescue call)

-- an eviction or a rescue, by the hand of this number
abbrev pub IsSaving : ℕ → Call → Type 0
IsSaving number (Evict hand key) = hand ≡ number
IsSaving number (Rescue hand key) = hand ≡ number
IsSaving number other = ⊥

-- the key of a call
abbrev pub called_key : Call → ℕ
called_key (Set hand key stamp) = key
called_key (Get hand key found) = key
called_key (Delete hand key was_there) = key
called_key (Evict hand key) = key
called_key (Rescue hand key) = key

-- the number's own calls, with these calls one after another, each behind those of its key's stripe
abbrev pub with_own_calls : ℕ → ℕ → List Call → List Own → List Own
with_own_calls number stripes [] mine = mine
with_own_calls number stripes (call ∷ calls) mine = with_own_calls number stripes calls (map (with_own_call number (called_key call % stripes) call) mine)

-- how many of a hand's own calls pass the test
abbrev pub count_of_calls : (Call → Bool) → View → ℕ
count_of_calls is view = sum_by (λ (own : Own). sum_by (count_by is) own.calls) view.row.knows.mine

-- the hand's own calls got as many evictions and rescues as counted, and no other; the hand stored no words, and gave out no stamp
pub record RecordsAsCounted (number : ℕ) (counts : Counts) (view now : View) : Type 0 where
  pub calls : List Call
  pub own : All (IsSaving number) calls
  pub evicted : count_by is_eviction calls ≡ counts.evicted
  pub rescued : count_by is_rescue calls ≡ counts.rescued
  -- the hand's own calls got just these calls
  pub come : now.row.knows.mine ≡ with_own_calls number view.setup.config.stripes calls view.row.knows.mine
  -- the hand's own calls of each kind grew by those of that kind that came
  pub more : (is : Call → Bool) → count_of_calls is now ≡ count_of_calls is view + count_by is calls
  pub stored : now.row.knows.stored ≡ view.row.knows.stored
  pub ids : now.row.ids ≡ view.row.ids

-- the hand's own calls have as many more evictions and rescues as counted, and as many others as before
abbrev pub CallsAreCounted : Type 0
CallsAreCounted = (number : ℕ) (counts : Counts) (view now : View) → RecordsAsCounted number counts view now →
    (count_of_calls is_eviction now ≡ count_of_calls is_eviction view + counts.evicted)
    × (count_of_calls is_rescue now ≡ count_of_calls is_rescue view + counts.rescued)
    × (count_of_calls is_other now ≡ count_of_calls is_other view)

-- a number's own calls on keys of two stripes
abbrev pub own_of : ℕ → List Call → List Call → Own
own_of number even odd = record { number = number; calls = even ∷ odd ∷ [] }

-- a worked case of a hand of number 7 that took number 5 over: each call comes behind those on keys of the same stripe, under its own
-- number
abbrev pub OwnCallsComeApart : Type 0
OwnCallsComeApart =
    with_own_calls 7 2 (Evict 7 4 ∷ Rescue 7 9 ∷ Evict 7 2 ∷ []) (own_of 5 [] (Evict 5 3 ∷ []) ∷ own_of 7 (Set 7 4 1 ∷ []) [] ∷ []) ≡
    own_of 5 [] (Evict 5 3 ∷ []) ∷ own_of 7 (Set 7 4 1 ∷ Evict 7 4 ∷ Evict 7 2 ∷ []) (Rescue 7 9 ∷ []) ∷ []

-- what a turn counted
abbrev pub counts_in : Turn → Counts
counts_in Idle = no_counts
counts_in (Went counts) = counts
counts_in (Finished counts) = counts

-- a turn that stopped early added what it found to the hand's own calls, in fewer sections than a turn has
abbrev pub RecordsFewer : ℕ → View → View → Type 0
RecordsFewer number view now = (found : List Found) × (length found < view.setup.config.bulk) × RecordsAsCounted number (counts_with_all found no_counts) view now
