-- Hands, their numbers, their locks and their stamps.
use Rattle.std.specs.Prelude.{◌≡◌, ◌⊎◌, ℕ, ◌+◌, ◌*◌, ◌/◌, ◌^◌, ◌<◌, ◌≤◌, ◌==◌, true, ◌&&◌, nat_le, List, [], ◌∷◌, length, count_by, slice_index_or, is_some, Option, Some, None, All}
use Rattle.mc_classes.specs.Limits.{most_hands}
use Rattle.mc_pages.specs.Accounted.{truth}
use Rattle.mc_core.specs.declared.holding.Holding.{Holding}
use Rattle.mc_core.specs.declared.ids.Ids.{Ids}
use Rattle.mc_core.specs.declared.look.Look.{Look}
use Rattle.mc_core.specs.past.Past.{Own, StoredItem, KnownItem, Past}
use Rattle.mc_core.specs.model.State.{no_ids, is_held_by}

-- the number of a hand, none where it is gone or was never there
abbrev pub number_in : List Ids → ℕ → Option ℕ
number_in ids hand = (slice_index_or ids hand no_ids).number

-- how many stamps a hand gave out, 0 where it is gone or was never there
abbrev pub stamps_given : List Ids → ℕ → ℕ
stamps_given ids hand = (slice_index_or ids hand no_ids).stamps

-- the lock is free, or one of the hands has it
abbrev pub IsFreeOrHeld : List Ids → ℕ → Type 0
IsFreeOrHeld ids word = (word ≡ 0) ⊎ ((hand : ℕ) × (is_held_by word (number_in ids hand) ≡ true))

-- hands: numbers within the limit, apart; each lock free or of one of them; a hand that is gone has nothing
pub record AreHands (ids : List Ids) (slabs_lock : ℕ) (locks : List ℕ) (holdings : List (List Holding)) (looks : List (List Look)) : Type 0 where
  pub count : (1 ≤ length ids) × (length ids ≤ most_hands)
  pub holding_rows : length holdings ≡ length ids
  pub look_rows : length looks ≡ length ids
  pub numbers : (hand number : ℕ) → number_in ids hand ≡ Some number → number < most_hands
  pub apart : (a b number : ℕ) → number_in ids a ≡ Some number → number_in ids b ≡ Some number → a ≡ b
  pub stamps : (hand : ℕ) → stamps_given ids hand < 2 ^ 48
  pub slabs : IsFreeOrHeld ids slabs_lock
  pub stripes : All (IsFreeOrHeld ids) locks
  pub nothing : (hand : ℕ) → number_in ids hand ≡ None → slice_index_or holdings hand [] ≡ []

-- rows: there is a row for each hand, and a live hand's row has a history of each stripe, perhaps an empty one
pub record HaveRows (ids : List Ids) (stripes : ℕ) (past : Past) : Type 0 where
  pub seen_words : length past.seen_words ≡ length ids
  pub holds : length past.holds ≡ length ids
  pub mine : length past.mine ≡ length ids
  pub seen : length past.seen ≡ length ids
  pub stored : length past.stored ≡ length ids
  pub known : length past.known ≡ length ids
  pub histories : (hand : ℕ) → is_some (number_in ids hand) ≡ true → length (slice_index_or past.seen hand []) ≡ stripes

-- how often the number is among those of one hand, those of hands that it took over counted in
abbrev pub count_in_hand : ℕ → List Own → ℕ
count_in_hand number row = count_by (λ (own : Own). own.number == number) row

-- how often the number is among those of all hands, those taken over counted in
abbrev pub count_in_hands : ℕ → List (List Own) → ℕ
count_in_hands number [] = 0
count_in_hands number (row ∷ rows) = count_in_hand number row + count_in_hands number rows

-- how often one hand stored words with the stamp
abbrev pub stored_times : ℕ → List StoredItem → ℕ
stored_times stamp row = count_by (λ (s : StoredItem). s.stamp == stamp) row

-- how often all hands together stored words with the stamp
abbrev pub stored_count : ℕ → List (List StoredItem) → ℕ
stored_count stamp [] = 0
stored_count stamp (row ∷ rows) = stored_times stamp row + stored_count stamp rows

-- of the stamps of a number, those with a count from 1 to n were stored, each once
abbrev pub AreCountedTo : ℕ → ℕ → List StoredItem → Type 0
AreCountedTo most number row = (count : ℕ) → count < 2 ^ 48 → stored_times (number * 2 ^ 48 + count) row ≡ truth (nat_le 1 count && nat_le count most)

-- numbers: each is one hand's, which got it or took its hand over. The stamps that a hand stored are of its numbers, and their counts have
-- no gap
pub record AreNumbered (ids : List Ids) (mine : List (List Own)) (said : List (List StoredItem)) (known : List (List KnownItem)) : Type 0 where
  pub apart : (number : ℕ) → count_in_hands number mine ≤ 1
  pub own : (hand number : ℕ) → number_in ids hand ≡ Some number → count_in_hand number (slice_index_or mine hand []) ≡ 1
  pub stamps : (hand number : ℕ) → number_in ids hand ≡ Some number → AreCountedTo (stamps_given ids hand) number (slice_index_or said hand [])
  pub gapless : (hand : ℕ) → All (λ (own : Own). (most : ℕ) × AreCountedTo most own.number (slice_index_or said hand [])) (slice_index_or mine hand [])
  pub of_own : (hand : ℕ) → All (λ (s : StoredItem). count_in_hand (s.stamp / 2 ^ 48) (slice_index_or mine hand []) ≡ 1) (slice_index_or said hand [])
  -- a hand that is gone has no number, and neither stored nor knows anything
  pub nothing : (hand : ℕ) → number_in ids hand ≡ None → (slice_index_or mine hand [] ≡ []) × (slice_index_or said hand [] ≡ []) × (slice_index_or known hand [] ≡ [])
