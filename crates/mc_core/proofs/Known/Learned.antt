-- What hands know after a change or a step: as many rows, and whose numbers they are.
use Rattle.std.proofs.Common.{◌≡◌, ℕ, zero, suc, ◌+◌, ◌==◌, Bool, true, false, cond, List, [], ◌∷◌, map, Option, Some, None, refl, sym, ap, ap₂, drop, ◌∙◌, slice_set, slice_index_or, count_by}
use Rattle.std.proofs.lemmas.List.Sums.{sum_by-cons}
use Rattle.mc_pages.specs.Accounted.{truth}
use Rattle.mc_core.specs.declared.event.Step.{Step}
use Rattle.mc_core.specs.declared.event.Step.TheVariants as step
use Rattle.mc_core.specs.model.State.{State, number_at}
use Rattle.mc_core.specs.past.Past.{Past, Own, past_after_step, learned_alone, own_after, calls_with_new, with_calls}
use Rattle.mc_core.specs.law.Identities.{count_in_hand, count_in_hands}
use Rattle.mc_core.proofs.Hands.MoreRows.{row_of}

abbrev pub is_join : Step → Bool
is_join (step.Join kept spent) = true
is_join other = false

-- but for a join, the stepping hand alone learns
pub learned_is : (before now : State) (past : Past) (hand : ℕ) (step : Step) → is_join step ≡ false → past_after_step before now past hand step ≡ learned_alone before now past hand step
learned_is before now past hand step.TakeSlabs h = refl
learned_is before now past hand (step.TakeStripe stripe) h = refl
learned_is before now past hand step.MissSlabs h = refl
learned_is before now past hand (step.MissStripe stripe) h = refl
learned_is before now past hand step.GiveSlabs h = refl
learned_is before now past hand (step.GiveStripe stripe) h = refl
learned_is before now past hand (step.Head chunk) h = refl
learned_is before now past hand (step.Pop class) h = refl
learned_is before now past hand (step.PopOff old) h = refl
learned_is before now past hand (step.Fill chunk place word) h = refl
learned_is before now past hand (step.Word chunk place) h = refl
learned_is before now past hand (step.WordHeld chunk place) h = refl
learned_is before now past hand (step.Link chunk) h = refl
learned_is before now past hand (step.Refer key) h = refl
learned_is before now past hand (step.Unlink key) h = refl
learned_is before now past hand (step.Release chunk) h = refl
learned_is before now past hand (step.Discard chunk) h = refl
learned_is before now past hand (step.Condemn chunk) h = refl
learned_is before now past hand (step.PutBack chunk) h = refl
learned_is before now past hand (step.Clear chunk) h = refl
learned_is before now past hand (step.Cut page index) h = refl
learned_is before now past hand (step.Again chunk issue) h = refl
learned_is before now past hand (step.Join kept spent) h = absurd (cc)

-- the numbers of a row of calls
abbrev pub numbers_of : List Own → List ℕ
numbers_of row = map (λ (own : Own). own.number) row

owns_is : (number : ℕ) (row : List Own) → count_in_hand number row ≡ count_by (λ n. n == number) (numbers_of row)
owns_is number [] = refl
owns_is number (own ∷ row) =
    sum_by-cons (λ (o : Own). truth (o.number == number)) own row
    ∙ (ap (λ n. truth (own.number == number) + n) (owns_is number row) ∙ sym (sum_by-cons (λ (n : ℕ). truth (n == number)) own.number (numbers_of row)))

-- rows of the same numbers
abbrev pub SameNumbers : List (List Own) → List (List Own) → Type 0
SameNumbers before now = map numbers_of now ≡ map numbers_of before

number_stays : (before now : State) (number : Option ℕ) (own : Own) → (own_after before now number own).number ≡ own.number
number_stays before now None own = refl
number_stays before now (Some number) own =
    elim (own.number == number) as (λ b. (cond b (record own { calls = calls_with_new before now 0 own.calls }) own).number ≡ own.number) [ true ↦ refl | false ↦ refl ]

row_stays : (before now : State) (number : Option ℕ) (row : List Own) → numbers_of (map (own_after before now number) row) ≡ numbers_of row
row_stays before now number [] = refl
row_stays before now number (own ∷ row) = ap₂ (λ (n : ℕ) (ns : List ℕ). n ∷ ns) (number_stays before now number own) (row_stays before now number row)

write_stays : (rows : List (List Own)) (hand : ℕ) (row : List Own) → numbers_of row ≡ numbers_of (slice_index_or rows hand []) → SameNumbers rows (slice_set rows hand row)
write_stays [] hand row e = refl
write_stays (x ∷ rows) zero row e = ap (λ (ns : List ℕ). ns ∷ map numbers_of rows) e
write_stays (x ∷ rows) (suc hand) row e = ap (λ (rest : List (List ℕ)). numbers_of x ∷ rest) (write_stays rows hand row e)

-- calls come in, numbers stay
pub same_numbers : (before now : State) (past : Past) (hand : ℕ) → SameNumbers past.mine (with_calls before now past hand).mine
same_numbers before now past hand =
    write_stays past.mine hand (map (own_after before now (number_at before hand)) (slice_index_or past.mine hand [])) (row_stays before now (number_at before hand) (slice_index_or past.mine hand []))

pub same_row : (before now : List (List Own)) (hand : ℕ) → SameNumbers before now → numbers_of (row_of now hand) ≡ numbers_of (row_of before hand)
same_row [] [] hand e = refl
same_row [] (y ∷ now) hand e = absurd (cc)
same_row (x ∷ before) [] hand e = absurd (cc)
same_row (x ∷ before) (y ∷ now) zero e = ap (λ (rows : List (List ℕ)). slice_index_or rows 0 []) e
same_row (x ∷ before) (y ∷ now) (suc hand) e = same_row before now hand (ap (drop 1) e)

pub owns_same : (before now : List (List Own)) (hand number : ℕ) → SameNumbers before now → count_in_hand number (row_of now hand) ≡ count_in_hand number (row_of before hand)
owns_same before now hand number e =
    owns_is number (row_of now hand) ∙ (ap (count_by (λ n. n == number)) (same_row before now hand e) ∙ sym (owns_is number (row_of before hand)))

pub owners_same : (before now : List (List Own)) (number : ℕ) → SameNumbers before now → count_in_hands number now ≡ count_in_hands number before
owners_same [] [] number e = refl
owners_same [] (y ∷ now) number e = absurd (cc)
owners_same (x ∷ before) [] number e = absurd (cc)
owners_same (x ∷ before) (y ∷ now) number e =
    ap₂ (λ a b. a + b) (owns_same (x ∷ before) (y ∷ now) 0 number e) (owners_same before now number (ap (drop 1) e))
