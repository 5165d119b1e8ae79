-- Histories of which the first calls aren't recorded.
use Rattle.std.proofs.Common.{◌≡◌, ◌≤◌, ℕ, zero, suc, Bool, List, [], ◌∷◌, ◌++◌, length, take, drop, filter, Option, Some, refl, sym, ap, ◌∙◌, arith, inl, inr}
use Rattle.std.specs.Option.{option_map_or}
use Rattle.std.proofs.lemmas.Bool.{cases_Bool}
use Rattle.std.proofs.lemmas.List.{take-append-drop}
use Rattle.mc_stripe.specs.declared.history.Call.{Call}
use Rattle.mc_stripe.specs.History.{Stamps, is_reply_right, stamps_after, stamps_after_calls}
use Rattle.mc_stripe.proofs.Histories.{None≢Some}

-- the stamps, or none where there are none
abbrev stamps_or_none : Option Stamps → Stamps
stamps_or_none found = option_map_or (λ stamps. stamps) found []

-- a replay of two parts goes on from the first
pub replay-parts : (start stamps : Stamps) (first last : List Call) → stamps_after_calls start (first ++ last) ≡ Some stamps → stamps_after_calls (stamps_or_none (stamps_after_calls start first)) last ≡ Some stamps
replay-parts start stamps [] last h = h
replay-parts start stamps (call ∷ first) last h =
    elim (cases_Bool (is_reply_right call start)) [
      | inl right ↦ rw right (replay-parts (stamps_after call start) stamps first last (rw right at h))
      | inr wrong ↦ absurd (None≢Some stamps (rw wrong at h))
    ]

pub replay-behind : (count : ℕ) (stamps : Stamps) (history : List Call) → stamps_after_calls [] history ≡ Some stamps → stamps_after_calls (stamps_or_none (stamps_after_calls [] (take count history))) (drop count history) ≡ Some stamps
replay-behind count stamps history h = replay-parts [] stamps (take count history) (drop count history) (ap (stamps_after_calls []) (take-append-drop count history) ∙ h)

-- calls that pass a test, of two parts
filter-parts : (test : Call → Bool) (first last : List Call) → filter test (first ++ last) ≡ filter test first ++ filter test last
filter-parts test [] last = refl
filter-parts test (call ∷ first) last =
    elim (cases_Bool (test call)) [
      | inl passes ↦ rw passes (ap (λ (calls : List Call). call ∷ calls) (filter-parts test first last))
      | inr fails ↦ rw fails (filter-parts test first last)
    ]

pub filter-behind : (test : Call → Bool) (count : ℕ) (history : List Call) → filter test history ≡ filter test (take count history) ++ filter test (drop count history)
filter-behind test count history = ap (filter test) (sym (take-append-drop count history)) ∙ filter-parts test (take count history) (drop count history)

-- what comes behind a place of a beginning
pub drop-beginning : (count : ℕ) (seen more : List Call) → count ≤ length seen → drop count (seen ++ more) ≡ drop count seen ++ more
drop-beginning zero seen more within_limit = refl
drop-beginning (suc count) [] more within_limit = absurd (omega (arith, within_limit))
drop-beginning (suc count) (call ∷ seen) more within_limit = drop-beginning count seen more (omega (arith, within_limit))
