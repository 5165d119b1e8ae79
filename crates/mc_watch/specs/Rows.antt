-- Worked examples of the decider, which the prover computes.
use Rattle.std.specs.Prelude.{◌≡◌, ℕ, List, [], ◌∷◌, Option, Some, None}
use Rattle.mc_watch.specs.declared.decider.Decision.{Decision}
use Rattle.mc_watch.specs.declared.refusal.Feed.TheVariants.{Length, Backwards}
use Rattle.mc_watch.specs.Decider.{DeciderState, fresh_decider, after_window, decision_of, feed_refusal}

-- a number for each of four classes
abbrev pub four : ℕ → ℕ → ℕ → ℕ → List ℕ
four a b c d = a ∷ b ∷ c ∷ d ∷ []

-- four classes, with 21, 10, 5 and 2 chunks a page, before any window
abbrev pub fresh_four : DeciderState
fresh_four = fresh_decider (record { page = 1024; limit = 4096; sizes = four 48 96 192 512 })

-- a page is to go from one class to another
abbrev pub page_decision : ℕ → ℕ → Option Decision
page_decision src dst = Some (record { src = src; dst = dst })

-- the decider after a window with these evictions so far; the classes have 3, 1, 1 and 2 pages, and no chunk is free
abbrev pub after_evictions : DeciderState → List ℕ → DeciderState
after_evictions decider evictions = after_window decider evictions (four 3 1 1 2) (four 0 0 0 0)

-- the decider after several windows with these evictions, each with 3, 1, 1 and 2 pages and no free chunk
abbrev pub after_all_evictions : DeciderState → List (List ℕ) → DeciderState
after_all_evictions decider [] = decider
after_all_evictions decider (evictions ∷ more) = after_all_evictions (after_evictions decider evictions) more

-- the decision after each of these windows, the first window's first
abbrev pub decisions : DeciderState → List (List ℕ) → List (Option Decision)
decisions decider [] = []
decisions decider (evictions ∷ more) =
    decision_of (after_evictions decider evictions) ∷ decisions (after_evictions decider evictions) more

-- class 1 is quiet and class 4 leads three windows, and a fourth: the decision resets nothing
abbrev pub ThreeWindows : Type 0
ThreeWindows =
    decisions fresh_four (four 0 0 0 5 ∷ four 0 0 0 6 ∷ four 0 0 0 9 ∷ four 0 0 0 10 ∷ [])
    ≡ None ∷ None ∷ page_decision 1 4 ∷ page_decision 1 4 ∷ []

-- class 2 leads the second window: class 4 leads four in all, but three running only after the fifth
abbrev pub five_windows : List (List ℕ)
five_windows = four 0 0 0 5 ∷ four 0 7 0 6 ∷ four 0 7 0 9 ∷ four 0 7 0 10 ∷ four 0 7 0 11 ∷ []

-- a page is to go from class 1 to class 4 after the fifth window, and none after the four before it
abbrev pub ThreeRunning : Type 0
ThreeRunning = decisions fresh_four five_windows ≡ None ∷ None ∷ None ∷ None ∷ page_decision 1 4 ∷ []

-- after the five windows, a window in which the evictions of class 4 become fewer is refused
abbrev pub FewerEvictions : Type 0
FewerEvictions =
    feed_refusal (after_all_evictions fresh_four five_windows) (four 0 7 0 10) (four 3 1 1 2) (four 0 0 0 0) ≡ Some Backwards

-- a window with fewer evictions and a list that is too short is refused for the list
abbrev pub ShortList : Type 0
ShortList = feed_refusal (after_all_evictions fresh_four five_windows) (four 0 7 0 10) (four 3 1 1 2) [] ≡ Some Length

-- 3 pages of class 1 have 63 chunks; with 53 of them free the class gives up one
abbrev pub SparePage : Type 0
SparePage = decision_of (after_window fresh_four (four 0 0 0 0) (four 3 0 0 0) (four 53 0 0 0)) ≡ page_decision 1 0

-- 3 pages of class 1 have 63 chunks; with 52 of them free the class gives up none
abbrev pub NoSparePage : Type 0
NoSparePage = decision_of (after_window fresh_four (four 0 0 0 0) (four 3 0 0 0) (four 52 0 0 0)) ≡ None
