-- The turns that the mover's lines ask for, and the line at which the mover was stopped.
use Rattle.std.proofs.Common.{◌≡◌, ℕ, ◌+◌, ◌<◌, ◌≤◌, Bool, true, false, cond, List, [], ◌∷◌, ◌++◌, length, take, get_or, sum_by, sym, ap, subst, ◌∙◌, append-nil, arith, inl, inr}
use Rattle.std.proofs.lemmas.List.Elements.{filter_more}
use Rattle.std.proofs.lemmas.List.Sums.{sum_by_push}
use Rattle.mc_script.specs.declared.command.Command.{Command}
use Rattle.mc_workers.specs.declared.mover.Mover.{Mover}
use Rattle.mc_workers.specs.Asking.{is_movers, lines_of_mover}
use Rattle.mc_workers.specs.Gates.{LetsOn, Stops}
use Rattle.mc_workers.specs.Moving.{turns_of}
use Rattle.mc_workers.specs.Spending.{StopsMove, StopsMoves, turns_asked}
use Rattle.mc_workers.proofs.GatedLines.{AreCounted, line_stopped, line_within, lines_until}

-- of these lines the mover began no more turns than they ask for, behind so many
abbrev pub BeginsAtMost : ℕ → List Command → Mover → Type 0
BeginsAtMost begun commands left = turns_of left ≤ begun + sum_by turns_asked (lines_of_mover commands)

pub none_begun : (mover : Mover) → BeginsAtMost (turns_of mover) [] mover
none_begun mover = omega arith

-- one line more
module _ (lets_on : LetsOn) (begun : ℕ) (commands : List Command) (i : ℕ) (other : Command) (within : i < length commands) (nth : ℕ)
    (are : AreCounted lets_on 0 i (length (lines_of_mover (take i commands))) nth) (left : Mover) (within_limit : BeginsAtMost begun (take i commands) left) where
  more : (b : Bool) → is_movers (get_or commands i other) ≡ b → lines_of_mover (take (i + 1) commands) ≡ lines_of_mover (take i commands) ++ cond b (get_or commands i other ∷ []) []
  more b is = filter_more is_movers commands i other within ∙ ap (λ (b : Bool). lines_of_mover (take i commands) ++ cond b (get_or commands i other ∷ []) []) is

  asked_more : is_movers (get_or commands i other) ≡ true
      → sum_by turns_asked (lines_of_mover (take (i + 1) commands)) ≡ sum_by turns_asked (lines_of_mover (take i commands)) + turns_asked (get_or commands i other)
  asked_more is = ap (sum_by turns_asked) (more true is) ∙ sum_by_push turns_asked (lines_of_mover (take i commands)) (get_or commands i other)

  pub begun_more : (after : Mover) → is_movers (get_or commands i other) ≡ true → turns_of after ≤ turns_of left + turns_asked (get_or commands i other) → BeginsAtMost begun (take (i + 1) commands) after
  begun_more after is most = let asked = asked_more is in omega (arith, within_limit, most, asked)

  pub begun_same : is_movers (get_or commands i other) ≡ false → BeginsAtMost begun (take (i + 1) commands) left
  begun_same isnt =
      subst (λ (lines : List Command). turns_of left ≤ begun + sum_by turns_asked lines) (sym (more false isnt ∙ append-nil (lines_of_mover (take i commands)))) within_limit

  -- the mover was stopped at it
  pub move_stopped : (stops : Stops) → is_movers (get_or commands i other) ≡ true → StopsMove lets_on stops (nth + 1) (get_or commands i other) left → StopsMoves lets_on stops begun commands
  move_stopped stops is (inl here) = inl (line_stopped lets_on 0 is_movers commands i other within nth are stops is here)
  move_stopped stops is (inr (here, past)) = inr (record {
    done = nth;
    fewer = line_within lets_on 0 is_movers commands i other within nth are is;
    passed = are.passed;
    here = here;
    spent = subst (λ (lines : List Command). 1000000 < begun + sum_by turns_asked lines) (sym (lines_until lets_on 0 is_movers commands i other within nth are is))
        (let asked = asked_more is in omega (arith, within_limit, past, asked));
  })
