-- Lines that a thread counted, at each of which the gate let it on.
use Rattle.std.proofs.Common.{◌≡◌, ◌⊎◌, ℕ, ◌+◌, ◌<◌, ◌≤◌, Bool, true, false, cond, List, [], ◌∷◌, ◌++◌, length, take, drop, filter, get_or, refl, ap, subst, sym, ◌∙◌, append-nil, arith, inl, inr, take_all}
use Rattle.std.proofs.lemmas.Bool.{cases_lt}
use Rattle.std.proofs.Math.Seq.{take-append_seam}
use Rattle.std.proofs.lemmas.List.{length_push, length-append, take-append-drop}
use Rattle.std.proofs.lemmas.List.Elements.{filter-append, filter_more}
use Rattle.mc_script.specs.declared.command.Command.{Command}
use Rattle.mc_workers.specs.Gates.{LetsOn, IsLetOn, PassedEach, IsStopped, StoppedAt, Stops}

-- of the first lines so many are the thread's own, and it counted each
pub record AreCounted (lets_on : LetsOn) (worker index own nth : ℕ) : Type 0 where
  pub count : nth ≡ own
  pub within_limit : nth ≤ index
  pub passed : PassedEach lets_on worker nth

pub none_counted : (lets_on : LetsOn) (worker : ℕ) → AreCounted lets_on worker 0 0 0
none_counted lets_on worker = record { count = refl; within_limit = omega arith; passed = λ nth some within_limit. absurd (omega (arith, some, within_limit)) }

-- one line more, of those that a thread does
module _ (lets_on : LetsOn) (worker : ℕ) (is_own : Command → Bool) (commands : List Command) (i : ℕ) (other : Command) (within : i < length commands) (nth : ℕ) (are : AreCounted lets_on worker i (length (filter is_own (take i commands))) nth) where
  more : (b : Bool) → is_own (get_or commands i other) ≡ b → filter is_own (take (i + 1) commands) ≡ filter is_own (take i commands) ++ cond b (get_or commands i other ∷ []) []
  more b is = filter_more is_own commands i other within ∙ ap (λ (b : Bool). filter is_own (take i commands) ++ cond b (get_or commands i other ∷ []) []) is

  passed_one : IsLetOn lets_on worker (nth + 1) → (at : ℕ) → 1 ≤ at → at ≤ nth + 1 → (at < nth + 1) ⊎ (nth + 1 ≤ at) → IsLetOn lets_on worker at
  passed_one one at some most (inl before) = are.passed at some (omega (arith, before))
  passed_one one at some most (inr last) = let same : at ≡ nth + 1 = omega (arith, last, most) in subst (IsLetOn lets_on worker) (sym same) one

  pub line_counted : is_own (get_or commands i other) ≡ true → IsLetOn lets_on worker (nth + 1) → AreCounted lets_on worker (i + 1) (length (filter is_own (take (i + 1) commands))) (nth + 1)
  line_counted is one =
      let longer = ap length (more true is) ∙ length_push (filter is_own (take i commands)) (get_or commands i other) in
      record {
        count = omega (arith, are.count, longer);
        within_limit = omega (arith, are.within_limit);
        passed = λ at some most. passed_one one at some most (cases_lt at (nth + 1));
      }

  pub line_uncounted : is_own (get_or commands i other) ≡ false → AreCounted lets_on worker (i + 1) (length (filter is_own (take (i + 1) commands))) nth
  line_uncounted isnt =
      let same = ap length (more false isnt ∙ append-nil (filter is_own (take i commands))) in
      record { count = are.count ∙ sym same; within_limit = omega (arith, are.within_limit); passed = are.passed }

  -- the lines up to this one are one more than those so far
  longer : is_own (get_or commands i other) ≡ true → length (filter is_own (take (i + 1) commands)) ≡ nth + 1
  longer is =
      let one = ap length (more true is) ∙ length_push (filter is_own (take i commands)) (get_or commands i other) in omega (arith, are.count, one)

  -- and others may follow
  split : filter is_own commands ≡ filter is_own (take (i + 1) commands) ++ filter is_own (drop (i + 1) commands)
  split = ap (filter is_own) (sym (take-append-drop (i + 1) commands)) ∙ filter-append is_own (take (i + 1) commands) (drop (i + 1) commands)

  pub line_within : is_own (get_or commands i other) ≡ true → nth < length (filter is_own commands)
  line_within is =
      let one = longer is in
      let all = ap length split ∙ length-append (filter is_own (take (i + 1) commands)) (filter is_own (drop (i + 1) commands)) in
      omega (arith, one, all)

  pub lines_until : is_own (get_or commands i other) ≡ true → take (nth + 1) (filter is_own commands) ≡ filter is_own (take (i + 1) commands)
  lines_until is =
      let first = filter is_own (take (i + 1) commands) in
      let behind = filter is_own (drop (i + 1) commands) in
      ap (take (nth + 1)) split ∙ (ap (λ (n : ℕ). take n (first ++ behind)) (sym (longer is)) ∙ take-append_seam first behind)

  -- the thread was stopped at it
  pub line_stopped : (stops : Stops) → is_own (get_or commands i other) ≡ true → StoppedAt lets_on stops worker (nth + 1) → IsStopped lets_on stops worker (length (filter is_own commands))
  line_stopped stops is here = record { done = nth; fewer = line_within is; passed = are.passed; here = here }

-- behind the last line
pub all_passed : (lets_on : LetsOn) (worker : ℕ) (is_own : Command → Bool) (commands : List Command) (i nth : ℕ) → AreCounted lets_on worker i (length (filter is_own (take i commands))) nth → length commands ≤ i
    → PassedEach lets_on worker (length (filter is_own commands))
all_passed lets_on worker is_own commands i nth are all =
    subst (PassedEach lets_on worker) (are.count ∙ ap (λ (lines : List Command). length (filter is_own lines)) (take_all i commands all)) are.passed
