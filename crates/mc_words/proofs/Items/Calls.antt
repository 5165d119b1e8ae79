-- What a hand knows of its own calls, where one call came into the history of a stripe.
use Rattle.std.proofs.Common.{◌≡◌, ◌≢◌, ℕ, zero, suc, ◌+◌, ◌<◌, ◌==◌, List, [], ◌∷◌, ◌++◌, drop, length, map, Some, refl, ap, ap₂, ◌∙◌, if◌then◌else◌, append-nil, arith}
use Rattle.mc_stripe.specs.declared.history.Call.{Call}
use Rattle.mc_core.specs.model.State.{State, number_at}
use Rattle.mc_core.specs.past.Past.{Own, history_at, new_calls, calls_with_new, own_after, own_calls_after, with_more}
use Rattle.mc_words.specs.item.Calls.{with_own_call}

drop_first : {A : Type 0} (xs ys : List A) → drop (length xs) (xs ++ ys) ≡ ys
drop_first [] ys = refl
drop_first (x ∷ xs) ys = drop_first xs ys

drop_all : {A : Type 0} (xs : List A) → drop (length xs) xs ≡ []
drop_all [] = refl
drop_all (x ∷ xs) = drop_all xs

module _ (before now : State) (stripe : ℕ) (call : Call) (more : history_at now stripe ≡ history_at before stripe ++ call ∷ []) (same : (i : ℕ) → i ≢ stripe → history_at now i ≡ history_at before i) where
  new_here : new_calls before now stripe ≡ call ∷ []
  new_here = ap (λ (history : List Call). drop (length (history_at before stripe)) history) more ∙ drop_first (history_at before stripe) (call ∷ [])

  none_new : (i : ℕ) → i ≢ stripe → new_calls before now i ≡ []
  none_new i apart = ap (λ (history : List Call). drop (length (history_at before i)) history) (same i apart) ∙ drop_all (history_at before i)

  -- behind the stripe nothing comes
  told_behind : (place : ℕ) (rows : List (List Call)) → stripe < place → calls_with_new before now place rows ≡ rows
  told_behind place [] past = refl
  told_behind place (calls ∷ rows) past =
      ap₂ (λ (calls : List Call) (rows : List (List Call)). calls ∷ rows) (ap (λ more. calls ++ more) (none_new place (λ same. omega arith)) ∙ append-nil calls) (told_behind (place + 1) rows (omega arith))

  -- and at its place the call
  told_at : (k place : ℕ) (rows : List (List Call)) → stripe ≡ place + k → calls_with_new before now place rows ≡ with_more rows k (call ∷ [])
  told_at k place [] e = refl
  told_at zero place (calls ∷ rows) e =
      let here : place ≡ stripe = omega arith in
      ap₂ (λ (calls : List Call) (rows : List (List Call)). calls ∷ rows) (ap (λ more. calls ++ more) (ap (new_calls before now) here ∙ new_here)) (told_behind (place + 1) rows (omega arith))
  told_at (suc k) place (calls ∷ rows) e =
      ap₂ (λ (calls : List Call) (rows : List (List Call)). calls ∷ rows) (ap (λ more. calls ++ more) (none_new place (λ same. omega arith)) ∙ append-nil calls) (told_at k (place + 1) rows (omega arith))

  -- which is the hand's own
  pub mine_called : (hand number : ℕ) → number_at before hand ≡ Some number → (mine : List Own) → own_calls_after before now hand mine ≡ map (with_own_call number stripe call) mine
  mine_called hand number numbered [] = refl
  mine_called hand number numbered (own ∷ mine) =
      ap₂ (λ (own : Own) (mine : List Own). own ∷ mine)
      (ap (λ n. own_after before now n own) numbered ∙ ap (λ calls. if own.number == number then record own { calls = calls } else own) (told_at stripe 0 own.calls (omega arith)))
      (mine_called hand number numbered mine)
