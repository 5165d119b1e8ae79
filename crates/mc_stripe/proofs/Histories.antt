-- The replay of a history.
use Rattle.std.proofs.Common.{◌≡◌, true, List, [], ◌∷◌, ◌++◌, Some, None, refl, inl, inr}
use Rattle.std.proofs.lemmas.Bool.{cases_Bool}
use Rattle.mc_stripe.specs.declared.history.Call.{Call}
use Rattle.mc_stripe.specs.History.{Stamps, is_reply_right, stamps_after, stamps_after_calls}

-- a replay that stops leaves no stamps
pub None≢Some : (stamps : Stamps) → None ≡ Some stamps → ⊥
None≢Some stamps h = cc

-- one more call, whose reply is right
pub replay-push : (start stamps : Stamps) (history : List Call) (call : Call) → stamps_after_calls start history ≡ Some stamps → is_reply_right call stamps ≡ true → stamps_after_calls start (history ++ call ∷ []) ≡ Some (stamps_after call stamps)
replay-push start stamps [] call h fit =
    let same : start ≡ stamps = cc in
    let now : is_reply_right call start ≡ true = rw same fit in
    rw now (rw same refl)
replay-push start stamps (first ∷ history) call h fit =
    elim (cases_Bool (is_reply_right first start)) [
      | inl right ↦ rw right (replay-push (stamps_after first start) stamps history call (rw right at h) fit)
      | inr wrong ↦ absurd (None≢Some stamps (rw wrong at h))
    ]
