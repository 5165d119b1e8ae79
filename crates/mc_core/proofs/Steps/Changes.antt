-- Silent changes, one after another.
use Rattle.std.proofs.Common.{◌≡◌, ℕ, suc, ◌+◌, ◌<◌, ◌∙◌, ◌&&◌, Bool, true, false, List, [], ◌∷◌, length, drop, get_or, add-one, refl, sym, ap, subst}
use Rattle.std.proofs.Math.Seq.{drop-cons}
use Rattle.mc_core.specs.declared.event.Change.{Change}
use Rattle.mc_core.specs.declared.event.Change.TheVariants.{Grow, BeginMove, FinishMove, Touch, SetAutomove, TrimLedger, Passed, Wrap, Evicted, OfStripe, GotNone, DeletedNone}
use Rattle.mc_core.specs.model.State.{State}
use Rattle.mc_core.specs.run.Silent.{allows_change, after_change, allows_changes, after_changes}
use Rattle.mc_core.specs.run.Done.{IsResultOf}

-- a change leaves the hands
same_ids : (state : State) (hand : ℕ) (change : Change) → (after_change state hand change).ids ≡ state.ids
same_ids state hand (Grow class) = refl
same_ids state hand (BeginMove src dst) = refl
same_ids state hand FinishMove = refl
same_ids state hand (Touch chunk) = refl
same_ids state hand (SetAutomove mode) = refl
same_ids state hand TrimLedger = refl
same_ids state hand (Passed found) = refl
same_ids state hand Wrap = refl
same_ids state hand (Evicted class) = refl
same_ids state hand (OfStripe stripe how) = refl
same_ids state hand (GotNone key) = refl
same_ids state hand (DeletedNone key) = refl

-- so do many
pub kept_ids : (state : State) (hand : ℕ) (changes : List Change) → (after_changes state hand changes).ids ≡ state.ids
kept_ids state hand [] = refl
kept_ids state hand (change ∷ changes) = kept_ids (after_change state hand change) hand changes ∙ same_ids state hand change

-- after they were made, the hand is still there
pub still_there : (state new : State) (hand : ℕ) (changes : List Change) (told : Bool) → IsResultOf (allows_changes state hand changes) (after_changes state hand changes) new told → told ≡ true →
    hand < length state.ids → hand < length new.ids
still_there state new hand changes told done was here =
    let same : new.ids ≡ state.ids = ap (λ (s : State). s.ids) (done.left (sym done.answer ∙ was)) ∙ kept_ids state hand changes in
    subst (λ ids. hand < length ids) (sym same) here

-- after the first of these changes the others are left
pub one_change : (state new : State) (hand : ℕ) (change : Change) (rest : List Change) (told : Bool) → IsResultOf (allows_change state hand change) (after_change state hand change) new told → told ≡ true →
    (length new.ids ≡ length state.ids)
    × (allows_changes new hand rest ≡ allows_changes state hand (change ∷ rest))
    × (after_changes new hand rest ≡ after_changes state hand (change ∷ rest))
one_change state new hand change rest told done was =
    let allowed : allows_change state hand change ≡ true = sym done.answer ∙ was in
    let is = done.left allowed in (
      ap (λ (s : State). length s.ids) is ∙ ap length (same_ids state hand change),
      ap (λ (s : State). allows_changes s hand rest) is ∙ sym (ap (λ b. b && allows_changes (after_change state hand change) hand rest) allowed),
      ap (λ (s : State). after_changes s hand rest) is,
    )

pub change_at : (changes : List Change) (index : ℕ) (d : Change) → index < length changes → drop index changes ≡ get_or changes index d ∷ drop (suc index) changes
change_at changes index d within = drop-cons changes index d within

-- a change that isn't allowed ends it
pub no_change : (state new : State) (hand : ℕ) (change : Change) (rest : List Change) (told : Bool) → IsResultOf (allows_change state hand change) (after_change state hand change) new told → told ≡ false →
    allows_changes state hand (change ∷ rest) ≡ false
no_change state new hand change rest told done fails =
    ap (λ b. b && allows_changes (after_change state hand change) hand rest) (sym done.answer ∙ fails)

-- after the change at this place those behind it are left
pub more_changes : (state new : State) (hand : ℕ) (changes : List Change) (index : ℕ) (d : Change) (told : Bool) → index < length changes →
    IsResultOf (allows_change state hand (get_or changes index d)) (after_change state hand (get_or changes index d)) new told → told ≡ true →
    (length new.ids ≡ length state.ids)
    × (allows_changes new hand (drop (index + 1) changes) ≡ allows_changes state hand (drop index changes))
    × (after_changes new hand (drop (index + 1) changes) ≡ after_changes state hand (drop index changes))
more_changes state new hand changes index d told within done was =
    let rest = drop (suc index) changes in
    let next : drop (index + 1) changes ≡ rest = ap (λ n. drop n changes) (add-one index) in
    let all : drop index changes ≡ get_or changes index d ∷ rest = change_at changes index d within in
    let one = one_change state new hand (get_or changes index d) rest told done was in (
      one.0,
      ap (allows_changes new hand) next ∙ one.1 ∙ sym (ap (allows_changes state hand) all),
      ap (after_changes new hand) next ∙ one.2 ∙ sym (ap (after_changes state hand) all),
    )

-- at a change that isn't allowed they aren't
pub end_of_changes : (state new : State) (hand : ℕ) (changes : List Change) (index : ℕ) (d : Change) (told : Bool) → index < length changes →
    IsResultOf (allows_change state hand (get_or changes index d)) (after_change state hand (get_or changes index d)) new told → told ≡ false →
    allows_changes state hand (drop index changes) ≡ false
end_of_changes state new hand changes index d told within done fails =
    ap (allows_changes state hand) (change_at changes index d within) ∙ no_change state new hand (get_or changes index d) (drop (suc index) changes) told done fails
