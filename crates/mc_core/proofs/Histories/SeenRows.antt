-- As many stripes stay, and what a hand saw of them has a history for each.
use Rattle.std.proofs.Common.{◌≡◌, ◌⊎◌, ℕ, List, [], ◌∷◌, length, refl, sym, ap, ◌∙◌, slice_set, length-set, inl, inr, arith}
use Rattle.mc_stripe.specs.declared.history.Call.{Call}
use Rattle.mc_core.specs.declared.event.Change.{Change}
use Rattle.mc_core.specs.declared.event.Change.TheVariants.{Grow, BeginMove, FinishMove, Touch, SetAutomove, TrimLedger, Passed, Wrap, Evicted, OfStripe, GotNone, DeletedNone}
use Rattle.mc_core.specs.declared.event.Step.{Step}
use Rattle.mc_core.specs.declared.event.Step.TheVariants as step
use Rattle.mc_core.specs.model.Holdings.{is_of_chunk, holding_of}
use Rattle.mc_core.specs.model.State.{State, stripe_of, with_slabs, holdings_at, without_holding}
use Rattle.mc_core.specs.run.Silent.{after_change}
use Rattle.mc_core.specs.run.Chunks.{next_free, target_of}
use Rattle.mc_core.specs.run.Items.{with_got, chunk_of_key}
use Rattle.mc_core.specs.past.Past.{history_at, seen_after, longer_each}
use Rattle.mc_core.specs.run.Run.{after_step}
use Rattle.mc_core.proofs.Frame.SameSlabs.{looked_keeps, popped_keeps, popped_off_keeps, told_link_keeps, linked_keeps, referred_keeps, unlinked_keeps}
use Rattle.mc_pages.specs.Changes as slabs_changes

pub change_long : (state : State) (who : ℕ) (change : Change) → length (after_change state who change).stripes ≡ length state.stripes
change_long state who (Grow class) = refl
change_long state who (BeginMove src dst) = refl
change_long state who FinishMove = refl
change_long state who (Touch chunk) = refl
change_long state who (SetAutomove mode) = refl
change_long state who TrimLedger = refl
change_long state who (Passed found) = refl
change_long state who Wrap = refl
change_long state who (Evicted class) = refl
change_long state who (OfStripe stripe how) = length-set state.stripes stripe _
change_long state who (GotNone key) = length-set state.stripes (stripe_of state key) _
change_long state who (DeletedNone key) = length-set state.stripes (stripe_of state key) _

abbrev count : State → ℕ
count state = length state.stripes

-- a step writes a stripe in its place
pub step_long : (state : State) (hand : ℕ) (next : Step) → count (after_step state hand next) ≡ count state
step_long state hand step.TakeSlabs = refl
step_long state hand (step.TakeStripe stripe) = refl
step_long state hand step.MissSlabs = refl
step_long state hand (step.MissStripe stripe) = looked_keeps count state hand _ refl
step_long state hand step.GiveSlabs = refl
step_long state hand (step.GiveStripe stripe) = refl
step_long state hand (step.Head chunk) = looked_keeps count state hand _ refl
step_long state hand (step.Pop class) = popped_keeps count (with_slabs state (slabs_changes.after_pop state.slabs class)) hand (next_free state class) (λ chunk. refl)
step_long state hand (step.PopOff old) = popped_off_keeps count state hand old (target_of state.table state.heads state.slabs old.page) (λ chunk. refl)
step_long state hand (step.Fill chunk place word) = refl
step_long state hand (step.Word chunk place) = refl
step_long state hand (step.WordHeld chunk place) = refl
step_long state hand (step.Link chunk) =
    let left : State = without_holding state hand (is_of_chunk chunk) in
    linked_keeps count left hand chunk (holding_of chunk (holdings_at state hand))
    (λ holding. told_link_keeps count left hand holding holding.kind (length-set _ _ _) (length-set _ _ _))
step_long state hand (step.Refer key) = referred_keeps count (with_got state hand key) hand (chunk_of_key state key) (λ chunk. refl) ∙ length-set state.stripes (stripe_of state key) _
step_long state hand (step.Unlink key) = unlinked_keeps count _ (chunk_of_key state key) (λ chunk. refl) ∙ length-set state.stripes (stripe_of state key) _
step_long state hand (step.Release chunk) = refl
step_long state hand (step.Discard chunk) = refl
step_long state hand (step.Condemn chunk) = length-set state.stripes _ _
step_long state hand (step.PutBack chunk) = refl
step_long state hand (step.Clear chunk) = refl
step_long state hand (step.Cut page index) = refl
step_long state hand (step.Again chunk issue) = refl
step_long state hand (step.Join kept spent) = refl

-- a step shows the hand one history, or none
pub seen_or : (state : State) (next : Step) (row : List (List Call)) → (seen_after state next row ≡ row) ⊎ ((stripe : ℕ) × (seen_after state next row ≡ slice_set row stripe (history_at state stripe)))
seen_or state (step.TakeStripe stripe) row = inr (stripe, refl)
seen_or state (step.GiveStripe stripe) row = inr (stripe, refl)
seen_or state step.TakeSlabs row = inl refl
seen_or state step.MissSlabs row = inl refl
seen_or state (step.MissStripe stripe) row = inl refl
seen_or state step.GiveSlabs row = inl refl
seen_or state (step.Head chunk) row = inl refl
seen_or state (step.Pop class) row = inl refl
seen_or state (step.PopOff old) row = inl refl
seen_or state (step.Fill chunk place word) row = inl refl
seen_or state (step.Word chunk place) row = inl refl
seen_or state (step.WordHeld chunk place) row = inl refl
seen_or state (step.Link chunk) row = inl refl
seen_or state (step.Refer key) row = inl refl
seen_or state (step.Unlink key) row = inl refl
seen_or state (step.Release chunk) row = inl refl
seen_or state (step.Discard chunk) row = inl refl
seen_or state (step.Condemn chunk) row = inl refl
seen_or state (step.PutBack chunk) row = inl refl
seen_or state (step.Clear chunk) row = inl refl
seen_or state (step.Cut page index) row = inl refl
seen_or state (step.Again chunk issue) row = inl refl
seen_or state (step.Join kept spent) row = inl refl

-- a history is seen in its place
pub seen_long : (state : State) (next : Step) (row : List (List Call)) → length (seen_after state next row) ≡ length row
seen_long state next row = elim (seen_or state next row) [
  | inl same ↦ ap length same
  | inr (stripe, shown) ↦ ap length shown ∙ length-set row stripe (history_at state stripe)
]

-- of two rows with as many histories each the longer ones are as many
pub longer_long : (xs ys : List (List Call)) → length xs ≡ length ys → length (longer_each xs ys) ≡ length xs
longer_long [] ys e = sym e
longer_long (x ∷ xs) [] e = refl
longer_long (x ∷ xs) (y ∷ ys) e = let rest = longer_long xs ys (omega (arith, e)) in omega (arith, rest)
