-- Looks at a stripe's index: what they leave.
use Rattle.std.proofs.Common.{◌≡◌, ℕ, OnOk, Result, Ok, Err, refl, ap, ◌∙◌}
use Rattle.mc_stripe.specs.StripeState.{ReadyStripe}
use Rattle.mc_words.specs.hand.View.{View}
use Rattle.mc_words.specs.lock.Wait.{MissesStripeEachTime}
use Rattle.mc_words.proofs.Locks.Waited.{misses_keep}
use Rattle.mc_items.specs.Calls.{FindsStripe}
use Rattle.mc_items.proofs.Locks.{waits_keep}

-- how often the hand took the lock of the slabs
abbrev slabs_count : View → ℕ
slabs_count view = view.row.knows.hold.count

-- that stays
pub looked_leaves_slabs : {Is : ReadyStripe → Type 0} (stripe : ℕ) (view now : View) → FindsStripe Is stripe view now → slabs_count now ≡ slabs_count view
looked_leaves_slabs stripe view now looks = ap slabs_count looks.given ∙ waits_keep slabs_count stripe (λ word v. refl) (λ value v. refl) view looks.value looks.taken looks.waits

pub missed_leaves_slabs : (tries stripe : ℕ) (view now : View) → MissesStripeEachTime tries stripe view now → slabs_count now ≡ slabs_count view
missed_leaves_slabs tries stripe view now missed = misses_keep slabs_count stripe (λ word v. refl) missed.words view now missed.misses

-- what follows from an Ok
pub on_ok_map : {A E : Type 0} (P Q : Type 0) (r : Result A E) → (P → Q) → OnOk r P → OnOk r Q
on_ok_map P Q (Ok a) next holds = next holds
on_ok_map P Q (Err e) next holds = tt
