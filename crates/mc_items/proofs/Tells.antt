-- The hand's own calls, after a call on a key.
use Rattle.std.proofs.Common.{◌≡◌, ℕ, Bool, true, false, map, Option, Some, None, refl, ap, ◌∙◌}
use Rattle.mc_stripe.specs.declared.history.Call.{Call}
use Rattle.mc_stripe.specs.declared.history.Call.TheVariants.{Delete, Get}
use Rattle.mc_stripe.specs.StripeState.{ReadyStripe, stamp_of_key}
use Rattle.mc_words.specs.lock.Doing.{UsesRoomForCall}
use Rattle.mc_words.specs.declared.item.refs.Ref.{Ref}
use Rattle.mc_words.specs.hand.View.{View}
use Rattle.mc_words.specs.item.Calls.{with_own_call}
use Rattle.mc_words.specs.lock.Wait.{WaitsForStripe}
use Rattle.mc_items.specs.Calls.{Deletes, FindsStripe, LooksUp, RecordsCall, RecordsNoCall}
use Rattle.mc_items.proofs.Locks.{waits_keep}

-- a look-up tells of the stamp that the stripe has
pub looked_tells : (number stripe : ℕ) (value : ReadyStripe) (key : ℕ) (found : Option Ref) (view now : View) → UsesRoomForCall number stripe value (LooksUp number stripe key found) view now → RecordsCall number stripe (Get number key (stamp_of_key value.state key)) view now
looked_tells number stripe value key (Some r) view now done = ap (λ (v : View). v.row.knows.mine) done.given ∙ ap (λ (v : View). v.row.knows.mine) done.does.0.is
looked_tells number stripe value key None view now done = ap (λ (v : View). v.row.knows.mine) done.given ∙ ap (λ (v : View). v.row.knows.mine) done.does.1

-- what is told under a lock is told by who waited for it
pub told_on : (number stripe number' stripe' : ℕ) (call : ℕ → Call) (value : ReadyStripe) (view taken now : View) → number' ≡ number → stripe' ≡ stripe → WaitsForStripe stripe view value taken → RecordsCall number' stripe' (call number') taken now → RecordsCall number stripe (call number) view now
told_on number stripe number' stripe' call value view taken now numbers stripes waits tells =
    tells ∙ (λ k. map (with_own_call (numbers k) (stripes k) (call (numbers k))) (waits_keep (λ (v : View). v.row.knows.mine) stripe (λ word v. refl) (λ value v. refl) view value taken waits k))

-- who only waited told nothing
pub told_none : {Is : ReadyStripe → Type 0} (stripe : ℕ) (view now : View) → FindsStripe Is stripe view now → RecordsNoCall view now
told_none stripe view now only = ap (λ (v : View). v.row.knows.mine) only.given ∙ waits_keep (λ (v : View). v.row.knows.mine) stripe (λ word v. refl) (λ value v. refl) view only.value only.taken only.waits

-- a delete tells whether the key was there
pub deleted_tells : (number stripe : ℕ) (value : ReadyStripe) (key : ℕ) (there : Bool) (view now : View) → UsesRoomForCall number stripe value (Deletes number stripe key there) view now → RecordsCall number stripe (Delete number key there) view now
deleted_tells number stripe value key true view now done = ap (λ (v : View). v.row.knows.mine) done.given ∙ ap (λ (v : View). v.row.knows.mine) done.does.1
deleted_tells number stripe value key false view now done = ap (λ (v : View). v.row.knows.mine) done.given ∙ ap (λ (v : View). v.row.knows.mine) done.does.1
