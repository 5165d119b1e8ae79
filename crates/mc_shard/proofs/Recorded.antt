-- What calls add to the hand's own calls.
use Rattle.std.proofs.Common.{◌≡◌, ◌∙◌, ℕ, List, Bool, Err, Ok, Option, IfOk, OnErr, Result, ap, inl, inr, map, refl, ⊎_elim}
use Rattle.mc_pages.specs.declared.ids.ChunkId.{ChunkId}
use Rattle.mc_core.specs.declared.head.Head.{Head}
use Rattle.mc_core.specs.past.Past.{Own}
use Rattle.mc_stripe.specs.declared.history.Call.TheVariants as call
use Rattle.mc_stripe.specs.declared.history.Call.{Call}
use Rattle.mc_words.specs.declared.hand.Hand.{Hand}
use Rattle.mc_words.specs.declared.item.refs.Again.{Again}
use Rattle.mc_words.specs.declared.item.refs.Again.TheVariants.{Gone, Contended, TooManyRefs}
use Rattle.mc_words.specs.declared.item.refs.Hint.{Hint}
use Rattle.mc_words.specs.item.Again.{FindsContended, FindsGone, FindsOther}
use Rattle.mc_words.specs.item.Calls.{with_own_call}
use Rattle.mc_words.specs.hand.Arenas.{view}
use Rattle.mc_words.specs.hand.Observers.{hand_number}
use Rattle.mc_words.specs.hand.View.{Setup, View}
use Rattle.mc_words.specs.hand.Views.{chunk_released, word_seen}
use Rattle.mc_items.specs.declared.refs.Ref.{Ref}
use Rattle.mc_items.specs.Calls.{RecordsNoCall}
use Rattle.mc_items.specs.OnKeys.{GetsByHint, RecordsOn, stripe_of_key}
use Rattle.mc_shard.specs.Recording.{RecordsDeleteAtMost, RecordsGetAtMost}

-- the hand's own calls
abbrev mine_of : View → List Own
mine_of view = view.row.knows.mine

-- a word that was read
pub read_records : (chunk : ChunkId) (place : ℕ) (before now : View) → now ≡ word_seen chunk place before → RecordsNoCall before now
read_records chunk place before now is = ap mine_of is

-- a reference that was given up
pub released_records : (chunk : ChunkId) (before now : View) → now ≡ chunk_released chunk before → RecordsNoCall before now
released_records chunk before now is = ap mine_of is

-- what one call and the next add no call to, both add none to
pub still_none : (before next now : View) → RecordsNoCall before next → RecordsNoCall next now → RecordsNoCall before now
still_none before next now first second = second ∙ first

-- a get by a hint
pub hinted_records : (hint : Hint) (item : Ref) (before got : View) → GetsByHint hint item before got → RecordsNoCall before got
hinted_records hint item before now (got, gets, is) = ap mine_of is ∙ ap mine_of gets.refers.is

other_records : (chunk : ChunkId) (issue : ℕ) (IsOther : Head → Head → Type 0) (before now : View) → FindsOther before chunk issue IsOther now → RecordsNoCall before now
other_records chunk issue IsOther before now finds = ap mine_of finds.is

abbrev refusal : Again → Result Ref Again
refusal e = Err e

-- a hint that led nowhere
pub missed_records : (e : Again) (chunk : ChunkId) (issue : ℕ) (before now : View) → (refusal e ≡ Err Gone → FindsGone before chunk issue now) → (refusal e ≡ Err Contended → FindsContended before chunk issue now) → (refusal e ≡ Err TooManyRefs → now ≡ before) → RecordsNoCall before now
missed_records Gone chunk issue before now gone contended at_limit = elim (gone refl) [
  | inl other ↦ ap mine_of other.is
  | inr finds ↦ other_records chunk issue _ before now finds
]
missed_records Contended chunk issue before now gone contended at_limit = other_records chunk issue _ before now (contended refl)
missed_records TooManyRefs chunk issue before now gone contended at_limit = ap mine_of (at_limit refl)

-- a call by a hand that had added none before it is a call by the hand as it was
module _ (setup : Setup) (hash : ℕ) where
  behind_none : (own : ℕ → Call) (before tried now : Hand) → hand_number tried ≡ hand_number before → RecordsNoCall (view before) (view tried) → RecordsOn setup hash own tried now → RecordsOn setup hash own before now
  behind_none own before tried now number none records =
      records
      ∙ (λ i. map (with_own_call (number i) (stripe_of_key setup hash) (own (number i))) (none i))

  -- a hint in vain, and then a get under the lock
  pub get_behind_hint : (stamp : Option ℕ) (before tried now : Hand) → hand_number tried ≡ hand_number before → RecordsNoCall (view before) (view tried) → RecordsOn setup hash (λ number. call.Get number hash stamp) tried now → RecordsGetAtMost setup hash before now
  get_behind_hint stamp before tried now number none records = inr (stamp, behind_none (λ n. call.Get n hash stamp) before tried now number none records)

  -- a get, and then what adds no call
  pub get_at_most : (before got now : Hand) → RecordsGetAtMost setup hash before got → RecordsNoCall (view got) (view now) → RecordsGetAtMost setup hash before now
  get_at_most before got now gets none = ⊎_elim
      (λ (no : RecordsNoCall (view before) (view got)). inl (none ∙ no))
      (λ (found : (stamp : Option ℕ) × RecordsOn setup hash (λ number. call.Get number hash stamp) before got). inr (found.0, none ∙ found.1))
      gets

  -- a look, and then a delete
  pub delete_behind : (there : Bool) (before between now : Hand) → RecordsGetAtMost setup hash before between → RecordsOn setup hash (λ number. call.Delete number hash there) between now → RecordsDeleteAtMost setup hash before now
  delete_behind there before between now looks deletes = inr (there, record { between = between; looks = looks; deletes = deletes })

  -- a delete that came or was refused
  pub delete_or_none : {E : Type 0} (result : Result Bool E) (before between now : Hand) → RecordsGetAtMost setup hash before between → IfOk result (λ there. RecordsOn setup hash (λ number. call.Delete number hash there) between now) → OnErr result (RecordsNoCall (view between) (view now)) → RecordsDeleteAtMost setup hash before now
  delete_or_none (Ok there) before between now looks deletes none = delete_behind there before between now looks deletes
  delete_or_none (Err error) before between now looks deletes none = inl (get_at_most before between now looks none)
